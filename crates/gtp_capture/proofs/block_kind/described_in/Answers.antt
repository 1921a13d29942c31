use Rattle.std.proofs.Common.{arith}
use Rattle.gtp_capture.proofs.Meanings.{described_none, described_found}
use Rattle.gtp_capture.proofs.block_kind.described_in.Goals as goal

pub returns-clause-none : goal.returns-clause-none
returns-clause-none c = described_none c.args.order c.args.size c.args.front.now c.interface_in.result c.requires (omega (arith, c.if-size-gt-LIMIT.false)) c.interface_in.ensures.none

pub returns-clause-found : goal.returns-clause-found
returns-clause-found c = described_found c.args.order c.args.size c.args.front.now c.interface_in.result c.requires (omega (arith, c.if-size-gt-LIMIT.false)) c.interface_in.ensures.found
