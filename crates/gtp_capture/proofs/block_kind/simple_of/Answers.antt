use Rattle.std.proofs.Common.{sym}
use Rattle.gtp_capture.proofs.Meanings.{simple_none}
use Rattle.gtp_capture.proofs.block_kind.simple_of.Goals as goal

pub returns-clause-none : goal.returns-clause-none
returns-clause-none c =
    simple_none c.args.order c.args.interfaces.now c.args.size c.args.front.now c.in_ok-interface.interface c.simple_in.result
    (sym c.in_ok-interface.ensures) c.simple_in.ensures.none
