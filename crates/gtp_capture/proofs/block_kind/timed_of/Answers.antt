use Rattle.std.proofs.Common.{sym}
use Rattle.gtp_capture.proofs.Meanings.{timed_none}
use Rattle.gtp_capture.proofs.block_kind.timed_of.Goals as goal

pub returns-clause-none : goal.returns-clause-none
returns-clause-none c =
    timed_none c.args.order c.args.interfaces.now c.args.number c.args.size c.args.front.now c.in_ok-interface.interface c.timed_in.result
    (sym c.in_ok-interface.ensures) c.timed_in.ensures.none
