use Rattle.gtp_reliable.proofs.Numbers.{distance, ahead, IsReached}
use Rattle.gtp_reliable.proofs.pending.Pending.next_free.Given as goal

abbrev pub invariant-loop-number : goal.invariant-loop-number
invariant-loop-number g l = IsReached l.self.next l.self.waiting l.number

abbrev pub decreases-loop-number : goal.decreases-loop-number
decreases-loop-number g l = ahead l.self.next (distance l.self.next l.number) l.self.waiting
