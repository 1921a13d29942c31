use Rattle.gtp_reliable.specs.Pending.{others}
use Rattle.gtp_reliable.proofs.Numbers.{distance, ahead, IsReached}
use Rattle.gtp_reliable.proofs.pending.Pending.next_without.Given as goal

abbrev pub ghost-count_others : goal.ghost-count_others
ghost-count_others g a = g.meets

abbrev pub ghost-is_other : goal.ghost-is_other
ghost-is_other g a = g.meets

abbrev pub invariant-loop-number : goal.invariant-loop-number
invariant-loop-number g l = IsReached l.self.next (others g.meets l.self.waiting) l.number

abbrev pub decreases-loop-number : goal.decreases-loop-number
decreases-loop-number g l = ahead l.self.next (distance l.self.next l.number) (others g.meets l.self.waiting)
