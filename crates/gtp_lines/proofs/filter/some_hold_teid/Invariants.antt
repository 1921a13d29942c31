use Rattle.std.proofs.Common.{◌↔◌}
use Rattle.gtp_lines.specs.Filter.{SomeOf, HoldsTeid}
use Rattle.gtp_lines.proofs.filter.some_hold_teid.Given as goal

-- what is left decides
abbrev pub invariant-loop-view : goal.invariant-loop-view
invariant-loop-view l = SomeOf (HoldsTeid l.teid) l.elements ↔ SomeOf (HoldsTeid l.teid) l.view-iterator
