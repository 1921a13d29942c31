use Rattle.std.proofs.Common.{◌↔◌}
use Rattle.gtp_lines.specs.Filter.{SomeOf}
use Rattle.gtp_lines.specs.Elsewhere.{HoldsElsewhere}
use Rattle.gtp_lines.proofs.elsewhere.some_hold_elsewhere.Given as goal

-- what is left decides
abbrev pub invariant-loop-view : goal.invariant-loop-view
invariant-loop-view l = SomeOf HoldsElsewhere l.elements ↔ SomeOf HoldsElsewhere l.view-iterator
