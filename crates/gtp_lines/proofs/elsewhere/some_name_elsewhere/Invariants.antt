use Rattle.std.proofs.Common.{◌↔◌}
use Rattle.gtp_lines.specs.Filter.{SomeOf}
use Rattle.gtp_lines.specs.Elsewhere.{NamesElsewhere}
use Rattle.gtp_lines.proofs.elsewhere.some_name_elsewhere.Given as goal

-- what is left decides
abbrev pub invariant-loop-view : goal.invariant-loop-view
invariant-loop-view l = SomeOf NamesElsewhere l.elements ↔ SomeOf NamesElsewhere l.view-iterator
