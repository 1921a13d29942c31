use Rattle.std.proofs.Common.{◌↔◌}
use Rattle.gtp_lines.specs.Filter.{SomeOf, TellsImsi}
use Rattle.gtp_lines.proofs.filter.some_tell_imsi.Given as goal

-- what is left decides
abbrev pub invariant-loop-view : goal.invariant-loop-view
invariant-loop-view l = SomeOf (TellsImsi l.imsi) l.elements ↔ SomeOf (TellsImsi l.imsi) l.view-iterator
