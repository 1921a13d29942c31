use Rattle.std.proofs.Common.{◌↔◌}
use Rattle.gtp_lines.specs.Filter.{SomeOf, TellsTeid}
use Rattle.gtp_lines.proofs.filter.some_tell_teid.Given as goal

-- what is left decides
abbrev pub invariant-loop-view : goal.invariant-loop-view
invariant-loop-view l = SomeOf (TellsTeid l.teid) l.elements ↔ SomeOf (TellsTeid l.teid) l.view-iterator
