use Rattle.std.proofs.Common.{◌≡◌, drop}
use Rattle.std.specs.Prelude.{find}
use Rattle.gtp_scenario.specs.Keys.{is_unmet}
use Rattle.gtp_scenario.specs.Trees.{view}
use Rattle.gtp_scenario.proofs.reason.flaw.first_unmet.Given as goal

-- what is left decides
abbrev pub invariant-loop-key : goal.invariant-loop-key
invariant-loop-key l = find (is_unmet (view l.value)) (drop l.key-index l.keys) ≡ find (is_unmet (view l.value)) l.keys
