use Rattle.std.proofs.Common.{◌≡◌, ◌+◌, ◌-◌, ◌*◌, ◌++◌, drop}
use Rattle.std.specs.List.{flat_map}
use Rattle.gtp_forms.specs.Reading.{tables_of}
use Rattle.gtp_forms.specs.Described.{case_names, step_names, described}
use Rattle.gtp_forms.proofs.describing.+describing.Given as goal

abbrev pub invariant-put_cases-loop-case : goal.invariant-put_cases-loop-case
invariant-put_cases-loop-case l =
    let form = described (tables_of l.forms) l.depth in
    l.out.items ++ case_names form (drop l.case-index l.cases) ≡ l.initial.out.items ++ case_names form l.cases

abbrev pub invariant-put_form-loop-step : goal.invariant-put_form-loop-step
invariant-put_form-loop-step l =
    let form = described (tables_of l.forms) (l.depth - 1) in
    l.out.items ++ flat_map (step_names form) (drop l.step-index l.steps) ≡ l.initial.out.items ++ flat_map (step_names form) l.steps

abbrev pub decreases-put_form : goal.decreases-put_form
decreases-put_form l = 4 * l.depth

abbrev pub decreases-put_part : goal.decreases-put_part
decreases-put_part l = 4 * l.depth + 1

abbrev pub decreases-put_list : goal.decreases-put_list
decreases-put_list l = 4 * l.depth + 1

abbrev pub decreases-put_cases : goal.decreases-put_cases
decreases-put_cases l = 4 * l.depth + 2

abbrev pub decreases-put_step : goal.decreases-put_step
decreases-put_step l = 4 * l.depth + 3
