use Rattle.std.proofs.Common.{ℕ, ◌∙◌, ◌-◌, ◌<◌, ◌++◌, List, sym, ap, arith, append-nil}
use Rattle.std.specs.List.{flat_map}
use Rattle.std.proofs.lemmas.List.{at_drop_all}
use Rattle.gtp_forms.specs.declared.form.Step.{Step}
use Rattle.gtp_forms.specs.Reading.{tables_of}
use Rattle.gtp_forms.specs.Described.{step_names, described}
use Rattle.gtp_forms.proofs.Names.{described_go, described_none}
use Rattle.gtp_forms.proofs.describing.+describing.Goals as goal

-- no form is left
pub put_form-returns-then-depth-eq0 : goal.put_form-returns-then-depth-eq0
put_form-returns-then-depth-eq0 t c =
    let out = c.args.out.now.items in
    let none = described_none (tables_of c.args.forms.now) c.args.depth c.args.form (omega (arith, c.if-depth-eq0.true)) in
    record { ok = sym (append-nil out) ∙ ap (λ (xs : List ℕ). out ++ xs) (sym none) }

-- all steps are named
pub put_form-returns : goal.put_form-returns
put_form-returns t c =
    let forms = tables_of c.args.forms.now in
    let form : ℕ → List ℕ = λ m. described forms (c.args.depth - 1) m in
    let out = c.args.out.now.items in
    let now = c.loop-step.out.items in
    let xs = c.form_of-steps.result.now in
    let deep : 0 < c.args.depth = omega (arith, c.if-depth-eq0.false) in
    let all = at_drop_all (λ (ys : List Step). now ++ flat_map (step_names form) ys) xs c.loop-step.step-index c.loop-step-test.false in
    record {
      ok = sym (append-nil now)
          ∙ (sym all
          ∙ (c.loop-step.invariant
          ∙ (ap (λ (ys : List Step). out ++ flat_map (step_names form) ys) c.form_of-steps.ensures
          ∙ ap (λ (text : List ℕ). out ++ text) (sym (described_go forms c.args.depth c.args.form deep)))));
    }
