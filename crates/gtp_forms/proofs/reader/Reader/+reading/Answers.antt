use Rattle.std.proofs.Common.{ℕ, ◌∙◌, ◌-◌, ◌<◌, List, sym, ap, arith}
use Rattle.std.proofs.lemmas.List.{at_drop_all}
use Rattle.gtp_forms.specs.declared.form.Step.{Step}
use Rattle.gtp_forms.specs.Reading.{State, reads, all_steps, tables_of}
use Rattle.gtp_forms.proofs.Steps.{reads_go}
use Rattle.gtp_forms.proofs.reader.Reader.+reading.Goals as goal

-- all steps are read
pub read_form-returns : goal.read_form-returns
read_form-returns t c =
    let forms = tables_of c.args.forms.now in
    let form : ℕ → State → State = λ m s. reads forms (c.args.depth - 1) m s in
    let xs = c.form_of-steps.result.now in
    let deep : 0 < c.args.depth = omega (arith, c.if-depth-eq0.false) in
    let all = at_drop_all (λ (ys : List Step). all_steps form ys c.loop-step.self) xs c.loop-step.step-index c.loop-step-test.false in
    record {
      ok = sym all
          ∙ (c.loop-step.invariant
          ∙ (ap (λ (ys : List Step). all_steps form ys c.args.self.now) c.form_of-steps.ensures
          ∙ sym (reads_go forms c.args.depth c.args.form c.args.self.now deep)));
    }
