use Rattle.std.proofs.Common.{Some, Err, sym, ap, ◌∙◌}
use Rattle.serde_json.specs.Read.{read}
use Rattle.gtp_scenario.specs.Steps.{fault_for}
use Rattle.gtp_scenario.specs.Trees.{view, depth_after_all}
use Rattle.gtp_scenario.proofs.Trees.{is_read, is_not_kept, is_refused, has_fault}
use Rattle.gtp_scenario.proofs.tree.tape_of.Goals as goal

pub returns-in_err-tape : goal.returns-in_err-tape
returns-in_err-tape c =
    let text = c.args.text.now in
    let error = c.in_err-tape.field-0.0 in
    let said = c.in_err-tape.ensures in
    has_fault view c.from_residual.result (fault_for error) (read text) c.from_residual.ensures.0 c.from_residual.ensures.1
    (is_refused text error (λ e. said.invalid (ap Err e)) (λ e. said.too_long (ap Err e)) (λ e. said.never_duplicate (ap Err e)) c.requires)

pub returns-in-Some : goal.returns-in-Some
returns-in-Some c =
    let text = c.in_ok-tape.ensures.ok in
    let kept = sym c.in-Some.is ∙ c.depth_after_all.ensures ∙ ap (depth_after_all 0) (c.nodes.ensures.tokens ∙ text.0) in
    is_read c.args.text.now c.in-Some.field-0 text.1 kept ∙ ap (λ ts. Some (view ts)) (sym text.0)

pub returns : goal.returns
returns c =
    let text = c.in_ok-tape.ensures.ok in
    let refused = sym c.in-None.is ∙ c.depth_after_all.ensures ∙ ap (depth_after_all 0) (c.nodes.ensures.tokens ∙ text.0) in
    is_not_kept c.args.text.now text.1 refused
