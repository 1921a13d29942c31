use Rattle.std.proofs.Common.{sym, ◌∙◌, ap}
use Rattle.std.specs.Prelude.{length, ◌-◌, is_some, not}
use Rattle.gtp_gateway.proofs.TwoMessages.{second_there, no_second_fault}
use Rattle.gtp_gateway.proofs.receive.second_at.Goals as goal

pub returns-in-Err-clause-none : goal.returns-in-Err-clause-none
returns-in-Err-clause-none c = λ place. no_second_fault c.args.octets.now c.in-Err.field-0 place c.in-Err.ensures.fault

pub returns-clause-some : goal.returns-clause-some
returns-clause-some c =
    let view = c.in-Ok.view in
    second_there c.args.octets.now view.message view.second view.back _ c.in-Ok.ensures.lie
    (ap is_some (sym c.second.ensures) ∙ (c.is_none.ensures ∙ ap not c.if-is_none.false))
    (ap (λ back. length c.args.octets.now - length back) c.back.ensures)
