use Rattle.std.proofs.Common.{sym, subst, Bool}
use Rattle.std.specs.Prelude.{Result}
use Rattle.gtp_values.specs.Steps.{Gives}
use Rattle.gtp_ie.specs.declared.fault.ReadFault.{ReadFault}
use Rattle.gtp_v2.proofs.Unknown.{unknown, known}
use Rattle.gtp_v2.proofs.check.accepts_value.Goals as goal

pub returns-in-Some : goal.returns-in-Some
returns-in-Some c =
    subst (λ (outcome : Result Bool ReadFault). Gives (λ b. b) c.accepts_form.result outcome)
    (known c.args.kind c.args.body.now c.in-Some.form (sym c.in-Some.ensures)) c.accepts_form.ensures

pub returns-in-None : goal.returns-in-None
returns-in-None c = unknown c.args.kind c.args.body.now (sym c.in-None.ensures)
