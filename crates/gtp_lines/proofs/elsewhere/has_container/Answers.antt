use Rattle.std.proofs.Common.{◌≡◌, sym, subst}
use Rattle.gtp_lines.specs.Elsewhere.{IsOfContainer}
use Rattle.gtp_lines.proofs.elsewhere.has_container.Goals as goal

pub returns-in-Ok : goal.returns-in-Ok
returns-in-Ok c = (λ no. absurd (cc no), λ (f, fails, is). absurd (cc (c.in-Ok.ensures.first f fails)))

pub returns-in-Err : goal.returns-in-Err
returns-in-Err c = (
  λ yes. (c.in-Err.fault, c.in-Err.ensures.fault, c.is_of_container.ensures.0 yes),
  λ (f, fails, is).
      let same : c.in-Err.fault ≡ f = cc (c.in-Err.ensures.first f fails) in
      c.is_of_container.ensures.1 (subst IsOfContainer (sym same) is),
)
