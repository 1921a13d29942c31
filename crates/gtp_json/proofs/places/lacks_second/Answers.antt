use Rattle.std.proofs.Common.{subst}
use Rattle.gtp_values.proofs.Outcomes.{err_same, apart}
use Rattle.gtp_v2.specs.Pair.{IsDatagramFault}
use Rattle.gtp_json.proofs.places.lacks_second.Goals as goal

pub returns-in-Ok : goal.returns-in-Ok
returns-in-Ok c = (λ yes. absurd cc, λ fault. absurd (apart _ _ (c.in-Ok.ensures.first _ fault)))

pub returns-in-Err : goal.returns-in-Err
returns-in-Err c = (
  λ yes. subst (IsDatagramFault c.args.front.now) (c.is_missing_at.ensures.0 yes) c.in-Err.ensures.fault,
  λ fault. c.is_missing_at.ensures.1 (err_same _ _ _ (c.in-Err.ensures.first _ fault)),
)
