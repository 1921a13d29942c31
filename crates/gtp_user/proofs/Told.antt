-- What a caller of a reading is told.
use Rattle.std.proofs.Common.{◌≡◌, Result, Ok, Err, sym, ap, ◌∙◌}
use Rattle.std.specs.Prelude.{IfOk, IfErr, IsOkAnd}
use Rattle.gtp_values.specs.Steps.{Gives}
use Rattle.gtp_values.specs.Decides.{Decides}
use Rattle.gtp_values.proofs.Outcomes.{ok_same, err_same, apart}

-- the four clauses of a reading
pub record Told {X Y E : Type 0} (view : X → Y) (r : Result X E) (Is : Y → Type 0) (Fails : E → Type 0) : Type 0 where
  pub found : IfOk r (λ x. Is (view x))
  pub only : (y : Y) → Is y → IsOkAnd r (λ x. view x ≡ y)
  pub fault : IfErr r Fails
  pub first : (f : E) → Fails f → r ≡ Err f

pub told : {X Y E : Type 0} (view : X → Y) (r : Result X E) (outcome : Result Y E) (Is : Y → Type 0) (Fails : E → Type 0) → Gives view r outcome → Decides outcome Is Fails → Told view r Is Fails
told {E = E} view (Ok x) outcome Is Fails h d = record {
  found = d.ok (view x) h;
  only = λ y p. ok_same E (view x) y (sym h ∙ d.is y p);
  fault = tt;
  first = λ f p. absurd (apart (view x) f (sym h ∙ d.fails f p));
}
told {Y = Y} view (Err e) outcome Is Fails h d = record {
  found = tt;
  only = λ y p. absurd (apart y e (sym (d.is y p) ∙ h));
  fault = d.err e h;
  first = λ f p. ap (λ g. Err g) (err_same Y e f (sym h ∙ d.fails f p));
}
