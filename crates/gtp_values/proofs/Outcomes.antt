-- What is told by equal outcomes.
use Rattle.std.proofs.Common.{◌≡◌, ◌∙◌, Option, Some, None, Result, Ok, Err, ◌⊎◌, inl, inr, sym, subst}
use Rattle.gtp_values.specs.Decides.{Decides}

-- an answer and a fault, each with the type of the other
abbrev pub done : {X : Type 0} (E : Type 0) → X → Result X E
done E x = Ok x

abbrev pub failed : {E : Type 0} (X : Type 0) → E → Result X E
failed X f = Err f

abbrev pub nothing : (X : Type 0) → Option X
nothing X = None

pub none_some : {X : Type 0} (x : X) → nothing X ≡ Some x → ⊥
none_some x h = cc

pub ok_same : {X : Type 0} (E : Type 0) (x y : X) → done E x ≡ Ok y → x ≡ y
ok_same E x y h = cc

pub err_same : {E : Type 0} (X : Type 0) (f g : E) → failed X f ≡ Err g → f ≡ g
err_same X f g h = cc

pub apart : {X E : Type 0} (x : X) (f : E) → done E x ≡ Err f → ⊥
apart x f h = cc

-- there is an answer or a fault, and the reading gives each answer and each fault
pub decided_by : {X E : Type 0} (r : Result X E) (P : X → Type 0) (F : E → Type 0) → ((x : X) × P x) ⊎ ((f : E) × F f) → ((x : X) → P x → r ≡ Ok x) → ((f : E) → F f → r ≡ Err f) → Decides r P F
decided_by {X = X} {E = E} r P F one is fails = record {
  ok = λ x e. elim one [ inl s ↦ subst P (ok_same E s.0 x (sym (is s.0 s.1) ∙ e)) s.1 | inr s ↦ absurd (apart x s.0 (sym e ∙ fails s.0 s.1)) ];
  is = is;
  err = λ f e. elim one [ inl s ↦ absurd (apart s.0 f (sym (is s.0 s.1) ∙ e)) | inr s ↦ subst F (err_same X s.0 f (sym (fails s.0 s.1) ∙ e)) s.1 ];
  fails = fails;
}
