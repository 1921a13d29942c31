-- What steps one after the other decide.
use Rattle.std.proofs.Common.{◌≡◌, List, [], ◌∷◌, Result, Ok, Err, refl, sym, ap, subst, ◌∙◌, inl, inr, ◌⊎◌}
use Rattle.gtp_values.specs.Steps.{◌>>=◌}
use Rattle.gtp_values.proofs.Outcomes.{done, failed, ok_same, err_same, apart}
use Rattle.gtp_values.specs.Decides.{Decides, First_and_others, First_or_later}

-- the value of steps that did not fail
pub bind_ok : {X Y E : Type 0} (r : Result X E) (k : X → Result Y E) (y : Y) → (r >>= k) ≡ Ok y → (x : X) × (r ≡ Ok x) × (k x ≡ Ok y)
bind_ok (Ok x) k y h = (x, refl, h)
bind_ok (Err e) k y h = absurd cc

-- the fault of steps that failed
pub bind_err : {X Y E : Type 0} (r : Result X E) (k : X → Result Y E) (f : E) → (r >>= k) ≡ Err f → (r ≡ Err f) ⊎ ((x : X) × (r ≡ Ok x) × (k x ≡ Err f))
bind_err (Ok x) k f h = inr (x, refl, h)
bind_err (Err e) k f h = inl cc

-- a step whose value is known
pub bind_at : {X Y E : Type 0} (r : Result X E) (k : X → Result Y E) (x : X) → r ≡ Ok x → (r >>= k) ≡ k x
bind_at r k x h = rw h refl

pub bind_at_err : {X Y E : Type 0} (r : Result X E) (k : X → Result Y E) (f : E) → r ≡ Err f → (r >>= k) ≡ Err f
bind_at_err r k f h = rw h refl

-- two steps
pub decide_bind : {X Y E : Type 0} (r : Result X E) (k : X → Result Y E) (P : X → Type 0) (F : E → Type 0) (Q : X → Y → Type 0) (G : X → E → Type 0)
    → Decides r P F → ((x : X) → Decides (k x) (Q x) (G x)) → Decides (r >>= k) (λ y. (x : X) × P x × Q x y) (First_or_later P F G)
decide_bind r k P F Q G first others = record {
  ok = λ y h. let b = bind_ok r k y h in (b.0, first.ok b.0 b.1, (others b.0).ok y b.2);
  is = λ y h. bind_at r k h.0 (first.is h.0 h.1) ∙ (others h.0).is y h.2;
  err = λ f h. elim (bind_err r k f h) [ inl e ↦ inl (first.err f e) | inr b ↦ inr (b.0, first.ok b.0 b.1, (others b.0).err f b.2) ];
  fails = λ f h. elim h [ inl e ↦ bind_at_err r k f (first.fails f e) | inr b ↦ bind_at r k b.0 (first.is b.0 b.1) ∙ (others b.0).fails f b.2 ];
}

-- a step whose value is changed
pub decide_map : {X Y E : Type 0} (r : Result X E) (g : X → Y) (P : X → Type 0) (F : E → Type 0) → Decides r P F → Decides (r >>= λ x. Ok (g x)) (λ y. (x : X) × P x × (y ≡ g x)) F
decide_map {E = E} r g P F first = record {
  ok = λ y h. let b = bind_ok r (λ x. Ok (g x)) y h in (b.0, first.ok b.0 b.1, sym (ok_same E (g b.0) y b.2));
  is = λ y h. bind_at r (λ x. Ok (g x)) h.0 (first.is h.0 h.1) ∙ ap (λ z. Ok z) (sym h.2);
  err = λ f h. elim (bind_err r (λ x. Ok (g x)) f h) [ inl e ↦ first.err f e | inr b ↦ absurd (apart (g b.0) f b.2) ];
  fails = λ f h. bind_at_err r (λ x. Ok (g x)) f (first.fails f h);
}

from_parts : {X : Type 0} (P : X → Type 0) (Q : X → List X → Type 0) (ys : List X) → ((x : X) × P x × ((xs : List X) × Q x xs × (ys ≡ x ∷ xs))) → First_and_others P Q ys
from_parts P Q ys h = subst (First_and_others P Q) (sym h.2.2) (h.1, h.2.1)

to_parts : {X : Type 0} (P : X → Type 0) (Q : X → List X → Type 0) (ys : List X) → First_and_others P Q ys → (x : X) × P x × ((xs : List X) × Q x xs × (ys ≡ x ∷ xs))
to_parts P Q [] h = absurd h
to_parts P Q (x ∷ xs) h = (x, h.0, (xs, h.1, refl))

-- a first thing, and then others
pub decide_cons : {X E : Type 0} (r : Result X E) (k : X → Result (List X) E) (P : X → Type 0) (F : E → Type 0) (Q : X → List X → Type 0) (G : X → E → Type 0)
    → Decides r P F → ((x : X) → Decides (k x) (Q x) (G x)) → Decides (r >>= λ x. k x >>= λ xs. Ok (x ∷ xs)) (First_and_others P Q) (First_or_later P F G)
decide_cons {X = X} r k P F Q G first others =
    let both = decide_bind r (λ x. k x >>= λ xs. Ok (x ∷ xs)) P F (λ x ys. (xs : List X) × Q x xs × (ys ≡ x ∷ xs)) G first (λ x. decide_map (k x) (λ xs. x ∷ xs) (Q x) (G x) (others x)) in
    record {
      ok = λ ys h. from_parts P Q ys (both.ok ys h);
      is = λ ys h. both.is ys (to_parts P Q ys h);
      err = both.err;
      fails = both.fails;
    }

-- a function that can't fail
pub decide_ok : {X E : Type 0} (x : X) → Decides (done E x) (λ y. y ≡ x) (λ f. ⊥)
decide_ok {E = E} x = record { ok = λ y h. sym (ok_same E x y h); is = λ y h. ap (λ z. Ok z) (sym h); err = λ f h. apart x f h; fails = λ f h. absurd h }

-- the same outcomes by other words
pub decide_as : {X E : Type 0} (r : Result X E) (P P' : X → Type 0) (F F' : E → Type 0) → ((x : X) → P x → P' x) → ((x : X) → P' x → P x) → ((f : E) → F f → F' f)
    → ((f : E) → F' f → F f) → Decides r P F → Decides r P' F'
decide_as r P P' F F' p p' q q' d = record { ok = λ x h. p x (d.ok x h); is = λ x h. d.is x (p' x h); err = λ f h. q f (d.err f h); fails = λ f h. d.fails f (q' f h) }

-- an outcome that is known
pub known_ok : {X E : Type 0} (x : X) (P : X → Type 0) (F : E → Type 0) → P x → ((y : X) → P y → y ≡ x) → ((f : E) → F f → ⊥) → Decides (done E x) P F
known_ok {X = X} {E = E} x P F p one none =
    record {
      ok = λ y h. subst P (ok_same E x y h) p;
      is = λ y h. ap (λ z. Ok z) (sym (one y h));
      err = λ f h. absurd (apart x f h);
      fails = λ f h. absurd (none f h);
    }

-- a fault that is known
pub known_err : {X E : Type 0} (f : E) (P : X → Type 0) (F : E → Type 0) → F f → ((x : X) → P x → ⊥) → ((g : E) → F g → g ≡ f) → Decides (failed X f) P F
known_err {X = X} {E = E} f P F q none one =
    record {
      ok = λ x h. absurd (apart x f (sym h));
      is = λ x h. absurd (none x h);
      err = λ g h. subst F (err_same X f g h) q;
      fails = λ g h. ap (λ z. Err z) (sym (one g h));
    }
