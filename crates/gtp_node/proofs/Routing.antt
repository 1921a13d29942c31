-- One place of a list is set: what stands there, and what stands elsewhere. And the first place of an address.
use Rattle.std.proofs.Common.{◌≡◌, ◌≢◌, ℕ, zero, suc, ◌<◌, Bool, true, false, cond, List, [], ◌∷◌, Option, Some, None, refl, sym, ◌∙◌, ap, subst, arith}
use Rattle.std.specs.Prelude.{slice_get, slice_set, option_map, IfSome, IfNone}
use Rattle.std.proofs.lemmas.Option.{same_Some}
use Rattle.gtp_values.specs.declared.address.Ip.{Ip}
use Rattle.gtp_values.specs.contracts.address.IpPartialEq.TheImpl.{eq-value}
use Rattle.gtp_node.specs.Places.{first_by}
use Rattle.gtp_node.specs.Routing.{IsFirstAt, NoneHas}
use Rattle.gtp_node.proofs.Exact.{exact, equal}

pub set_here : {X : Type 0} (xs : List X) (i : ℕ) (x y : X) → slice_get xs i ≡ Some x → slice_get (slice_set xs i y) i ≡ Some y
set_here [] i x y e = absurd (cc e)
set_here (z ∷ xs) zero x y e = refl
set_here (z ∷ xs) (suc i) x y e = set_here xs i x y e

pub set_elsewhere : {X : Type 0} (xs : List X) (i k : ℕ) (y : X) → k ≢ i → slice_get (slice_set xs i y) k ≡ slice_get xs k
set_elsewhere [] i k y other = refl
set_elsewhere (z ∷ xs) zero zero y other = absurd (other refl)
set_elsewhere (z ∷ xs) zero (suc k) y other = refl
set_elsewhere (z ∷ xs) (suc i) zero y other = refl
set_elsewhere (z ∷ xs) (suc i) (suc k) y other = set_elsewhere xs i k y (λ same. other (ap (λ n. suc n) same))

-- ---- the first place of an address

Says : List Ip → Ip → Option ℕ → Type 0
Says xs address found = (IfSome found (IsFirstAt xs address)) × (IfNone found (NoneHas xs address))

module _ (x : Ip) (xs : List Ip) (address : Ip) where
  at_front : eq-value.it address x ≡ true → Says (x ∷ xs) address (Some 0)
  unfolding Says
  at_front same = (record { stands = ap Some (sym (exact address x same)); first = λ k few. absurd (omega (arith, few)) }, tt)

  behind : eq-value.it address x ≡ false → (found : Option ℕ) → Says xs address found → Says (x ∷ xs) address (option_map (λ n. suc n) found)
  unfolding Says
  behind other (Some p) says = (
    record {
      stands = says.0.stands;
      first = λ k. before k;
    },
    tt,
  )
    where
      before : (k : ℕ) → k < suc p → slice_get (x ∷ xs) k ≢ Some address
      before zero few there = absurd (cc (sym other ∙ equal address x (same_Some address x (sym there))))
      before (suc k) few there = says.0.first k (omega (arith, few)) there
  behind other None says = (tt, λ k. none k)
    where
      none : (k : ℕ) → slice_get (x ∷ xs) k ≢ Some address
      none zero there = absurd (cc (sym other ∙ equal address x (same_Some address x (sym there))))
      none (suc k) there = says.1 k there

one_more : (x : Ip) (xs : List Ip) (address : Ip) → Says xs address (first_by eq-value.it address xs) → Says (x ∷ xs) address (first_by eq-value.it address (x ∷ xs))
one_more x xs address rest = by (eq-value.it address x) refl
  where
    by : (b : Bool) → eq-value.it address x ≡ b → Says (x ∷ xs) address (cond b (Some 0) (option_map (λ n. suc n) (first_by eq-value.it address xs)))
    by true is = at_front x xs address is
    by false is = behind x xs address is (first_by eq-value.it address xs) rest

says : (xs : List Ip) (address : Ip) → Says xs address (first_by eq-value.it address xs)
unfolding Says
says [] address = (tt, λ k there. absurd (cc there))
says (x ∷ xs) address = one_more x xs address (says xs address)

pub first_says : (xs : List Ip) (address : Ip) (found : Option ℕ) → found ≡ first_by eq-value.it address xs → IfSome found (IsFirstAt xs address)
unfolding Says
first_says xs address found is = subst (λ f. IfSome f (IsFirstAt xs address)) (sym is) (says xs address).0

pub none_says : (xs : List Ip) (address : Ip) (found : Option ℕ) → found ≡ first_by eq-value.it address xs → IfNone found (NoneHas xs address)
unfolding Says
none_says xs address found is = subst (λ f. IfNone f (NoneHas xs address)) (sym is) (says xs address).1
