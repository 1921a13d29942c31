-- What holds of each place below a window, and in it up to a place.
use Rattle.std.proofs.Common.{◌≡◌, ℕ, ◌+◌, ◌-◌, ◌<◌, ◌≤◌, inl, inr, List, Bool, true, ◌∙◌, ap, sym, arith}
use Rattle.std.proofs.lemmas.Bool.{cases_lt}
use Rattle.gtp_tables.specs.Lowest.{IsLowest}

pub lower : (taken : List ℕ → Bool) (address_at window_at : ℕ → List ℕ) (first count place : ℕ) → ((p : ℕ) → p < count → window_at p ≡ address_at (first + p))
    → place ≤ count → ((p : ℕ) → p < first → taken (address_at p) ≡ true) → ((p : ℕ) → p < place → taken (window_at p) ≡ true) → (p : ℕ)
    → p < first + place → taken (address_at p) ≡ true
lower taken address_at window_at first count place places few low high p lt = elim (cases_lt p first) [
  | inl below ↦ low p below
  | inr above ↦ let is : p ≡ first + (p - first) =
      omega (arith, above) in ap (λ k. taken (address_at k)) is
      ∙ (sym (ap taken (places (p - first) (omega (arith, lt, above, few)))) ∙ high (p - first) (omega (arith, lt, above)))
]

-- the lowest free place of a window, where those below it are taken
pub lowest_in_window : (taken : List ℕ → Bool) (address_at window_at : ℕ → List ℕ) (first count all place : ℕ)
    → ((p : ℕ) → p < count → window_at p ≡ address_at (first + p)) → first + count ≤ all → ((p : ℕ) → p < first → taken (address_at p) ≡ true)
    → IsLowest count (λ p. taken (window_at p)) place → IsLowest all (λ p. taken (address_at p)) (first + place)
lowest_in_window taken address_at window_at first count all place places fits low is = record {
  within = omega (arith, is.within, fits);
  free = sym (ap taken (places place is.within)) ∙ is.free;
  lower = lower taken address_at window_at first count place places (omega (arith, is.within)) low is.lower;
}
