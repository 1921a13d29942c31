-- The whole elements before the place where octets are cut.
use Rattle.std.proofs.Common.{◌≡◌, ℕ, ◌+◌, ◌-◌, ◌≤◌, List, [], ◌∷◌, ◌++◌, length, take, drop, refl, sym, ap, subst, ◌∙◌, arith, append_assoc, length-append}
use Rattle.std.proofs.lemmas.List.{take_at, drop_at}
use Rattle.gtp_ie.specs.Element.{Element}
use Rattle.gtp_ie.specs.Octets.{BeginsWith, Spans, AreElements, IsCut}
use Rattle.gtp_lines.specs.All.{IsFront}

-- whole elements end where the rest begins
pub record Before (at : ℕ) (octets : List ℕ) (es : List Element) (rest : List ℕ) (place : ℕ) : Type 0 where
  pub front : List ℕ
  pub split : octets ≡ front ++ rest
  pub whole : Spans at front es [] place
  pub long : place ≡ at + length front

pub spans_before : (at : ℕ) (octets : List ℕ) (es : List Element) (rest : List ℕ) (place : ℕ) → Spans at octets es rest place → Before at octets es rest place
spans_before at octets [] rest place (is, here) = record { front = []; split = is; whole = (refl, here); long = omega (arith, here) }
spans_before at octets (e ∷ es) rest place (after, (high, low, last, text, long, half, small, at_is), others) =
    let b = spans_before (at + (4 + length e.body)) after es rest place others in
    record {
      front = e.kind ∷ high ∷ low ∷ last ∷ (e.body ++ b.front);
      split = text ∙ ap (λ (xs : List ℕ). e.kind ∷ high ∷ low ∷ last ∷ xs) (ap (λ (xs : List ℕ). e.body ++ xs) b.split ∙ sym (append_assoc e.body b.front rest));
      whole = (b.front, (high, low, last, refl, long, half, small, at_is), b.whole);
      long = omega (arith, b.long, length-append e.body b.front);
    }

-- octets that are cut, before that place and from it on
pub record CutIn (base : ℕ) (octets : List ℕ) (at : ℕ) : Type 0 where
  pub elements : List Element
  pub from : base ≤ at
  pub within : at - base ≤ length octets
  pub whole : AreElements base (take (at - base) octets) elements
  pub front : IsFront base octets elements (drop (at - base) octets)

pub cut_in : (base : ℕ) (octets : List ℕ) (at : ℕ) → IsCut base octets at → CutIn base octets at
cut_in base octets at (es, rest, spans, some, none) =
    let b = spans_before base octets es rest at spans in
    let size : at - base ≡ length b.front = omega (arith, b.long) in
    let front : take (at - base) octets ≡ b.front = ap (λ (n : ℕ). take n octets) size ∙ (ap (take (length b.front)) b.split ∙ take_at b.front rest (length b.front) refl) in
    let back : drop (at - base) octets ≡ rest = ap (λ (n : ℕ). drop n octets) size ∙ (ap (drop (length b.front)) b.split ∙ drop_at b.front rest (length b.front) refl) in
    record {
      elements = es;
      from = omega (arith, b.long);
      within = omega (arith, size, ap length b.split, length-append b.front rest);
      whole = subst (λ (xs : List ℕ). AreElements base xs es) (sym front) (at, b.whole);
      front = subst (λ (xs : List ℕ). IsFront base octets es xs) (sym back) (at, spans, none);
    }

-- elements that are all are as many as are whole
pub all_front : (base : ℕ) (octets : List ℕ) (es : List Element) → AreElements base octets es → IsFront base octets es []
all_front base octets es (place, spans) = (place, spans, λ e after b. nothing place e after b) where
  nothing : (place : ℕ) (e : Element) (after : List ℕ) → BeginsWith place [] e after → ⊥
  nothing place e after (high, low, last, text, long, half, small, at_is) = absurd cc
