-- What is held of a line, a part at a time.
use Rattle.std.proofs.Common.{◌≡◌, ◌≢◌, ℕ, ◌+◌, ◌-◌, ◌^◌, ◌<◌, ◌≤◌, All, Bool, eqb, cond, List, [], ◌∷◌, ◌++◌, length, take, Option, Some, None}
use Rattle.std.proofs.Common.{IfSome, true, false, inl, inr, refl, sym, ap, subst, ◌∙◌, append-nil, arith, length-append, length-take, take_all}
use Rattle.std.proofs.Common.{take-take, le_refl, length-take-le}
use Rattle.std.proofs.lemmas.List.{take-append-le}
use Rattle.std.proofs.Math.Seq.{take-nil}
use Rattle.std.proofs.lemmas.List.Elements.{All-nil, All-append}
use Rattle.std.proofs.lemmas.Bool.{cases_lt}
use Rattle.std.proofs.lemmas.Option.{IfSome_then}
use Rattle.std.proofs.KnownBytes.{Consumes-nil, Consumes-trans}
use Rattle.std.proofs.BufReadLemmas.{Consumes_through, IsAtEnd-of_take_through}
use Rattle.std.specs.Io.KnownBytes.{Appends, Consumes, IsAtEnd}
use Rattle.std.specs.Io.BufRead.{take_through, drop_through, DropsThrough}
use Rattle.gtp_counted.specs.Lines.{BeginsWithLines}
use Rattle.gtp_counted.specs.Parts.{TakesPart}

-- so many parts of the line were consumed, without a line feed, and their first octets are held
pub record HeldSoFar (most : ℕ) (old now : Option (List ℕ)) (held : List ℕ) (parts : ℕ) : Type 0 where
  pub front : List ℕ
  pub consumed : Consumes old now front
  pub none : All (λ x. x ≢ 10) front
  pub first : held ≡ take most front
  pub long : parts ≤ length front

pub held_none : (most : ℕ) (a : Option (List ℕ)) (held : List ℕ) → held ≡ [] → HeldSoFar most a a held 0
held_none most a held empty = record { front = []; consumed = Consumes-nil a; none = All-nil (λ x. x ≢ 10); first = empty ∙ sym (take-nil most); long = omega arith }

-- what is held of a front and a part is what is held of both
held_both : (most : ℕ) (front part : List ℕ) → take most (take most front ++ part) ≡ take most (front ++ part)
held_both most front part = elim (cases_lt most (length front)) [
  | inl more ↦
      let full : length (take most front) ≡ most = length-take-le most front (omega (arith, more)) in
      take-append-le most (take most front) part (omega (arith, full)) ∙ take-take most most front (le_refl most) ∙ sym (take-append-le most front part (omega (arith, more)))
  | inr few ↦ ap (λ l. take most (l ++ part)) (take_all most front few)
]

held_then : (most : ℕ) (front part held after : List ℕ) → held ≡ take most front → after ≡ take most (held ++ part) → after ≡ take most (front ++ part)
held_then most front part held after first then = then ∙ ap (λ l. take most (l ++ part)) first ∙ held_both most front part

-- one part more
pub held_more : (most : ℕ) (a b c : Option (List ℕ)) (held after : List ℕ) (parts : ℕ) → HeldSoFar most a b held parts → TakesPart 10 most b c held after false → HeldSoFar most a c after (parts + 1)
held_more most a b c held after parts so (part, is, then) = record {
  front = so.front ++ part;
  consumed = Consumes-trans a b c so.front part so.consumed is.consumed;
  none = All-append (λ x. x ≢ 10) so.front part so.none (is.none refl);
  first = held_then most so.front part held after so.first then;
  long = omega (arith, so.long, is.more refl, length-append so.front part);
}

-- the last part
pub held_last : (most : ℕ) (a b c : Option (List ℕ)) (held after : List ℕ) (parts : ℕ) → 0 < most → HeldSoFar most a b held parts → TakesPart 10 most b c held after true
    → IfSome a (λ octets. after ≡ take most (take_through 10 octets)) × DropsThrough a c 10 × (length after ≡ 0 → IsAtEnd a)
held_last most a b c held after parts some so (part, is, then) =
    let read = Consumes_through 10 a b c so.front part so.consumed so.none is.consumed is.stops (is.ends refl) (is.empty refl) in
    let first = held_then most so.front part held after so.first then in (
      IfSome_then a read.0 (λ octets e. first ∙ ap (take most) e),
      read.1,
      λ none. IsAtEnd-of_take_through 10 a [] (so.front ++ part) read.0 (omega (arith, some, ap length first, none, length-take most (so.front ++ part))),
    )

-- parts without an end
pub held_long : (most : ℕ) (a b : Option (List ℕ)) (held : List ℕ) (parts : ℕ) → HeldSoFar most a b held parts → 2 ^ 64 - 1 ≤ parts → IfSome a (λ octets. 2 ^ 64 - 1 ≤ length octets)
held_long most None b held parts so many = tt
held_long most (Some xs) None held parts so many = absurd so.consumed
held_long most (Some xs) (Some ys) held parts so many = omega (arith, many, so.long, ap length so.consumed, length-append so.front ys)

-- ---- lines, one after the other

abbrev pub is_known : Option (List ℕ) → Type 0
is_known None = ⊥
is_known (Some xs) = Unit {0}

abbrev pub content : Option (List ℕ) → List ℕ
content None = []
content (Some l) = l

-- nothing was written yet
pub none_yet : (w : Option (List ℕ)) → Appends w w []
none_yet None = tt
none_yet (Some xs) = sym (append-nil xs)

-- lines at the beginning of octets, and one more
pub one_more : (octets : List ℕ) (lines : List (List ℕ)) (rest : List ℕ) → BeginsWithLines octets lines rest → rest ≢ []
    → BeginsWithLines octets (lines ++ take_through 10 rest ∷ []) (drop_through 10 rest)
one_more octets [] rest same some = ((λ none. some (sym same ∙ none)), ap (take_through 10) (sym same), ap (drop_through 10) same)
one_more octets (line ∷ lines) rest (left, is, begins) some = (left, is, one_more (drop_through 10 octets) lines rest begins some)

-- of a line that is held in part there is some
pub held_some : (most : ℕ) (octets held : List ℕ) → held ≡ take most (take_through 10 octets) → 0 < length held → octets ≢ []
held_some most octets held is some none = nothing (subst (λ l. 0 < length l) (is ∙ ap (λ l. take most (take_through 10 l)) none) some)
  where
    nothing : 0 < length (take most (take_through 10 [])) → ⊥
    nothing l = omega (arith, l, length-take most (take_through 10 []))

-- so many octets or more were read
abbrev pub Lasts : ℕ → Option (List ℕ) → Option (List ℕ) → Type 0
Lasts count None left = Unit {0}
Lasts count (Some octets) None = ⊥
Lasts count (Some octets) (Some left) = count + length left ≤ length octets

pub lasts_none : (a : Option (List ℕ)) → Lasts 0 a a
lasts_none None = tt
lasts_none (Some xs) = omega arith

both_parts_from : (x : ℕ) (xs : List ℕ) (b : Bool) → length (take_through 10 xs) + length (drop_through 10 xs) ≡ length xs
    → length (cond b (x ∷ []) (x ∷ take_through 10 xs)) + length (cond b xs (drop_through 10 xs)) ≡ length (x ∷ xs)
both_parts_from x xs true e = omega arith
both_parts_from x xs false e = omega (arith, e)

pub both_parts : (xs : List ℕ) → length (take_through 10 xs) + length (drop_through 10 xs) ≡ length xs
both_parts [] = refl
both_parts (x ∷ xs) = both_parts_from x xs (eqb x 10) (both_parts xs)

pub lasts_more : (most count : ℕ) (a b c : Option (List ℕ)) (held : List ℕ) → Lasts count a b → IfSome b (λ xs. held ≡ take most (take_through 10 xs))
    → DropsThrough b c 10 → 0 < length held → Lasts (count + 1) a c
lasts_more most count None b c held so is drops some = tt
lasts_more most count (Some xs) None c held so is drops some = absurd so
lasts_more most count (Some xs) (Some ys) None held so is drops some = absurd (subst is_known (sym drops) tt)
lasts_more most count (Some xs) (Some ys) (Some zs) held so is drops some =
    omega (arith, so, some, ap length is, length-take most (take_through 10 ys), both_parts ys, ap length (ap content drops))

pub lasts_long : (count : ℕ) (a b : Option (List ℕ)) → Lasts count a b → 2 ^ 64 - 1 ≤ count → IfSome a (λ octets. 2 ^ 64 - 1 ≤ length octets)
lasts_long count None b so many = tt
lasts_long count (Some xs) None so many = absurd so
lasts_long count (Some xs) (Some ys) so many = omega (arith, so, many)

-- what is left is no longer
pub lasts_within : (count : ℕ) (a b : Option (List ℕ)) → Lasts count a b → IfSome b (λ octets. 2 ^ 64 - 1 ≤ length octets) → IfSome a (λ octets. 2 ^ 64 - 1 ≤ length octets)
lasts_within count None b so many = tt
lasts_within count (Some xs) None so many = absurd so
lasts_within count (Some xs) (Some ys) so many = omega (arith, so, many)
