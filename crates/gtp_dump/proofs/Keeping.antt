-- One line more is kept.
use Rattle.std.proofs.Common.{◌≡◌, ℕ, ◌+◌, ◌≤◌, Bool, true, false, List, [], ◌∷◌, ◌++◌, length, Option, Some, None, is_none, MatchOption, refl, sym}
use Rattle.std.proofs.Common.{ap, subst, ◌∙◌, append_assoc, append-nil, arith, length-append}
use Rattle.std.specs.List.{sum_by, flat_map}
use Rattle.std.proofs.lemmas.List.Concat.{flat_map-append}
use Rattle.std.proofs.lemmas.List.Sums.{sum_by-append}
use Rattle.std.proofs.lemmas.List.Elements.{All-nil, All-cons, All-append}
use Rattle.gtp_dump.specs.Entries.{row_size, digits_of, is_good, AreGood, IsWrong, IsFirstWrong}
use Rattle.gtp_dump.specs.Held.{IsKept}
use Rattle.gtp_dump.specs.declared.flaw.Flaw.{Flaw}
use Rattle.gtp_dump.specs.declared.entry.Kept.{Kept}
use Rattle.gtp_dump.specs.declared.entry.Wrong.{Wrong}

abbrev pub so_far_of : ℕ → Bool → Option Wrong → ℕ → List ℕ → List (List ℕ) → Type 0
so_far_of start joined wrong size digits lines = MatchOption wrong
    (AreGood joined lines × (size ≡ sum_by length lines) × (digits ≡ flat_map (digits_of joined) lines))
    (λ w. IsFirstWrong joined start lines w.number w.flaw)

-- lines that are good, and a good line
pub good_more : (joined : Bool) (lines : List (List ℕ)) (line : List ℕ) → AreGood joined lines → sum_by length lines + length line ≤ 1048576
    → is_good joined line ≡ true → AreGood joined (lines ++ line ∷ [])
good_more joined lines line good fits is = (
  omega (arith, fits, sum_by-append length lines (line ∷ [])),
  All-append (λ l. is_good joined l ≡ true) lines (line ∷ []) good.1
      (All-cons (λ l. is_good joined l ≡ true) line [] is (All-nil (λ l. is_good joined l ≡ true))),
)

-- the first line that is wrong stays the first
pub wrong_stays : (joined : Bool) (start : ℕ) (lines : List (List ℕ)) (line : List ℕ) (number : ℕ) (flaw : Flaw) → IsFirstWrong joined start lines number flaw
    → IsFirstWrong joined start (lines ++ line ∷ []) number flaw
wrong_stays joined start lines line number flaw w = record {
  front = w.front;
  line = w.line;
  back = w.back ++ line ∷ [];
  whole = ap (λ l. l ++ line ∷ []) w.whole ∙ append_assoc w.front (w.line ∷ w.back) (line ∷ []);
  good = w.good;
  wrong = w.wrong;
  counted = w.counted;
}

-- behind good lines a wrong one is the first
pub wrong_first : (joined : Bool) (start : ℕ) (lines : List (List ℕ)) (line : List ℕ) (number : ℕ) (flaw : Flaw) → AreGood joined lines
    → IsWrong joined (sum_by length lines) line flaw → number ≡ start + length lines + 1 → IsFirstWrong joined start (lines ++ line ∷ []) number flaw
wrong_first joined start lines line number flaw good wrong counted = record { front = lines; line = line; back = []; whole = refl; good = good; wrong = wrong; counted = counted }

pub digits_more : (joined : Bool) (lines : List (List ℕ)) (line digits : List ℕ) → digits ≡ flat_map (digits_of joined) lines
    → digits ++ digits_of joined line ≡ flat_map (digits_of joined) (lines ++ line ∷ [])
digits_more joined lines line digits is =
    ap (λ l. l ++ digits_of joined line) is ∙ (ap (λ l. flat_map (digits_of joined) lines ++ l) (sym (append-nil (digits_of joined line)))
    ∙ sym (flat_map-append (digits_of joined) lines (line ∷ [])))

-- one line more is kept, which is good, is the first that is wrong, or comes after that
pub kept_more : (start : ℕ) (lines : List (List ℕ)) (line : List ℕ) (before now : Kept) → IsKept start before lines → now.lines ≡ before.lines + 1 → now.is_joined ≡ before.is_joined
    → (before.is_joined ≡ false → now.octets ≡ before.octets + row_size line)
    → so_far_of start before.is_joined now.wrong now.size now.digits.items (lines ++ line ∷ []) → IsKept start now (lines ++ line ∷ [])
kept_more start lines line before now kept one joined octets so_far = record {
  count = omega (arith, one, kept.count, length-append lines (line ∷ []));
  octets = λ rows. let was : before.is_joined ≡ false = sym joined ∙ rows in omega (arith, octets was, kept.octets was, sum_by-append row_size lines (line ∷ []));
  so_far = subst (λ j. so_far_of start j now.wrong now.size now.digits.items (lines ++ line ∷ [])) (sym joined) so_far;
}

-- what is kept of good lines
pub good_so_far : (start : ℕ) (lines : List (List ℕ)) (kept : Kept) → IsKept start kept lines → kept.wrong ≡ None
    → AreGood kept.is_joined lines × (kept.size ≡ sum_by length lines) × (kept.digits.items ≡ flat_map (digits_of kept.is_joined) lines)
good_so_far start lines kept is none = subst (λ w. so_far_of start kept.is_joined w kept.size kept.digits.items lines) none is.so_far

-- behind lines of which one is wrong
pub after_wrong : (start : ℕ) (lines : List (List ℕ)) (line : List ℕ) (kept : Kept) (size : ℕ) (digits : List ℕ) (wrong : Option Wrong) → wrong ≡ kept.wrong
    → is_none kept.wrong ≡ false → so_far_of start kept.is_joined kept.wrong kept.size kept.digits.items lines
    → so_far_of start kept.is_joined wrong size digits (lines ++ line ∷ [])
after_wrong start lines line kept size digits None same some so_far = absurd (no_none kept.wrong same some)
  where
    no_none : (w : Option Wrong) → None ≡ w → is_none w ≡ false → ⊥
    no_none None same some = let wrong : true ≡ false = some in cc
    no_none (Some w) same some = cc
after_wrong start lines line kept size digits (Some w) same some so_far =
    wrong_stays kept.is_joined start lines line w.number w.flaw (subst (λ o. so_far_of start kept.is_joined o kept.size kept.digits.items lines) (sym same) so_far)
