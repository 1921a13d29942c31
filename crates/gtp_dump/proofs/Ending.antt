-- Entries end, and lines are kept.
use Rattle.std.proofs.Common.{◌≡◌, ℕ, ◌+◌, ◌==◌, Bool, true, false, not, List, [], ◌∷◌, ◌++◌, length, Option, Some, None, inl, inr, refl, sym, ap, subst, ◌∙◌, append-nil, arith}
use Rattle.std.specs.Prelude.{⊤}
use Rattle.std.specs.List.{sum_by}
use Rattle.std.proofs.lemmas.List.Sums.{sum_by-append}
use Rattle.gtp_dump.specs.Text.{taken, has_digits}
use Rattle.gtp_dump.specs.Row.{begins_dump}
use Rattle.gtp_dump.specs.Entries.{Reading, row_size, GoesOnAt, GoesOn, GoOn, StandTogether, StandsAlone, Gives, GiveTogether}
use Rattle.gtp_dump.specs.Decoded.{Tells}
use Rattle.gtp_dump.specs.Held.{IsKept, Stands, GoesOnAfter, MovesLines}
use Rattle.gtp_dump.specs.declared.entry.Kept.{Kept}
use Rattle.gtp_dump.specs.declared.decoding.Asked.{Asked}
use Rattle.gtp_dump.specs.declared.decoding.Tally.{Tally}
use Rattle.gtp_dump.proofs.Walk.{none}

goes_at : (j : Bool) (n m : ℕ) (line : List ℕ) → (j ≡ false → n ≡ m) → GoesOnAt j m line → GoesOnAt j n line
goes_at true n m line same goes = goes
goes_at false n m line same goes = subst (λ k. GoesOnAt false k line) (sym (same refl)) goes

-- a line that does not go on after what is kept does not go on after those lines
not_on : (start : ℕ) (kept : Kept) (held : List (List ℕ)) (line next : List ℕ) → IsKept start kept held → ¬ GoesOnAt kept.is_joined kept.octets line → next ≡ line → ¬ GoesOn kept.is_joined held next
not_on start kept held line next is stops same goes =
    stops (subst (λ l. GoesOnAt kept.is_joined kept.octets l) same (goes_at kept.is_joined kept.octets (sum_by row_size held) next is.octets goes))

-- what was held is told
pub ended : (asked : Asked) (before after : Tally) (kept : Kept) (held : List (List ℕ)) (line : List ℕ) (reading : Reading) (text errors : List ℕ)
    → Stands asked.join before.lines (Some kept) held → ¬ GoesOnAt kept.is_joined kept.octets line → GiveTogether asked.plane kept.is_joined before.lines held reading
    → Tells asked.form before kept.lines reading after text errors → MovesLines asked before held [] (λ n. n ≡ line) [] after text errors
ended asked before after kept held line reading text errors stands stops gives tells = record {
  ended = held ∷ [];
  whole = sym (append-nil (held ++ []));
  tells = λ next same. (
    reading,
    after,
    text,
    [],
    errors,
    [],
    inl (kept.is_joined, stands.2, stands.1, not_on before.lines kept held line next stands.0 stops same, gives),
    subst (λ n. Tells asked.form before n reading after text errors) stands.0.count tells,
    (refl, refl, refl),
    sym (append-nil text),
    sym (append-nil errors),
  );
}

-- a line that stands alone is told
pub told_alone : (asked : Asked) (before after : Tally) (held : List (List ℕ)) (line : List ℕ) (reading : Reading) (text errors : List ℕ)
    → held ≡ [] → StandsAlone asked.join line → Gives asked.plane before.lines line reading
    → Tells asked.form before 1 reading after text errors → MovesLines asked before held (line ∷ []) (λ n. ⊤) [] after text errors
told_alone asked before after held line reading text errors empty alone gives tells = record {
  ended = (line ∷ []) ∷ [];
  whole = ap (λ l. l ++ line ∷ []) empty;
  tells = λ next any. (reading, after, text, [], errors, [], inr (line, refl, alone, gives), tells, (refl, refl, refl), sym (append-nil text), sym (append-nil errors));
}

-- nothing is told where lines are held
pub only_held : (asked : Asked) (tally : Tally) (held new : List (List ℕ)) (Next : List ℕ → Type 0) (left : List (List ℕ)) → held ++ new ≡ left → MovesLines asked tally held new Next left tally [] []
only_held asked tally held new Next left whole = record { ended = []; whole = whole; tells = λ next any. (refl, refl, refl) }

-- one line more goes on
go_on_more : (j : Bool) (n : ℕ) (lines : List (List ℕ)) (line : List ℕ) → GoOn j n lines → GoesOnAt j (n + sum_by row_size lines) line → GoOn j n (lines ++ line ∷ [])
go_on_more j n [] line all goes = (subst (λ k. GoesOnAt j k line) (omega arith) goes, tt)
go_on_more j n (x ∷ lines) line all goes = (all.0, go_on_more j (n + row_size x) lines line all.1 (subst (λ k. GoesOnAt j k line) (omega (arith, sum_by-append row_size (x ∷ []) lines)) goes))

together_more : (j : Bool) (lines : List (List ℕ)) (line : List ℕ) → StandTogether j lines → GoesOnAt j (sum_by row_size lines) line → StandTogether j (lines ++ line ∷ [])
together_more j [] line stand goes = absurd stand
together_more j (x ∷ lines) line stand goes = (stand.0, go_on_more j 0 (x ∷ lines) line stand.1 (subst (λ k. GoesOnAt j k line) (omega arith) goes))

goes_to : (j : Bool) (n m : ℕ) (line : List ℕ) → (j ≡ false → n ≡ m) → GoesOnAt j n line → GoesOnAt j m line
goes_to true n m line same goes = goes
goes_to false n m line same goes = subst (λ k. GoesOnAt false k line) (same refl) goes

pub stands_more : (join : Bool) (start : ℕ) (kept after : Kept) (held : List (List ℕ)) (line : List ℕ) → Stands join start (Some kept) held
    → GoesOnAt kept.is_joined kept.octets line → after.is_joined ≡ kept.is_joined
    → IsKept start after (held ++ line ∷ []) → Stands join start (Some after) (held ++ line ∷ [])
stands_more join start kept after held line stands goes same is = (
  is,
  subst (λ j. StandTogether j (held ++ line ∷ [])) (sym same) (together_more kept.is_joined held line stands.1 (goes_to kept.is_joined kept.octets (sum_by row_size held) line stands.0.octets goes)),
  λ joined. stands.2 (sym same ∙ joined),
)

-- the first of lines that are kept
pub stands_first : (join joined : Bool) (start : ℕ) (after : Kept) (line : List ℕ) → (joined ≡ true → join ≡ true) → begins_dump line ≡ not joined → GoesOnAt joined 0 line → after.is_joined ≡ joined
    → IsKept start after (line ∷ []) → Stands join start (Some after) (line ∷ [])
stands_first join joined start after line may begins goes same is =
    (is, subst (λ j. StandTogether j (line ∷ [])) (sym same) (begins, (goes, tt)), λ yes. may (sym same ∙ yes))

-- nothing goes on with no line
nothing : (j : Bool) (n : ℕ) → GoesOnAt j n [] → ⊥
nothing true n goes =
    let is : has_digits [] ≡ true = goes.1 in
    let empty : has_digits [] ≡ false = ap (λ (l : List ℕ). not (length l == 0)) (none taken) in
    let wrong : true ≡ false = sym is ∙ empty in cc
nothing false n goes = let wrong : false ≡ true = goes in cc

pub none_kept : (kept : Option Kept) (line : List ℕ) → line ≡ [] → GoesOnAfter kept line → kept ≡ None
none_kept None line empty goes = refl
none_kept (Some k) line empty goes = absurd (nothing k.is_joined k.octets (subst (λ l. GoesOnAt k.is_joined k.octets l) empty goes.0))
