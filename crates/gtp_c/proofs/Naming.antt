-- The access points of a text, a name at a time.
use Rattle.std.proofs.Common.{◌≡◌, ◌≢◌, ℕ, ◌+◌, ◌-◌, ◌<◌, ◌≤◌, not, ◌==◌, List, [], ◌∷◌, ◌++◌, length, take, drop, get_or, refl, sym, ap, ◌∙◌, subst, append_assoc, length-append, arith}
use Rattle.std.proofs.lemmas.Bool.{not-true}
use Rattle.std.proofs.lemmas.List.{length-drop, take_all}
use Rattle.std.proofs.lemmas.List.Splits.{length-slice_split, slice_split_none, slice_split_first}
use Rattle.std.proofs.lemmas.List.Sums.{prefix_len_passes}
use Rattle.std.specs.List.{AllByRecursion}
use Rattle.std.specs.Borrow.{Bor}
use Rattle.std.specs.Prelude.{Option, Some, None}
use Rattle.gtp_values.specs.Apn.{IsApnText}
use Rattle.gtp_c.specs.Names.{words_of, word_length, names_in, AreGoodNames, AreFewNames, IsCut}

-- a text without a comma is one word
pub alone : (octets : List ℕ) → word_length octets ≡ length octets → words_of octets ≡ octets ∷ []
alone octets all =
    slice_split_none (λ octet. octet == 44) octets (λ k d within. not-true (get_or octets k d == 44)
    (prefix_len_passes (λ octet. not (octet == 44)) octets k d (subst (λ (n : ℕ). k < n) (sym all) within)))

-- what follows the first comma
tail_is : (octets : List ℕ) (n : ℕ) → take (length octets - n) (drop n octets) ≡ drop n octets
tail_is octets n = let count = length-drop n octets in take_all (length octets - n) (drop n octets) (omega (arith, count))

-- and else it is the word before its first comma, and the words after that
pub cut : (octets : List ℕ) (n : ℕ) → n ≡ word_length octets → n < length octets → words_of octets ≡ take n octets ∷ words_of (take (length octets - (n + 1)) (drop (n + 1) octets))
cut octets n is less =
    subst (λ (k : ℕ). words_of octets ≡ take k octets ∷ words_of (take (length octets - (k + 1)) (drop (k + 1) octets))) (sym is)
    (slice_split_first (λ octet. octet == 44) octets 0 (subst (λ (k : ℕ). k < length octets) is less)
    ∙ ap (λ (rest : List ℕ). take (word_length octets) octets ∷ words_of rest) (sym (tail_is octets (word_length octets + 1))))

-- the words of a text that is not empty
pub some : (octets : List ℕ) → (length octets ≡ 0 → ⊥) → names_in octets ≡ words_of octets
some [] is = absurd (is refl)
some (octet ∷ octets) is = refl

in_all : (ws : List (List ℕ)) (word : List ℕ) (more : List (List ℕ)) → AllByRecursion IsApnText (ws ++ word ∷ more) → IsApnText word
in_all [] word more all = all.0
in_all (w ∷ ws) word more all = in_all ws word more all.1

first_word : (octets word : List ℕ) (after : Option (Bor (List ℕ))) → IsCut octets word after → (more : List (List ℕ)) × (words_of octets ≡ word ∷ more)
first_word octets word None is = ([], is)
first_word octets word (Some after) is = (words_of after.now, is)

-- where a word is no name, not all are
pub not_good : (octets : List ℕ) (ws : List (List ℕ)) (rest word : List ℕ) (after : Option (Bor (List ℕ))) → (length octets ≡ 0 → ⊥)
    → ws ++ words_of rest ≡ words_of octets → IsCut rest word after → ¬ IsApnText word → ¬ AreGoodNames octets
not_good octets ws rest word after is_some same is bad good =
    let first = first_word rest word after is in
    bad (in_all ws word first.0 (subst (AllByRecursion IsApnText) (some octets is_some ∙ (sym same ∙ ap (λ (rest : List (List ℕ)). ws ++ rest) first.1)) good))

-- ---- whether they are names, and few enough

-- so many words less one were read, which are names, and the rest is to be read
pub record AreRead (octets rest : List ℕ) (count : ℕ) : Type 0 where
  pub words : List (List ℕ)
  pub all : words ++ words_of rest ≡ words_of octets
  pub names : AllByRecursion IsApnText words
  pub counted : length words + 1 ≡ count
  pub few : count ≤ 16

pub none_read : (octets : List ℕ) → AreRead octets octets 1
none_read octets = record { words = []; all = refl; names = tt; counted = refl; few = omega arith }

and_last : (ws : List (List ℕ)) (word : List ℕ) → AllByRecursion IsApnText ws → IsApnText word → AllByRecursion IsApnText (ws ++ word ∷ [])
and_last [] word names name = (name, tt)
and_last (w ∷ ws) word names name = (names.0, and_last ws word names.1 name)

module _ (octets : List ℕ) (is_some : length octets ≡ 0 → ⊥) (rest word : List ℕ) (after : Option (Bor (List ℕ))) (count : ℕ) (read : AreRead octets rest count) (is_cut : IsCut rest word after) where
  -- a word is no name
  pub no_name : ¬ IsApnText word → ¬ AreFewNames octets
  no_name bad few = not_good octets read.words rest word after is_some read.all is_cut bad few.0

  -- the last word
  same_words : after ≡ None → read.words ++ word ∷ [] ≡ names_in octets
  same_words last =
      ap (λ (ws : List (List ℕ)). read.words ++ ws) (sym (subst (IsCut rest word) last is_cut)) ∙ (read.all ∙ sym (some octets is_some))

  -- it is a name
  pub all_read : after ≡ None → IsApnText word → AreFewNames octets
  all_read last name =
      let same = same_words last in
      let size = length-append read.words (word ∷ []) in
      let counted = read.counted in let few = read.few in (
        subst (AllByRecursion IsApnText) same (and_last read.words word read.names name),
        subst (λ (ws : List (List ℕ)). length ws ≤ 16) same (omega (arith, size, counted, few)),
      )

  pub all_counted : after ≡ None → count ≡ length (names_in octets)
  all_counted last =
      let size = length-append read.words (word ∷ []) in
      let whole = ap (λ (ws : List (List ℕ)). length ws) (same_words last) in
      let counted = read.counted in
      omega (arith, size, whole, counted)

  -- more words follow
  follows : (next : Bor (List ℕ)) → after ≡ Some next → words_of rest ≡ word ∷ words_of next.now
  follows next is = subst (IsCut rest word) is is_cut

  pub too_many : (next : Bor (List ℕ)) → after ≡ Some next → count ≡ 16 → ¬ AreFewNames octets
  too_many next is most few =
      let one = length-slice_split (λ octet. octet == 44) next.now in
      let size = ap (λ (ws : List (List ℕ)). length ws) (follows next is) in
      let whole : length (names_in octets) ≡ length read.words + length (words_of rest) =
      ap (λ (ws : List (List ℕ)). length ws) (some octets is_some ∙ sym read.all) ∙ length-append read.words (words_of rest) in
      let counted = read.counted in let at_most = few.1 in
      omega (arith, one, size, whole, counted, most, at_most)

  pub one_more : (next : Bor (List ℕ)) → after ≡ Some next → count ≢ 16 → IsApnText word → AreRead octets next.now (count + 1)
  one_more next is less name =
      let size = length-append read.words (word ∷ []) in
      let counted = read.counted in let few = read.few in
      record {
        words = read.words ++ word ∷ [];
        all = append_assoc read.words (word ∷ []) (words_of next.now) ∙ (ap (λ (ws : List (List ℕ)). read.words ++ ws) (sym (follows next is)) ∙ read.all);
        names = and_last read.words word read.names name;
        counted = omega (arith, size, counted);
        few = omega (arith, few, less);
      }

  pub fewer_left : (next : Bor (List ℕ)) → after ≡ Some next → length (words_of next.now) < length (words_of rest)
  fewer_left next is =
      let size = ap (λ (ws : List (List ℕ)). length ws) (follows next is) in
      omega (arith, size)
