-- Octets that were written.
use Rattle.std.proofs.Common.{◌≡◌, ℕ, List, [], ◌++◌, take, drop, Option, None, Some, sym, ap, refl, ◌∙◌, subst, append_assoc, append-nil}
use Rattle.std.proofs.lemmas.List.{take-append-drop}
use Rattle.std.proofs.KnownBytes.{Appends-trans}
use Rattle.std.specs.Io.KnownBytes.{Appends, Keeps}
use Rattle.gtp_counted.specs.Streams.{WritesSoFar, WritesFront}

pub more_written : (a b c : Option (List ℕ)) (text rest left : List ℕ) (n : ℕ) → WritesSoFar a b text rest → Appends b c (take n rest) → left ≡ drop n rest → WritesSoFar a c text left
more_written a b c text rest left n w h is = record {
  front = w.front ++ take n rest;
  whole = rw (is, append_assoc, take-append-drop) w.whole;
  grown = Appends-trans a b c w.front (take n rest) w.grown h;
}

appends_kept : (a b c : Option (List ℕ)) (text : List ℕ) → Appends a b text → Keeps b c → Appends a c text
appends_kept None b c text is kept = tt
appends_kept (Some xs) None c text is kept = absurd is
appends_kept (Some xs) (Some ys) None text is kept = absurd kept
appends_kept (Some xs) (Some ys) (Some zs) text is kept = kept ∙ is

appends_none : (a : Option (List ℕ)) → Appends a a []
appends_none None = tt
appends_none (Some xs) = sym (append-nil xs)

-- ---- beginnings of a text

-- all of it
pub front_whole : (a b : Option (List ℕ)) (text : List ℕ) → Appends a b text → WritesFront a b text
front_whole a b text is = ([], record { front = text; whole = append-nil text; grown = is })

-- nothing of it
pub front_none : (a b : Option (List ℕ)) (text : List ℕ) → a ≡ b → WritesFront a b text
front_none a b text same = subst (λ o. WritesFront a o text) same (text, record { front = []; whole = refl; grown = appends_none a })

-- known octets that stay as they are then
pub front_kept : (a b c : Option (List ℕ)) (text : List ℕ) → WritesFront a b text → Keeps b c → WritesFront a c text
front_kept a b c text (rest, so) kept = (rest, record { front = so.front; whole = so.whole; grown = appends_kept a b c so.front so.grown kept })

-- one of a text after another text
pub front_after : (a b c : Option (List ℕ)) (first text : List ℕ) → Appends a b first → WritesFront b c text → WritesFront a c (first ++ text)
front_after a b c first text written (rest, so) = (
  rest,
  record {
    front = first ++ so.front;
    whole = append_assoc first so.front rest ∙ ap (λ l. first ++ l) so.whole;
    grown = Appends-trans a b c first so.front written so.grown;
  },
)

-- one of a text with more after it
pub front_before : (a b : Option (List ℕ)) (text more : List ℕ) → WritesFront a b text → WritesFront a b (text ++ more)
front_before a b text more (rest, so) = (rest ++ more, record { front = so.front; whole = sym (append_assoc so.front rest more) ∙ ap (λ l. l ++ more) so.whole; grown = so.grown })
