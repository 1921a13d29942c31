-- Lines are told one after the other.
use Rattle.std.proofs.Common.{◌≡◌, ◌≢◌, ◌⊎◌, ℕ, ◌<◌, List, [], ◌∷◌, ◌++◌, map, length, drop, inl, inr, Option, Some, None, IfSome, refl, sym, ap, ◌∙◌, subst, append-nil, append_assoc}
use Rattle.std.specs.Prelude.{⊤}
use Rattle.std.proofs.lemmas.List.Concat.{flat_map-append}
use Rattle.std.proofs.lemmas.List.{map-append}
use Rattle.std.proofs.KnownBytes.{Appends-trans}
use Rattle.std.specs.Io.KnownBytes.{Appends, IsAtEnd}
use Rattle.std.specs.Io.BufRead.{take_through, drop_through, DropsThrough}
use Rattle.gtp_dump.specs.declared.decoding.Asked.{Asked}
use Rattle.gtp_dump.specs.declared.decoding.DumpFault.{DumpFault}
use Rattle.gtp_dump.specs.declared.decoding.DumpFault.TheVariants as faults
use Rattle.gtp_dump.specs.declared.decoding.Tally.{Tally}
use Rattle.gtp_dump.specs.declared.decoding.Progress.{Progress}
use Rattle.gtp_counted.specs.Lines.{BeginsWithLines}
use Rattle.gtp_counted.proofs.Written.{front_whole, front_after}
use Rattle.gtp_counted.proofs.Lines.{is_known, content, none_yet, one_more, held_some}
use Rattle.gtp_dump.specs.Entries.{IsEntry}
use Rattle.gtp_dump.specs.Decoded.{nothing_read, lines_of, first, seen, TellAll, TellLines, AreTold, AreFirstTold, AreToldInPart}
use Rattle.gtp_dump.specs.Held.{Stands, MovesLines, Moves, MovesInPart}

first_both : (xs ys : List (List ℕ)) (next : List ℕ) → first (xs ++ ys) next ≡ first xs (first ys next)
first_both [] ys next = refl
first_both (x ∷ xs) ys next = refl

lines_both : (es fs : List (List (List ℕ))) → lines_of (es ++ fs) ≡ lines_of es ++ lines_of fs
lines_both es fs = flat_map-append (λ (e : List (List ℕ)). e) es fs

-- what is told of entries, and of more of them
tell_more : (asked : Asked) (a b c : Tally) (entries more : List (List (List ℕ))) (next o p e f : List ℕ)
    → TellAll asked a entries (first (lines_of more) next) b o e → TellAll asked b more next c p f → TellAll asked a (entries ++ more) next c (o ++ p) (e ++ f)
tell_more asked a b c [] more next o p e f (same, none, still) tells =
    subst (λ l. TellAll asked a more next c l (e ++ f)) (ap (λ l. l ++ p) (sym none))
    (subst (λ l. TellAll asked a more next c p l) (ap (λ l. l ++ f) (sym still)) (subst (λ t. TellAll asked t more next c p f) same tells))
tell_more asked a b c (entry ∷ entries) more next o p e f (reading, told, o1, os, e1, es, is, tells, all, out, err) then = (
  reading,
  told,
  o1,
  os ++ p,
  e1,
  es ++ f,
  subst (λ n. IsEntry asked.plane asked.join a.lines entry n reading) (sym (ap (λ l. first l next) (lines_both entries more) ∙ first_both (lines_of entries) (lines_of more) next)) is,
  tells,
  tell_more asked told b c entries more next os p es f all then,
  ap (λ l. l ++ p) out ∙ append_assoc o1 os p,
  ap (λ l. l ++ f) err ∙ append_assoc e1 es f,
)

-- the first lines of octets are entries, of which this was told, and lines that are held
pub record Told (asked : Asked) (xs ys : List ℕ) (tally : Tally) (held : List (List ℕ)) (Next : List ℕ → Type 0) (text errors : List ℕ) : Type 0 where
  pub lines : List (List ℕ)
  pub entries : List (List (List ℕ))
  pub begins : BeginsWithLines xs lines ys
  pub split : map seen lines ≡ lines_of entries ++ held
  pub tells : (next : List ℕ) → Next next → TellAll asked nothing_read entries (first held next) tally text errors

-- then more of them are told
moved : (asked : Asked) (xs ys zs : List ℕ) (before after : Tally) (held new left lines : List (List ℕ)) (Now Next : List ℕ → Type 0) (text errors more_text more_errors : List ℕ)
    → Told asked xs ys before held Now text errors → MovesLines asked before held new Next left after more_text more_errors
    → map seen lines ≡ new → ((ls : List (List ℕ)) → BeginsWithLines xs ls ys → BeginsWithLines xs (ls ++ lines) zs) → ((next : List ℕ) → Next next → Now (first new next))
    → Told asked xs zs after left Next (text ++ more_text) (errors ++ more_errors)
moved asked xs ys zs before after held new left lines Now Next text errors more_text more_errors t m is begins now =
    let both : lines_of (t.entries ++ m.ended) ++ left ≡ lines_of t.entries ++ (lines_of m.ended ++ left) =
    ap (λ l. l ++ left) (lines_both t.entries m.ended) ∙ append_assoc (lines_of t.entries) (lines_of m.ended) left in
    record {
      lines = t.lines ++ lines;
      entries = t.entries ++ m.ended;
      begins = begins t.lines t.begins;
      split = map-append seen t.lines lines
          ∙ (ap (λ l. l ++ map seen lines) t.split
          ∙ (append_assoc (lines_of t.entries) held (map seen lines)
          ∙ (ap (λ l. lines_of t.entries ++ l) (ap (λ l. held ++ l) is ∙ m.whole) ∙ sym both)));
      tells = λ next any.
          let same : first held (first new next) ≡ first (lines_of m.ended) (first left next) =
          sym (first_both held new next) ∙ (ap (λ l. first l next) m.whole ∙ first_both (lines_of m.ended) left next) in
          tell_more asked nothing_read before after t.entries m.ended (first left next) text more_text errors more_errors
          (subst (λ n. TellAll asked nothing_read t.entries n before text errors) same (t.tells (first new next) (now next any))) (m.tells next any);
    }

-- lines at the beginning of octets are those of one part and then those of another
pub record IsParted (xs ys : List ℕ) (a b : List (List ℕ)) : Type 0 where
  pub front : List (List ℕ)
  pub back : List (List ℕ)
  pub rest : List ℕ
  pub begins : BeginsWithLines xs front rest
  pub goes_on : BeginsWithLines rest back ys
  pub first : map seen front ≡ a
  pub then : map seen back ≡ b

parted : (xs ys : List ℕ) (lines a b : List (List ℕ)) → BeginsWithLines xs lines ys → map seen lines ≡ a ++ b → IsParted xs ys a b
parted xs ys lines [] b begins is = record { front = []; back = lines; rest = xs; begins = refl; goes_on = begins; first = refl; then = is }
parted xs ys [] (x ∷ a) b begins is = cc
parted xs ys (l ∷ lines) (x ∷ a) b (some, line, begins) is =
    let p = parted (drop_through 10 xs) ys lines a b begins (ap (drop 1) is) in
    record {
      front = l ∷ p.front;
      back = p.back;
      rest = p.rest;
      begins = (some, line, p.begins);
      goes_on = p.goes_on;
      first = first_is l x (map seen lines) (a ++ b) p.front a is p.first;
      then = p.then;
    }
  where
    first_is : (l x : List ℕ) (ls ms front a : List (List ℕ)) → seen l ∷ ls ≡ x ∷ ms → map seen front ≡ a → seen l ∷ map seen front ≡ x ∷ a
    first_is l x ls ms front a is same = cc

first_seen : (zs ys : List ℕ) (lines : List (List ℕ)) → BeginsWithLines zs lines ys → first (map seen lines) (seen (take_through 10 ys)) ≡ seen (take_through 10 zs)
first_seen zs ys [] same = ap (λ l. seen (take_through 10 l)) (sym same)
first_seen zs ys (l ∷ lines) (some, is, begins) = ap seen is

-- the entries that were told
settled : (asked : Asked) (xs ys : List ℕ) (tally : Tally) (held : List (List ℕ)) (Next : List ℕ → Type 0) (text errors : List ℕ)
    → Told asked xs ys tally held Next text errors → Next (seen (take_through 10 ys)) → (rest : List ℕ) × TellLines asked xs rest tally text errors
settled asked xs ys tally held Next text errors t next =
    let p = parted xs ys t.lines (lines_of t.entries) held t.begins t.split in
    let same : first held (seen (take_through 10 ys)) ≡ seen (take_through 10 p.rest) =
    ap (λ l. first l (seen (take_through 10 ys))) (sym p.then) ∙ first_seen p.rest ys p.back p.goes_on in (
      p.rest,
      record {
        lines = p.front;
        entries = t.entries;
        begins = p.begins;
        split = p.first;
        tells = subst (λ n. TellAll asked nothing_read t.entries n tally text errors) same (t.tells (seen (take_through 10 ys)) next);
      },
    )

-- ---- so far

pub record GoesKnown (asked : Asked) (xs ys : List ℕ) (Next : List ℕ → Type 0) (progress : Progress) (out out_after err err_after : Option (List ℕ)) : Type 0 where
  pub held : List (List ℕ)
  pub text : List ℕ
  pub errors : List ℕ
  pub told : Told asked xs ys progress.tally held Next text errors
  pub stands : Stands asked.join progress.tally.lines progress.kept held
  pub output : Appends out out_after text
  pub error : Appends err err_after errors

-- where the octets were known, what is left is known, and the entries before it were told
abbrev pub Goes : Asked → Option (List ℕ) → Option (List ℕ) → (List ℕ → Type 0) → Progress → (out out_after err err_after : Option (List ℕ)) → Type 0
Goes asked None left Next progress a b c d = Unit {0}
Goes asked (Some octets) None Next progress a b c d = ⊥
Goes asked (Some octets) (Some left) Next progress a b c d = GoesKnown asked octets left Next progress a b c d

abbrev pub Any : List ℕ → Type 0
Any next = ⊤

pub begins : (asked : Asked) (r w e : Option (List ℕ)) → Goes asked r r Any (record { tally = nothing_read; kept = None }) w w e e
begins asked None w e = tt
begins asked (Some xs) w e = record {
  held = [];
  text = [];
  errors = [];
  told = record { lines = []; entries = []; begins = refl; split = refl; tells = λ next any. (refl, refl, refl) };
  stands = refl;
  output = none_yet w;
  error = none_yet e;
}

-- the lines that were held end, or go on
pub goes_end : (asked : Asked) (from old : Option (List ℕ)) (line : List ℕ) (before after : Progress) (a b c d e f : Option (List ℕ))
    → Goes asked from old Any before a b d e → ((held : List (List ℕ)) → Stands asked.join before.tally.lines before.kept held → Moves asked before held [] (λ n. n ≡ line) after b c e f)
    → Goes asked from old (λ n. n ≡ line) after a c d f
goes_end asked None old line before after a b c d e f so moves = tt
goes_end asked (Some xs) None line before after a b c d e f so moves = absurd so
goes_end asked (Some xs) (Some ys) line before after a b c d e f so moves =
    let m = moves so.held so.stands in
    record {
      held = m.left;
      text = so.text ++ m.text;
      errors = so.errors ++ m.errors;
      told =
          moved asked xs ys ys before.tally after.tally so.held [] m.left [] Any (λ n. n ≡ line) so.text so.errors m.text m.errors so.told m.lines
          refl (λ ls is. subst (λ l. BeginsWithLines xs l ys) (sym (append-nil ls)) is) (λ next any. tt);
      stands = m.stands;
      output = Appends-trans a b c so.text m.text so.output m.output;
      error = Appends-trans d e f so.errors m.errors so.error m.error;
    }

-- one line more, of which so much is held
pub goes_take : (asked : Asked) (from old new : Option (List ℕ)) (line : List ℕ) (before after : Progress) (a b c d e f : Option (List ℕ))
    → Goes asked from old (λ n. n ≡ line) before a b d e → IfSome old (λ ys. line ≡ seen (take_through 10 ys)) → DropsThrough old new 10 → 0 < length line
    → ((held : List (List ℕ)) → Stands asked.join before.tally.lines before.kept held → Moves asked before held (line ∷ []) (λ n. ⊤) after b c e f)
    → Goes asked from new Any after a c d f
goes_take asked None old new line before after a b c d e f so is drops some moves = tt
goes_take asked (Some xs) None new line before after a b c d e f so is drops some moves = absurd so
goes_take asked (Some xs) (Some ys) None line before after a b c d e f so is drops some moves = absurd (subst is_known (sym drops) tt)
goes_take asked (Some xs) (Some ys) (Some zs) line before after a b c d e f so is drops some moves =
    let m = moves so.held so.stands in
    let rest : zs ≡ drop_through 10 ys = ap content drops in
    record {
      held = m.left;
      text = so.text ++ m.text;
      errors = so.errors ++ m.errors;
      told = moved asked xs ys zs before.tally after.tally so.held (line ∷ []) m.left (take_through 10 ys ∷ []) (λ n. n ≡ line) Any so.text so.errors m.text m.errors so.told m.lines
          (ap (λ l. l ∷ []) (sym is)) (λ ls begins.
          subst (BeginsWithLines xs (ls ++ take_through 10 ys ∷ [])) (sym rest) (one_more xs ls ys begins (held_some 1048577 ys line is some)))
          (λ next any. refl);
      stands = m.stands;
      output = Appends-trans a b c so.text m.text so.output m.output;
      error = Appends-trans d e f so.errors m.errors so.error m.error;
    }

-- nothing is left, and nothing held
pub ends : (asked : Asked) (from old : Option (List ℕ)) (line : List ℕ) (progress : Progress) (a b c d : Option (List ℕ))
    → Goes asked from old (λ n. n ≡ line) progress a b c d → IfSome old (λ ys. line ≡ seen (take_through 10 ys))
    → progress.kept ≡ None → IsAtEnd old → IfSome from (λ octets. AreTold asked octets [] progress.tally a b c d)
ends asked None old line progress a b c d so is none over = tt
ends asked (Some xs) None line progress a b c d so is none over = absurd so
ends asked (Some xs) (Some ys) line progress a b c d so is none over =
    let empty : so.held ≡ [] = subst (λ k. Stands asked.join progress.tally.lines k so.held) none so.stands in
    let tells : TellLines asked xs ys progress.tally so.text so.errors = record {
      lines = so.told.lines;
      entries = so.told.entries;
      begins = so.told.begins;
      split = so.told.split ∙ (ap (λ l. lines_of so.told.entries ++ l) empty ∙ append-nil (lines_of so.told.entries));
      tells = subst (λ h. TellAll asked nothing_read so.told.entries (first h (seen (take_through 10 ys))) progress.tally so.text so.errors) empty (so.told.tells (seen (take_through 10 ys)) (sym is));
    } in
    record { text = so.text; errors = so.errors; tells = subst (λ l. TellLines asked xs l progress.tally so.text so.errors) over tells; output = so.output; error = so.error }

-- the first entries were told
pub first_told : (asked : Asked) (from old : Option (List ℕ)) (Next : List ℕ → Type 0) (progress : Progress) (a b c d e f : Option (List ℕ)) → Goes asked from old Next progress a b d e
    → IfSome old (λ ys. Next (seen (take_through 10 ys))) → b ≡ c → e ≡ f → IfSome from (λ octets. AreFirstTold asked octets a c d f)
first_told asked None old Next progress a b c d e f so next out err = tt
first_told asked (Some xs) None Next progress a b c d e f so next out err = absurd so
first_told asked (Some xs) (Some ys) Next progress a b c d e f so next out err =
    let s = settled asked xs ys progress.tally so.held Next so.text so.errors so.told next in
    (s.0, progress.tally, record { text = so.text; errors = so.errors; tells = s.1; output = subst (λ w. Appends a w so.text) out so.output; error = subst (λ w. Appends d w so.errors) err so.error })

pub else_written : (fault : DumpFault) → (fault ≡ faults.Write) ⊎ (fault ≡ faults.Closed) → fault ≢ faults.Memory
else_written fault (inl is) memory = let wrong : faults.Write ≡ faults.Memory = sym is ∙ memory in cc
else_written fault (inr is) memory = let wrong : faults.Closed ≡ faults.Memory = sym is ∙ memory in cc

-- all of it is a beginning
pub in_part : (from : Option (List ℕ)) (asked : Asked) (a b c d : Option (List ℕ)) → IfSome from (λ octets. AreFirstTold asked octets a b c d)
    → IfSome from (λ octets. AreToldInPart asked octets a b c d)
in_part None asked a b c d told = tt
in_part (Some xs) asked a b c d (rest, tally, told) = record {
  rest = rest;
  tally = tally;
  text = told.text;
  errors = told.errors;
  tells = told.tells;
  output = front_whole a b told.text told.output;
  error = front_whole c d told.errors told.error;
}

-- the lines that were held were told in part
pub part_end : (asked : Asked) (from old : Option (List ℕ)) (line : List ℕ) (before : Progress) (a b c d e f : Option (List ℕ))
    → Goes asked from old Any before a b d e → IfSome old (λ ys. line ≡ seen (take_through 10 ys))
    → ((held : List (List ℕ)) → Stands asked.join before.tally.lines before.kept held → MovesInPart asked before held [] (λ n. n ≡ line) b c e f)
    → IfSome from (λ octets. AreToldInPart asked octets a c d f)
part_end asked None old line before a b c d e f so is moves = tt
part_end asked (Some xs) None line before a b c d e f so is moves = absurd so
part_end asked (Some xs) (Some ys) line before a b c d e f so is moves =
    let m = moves so.held so.stands in
    let told =
    moved asked xs ys ys before.tally m.after so.held [] m.left [] Any (λ n. n ≡ line) so.text so.errors m.text m.errors so.told m.lines refl
    (λ ls is. subst (λ l. BeginsWithLines xs l ys) (sym (append-nil ls)) is) (λ next any. tt) in
    let s = settled asked xs ys m.after m.left (λ n. n ≡ line) (so.text ++ m.text) (so.errors ++ m.errors) told (sym is) in
    record {
      rest = s.0;
      tally = m.after;
      text = so.text ++ m.text;
      errors = so.errors ++ m.errors;
      tells = s.1;
      output = front_after a b c so.text m.text so.output m.output;
      error = front_after d e f so.errors m.errors so.error m.error;
    }

-- or one line more
pub part_take : (asked : Asked) (from old new : Option (List ℕ)) (line : List ℕ) (before : Progress) (a b c d e f : Option (List ℕ))
    → Goes asked from old (λ n. n ≡ line) before a b d e → IfSome old (λ ys. line ≡ seen (take_through 10 ys)) → DropsThrough old new 10 → 0 < length line
    → ((held : List (List ℕ)) → Stands asked.join before.tally.lines before.kept held → MovesInPart asked before held (line ∷ []) (λ n. ⊤) b c e f)
    → IfSome from (λ octets. AreToldInPart asked octets a c d f)
part_take asked None old new line before a b c d e f so is drops some moves = tt
part_take asked (Some xs) None new line before a b c d e f so is drops some moves = absurd so
part_take asked (Some xs) (Some ys) None line before a b c d e f so is drops some moves = absurd (subst is_known (sym drops) tt)
part_take asked (Some xs) (Some ys) (Some zs) line before a b c d e f so is drops some moves =
    let m = moves so.held so.stands in
    let rest : zs ≡ drop_through 10 ys = ap content drops in
    let told = moved asked xs ys zs before.tally m.after so.held (line ∷ []) m.left (take_through 10 ys ∷ []) (λ n. n ≡ line) Any so.text so.errors m.text m.errors so.told m.lines
    (ap (λ l. l ∷ []) (sym is))
    (λ ls begins. subst (BeginsWithLines xs (ls ++ take_through 10 ys ∷ [])) (sym rest) (one_more xs ls ys begins (held_some 1048577 ys line is some)))
    (λ next any. refl) in
    let s = settled asked xs zs m.after m.left Any (so.text ++ m.text) (so.errors ++ m.errors) told tt in
    record {
      rest = s.0;
      tally = m.after;
      text = so.text ++ m.text;
      errors = so.errors ++ m.errors;
      tells = s.1;
      output = front_after a b c so.text m.text so.output m.output;
      error = front_after d e f so.errors m.errors so.error m.error;
    }

-- ---- which line is next

pub any_next : (o : Option (List ℕ)) → IfSome o (λ ys. Any (seen (take_through 10 ys)))
any_next None = tt
any_next (Some ys) = tt

pub that_next : (o : Option (List ℕ)) (line : List ℕ) → IfSome o (λ ys. line ≡ seen (take_through 10 ys)) → IfSome o (λ ys. seen (take_through 10 ys) ≡ line)
that_next None line is = tt
that_next (Some ys) line is = sym is
