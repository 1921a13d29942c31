-- Lines that are held back until it is known that no more of them belong together.
use Rattle.std.specs.Prelude.{◌≡◌, ℕ, ◌+◌, ◌^◌, ◌<◌, Bool, true, false, List, [], ◌++◌, length, ⊤, Option, Some, None, MatchOption}
use Rattle.std.specs.List.{sum_by, flat_map}
use Rattle.std.specs.Io.KnownBytes.{Appends}
use Rattle.gtp_counted.specs.Streams.{WritesFront}
use Rattle.gtp_dump.specs.Entries.{Reading, Nothing, Bad, Datagram, row_size, GoesOnAt, StandTogether, digits_of, AreGood, IsFirstWrong}
use Rattle.gtp_dump.specs.Decoded.{lines_of, first, TellAll}
use Rattle.gtp_dump.specs.declared.entry.Kept.{Kept}
use Rattle.gtp_dump.specs.declared.entry.Reading.{Reading as Given}
use Rattle.gtp_dump.specs.declared.entry.Reading.TheVariants as given
use Rattle.gtp_dump.specs.declared.decoding.Asked.{Asked}
use Rattle.gtp_dump.specs.declared.decoding.Tally.{Tally}
use Rattle.gtp_dump.specs.declared.decoding.Progress.{Progress}

-- what is given, without the memory that it is in
abbrev pub reading_of : Given → Reading
reading_of given.Nothing = Nothing
reading_of (given.Bad number flaw) = Bad number flaw
reading_of (given.Datagram dumped) = Datagram dumped.plane dumped.octets.items

-- these lines are held, after so many others: their number, of rows the octets, and all digits or the first line that is wrong
pub record IsKept (start : ℕ) (kept : Kept) (lines : List (List ℕ)) : Type 0 where
  pub count : kept.lines ≡ length lines
  pub octets : kept.is_joined ≡ false → kept.octets ≡ sum_by row_size lines
  pub so_far : MatchOption kept.wrong
      (AreGood kept.is_joined lines × (kept.size ≡ sum_by length lines) × (kept.digits.items ≡ flat_map (digits_of kept.is_joined) lines))
      (λ wrong. IsFirstWrong kept.is_joined start lines wrong.number wrong.flaw)

-- and stand together
abbrev pub Stands : Bool → ℕ → Option Kept → List (List ℕ) → Type 0
Stands join start None lines = lines ≡ []
Stands join start (Some kept) lines = IsKept start kept lines × StandTogether kept.is_joined lines × (kept.is_joined ≡ true → join ≡ true)

-- a line goes on after those that are held
abbrev pub GoesOnAfter : Option Kept → List ℕ → Type 0
GoesOnAfter None line = ⊤
GoesOnAfter (Some kept) line = GoesOnAt kept.is_joined kept.octets line × (kept.is_joined ≡ false → kept.octets < 2 ^ 32)

-- how many lines were read, and how many datagrams are shown or are to be
abbrev pub kept_lines : Option Kept → ℕ
kept_lines None = 0
kept_lines (Some kept) = kept.lines

abbrev pub kept_count : Option Kept → ℕ
kept_count None = 0
kept_count (Some kept) = 1

abbrev pub lines_read : Progress → ℕ
lines_read progress = progress.tally.lines + kept_lines progress.kept

abbrev pub datagrams_begun : Progress → ℕ
datagrams_begun progress = progress.tally.datagrams + kept_count progress.kept

-- of lines that were held, and new ones, entries are told, whatever line of this kind is next, and the others are left
pub record MovesLines (asked : Asked) (before : Tally) (held new : List (List ℕ)) (Next : List ℕ → Type 0) (left : List (List ℕ)) (after : Tally) (text errors : List ℕ) : Type 0 where
  pub ended : List (List (List ℕ))
  pub whole : held ++ new ≡ lines_of ended ++ left
  pub tells : (next : List ℕ) → Next next → TellAll asked before ended (first left next) after text errors

-- these were told, and those are held
pub record Moves (asked : Asked) (before : Progress) (held new : List (List ℕ)) (Next : List ℕ → Type 0) (after : Progress) (out out_after err err_after : Option (List ℕ)) : Type 0 where
  pub left : List (List ℕ)
  pub text : List ℕ
  pub errors : List ℕ
  pub lines : MovesLines asked before.tally held new Next left after.tally text errors
  pub stands : Stands asked.join after.tally.lines after.kept left
  pub output : Appends out out_after text
  pub error : Appends err err_after errors

-- or a beginning of what is told was written
pub record MovesInPart (asked : Asked) (before : Progress) (held new : List (List ℕ)) (Next : List ℕ → Type 0) (out out_after err err_after : Option (List ℕ)) : Type 0 where
  pub left : List (List ℕ)
  pub after : Tally
  pub text : List ℕ
  pub errors : List ℕ
  pub lines : MovesLines asked before.tally held new Next left after text errors
  pub output : WritesFront out out_after text
  pub error : WritesFront err err_after errors
