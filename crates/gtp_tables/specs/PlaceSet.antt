-- Sets of places, as words of 64 bits.
use Rattle.std.specs.Prelude.{◌≡◌, false, cond, nat_eq, ℕ, ◌*◌, ◌/◌, ◌%◌, ◌^◌, ◌≤◌, List, length, Bool, not, ◌==◌, slice_index}
use Rattle.std.specs.Int.{bit_at}

-- whether the set has a place: its bit is set
abbrev pub has_place : List ℕ → ℕ → Bool
has_place words place = bit_at (slice_index words (place / 64)) (place % 64) == 1

-- whether a word has no place
abbrev pub is_empty : List ℕ → ℕ → Bool
is_empty words word = slice_index words word == 0

-- a second set has the words that are not empty
pub record AreSummed (words summary : List ℕ) : Type 0 where
  pub few : length words ≤ 2 ^ 32
  pub few_summed : length summary ≤ 2 ^ 32
  pub within : length words ≤ 64 * length summary
  pub summed : (word : ℕ) → has_place summary word ≡ not (is_empty words word)

-- the bit of one place is written
pub record IsWritten (words : List ℕ) (place : ℕ) (bit : Bool) (now : List ℕ) : Type 0 where
  pub room : length now ≡ length words
  pub places : (p : ℕ) → has_place now p ≡ cond (nat_eq p place) bit (has_place words p)
  pub others : (w : ℕ) → nat_eq w (place / 64) ≡ false → slice_index now w ≡ slice_index words w
