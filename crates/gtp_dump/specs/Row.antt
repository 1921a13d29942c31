-- A row of a hex dump, as Wireshark, tcpdump, xxd and hexdump write them: an offset, at most 16 octets, and perhaps the same as text.
use Rattle.std.specs.Prelude.{ℕ, ◌+◌, ◌==◌, ◌||◌, ◌&&◌, nat_le, Bool, if◌then◌else◌, List, [], ◌∷◌, length, take, drop, slice_index}
use Rattle.std.specs.List.{prefix_len, take_while}
use Rattle.std.specs.Char.{is_ascii_whitespace, is_digit}
use Rattle.std.specs.Str.Parse.{digits_value}
use Rattle.gtp_dump.specs.Text.{begins_prefix, digits_in, has_digits}

-- a text from the first character on that is no blank
abbrev pub from_text : List ℕ → List ℕ
from_text text = drop (prefix_len is_ascii_whitespace text) text

-- a text behind the prefix 0x, where it begins with one
abbrev pub behind_prefix : List ℕ → List ℕ
behind_prefix [] = []
behind_prefix (a ∷ rest) = if begins_prefix a rest then drop 1 rest else (a ∷ rest)

abbrev pub is_hex : ℕ → Bool
is_hex c = is_digit c 16

-- the digits of the offset, and what follows them
abbrev pub offset_digits : List ℕ → List ℕ
offset_digits line = take_while is_hex (behind_prefix (from_text line))

abbrev pub behind_offset : List ℕ → List ℕ
behind_offset line = drop (prefix_len is_hex (behind_prefix (from_text line))) (behind_prefix (from_text line))

abbrev pub is_blank_at : List ℕ → ℕ → Bool
is_blank_at text i = is_ascii_whitespace (slice_index text i)

-- an offset ends at a colon, at a blank, or with the text
abbrev pub ends_offset : List ℕ → Bool
ends_offset text = (length text == 0) || ((slice_index text 0 == 58) || is_blank_at text 0)

-- a line begins with an offset: three to eight digits, and their end
abbrev pub has_offset : List ℕ → Bool
has_offset line = (nat_le 3 (length (offset_digits line)) && nat_le (length (offset_digits line)) 8) && ends_offset (behind_offset line)

-- and that is this one
abbrev pub is_row_at : ℕ → List ℕ → Bool
is_row_at offset line = has_offset line && (digits_value 16 (offset_digits line) == offset)

-- a row from the first of its octets on: behind the colon or the blank, and further blanks
abbrev pub row_from : List ℕ → List ℕ
row_from line = from_text (drop 1 (behind_offset line))

-- the column of the octets ends at three blanks or a bar
abbrev pub ends_column : List ℕ → Bool
ends_column text = (slice_index text 0 == 124) || ((is_blank_at text 0 && is_blank_at text 1) && is_blank_at text 2)

abbrev pub column_len : List ℕ → ℕ
column_len [] = 0
column_len (c ∷ rest) = if ends_column (c ∷ rest) then 0 else (1 + column_len rest)

abbrev pub column : List ℕ → List ℕ
column text = take (column_len text) text

-- the digits of a row: those of at most 16 octets; what follows them is text
abbrev pub row_digits : List ℕ → List ℕ
row_digits line = take 32 (digits_in (column (row_from line)))

-- a line begins a dump: it is a row of digits at the offset 0. No datagram begins with two octets that are 0
abbrev pub begins_dump : List ℕ → Bool
begins_dump line = is_row_at 0 line && has_digits (column (row_from line))
