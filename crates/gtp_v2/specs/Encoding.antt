-- The canonical encoding of a message, and which messages have one.
use Rattle.std.specs.Prelude.{◌≡◌, ℕ, true, ◌+◌, ◌*◌, ◌<◌, ◌≤◌, ◌^◌, List, [], ◌∷◌, length, Option, Some, None}
use Rattle.gtp_values.specs.Numbers.{two, three, four}
use Rattle.gtp_v2.specs.Apart.{is_table}
use Rattle.gtp_v2.specs.Flags.{version_2, with_teid, with_priority}
use Rattle.gtp_v2.specs.Kinds.{ContentHasKinds, LinesHaveKinds}
use Rattle.gtp_v2.specs.Marks.{LinesMarked, MeetsMarks}
use Rattle.gtp_v2.specs.Message.{Content, Fields, Raw, MessageValue}
use Rattle.gtp_v2.specs.Table.{Line, Field, start, Table}
use Rattle.gtp_v2.specs.Tables.{table_of}
use Rattle.gtp_v2.specs.Text.{lines_encoding}

-- the octets of what a message carries
abbrev pub carried_by : Option Table → Content → List ℕ
carried_by (Some table) (Fields fields) = lines_encoding table.lines fields
carried_by (Some table) (Raw octets) = []
carried_by None (Fields fields) = []
carried_by None (Raw octets) = octets

abbrev pub carried : MessageValue → List ℕ
carried m = carried_by (table_of m.kind) m.content

-- the header, and what the message carries: spare bits 0
abbrev pub headed_encoding : ℕ → Option ℕ → ℕ → Option ℕ → List ℕ → List ℕ
headed_encoding kind None seq priority rest = version_2 ∷ kind ∷ two (4 + length rest) (three seq (0 ∷ rest))
headed_encoding kind (Some teid) seq None rest = (version_2 + with_teid) ∷ kind ∷ two (8 + length rest) (four teid (three seq (0 ∷ rest)))
headed_encoding kind (Some teid) seq (Some priority) rest = (version_2 + with_teid + with_priority) ∷ kind ∷ two (8 + length rest) (four teid (three seq ((16 * priority) ∷ rest)))

-- the header with its length still 0
abbrev pub open_header : ℕ → Option ℕ → ℕ → Option ℕ → List ℕ
open_header kind None seq priority = version_2 ∷ kind ∷ 0 ∷ 0 ∷ three seq (0 ∷ [])
open_header kind (Some teid) seq None = (version_2 + with_teid) ∷ kind ∷ 0 ∷ 0 ∷ four teid (three seq (0 ∷ []))
open_header kind (Some teid) seq (Some priority) = (version_2 + with_teid + with_priority) ∷ kind ∷ 0 ∷ 0 ∷ four teid (three seq ((16 * priority) ∷ []))

abbrev pub canonical_encoding : MessageValue → List ℕ
canonical_encoding m = headed_encoding m.kind m.teid m.seq m.priority (carried m)

-- the ranges of a header's numbers; a priority needs a TEID
abbrev pub HeaderMeets : Option ℕ → ℕ → Option ℕ → Type 0
HeaderMeets None seq None = seq < 2 ^ 24
HeaderMeets None seq (Some priority) = ⊥
HeaderMeets (Some teid) seq None = (teid < 2 ^ 32) × (seq < 2 ^ 24)
HeaderMeets (Some teid) seq (Some priority) = (teid < 2 ^ 32) × (seq < 2 ^ 24) × (priority < 16)

-- fields whose canonical encoding gives them back: each row of the table can be found again, their values are of its rows' types, what its marks ask is there,
-- and two octets state the length of the canonical encoding
pub record FieldsMeet (lines : List Line) (fields : List Field) : Type 0 where
  pub table : is_table lines ≡ true
  pub kinds : LinesHaveKinds lines fields
  pub marks : LinesMarked start lines fields
  pub short : length (lines_encoding lines fields) < 65536

-- a message whose canonical encoding spells it: its numbers have room in the header, its values are of its table's types, what the table's
-- marks ask is there, and the length of all but the first four octets stands in two
pub record Meets (m : MessageValue) : Type 0 where
  pub header : HeaderMeets m.teid m.seq m.priority
  pub kinds : ContentHasKinds (table_of m.kind) m.content
  pub marks : MeetsMarks m
  pub short : length (canonical_encoding m) ≤ 65535 + 4
