-- The canonical_encoding of a message spells it, where its fields meet its table.
use Rattle.std.proofs.Common.{◌≡◌, ◌⊎◌, inl, inr, ℕ, ◌+◌, ◌*◌, ◌/◌, ◌%◌, ◌<◌, ◌≤◌, ◌^◌, Bool, true, false, cond, ◌&&◌, List, [], ◌∷◌, length, Option, Some, None, Ok, refl, subst, arith, eq-eqb}
use Rattle.std.specs.Prelude.{◌==◌, is_some}
use Rattle.byteorder.specs.Endian.{big_number}
use Rattle.gtp_values.proofs.Decided.{bind_ok}
use Rattle.gtp_ie.specs.Element.{elements_of}
use Rattle.gtp_values.proofs.Tests.{both}
use Rattle.gtp_v2.specs.Table.{start, Table}
use Rattle.gtp_v2.specs.reading.Rows.{whole, lines_at}
use Rattle.gtp_v2.specs.Apart.{lines_apart, all_fit, is_table}
use Rattle.gtp_v2.proofs.Meets.{LinesMeet}
use Rattle.gtp_v2.specs.Headed.{Headed}
use Rattle.gtp_v2.specs.reading.Headed.{header_at}
use Rattle.gtp_v2.specs.Message.{Content, Fields, Raw, MessageValue}
use Rattle.gtp_v2.specs.Tables.{tables, table_among, table_of}
use Rattle.gtp_v2.specs.Text.{lines_encoding}
use Rattle.gtp_v2.specs.Datagram.{CarriesBy, IsMessage}
use Rattle.gtp_values.specs.Numbers.{three, four}
use Rattle.gtp_v2.specs.Encoding.{carried, carried_by, headed_encoding, canonical_encoding, HeaderMeets}
use Rattle.gtp_v2.proofs.Decided.{whole_decided, lines_decided}
use Rattle.gtp_v2.proofs.Headers.{header_decided}
use Rattle.gtp_v2.proofs.Again.{fields_again}

-- a length of two octets is read again
size_again : (n : ℕ) (octets : List ℕ) → n < 65536 → n ≡ length octets → (256 * ((n / 256) % 256) + n % 256 == length octets) ≡ true
size_again n octets lt is = eq-eqb _ _ (omega arith)

abbrev headed_by : ℕ → Option ℕ → ℕ → Option ℕ → List ℕ → ℕ → Headed
headed_by kind teid seq priority rest at = record { kind = kind; teid = teid; seq = seq; priority = priority; rest = rest; at = at }

-- where what a message carries begins
abbrev place_of : Option ℕ → ℕ
place_of None = 8
place_of (Some teid) = 12

four_again : (n : ℕ) → n < 2 ^ 32 → big_number 4 (four n []) ≡ n
four_again n lt = omega arith

three_again : (n : ℕ) → n < 2 ^ 24 → big_number 3 (three n []) ≡ n
three_again n lt = omega arith

header_again : (kind : ℕ) (teid : Option ℕ) (seq : ℕ) (priority : Option ℕ) (rest : List ℕ) → HeaderMeets teid seq priority → length (headed_encoding kind teid seq priority rest) ≤ 65539
    → header_at (headed_encoding kind teid seq priority rest) ≡ Ok (headed_by kind teid seq priority rest (place_of teid))
header_again kind None seq None rest m lt = rw (size_again (4 + length rest) (three seq (0 ∷ rest)) (omega arith) (omega arith), three_again seq m) refl
header_again kind None seq (Some p) rest m lt = absurd m
header_again kind (Some teid) seq None rest m lt = rw (size_again (8 + length rest) (four teid (three seq (0 ∷ rest))) (omega arith) (omega arith), four_again teid m.0, three_again seq m.1) refl
header_again kind (Some teid) seq (Some p) rest m lt =
    let same : (16 * p) / 16 ≡ p = omega arith in
    rw (size_again (8 + length rest) (four teid (three seq ((16 * p) ∷ rest))) (omega arith) (omega arith), four_again teid m.0, three_again seq m.1, same) refl

-- whether each of these tables passes a test
abbrev pub all_pass : (Table → Bool) → List Table → Bool
all_pass test [] = true
all_pass test (table ∷ others) = test table && all_pass test others

-- the first of two, or the second by a test
either_of : (b : Bool) (first table : Table) (others : Option Table) → cond b (Some first) others ≡ Some table → (first ≡ table) ⊎ (others ≡ Some table)
either_of true first table others h = inl cc
either_of false first table others h = inr h

-- a table among tables that pass
one_passes : (test : Table → Bool) (kind : ℕ) (all : List Table) (table : Table) → all_pass test all ≡ true → table_among kind all ≡ Some table → test table ≡ true
one_passes test kind [] table pass h = absurd cc
one_passes test kind (first ∷ others) table pass h =
    let p = both (test first) (all_pass test others) pass in
    elim (either_of (kind == first.kind) first table (table_among kind others) h) [
      | inl is ↦ subst (λ (t : Table). test t ≡ true) is p.left
      | inr later ↦ one_passes test kind others table p.right later
    ]

-- each table passes a test that all of them pass
pub tables_pass : (test : Table → Bool) → all_pass test tables ≡ true → (kind : ℕ) (table : Table) → table_of kind ≡ Some table → test table ≡ true
tables_pass test pass kind table h = one_passes test kind tables table pass h

-- each table's lines have types and instances of their own
tables_apart : (kind : ℕ) (table : Table) → table_of kind ≡ Some table → lines_apart table.lines ≡ true
tables_apart kind table h = (both (lines_apart table.lines) (all_fit table.lines) (tables_pass (λ t. is_table t.lines) refl kind table h)).left

pub tables_fit : (kind : ℕ) (table : Table) → table_of kind ≡ Some table → all_fit table.lines ≡ true
tables_fit kind table h = (both (lines_apart table.lines) (all_fit table.lines) (tables_pass (λ t. is_table t.lines) refl kind table h)).right

-- the fields meet the kind's table
abbrev pub ContentMeets : Option Table → Option ℕ → Content → Type 0
ContentMeets None teid (Raw octets) = Unit {0}
ContentMeets None teid (Fields fields) = ⊥
ContentMeets (Some table) teid (Raw octets) = ⊥
ContentMeets (Some table) teid (Fields fields) = (is_some teid ≡ table.has_teid) × LinesMeet start table.lines fields

content_again : (table : Option Table) (kind : ℕ) (teid : Option ℕ) (seq : ℕ) (priority : Option ℕ) (content : Content)
    → ((t : Table) → table ≡ Some t → lines_apart t.lines ≡ true) → ContentMeets table teid content
    → CarriesBy table (headed_by kind teid seq priority (carried_by table content) (place_of teid)) content
content_again None kind teid seq priority (Raw octets) apart m = refl
content_again None kind teid seq priority (Fields fields) apart m = absurd m
content_again (Some table) kind teid seq priority (Raw octets) apart m = absurd m
content_again (Some table) kind teid seq priority (Fields fields) apart m =
    let at : ℕ = place_of teid in
    let again = fields_again at table.lines fields (apart table refl) m.1 in
    let b = bind_ok (whole (elements_of at (lines_encoding table.lines fields))) (λ es. lines_at start table.lines es) fields again in
    (m.0, fields, (b.0, (whole_decided at (lines_encoding table.lines fields)).ok b.0 b.1, (lines_decided start table.lines b.0).ok fields b.2), refl)

pub text_again : (m : MessageValue) → HeaderMeets m.teid m.seq m.priority → ContentMeets (table_of m.kind) m.teid m.content → length (canonical_encoding m) ≤ 65539 → IsMessage (canonical_encoding m) m
text_again m header content short = (
  headed_by m.kind m.teid m.seq m.priority (carried m) (place_of m.teid),
  (header_decided (canonical_encoding m)).ok (headed_by m.kind m.teid m.seq m.priority (carried m) (place_of m.teid)) (header_again m.kind m.teid m.seq m.priority (carried m) header short),
  (m.content, content_again (table_of m.kind) m.kind m.teid m.seq m.priority m.content (tables_apart m.kind) content, refl),
)
