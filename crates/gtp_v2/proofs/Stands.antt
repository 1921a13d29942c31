-- What stands in the rows of a message that octets spell.
use Rattle.std.proofs.Common.{◌≡◌, ℕ, true, List, [], ◌∷◌, Option, Some, None, refl, sym, ap, ◌∙◌}
use Rattle.std.specs.Prelude.{unwrap_or}
use Rattle.gtp_ie.specs.Value.{Value}
use Rattle.gtp_v2.specs.Datagram.{IsMessage, CarriesBy}
use Rattle.gtp_v2.specs.Headed.{Headed}
use Rattle.gtp_v2.specs.Message.{Content, Fields, MessageValue}
use Rattle.gtp_v2.specs.Table.{Field, Table, start}
use Rattle.gtp_v2.specs.Tables.{table_of}
use Rattle.gtp_v2.specs.Viewed.{Viewed, row_of, always_has, contexts_of, always_has_context}
use Rattle.gtp_ie.specs.Element.{Element}
use Rattle.gtp_v2.proofs.ContextValues.{some_context}
use Rattle.gtp_v2.proofs.Decided.{lines_decided}
use Rattle.gtp_v2.proofs.Views.{ReadBy, IsRead, always_is}

read_of : (table : Option Table) (h : Headed) (content : Content) → CarriesBy table h content → (es : List Element) × ReadBy table content es
read_of None h content carries = ([], tt)
read_of (Some table) h content carries = let by = carries.2 in (by.0, (carries.1, carries.3, (lines_decided start table.lines by.0).is carries.1 by.2))

-- a message that octets spell is read of some elements
seen_of : (octets : List ℕ) (m : MessageValue) → IsMessage octets m → (v : Viewed) × (v.message ≡ m) × IsRead v
seen_of octets m (h, headed, (content, carries, is)) =
    let r = read_of (table_of h.kind) h content carries in
    (record { message = record { kind = h.kind; teid = h.teid; seq = h.seq; priority = h.priority; content = content }; octets = h.rest; elements = r.0 }, sym is, r.1)

fields_by : (table : Option Table) (t : Table) (content : Content) (es : List Element) → table ≡ Some t → ReadBy table content es → (fields : List Field) × (content ≡ Fields fields)
fields_by None t content es is read = absurd cc
fields_by (Some u) t content es is read = (read.0, read.1)

-- where its type has a table, it carries fields
pub has_fields : (octets : List ℕ) (m : MessageValue) (table : Table) → IsMessage octets m → table_of m.kind ≡ Some table → (fields : List Field) × (m.content ≡ Fields fields)
has_fields octets m table is tabled =
    let s = seen_of octets m is in
    let f = fields_by (table_of s.0.message.kind) table s.0.message.content s.0.elements (ap (λ (n : MessageValue). table_of n.kind) s.1 ∙ tabled) s.2 in
    (f.0, ap (λ (n : MessageValue). n.content) (sym s.1) ∙ f.1)

-- a row that always has a value has one
pub has_value : (kind instance : ℕ) (octets : List ℕ) (m : MessageValue) → IsMessage octets m → always_has m.kind kind instance ≡ true → (v : Value) × (row_of kind instance m ≡ v ∷ [])
has_value kind instance octets m is always =
    let s = seen_of octets m is in
    let v = always_is kind instance s.0 s.2 (ap (λ (n : MessageValue). always_has n.kind kind instance) s.1 ∙ always) in
    (v.0, ap (row_of kind instance) (sym s.1) ∙ ap (λ (o : Option (List Value)). unwrap_or o []) v.1)

some_first : (groups : List (List (List Value))) → (groups ≡ [] → ⊥) → (first : List (List Value)) × (further : List (List (List Value))) × (groups ≡ first ∷ further)
some_first [] some = absurd (some refl)
some_first (first ∷ further) some = (first, further, refl)

-- and where there always is a bearer context there is one
pub has_context : (octets : List ℕ) (m : MessageValue) → IsMessage octets m → always_has_context m.kind ≡ true
    → (first : List (List Value)) × (further : List (List (List Value))) × (contexts_of m ≡ first ∷ further)
has_context octets m is always =
    let s = seen_of octets m is in
    some_first (contexts_of m) (λ none. some_context s.0 s.2 (ap (λ (n : MessageValue). always_has_context n.kind) s.1 ∙ always) (ap contexts_of s.1 ∙ none))
