-- The lines of the messages that octets spell, plain or by names.
use Rattle.std.specs.Prelude.{◌≡◌, ℕ, Bool, true, false, List, [], ◌++◌, drop, ◌⊎◌, codes}
use Rattle.std.specs.List.{flat_map}
use Rattle.gtp_ie.specs.Element.{Element}
use Rattle.gtp_ie.specs.Octets.{AreElements}
use Rattle.gtp_v2.specs.declared.fault.V2Fault.{V2Fault}
use Rattle.gtp_v2.specs.Message.{Content, Fields, Raw, MessageValue}
use Rattle.gtp_v2.specs.Datagram.{IsMessage}
use Rattle.gtp_v2.specs.Pair.{Announces, IsDatagramFault}
use Rattle.gtp_v2.specs.Viewed.{place_of}
use Rattle.gtp_lines.specs.Text.{octets_text}
use Rattle.gtp_lines.specs.Control.{first_line, fault_line}
use Rattle.gtp_lines.specs.Named.{Wording, Plain, lines_by, title_by}

-- the first line of a message
abbrev pub head_by : Wording → MessageValue → List ℕ
head_by wording m = first_line (title_by wording m.kind) m.kind m.teid m.seq m.priority

-- the lines after the first: those of the elements in the datagram's order, or the octets of a message of another type
abbrev pub CarriedLines : Wording → List ℕ → MessageValue → Content → List ℕ → Type 0
CarriedLines wording octets m (Raw carried) lines = lines ≡ codes "octets " ++ (octets_text carried ++ codes "\n")
CarriedLines wording octets m (Fields fields) lines =
    (es : List Element) × AreElements (place_of m.teid) (drop (place_of m.teid) octets) es × (lines ≡ flat_map (lines_by wording m.kind) es)

-- the text is other text, and then the lines of a message that the octets spell
abbrev pub HasLines : Wording → List ℕ → List ℕ → MessageValue → List ℕ → Type 0
HasLines wording before octets m text = (lines : List ℕ) × CarriedLines wording octets m m.content lines × (text ≡ before ++ (head_by wording m ++ lines))

-- the lines of one message alone
abbrev pub AloneLines : Wording → List ℕ → List ℕ → Type 0
AloneLines wording octets text = (m : MessageValue) × IsMessage octets m × HasLines wording [] octets m text

-- the lines of two messages: those of the first, and then those of the second
abbrev pub PairLines : Wording → List ℕ → List ℕ → Type 0
PairLines wording octets text =
    (front : List ℕ) × (back : List ℕ) × Announces octets front back
    × ((before : List ℕ) × AloneLines wording front before × ((m : MessageValue) × IsMessage back m × HasLines wording before back m text))

-- the lines of a control datagram without a fault
abbrev pub WholeLines : Wording → List ℕ → List ℕ → Type 0
WholeLines wording octets text = AloneLines wording octets text ⊎ PairLines wording octets text

-- the plain lines of a control datagram, and whether they are a fault's
abbrev pub ControlLines : List ℕ → List ℕ → Bool → Type 0
ControlLines octets text true = (f : V2Fault) × IsDatagramFault octets f × (text ≡ fault_line f)
ControlLines octets text false = WholeLines Plain octets text
