-- Lines of what was told.
use Rattle.std.specs.Prelude.{ℕ, zero, suc, ◌+◌, ◌-◌, ◌*◌, ◌/◌, ◌%◌, Bool, true, false, not, ◌&&◌, ◌||◌, length, take, drop, List, [], ◌∷◌, ◌++◌, Option, Some, None, codes, decimal, replicate, nat_lt, ◌==◌, if◌then◌else◌}
use Rattle.std.specs.List.{flat_map}
use Rattle.hex.specs.Hex.{encode_lower}
use Rattle.gtp_forms.specs.declared.form.Spelling.{Spelling}
use Rattle.gtp_forms.specs.declared.form.Spelling.TheVariants as spellings
use Rattle.gtp_forms.specs.declared.form.How.{How}
use Rattle.gtp_forms.specs.declared.form.How.TheVariants as hows
use Rattle.gtp_forms.specs.declared.form.View.{View}
use Rattle.gtp_forms.specs.declared.form.Word.{Word}
use Rattle.gtp_forms.specs.declared.lines.Line.{Line}
use Rattle.gtp_forms.specs.Numbers.{number, bits}
use Rattle.gtp_forms.specs.Event.{Event, Field, BeginPart, EndPart, BeginList, EndList, BeginItem, EndItem, Missing, Left}

-- the text of octets, or a mark that there are none
abbrev pub marked : List ℕ → List ℕ → List ℕ
marked [] text = codes "-"
marked (octet ∷ octets) text = text

-- octets in lower case hexadecimal, or a mark that there are none
abbrev pub octets_text : List ℕ → List ℕ
octets_text octets = marked octets (encode_lower octets)

-- a digit below sixteen
abbrev pub digit : ℕ → List ℕ
digit d = if nat_lt d 10 then (48 + d) ∷ [] else (97 + (d - 10)) ∷ []

-- the digits of an octet, the low half first
abbrev pub halves : ℕ → List ℕ
halves octet = digit (octet % 16) ++ digit (octet / 16)

-- the high half of an octet, where it is no filler
abbrev pub high_half : ℕ → List ℕ
high_half octet = if octet / 16 == 15 then [] else digit (octet / 16)

-- the digits of a last octet
abbrev pub last_halves : List ℕ → List ℕ
last_halves [] = []
last_halves (octet ∷ octets) = digit (octet % 16) ++ high_half octet

-- the digits of all octets but the last, and then those of the last
abbrev pub digits : List ℕ → List ℕ
digits octets = flat_map halves (take (length octets - 1) octets) ++ last_halves (drop (length octets - 1) octets)

abbrev pub dotted_more : List ℕ → List ℕ
dotted_more octets = flat_map (λ octet. codes "." ++ decimal octet) octets

-- octets in decimal, with dots between them
abbrev pub dotted : List ℕ → List ℕ
dotted [] = []
dotted (octet ∷ octets) = decimal octet ++ dotted_more octets

-- a blank, a name, a blank; without a name a blank
abbrev pub label : List ℕ → List ℕ
label [] = codes " "
label (c ∷ name) = codes " " ++ ((c ∷ name) ++ codes " ")

-- MCC and MNC: their digits in the halves of three octets; an MNC of two digits has a filler (TS 24.008 10.5.1.3)
abbrev pub country : ℕ → ℕ → List ℕ
country a b = digit (a % 16) ++ (digit (a / 16) ++ digit (b % 16))

abbrev pub operator : ℕ → ℕ → List ℕ
operator b c = digit (c % 16) ++ (digit (c / 16) ++ high_half b)

abbrev pub network : List ℕ → List ℕ
network (a ∷ b ∷ c ∷ []) = codes " mcc " ++ (country a b ++ (codes " mnc " ++ operator b c))
network octets = codes " network " ++ octets_text octets

abbrev pub flag : ℕ → List ℕ → List ℕ
flag n name = if n == 0 then [] else codes " " ++ name

-- the first word of a number
abbrev pub word_of : List Word → ℕ → Option (List ℕ)
word_of [] n = None
word_of (w ∷ words) n = if w.value == n then Some w.text.now else word_of words n

-- after a blank
abbrev pub word_shown : Option (List ℕ) → List ℕ
word_shown None = []
word_shown (Some word) = codes " " ++ word

-- an address by its octets
abbrev pub address : List ℕ → List ℕ
address octets = if length octets == 4 then dotted octets else encode_lower octets

abbrev pub are_zero : List ℕ → Bool
are_zero [] = true
are_zero (octet ∷ octets) = if octet == 0 then are_zero octets else false

-- a character that is no blank and no control character
abbrev pub is_printable : ℕ → Bool
is_printable octet = nat_lt 32 octet && nat_lt octet 127

abbrev pub are_printable : List ℕ → Bool
are_printable [] = true
are_printable (octet ∷ octets) = if is_printable octet then are_printable octets else false

-- octets that are printable as they are, others in hexadecimal
abbrev pub text : List ℕ → List ℕ
text octets = if are_printable octets then octets else encode_lower octets

-- whether octets are labels, of whose first so many octets are left: each an octet with its length, which is not 0, and its
-- printable characters (TS 23.003 9.1)
abbrev pub are_labels : ℕ → List ℕ → Bool
are_labels left [] = left == 0
are_labels zero (size ∷ octets) = if size == 0 then false else are_labels size octets
are_labels (suc left) (octet ∷ octets) = if is_printable octet then are_labels left octets else false

-- their characters, a dot in place of each length
abbrev pub label_text : ℕ → List ℕ → List ℕ
label_text left [] = []
label_text zero (size ∷ octets) = 46 ∷ label_text size octets
label_text (suc left) (octet ∷ octets) = octet ∷ label_text left octets

-- the first label has no dot before it
abbrev pub joined_labels : List ℕ → List ℕ
joined_labels [] = []
joined_labels (size ∷ octets) = label_text size octets

-- labels with dots between them, other octets in hexadecimal
abbrev pub labels : List ℕ → List ℕ
labels octets = if are_labels 0 octets then joined_labels octets else encode_lower octets

abbrev pub spare : List ℕ → List ℕ
spare octets = if are_zero octets then [] else codes " spare " ++ octets_text octets

-- two decimal digits
abbrev pub two : ℕ → List ℕ
two n = digit ((n / 10) % 10) ++ digit (n % 10)

abbrev pub sign : ℕ → List ℕ
sign octet = if (octet / 8) % 2 == 1 then codes "-" else codes "+"

-- quarter hours: their tens in bits 3 to 1, the others in bits 8 to 5, the sign in bit 4
abbrev pub quarters : ℕ → ℕ
quarters octet = 10 * (octet % 8) + octet / 16

abbrev pub zone : List ℕ → List ℕ
zone (octet ∷ []) = sign octet ++ (two (quarters octet / 4) ++ (codes ":" ++ two (15 * (quarters octet % 4))))
zone octets = encode_lower octets

-- a text in octets
unfoldable pub spelled : Spelling → List ℕ → List ℕ
spelled spellings.Digits octets = digits octets
spelled spellings.Address octets = address octets
spelled spellings.Labels octets = labels octets
spelled spellings.Text octets = text octets
spelled spellings.Zone octets = zone octets
spelled spellings.Octets octets = encode_lower octets

-- a value in octets
unfoldable pub seen : How → List ℕ → List ℕ → List ℕ
seen (hows.Number b) name octets = label name ++ decimal (bits b (number octets))
seen (hows.Named b words) name octets = label name ++ (decimal (bits b (number octets)) ++ word_shown (word_of words.now (bits b (number octets))))
seen (hows.Flag b) name octets = flag (bits b (number octets)) name
seen hows.Network name octets = network octets
seen (hows.Spelled s) name octets = label name ++ marked octets (spelled s octets)
seen hows.Spare name octets = spare octets

abbrev pub views_shown : List View → List ℕ → List ℕ
views_shown views octets = flat_map (λ v. seen v.how v.name.now octets) views

-- a line of its own, where the line before was ended
abbrev pub gap : Line → List ℕ
gap l = if l.is_open then [] else codes "\n" ++ replicate (l.depth + 1) 32

abbrev pub deeper : ℕ → ℕ
deeper depth = if nat_lt depth 64 then depth + 2 else depth

abbrev pub line_begun : ℕ → List ℕ → List ℕ
line_begun depth name = codes "\n" ++ (replicate depth 32 ++ name)

abbrev pub fields_shown : Line → List View → List ℕ → List ℕ
fields_shown l [] octets = []
fields_shown l (v ∷ views) octets = gap l ++ views_shown (v ∷ views) octets

-- an item of a list without names begins no line
abbrev pub item_begun : Line → List ℕ → List ℕ
item_begun l [] = []
item_begun l (c ∷ name) = line_begun (deeper l.depth) (c ∷ name)

abbrev pub in_item : Line → List ℕ → Line
in_item l [] = record { depth = l.depth; is_open = false }
in_item l (c ∷ name) = record { depth = deeper l.depth; is_open = true }

abbrev pub behind_item : Line → List ℕ → Line
behind_item l [] = record { depth = l.depth; is_open = false }
behind_item l (c ∷ name) = record { depth = l.depth - 2; is_open = false }

unfoldable pub event_shown : Line → Event → List ℕ
event_shown l (Field views octets) = fields_shown l views octets
event_shown l (BeginPart name) = line_begun (deeper l.depth) name
event_shown l EndPart = []
event_shown l (BeginList name) = []
event_shown l EndList = []
event_shown l (BeginItem name) = item_begun l name
event_shown l (EndItem name) = []
event_shown l Missing = gap l ++ codes " short"
event_shown l (Left octets) = gap l ++ (codes " rest " ++ octets_text octets)

unfoldable pub line_after : Line → Event → Line
line_after l (Field views octets) = record { depth = l.depth; is_open = l.is_open || not (length views == 0) }
line_after l (BeginPart name) = record { depth = deeper l.depth; is_open = true }
line_after l EndPart = record { depth = l.depth - 2; is_open = false }
line_after l (BeginList name) = l
line_after l EndList = l
line_after l (BeginItem name) = in_item l name
line_after l (EndItem name) = behind_item l name
line_after l Missing = record { depth = l.depth; is_open = true }
line_after l (Left octets) = record { depth = l.depth; is_open = true }

-- the lines of what was told, from a line on
abbrev pub lines_from : Line → List Event → List ℕ
lines_from l [] = []
lines_from l (e ∷ es) = event_shown l e ++ lines_from (line_after l e) es
