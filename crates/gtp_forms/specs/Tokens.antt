-- What was told as JSON: the tokens of members, in order.
use Rattle.std.specs.Prelude.{ℕ, ◌≤◌, ⊤, true, List, [], ◌∷◌, ◌++◌, Option, Some, None, codes, decimal, ◌==◌, if◌then◌else◌}
use Rattle.std.specs.List.{flat_map}
use Rattle.hex.specs.Hex.{encode_lower}
use Rattle.json.specs.Token.{Token}
use Rattle.json.specs.Json.{Json, null, string, boolean, Items, no_items, item, Members, no_members, member, value, max_depth}
use Rattle.json.specs.Json as json
use Rattle.json.specs.Tree.{json_tokens, depth}
use Rattle.gtp_forms.specs.declared.form.How.{How}
use Rattle.gtp_forms.specs.declared.form.How.TheVariants as hows
use Rattle.gtp_forms.specs.declared.form.View.{View}
use Rattle.gtp_forms.specs.Numbers.{number, bits}
use Rattle.gtp_forms.specs.Text.{country, operator, are_zero, spelled, word_of}
use Rattle.gtp_forms.specs.Event.{Event, Field, BeginPart, EndPart, BeginList, EndList, BeginItem, EndItem, Missing, Left}

abbrev pub members_of : List (List ℕ × Json) → Members
members_of [] = no_members
members_of (m ∷ ms) = member m.0 m.1 (members_of ms)

abbrev pub items_of : List Json → Items
items_of [] = no_items
items_of (j ∷ js) = item j (items_of js)

abbrev pub member_tokens : List ℕ × Json → List Token
member_tokens m = Token.key m.0 ∷ json_tokens m.1

abbrev pub written : List (List ℕ × Json) → List Token
written ms = flat_map member_tokens ms

-- a value without a name of its own
abbrev pub key_of : List ℕ → List ℕ
key_of [] = codes "value"
key_of (c ∷ name) = c ∷ name

abbrev pub one_member : List ℕ → Json → List (List ℕ × Json)
one_member name j = (key_of name, j) ∷ []

abbrev pub flag_member : ℕ → List ℕ → List (List ℕ × Json)
flag_member n name = if n == 0 then [] else one_member name (boolean true)

-- the word of a number
abbrev pub word_member : List ℕ → Option (List ℕ) → List (List ℕ × Json)
word_member name None = []
word_member name (Some word) = (key_of name ++ codes "_name", string word) ∷ []

abbrev pub spare_member : List ℕ → List (List ℕ × Json)
spare_member octets = if are_zero octets then [] else one_member (codes "spare") (string (encode_lower octets))

-- MCC and MNC
abbrev pub network_members : List ℕ → List (List ℕ × Json)
network_members (a ∷ b ∷ c ∷ []) = (codes "mcc", string (country a b)) ∷ (codes "mnc", string (operator b c)) ∷ []
network_members octets = one_member (codes "network") (string (encode_lower octets))

-- a value in octets, as members
unfoldable pub members_in : How → List ℕ → List ℕ → List (List ℕ × Json)
members_in (hows.Number b) name octets = one_member name (json.number (decimal (bits b (number octets))))
members_in (hows.Named b words) name octets = one_member name (json.number (decimal (bits b (number octets)))) ++ word_member name (word_of words.now (bits b (number octets)))
members_in (hows.Flag b) name octets = flag_member (bits b (number octets)) name
members_in hows.Network name octets = network_members octets
members_in (hows.Spelled s) name octets = one_member name (string (spelled s octets))
members_in hows.Spare name octets = spare_member octets

abbrev pub field_members : List View → List ℕ → List (List ℕ × Json)
field_members views octets = flat_map (λ (v : View). members_in v.how v.name.now octets) views

abbrev pub event_tokens : Event → List Token
event_tokens (Field views octets) = written (field_members views octets)
event_tokens (BeginPart name) = Token.key name ∷ Token.begin_object ∷ []
event_tokens EndPart = Token.end_object ∷ []
event_tokens (BeginList name) = Token.key name ∷ Token.begin_array ∷ []
event_tokens EndList = Token.end_array ∷ []
event_tokens (BeginItem name) = Token.begin_object ∷ []
event_tokens (EndItem name) = Token.end_object ∷ []
event_tokens Missing = written (one_member (codes "short") (boolean true))
event_tokens (Left octets) = written (one_member (codes "rest") (string (encode_lower octets)))

abbrev pub tokens_of : List Event → List Token
tokens_of events = flat_map event_tokens events

-- no value of a member nests deeper
abbrev pub Within : ℕ → List (List ℕ × Json) → Type 0
Within n [] = ⊤
Within n (m ∷ ms) = (depth m.1 ≤ n) × Within n ms

-- tokens between the brackets of an object
abbrev pub bracketed : List Token → List Token
bracketed tokens = Token.begin_object ∷ (tokens ++ Token.end_object ∷ [])

abbrev pub found : Option (Json × List Token) → Json
found None = null
found (Some read) = read.0

-- what was told as one object: the value that a reader finds in its tokens (RFC 8259)
unfoldable pub told_json : List Event → Json
told_json told = found (value max_depth (bracketed (tokens_of told)))
