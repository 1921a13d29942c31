-- JSON values by their members, and the line of one (RFC 8259).
use Rattle.std.specs.Prelude.{ℕ, List, [], ◌∷◌, ◌++◌, codes, decimal}
use Rattle.json.specs.Json.{Json, number, array, object, Items, no_items, item, Members, no_members}
use Rattle.json.specs.Json.{member as and_member}
use Rattle.json.specs.Print.{print}
use Rattle.json.specs.Tree.{json_tokens}

abbrev pub members_of : List (List ℕ × Json) → Members
members_of [] = no_members
members_of (m ∷ ms) = and_member m.0 m.1 (members_of ms)

abbrev pub items_of : List Json → Items
items_of [] = no_items
items_of (j ∷ js) = item j (items_of js)

-- one member, by its key and its value
unfoldable pub member : List ℕ → Json → List (List ℕ × Json)
member name value = (name, value) ∷ []

-- an object of members in this order
unfoldable pub object_of : List (List ℕ × Json) → Json
object_of ms = object (members_of ms)

unfoldable pub array_of : List Json → Json
array_of js = array (items_of js)

-- a number in decimal
abbrev pub number_of : ℕ → Json
number_of n = number (decimal n)

-- the line of a value: no blanks, and a line feed
abbrev pub line_of : Json → List ℕ
line_of j = print (json_tokens j) ++ codes "\n"
