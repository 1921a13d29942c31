-- The data of a text of JSON, which is read as a list of tokens.
use Rattle.std.specs.Prelude.{ℕ, ◌+◌, ◌-◌, List, [], ◌∷◌, length, false, nat_lt, if◌then◌else◌, is_some, unwrap_or, Option, Some, None, option_map, option_and_then}
use Rattle.std.specs.Float.{binary64}
use Rattle.fast_float.specs.Text.{scan, nearest}
use Rattle.json.specs.Token.{Token}
use Rattle.json.specs.Json as json
use Rattle.json.specs.Find.{InItems}
use Rattle.serde_json.specs.Data.{Num, float, Data, null, boolean, number, string, array, object, Items, no_items, item, Members, no_members, put}
use Rattle.serde_json.specs.Read.{number_of, max_depth}
use Rattle.gtp_scenario.specs.declared.tree.Number.{Number}
use Rattle.gtp_scenario.specs.declared.tree.Number.TheVariants.{Whole, Other}

-- what a number is to a scenario: the whole number, if it is one from 0 to 2^64 - 1
abbrev pub whole_of : Number → Option ℕ
whole_of (Whole n) = Some n
whole_of Other = None

-- the number of a text, and some float where the number is too large for one
abbrev pub number_said : List ℕ → Num
number_said text = unwrap_or (number_of text) (float (nearest binary64 false (scan text)))

-- the data, where each number is one that can be kept; of a key that stands twice the last value stays
abbrev mutual
  pub data_of : json.Json → Data
  data_of json.null = null
  data_of (json.boolean b) = boolean b
  data_of (json.number text) = number (number_said text)
  data_of (json.string text) = string text
  data_of (json.array js) = array (items_said js)
  data_of (json.object ms) = object (members_said ms no_members)

  pub items_said : json.Items → Items
  items_said json.no_items = no_items
  items_said (json.item j js) = item (data_of j) (items_said js)

  pub members_said : json.Members → Members → Members
  members_said json.no_members found = found
  members_said (json.member k j ms) found = members_said ms (put k (data_of j) found)

-- ---- what tokens say

-- the value that tokens begin with, which nests no deeper than there are tokens
unfoldable pub json_at : List Token → json.Json
json_at ts = unwrap_or (option_map (λ p. p.0) (json.value (length ts) ts)) json.null

-- the items that tokens begin with
unfoldable pub items_at : List Token → json.Items
items_at ts = unwrap_or (option_map (λ p. p.0) (json.items (json.value (length ts)) (length ts) ts)) json.no_items

-- tokens begin with items, and with what closes their list
abbrev pub HasItems : List Token → Type 0
HasItems ts = (js : json.Items) × InItems ts js

-- what the tokens from a value on say of it
abbrev pub view : List Token → Data
view ts = data_of (json_at ts)

-- what the tokens from an item on say of what is left of its list
abbrev pub items_view : List Token → Items
items_view ts = items_said (items_at ts)

-- no items, or the first and the others
abbrev pub unless_empty : Option Data → Items → Items
unless_empty None others = no_items
unless_empty (Some d) others = item d others

-- ---- whole texts

-- how many lists and objects are open after a token; none where they would be more than 127, and where a number cannot be kept
abbrev pub depth_after : ℕ → Token → Option ℕ
depth_after depth Token.begin_object = if nat_lt depth max_depth then Some (depth + 1) else None
depth_after depth Token.end_object = Some (depth - 1)
depth_after depth Token.begin_array = if nat_lt depth max_depth then Some (depth + 1) else None
depth_after depth Token.end_array = Some (depth - 1)
depth_after depth (Token.key s) = Some depth
depth_after depth (Token.string s) = Some depth
depth_after depth (Token.number s) = if is_some (number_of s) then Some depth else None
depth_after depth (Token.boolean b) = Some depth
depth_after depth Token.null = Some depth
depth_after depth Token.bad = Some depth

-- the same after all of these tokens
abbrev pub depth_after_all : ℕ → List Token → Option ℕ
depth_after_all depth [] = Some depth
depth_after_all depth (t ∷ ts) = option_and_then (λ n. depth_after_all n ts) (depth_after depth t)
