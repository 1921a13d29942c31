-- Members of a JSON object.
use Rattle.std.specs.Prelude.{ℕ, ◌+◌, List, [], ◌∷◌, Bool, true, false, ◌&&◌, ◌||◌, nat_le, if◌then◌else◌, bytes_eq, Option, Some, None, option_map, option_and_then}
use Rattle.std.specs.Option.{option_map_or}
use Rattle.serde_json.specs.Data.{Data, Items, no_items, item, Members, no_members, member}
use Rattle.serde_json.specs.Find.{get, as_str, as_number, as_u64, as_object}
use Rattle.gtp_scenario.specs.Steps.{◌>>=◌}

-- the text of a key that must be there
abbrev pub text_at : List ℕ → Data → Option (List ℕ)
text_at key d = get key d >>= as_str

-- a number from 0 to 2^64 - 1, written without a fraction and an exponent
abbrev pub whole_number : Data → Option ℕ
whole_number d = option_and_then as_u64 (as_number d)

-- the number of a key that must be there
abbrev pub number_at : List ℕ → Data → Option ℕ
number_at key d = get key d >>= whole_number

-- the text of a key that may be absent
abbrev pub text_if : Option Data → Option (Option (List ℕ))
text_if None = Some None
text_if (Some d) = option_map Some (as_str d)

-- the number of a key that may be absent, and is this one then
abbrev pub number_or : ℕ → Option Data → Option ℕ
number_or absent None = Some absent
number_or absent (Some d) = whole_number d

-- the number, where it is from low to high
abbrev pub within : ℕ → ℕ → ℕ → Option ℕ
within low high n = if nat_le low n && nat_le n high then Some n else None

-- the key is one of these
abbrev pub is_among : List (List ℕ) → List ℕ → Bool
is_among [] key = false
is_among (known ∷ keys) key = bytes_eq key known || is_among keys key

-- each key of the members is one of these
abbrev pub all_among : List (List ℕ) → Members → Bool
all_among keys no_members = true
all_among keys (member key d members) = is_among keys key && all_among keys members

-- an object with no keys but these
abbrev pub has_only : List (List ℕ) → Data → Bool
has_only keys d = option_map_or (all_among keys) (as_object d) false

-- how many items a list has
abbrev pub count_of : Items → ℕ
count_of no_items = 0
count_of (item d items) = 1 + count_of items
