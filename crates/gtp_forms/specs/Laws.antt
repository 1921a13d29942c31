-- What holds of all readings.
use Rattle.std.specs.Prelude.{◌≡◌, ◌≤◌, ℕ, List}
use Rattle.gtp_forms.specs.Event.{octets_of}
use Rattle.gtp_forms.specs.Reading.{Tables, told_by}
use Rattle.json.specs.Json.{Json}
use Rattle.json.specs.Tree.{json_tokens, depth}
use Rattle.gtp_forms.specs.Tokens.{tokens_of, written, Within, bracketed, told_json}

-- by whatever forms a body is read: what it tells stands for all its octets, each once, in their order
abbrev pub IsAllTold : Type 0
IsAllTold = (forms : Tables) (n : ℕ) (body : List ℕ) → octets_of (told_by forms n body) ≡ body

-- by whatever forms a body is read: the tokens of what it tells are those of the members of an object, whose values nest sixteen deep at most
abbrev pub AreMembers : Type 0
AreMembers = (forms : Tables) (n : ℕ) (body : List ℕ) → (ms : List (List ℕ × Json)) × (tokens_of (told_by forms n body) ≡ written ms) × Within 16 ms

-- so what it tells is one object
abbrev pub IsObject : Type 0
IsObject =
    (forms : Tables) (n : ℕ) (body : List ℕ)
    → (json_tokens (told_json (told_by forms n body)) ≡ bracketed (tokens_of (told_by forms n body))) × (depth (told_json (told_by forms n body)) ≤ 17)
