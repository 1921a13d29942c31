-- The tokens of arrays, one item after the other.
use Rattle.std.proofs.Common.{◌≡◌, ◌∙◌, ℕ, List, [], ◌∷◌, ◌++◌, map, refl, sym, ap, append_assoc}
use Rattle.std.proofs.lemmas.List.{append-nil}
use Rattle.std.proofs.lemmas.Grind.{flat_map-append}
use Rattle.std.specs.List.{flat_map}
use Rattle.json.specs.Json.{Json}
use Rattle.json.specs.Tree.{json_tokens}
use Rattle.gtp_json.specs.Tree.{array_of}
use Rattle.gtp_json.specs.reading.Tokens.{array_opened, array_closed}
use Rattle.gtp_json.proofs.Tokens.{member_tokens_are, array_tokens}

same_items : (js : List Json) → map (λ (j : Json). j) js ≡ js
same_items [] = refl
same_items (j ∷ js) = ap (λ (rest : List Json). j ∷ rest) (same_items js)

pub items_tokens : (js : List Json) → json_tokens (array_of js) ≡ array_opened ++ (flat_map json_tokens js ++ array_closed)
items_tokens js = ap (λ (items : List Json). json_tokens (array_of items)) (sym (same_items js)) ∙ array_tokens (λ (j : Json). j) js

pub both : (a b : List Json) → flat_map json_tokens (a ++ b) ≡ flat_map json_tokens a ++ flat_map json_tokens b
both a b = flat_map-append json_tokens a b

-- of members whose values are arrays
pub ruleset listing = (append_assoc, append-nil, member_tokens_are, items_tokens, both)
