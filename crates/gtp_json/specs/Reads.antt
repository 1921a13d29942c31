-- What a reader of JSON finds in a line.
use Rattle.std.specs.Prelude.{◌≡◌, ℕ, List, ◌++◌, Some, codes}
use Rattle.json.specs.Json.{Json, document}

-- before its line feed the text is a JSON document (RFC 8259), whose value is one of which P holds
abbrev pub ReadsBack : (Json → Type 0) → List ℕ → Type 0
ReadsBack P text = (j : Json) × P j × ((line : List ℕ) × (text ≡ line ++ codes "\n") × (document line ≡ Some j))
