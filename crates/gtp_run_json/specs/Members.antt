-- Members of objects that both events and contexts have.
use Rattle.std.specs.Prelude.{ℕ, List, [], Option, Some, None}
use Rattle.json.specs.Json.{Json, string}
use Rattle.gtp_json.specs.Tree.{member, number_of}
use Rattle.gtp_json.specs.Values.{teid_value}

-- the members of a value, where there is one
abbrev pub where_some : {X : Type 0} → (X → List (List ℕ × Json)) → Option X → List (List ℕ × Json)
where_some members None = []
where_some members (Some x) = members x

abbrev pub word_member : List ℕ → List ℕ → List (List ℕ × Json)
word_member name word = member name (string word)

abbrev pub number_member : List ℕ → ℕ → List (List ℕ × Json)
number_member name number = member name (number_of number)

abbrev pub teid_member : List ℕ → ℕ → List (List ℕ × Json)
teid_member name teid = member name (teid_value teid)
