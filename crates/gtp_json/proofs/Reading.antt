-- The tokens of a value read back as that value, and so does the line of an object.
use Rattle.std.proofs.Common.{◌≡◌, ◌∙◌, ◌≤◌, ℕ, List, [], ◌++◌, Some, option_and_then, codes, sym, ap, append-nil, arith}
use Rattle.json.specs.Token.{Token}
use Rattle.json.specs.Lex.{tokens}
use Rattle.json.specs.Json.{Json, value, if_last, max_depth, document}
use Rattle.json.specs.Print.{print}
use Rattle.json.specs.Tree.{json_tokens, depth}
use Rattle.json.proofs.Printed.Trees.{value-json_tokens}
use Rattle.gtp_json.specs.Tree.{object_of, line_of}
use Rattle.gtp_json.specs.Reads.{ReadsBack}
use Rattle.gtp_json.specs.reading.Tokens.{written, opened, closed}
use Rattle.gtp_json.proofs.Tokens.{whole}
use Rattle.gtp_json.proofs.Shallow.{Within, join, object_depth}

pub reads : (j : Json) (ts : List Token) → ts ≡ json_tokens j → tokens (print ts) ≡ ts → depth j ≤ max_depth → document (print ts) ≡ Some j
reads j ts are back shallow =
    ap (option_and_then (λ p. if_last p.0 p.1)) (ap (value max_depth) (back ∙ (are ∙ sym (append-nil (json_tokens j)))) ∙ value-json_tokens j max_depth [] shallow)

-- an object of which P holds, written in two parts at the start
pub object_line : (P : Json → Type 0) (front rest : List (List ℕ × Json)) (o m n p q : List Token) (text : List ℕ)
    → o ≡ [] → m ≡ o ++ opened → n ≡ m ++ written front → p ≡ n ++ written rest → q ≡ p ++ closed → text ≡ print q ++ codes "\n" → tokens (print q) ≡ q
    → Within 24 front → Within 24 rest → P (object_of (front ++ rest)) → ((j : Json) × P j × (text ≡ line_of j)) × ReadsBack P text
object_line P front rest o m n p q text none begins first second ends is back low deep holds =
    let value = object_of (front ++ rest) in
    let all : q ≡ json_tokens value = whole o m n p q front rest none begins first second ends in
    let within = object_depth 24 (front ++ rest) (join 24 front rest low deep) in
    ((value, holds, is ∙ ap (λ (ts : List Token). print ts ++ codes "\n") all), (value, holds, (print q, is, reads value q all back (omega (arith, within)))))
