-- Objects that say of each of a list whether something holds, as items of an array.
use Rattle.std.proofs.Common.{◌≡◌, ◌∙◌, ℕ, List, [], ◌∷◌, ◌++◌, Bool, refl, sym, ap, append_assoc}
use Rattle.std.specs.List.{flat_map}
use Rattle.json.specs.Token.{Token}
use Rattle.json.specs.Json.{Json}
use Rattle.json.specs.Tree.{json_tokens}
use Rattle.gtp_outcomes.specs.Each.{TellsEach, AddsEach}
use Rattle.gtp_json.specs.Tree.{member, array_of}
use Rattle.gtp_json.specs.reading.Tokens.{written, keyed, array_opened, array_closed}
use Rattle.gtp_json.proofs.Tokens.{member_tokens_are}
use Rattle.gtp_run_json.specs.Verdicts.{JudgesEach}
use Rattle.gtp_run_json.proofs.Arrays.{items_tokens}

-- the tokens are those of objects
objects_of : {X : Type 0} (Holds : X → Type 0) (shape : X → Bool → Json) (xs : List X) (ts : List Token)
    → TellsEach Holds (λ x verdict. json_tokens (shape x verdict)) xs ts
    → (js : List Json) × JudgesEach Holds shape xs js × (ts ≡ flat_map json_tokens js)
objects_of Holds shape [] ts none = ([], refl, none)
objects_of Holds shape (x ∷ xs) ts (verdict, others, is, tells, whole) =
    let rest = objects_of Holds shape xs others tells in
    (shape x verdict ∷ rest.0, (verdict, rest.0, is, rest.1, refl), whole ∙ ap (λ (l : List Token). json_tokens (shape x verdict) ++ l) rest.2)

-- a member that is an array of them
pub judged_member : {X : Type 0} (Holds : X → Type 0) (shape : X → Bool → Json) (xs : List X) (name : List ℕ) (o k a p n : List Token) → k ≡ o ++ keyed name
    → a ≡ k ++ array_opened → AddsEach Holds (λ x verdict. json_tokens (shape x verdict)) xs a p → n ≡ p ++ array_closed
    → (js : List Json) × JudgesEach Holds shape xs js × (n ≡ o ++ written (member name (array_of js)))
judged_member Holds shape xs name o k a p n one two (ts, tells, adds) three =
    let found = objects_of Holds shape xs ts tells in
    let js = found.0 in
    let start : a ≡ (o ++ keyed name) ++ array_opened = two ∙ ap (λ (l : List Token). l ++ array_opened) one in
    let all : n ≡ (((o ++ keyed name) ++ array_opened) ++ ts) ++ array_closed = three ∙ ap (λ (l : List Token). l ++ array_closed) (adds ∙ ap (λ (l : List Token). l ++ ts) start) in
    let flat : n ≡ o ++ (keyed name ++ (array_opened ++ (ts ++ array_closed))) =
    all ∙ (append_assoc ((o ++ keyed name) ++ array_opened) ts array_closed
    ∙ (append_assoc (o ++ keyed name) array_opened (ts ++ array_closed) ∙ append_assoc o (keyed name) (array_opened ++ (ts ++ array_closed)))) in
    let whole : written (member name (array_of js)) ≡ keyed name ++ (array_opened ++ (flat_map json_tokens js ++ array_closed)) =
    member_tokens_are name (array_of js) ∙ ap (λ (l : List Token). keyed name ++ l) (items_tokens js) in
    (js, found.1, flat ∙ (ap (λ (l : List Token). o ++ (keyed name ++ (array_opened ++ (l ++ array_closed)))) found.2 ∙ ap (λ (l : List Token). o ++ l) (sym whole)))
