-- The tokens of objects and arrays, from those of their members and items.
use Rattle.std.proofs.Common.{◌≡◌, ◌∙◌, ℕ, List, [], ◌∷◌, ◌++◌, map, refl, sym, ap, append_assoc}
use Rattle.std.proofs.lemmas.List.{append-nil}
use Rattle.std.proofs.lemmas.Grind.{flat_map-append}
use Rattle.std.specs.List.{flat_map}
use Rattle.json.specs.Token.{Token}
use Rattle.json.specs.Json.{Json}
use Rattle.json.specs.Tree.{json_tokens, items_tokens, members_tokens}
use Rattle.gtp_json.specs.Tree.{members_of, items_of, member, object_of, array_of}
use Rattle.gtp_json.specs.reading.Tokens.{written, member_tokens, keyed, opened, closed, array_opened, array_closed}

members_are : (ms : List (List ℕ × Json)) → members_tokens (members_of ms) ≡ flat_map member_tokens ms ++ Token.end_object ∷ []
members_are [] = refl
members_are (m ∷ ms) =
    ap (λ (ts : List Token). Token.key m.0 ∷ (json_tokens m.1 ++ ts)) (members_are ms)
    ∙ ap (λ (ts : List Token). Token.key m.0 ∷ ts) (sym (append_assoc (json_tokens m.1) (flat_map member_tokens ms) (Token.end_object ∷ [])))

pub object_tokens : (ms : List (List ℕ × Json)) → json_tokens (object_of ms) ≡ opened ++ (written ms ++ closed)
unfolding object_of opened closed written
object_tokens ms = ap (λ (ts : List Token). Token.begin_object ∷ ts) (members_are ms)

items_are : {X : Type 0} (f : X → Json) (xs : List X) → items_tokens (items_of (map f xs)) ≡ flat_map (λ x. json_tokens (f x)) xs ++ Token.end_array ∷ []
items_are f [] = refl
items_are f (x ∷ xs) = ap (λ (ts : List Token). json_tokens (f x) ++ ts) (items_are f xs) ∙ sym (append_assoc (json_tokens (f x)) (flat_map (λ y. json_tokens (f y)) xs) (Token.end_array ∷ []))

pub array_tokens : {X : Type 0} (f : X → Json) (xs : List X) → json_tokens (array_of (map f xs)) ≡ array_opened ++ (flat_map (λ x. json_tokens (f x)) xs ++ array_closed)
unfolding array_of array_opened array_closed
array_tokens f xs = ap (λ (ts : List Token). Token.begin_array ∷ ts) (items_are f xs)

pub member_tokens_are : (name : List ℕ) (j : Json) → written (member name j) ≡ keyed name ++ json_tokens j
unfolding written member keyed
member_tokens_are name j = ap (λ (ts : List Token). Token.key name ∷ ts) (append-nil (json_tokens j))

pub written-append : (a b : List (List ℕ × Json)) → written (a ++ b) ≡ written a ++ written b
unfolding written
written-append a b = flat_map-append member_tokens a b

pub written-nil : written [] ≡ []
unfolding written
written-nil = refl

pub none_written : (o : List Token) → o ≡ o ++ written []
none_written o = sym (append-nil o) ∙ sym (ap (λ (ts : List Token). o ++ ts) written-nil)

-- members written one after the other
pub twice : (o m n : List Token) (a b : List (List ℕ × Json)) → m ≡ o ++ written a → n ≡ m ++ written b → n ≡ o ++ written (a ++ b)
twice o m n a b one two = two ∙ (ap (λ (ts : List Token). ts ++ written b) one ∙ (append_assoc o (written a) (written b) ∙ ap (λ (ts : List Token). o ++ ts) (sym (written-append a b))))

pub thrice : (o m n p : List Token) (a b c : List (List ℕ × Json)) → m ≡ o ++ written a → n ≡ m ++ written b → p ≡ n ++ written c → p ≡ o ++ written (a ++ (b ++ c))
thrice o m n p a b c one two three = twice o m p a (b ++ c) one (twice m n p b c two three)

-- an object written whole, at the start
pub whole : (o m n p q : List Token) (a b : List (List ℕ × Json)) → o ≡ [] → m ≡ o ++ opened → n ≡ m ++ written a → p ≡ n ++ written b → q ≡ p ++ closed → q ≡ json_tokens (object_of (a ++ b))
whole o m n p q a b none one two three four =
    let start : m ≡ opened = one ∙ ap (λ (ts : List Token). ts ++ opened) none in
    let members : p ≡ m ++ written (a ++ b) = twice m n p a b two three in
    let all : q ≡ (opened ++ written (a ++ b)) ++ closed = four ∙ (ap (λ (ts : List Token). ts ++ closed) members ∙ ap (λ (ts : List Token). (ts ++ written (a ++ b)) ++ closed) start) in
    all ∙ (append_assoc opened (written (a ++ b)) closed ∙ sym (object_tokens (a ++ b)))

-- a member whose value is an object, written piece by piece
pub nested : (name : List ℕ) (b : List (List ℕ × Json)) (m n o p q : List Token) → n ≡ m ++ keyed name → o ≡ n ++ opened → p ≡ o ++ written b → q ≡ p ++ closed
    → q ≡ m ++ written (member name (object_of b))
nested name b m n o p q key begins members ends =
    let w = written b in
    ends
    ∙ (ap (λ (ts : List Token). ts ++ closed) (members ∙ ap (λ (ts : List Token). ts ++ w) (begins ∙ ap (λ (ts : List Token). ts ++ opened) key))
    ∙ (append_assoc ((m ++ keyed name) ++ opened) w closed
    ∙ (append_assoc (m ++ keyed name) opened (w ++ closed)
    ∙ (append_assoc m (keyed name) (opened ++ (w ++ closed))
    ∙ (ap (λ (ts : List Token). m ++ (keyed name ++ ts)) (sym (object_tokens b)) ∙ ap (λ (ts : List Token). m ++ ts) (sym (member_tokens_are name (object_of b))))))))

-- of members that stand in an object one after the other
pub ruleset appending = (append_assoc, append-nil, written-append, written-nil)

-- of members whose values are objects
pub ruleset nesting = (append_assoc, append-nil, written-append, written-nil, member_tokens_are, object_tokens)
