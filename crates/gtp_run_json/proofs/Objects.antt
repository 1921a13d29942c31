-- Objects written a member at a time.
use Rattle.std.proofs.Common.{◌≡◌, ◌∙◌, ℕ, List, ◌++◌, Result, Ok, Err, OnOk, IfOk, sym, ap, append_assoc}
use Rattle.json.specs.Token.{Token}
use Rattle.json.specs.Json.{Json}
use Rattle.json.specs.Tree.{json_tokens}
use Rattle.gtp_json.specs.Tree.{object_of}
use Rattle.gtp_json.specs.reading.Tokens.{written, opened, closed}
use Rattle.gtp_json.proofs.Tokens.{twice, thrice, object_tokens}

pub four_times : (o k l m n : List Token) (a b c d : List (List ℕ × Json)) → k ≡ o ++ written a → l ≡ k ++ written b → m ≡ l ++ written c → n ≡ m ++ written d → n ≡ o ++ written (a ++ (b ++ (c ++ d)))
four_times o k l m n a b c d one two three four = twice o k n a (b ++ (c ++ d)) one (thrice k l m n b c d two three four)

pub in_object : (o m n p : List Token) (ms : List (List ℕ × Json)) → m ≡ o ++ opened → n ≡ m ++ written ms → p ≡ n ++ closed → p ≡ o ++ json_tokens (object_of ms)
in_object o m n p ms one two three =
    let all : p ≡ ((o ++ opened) ++ written ms) ++ closed = three ∙ ap (λ (ts : List Token). ts ++ closed) (two ∙ ap (λ (ts : List Token). ts ++ written ms) one) in
    all ∙ (append_assoc (o ++ opened) (written ms) closed ∙ (append_assoc o opened (written ms ++ closed) ∙ ap (λ (ts : List Token). o ++ ts) (sym (object_tokens ms))))

-- what follows where a call gave no error
pub on_ok : {T E P Q : Type 0} (r : Result T E) → (P → Q) → OnOk r P → OnOk r Q
on_ok (Ok x) follows p = follows p
on_ok (Err e) follows p = tt

-- what follows for its value
pub if_ok : {T E : Type 0} {P Q : T → Type 0} (r : Result T E) → ((x : T) → P x → Q x) → IfOk r P → IfOk r Q
if_ok (Ok x) follows p = follows x p
if_ok (Err e) follows p = tt
