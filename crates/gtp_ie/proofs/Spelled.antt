-- Reading a body decides which value it spells.
use Rattle.std.proofs.Common.{◌≡◌, ℕ, ◌+◌, ◌*◌, ◌/◌, ◌%◌, ◌<◌, ◌≤◌, Bool, true, false, cond, ◌&&◌, ◌||◌, List, [], ◌∷◌, length, Option, Some, None, Err, refl, sym, ap, subst, ◌∙◌, arith}
use Rattle.std.specs.Prelude.{◌==◌, IsTrue, All, nat_le, nat_lt}
use Rattle.std.proofs.lemmas.Bool.Decides.{nat_tests}
use Rattle.std.proofs.lemmas.Bool.{ltb-false, ltb-true, and_from}
use Rattle.std.proofs.lemmas.List.Elements.{All-nil, All-head, All-tail, All-cons}
use Rattle.std.proofs.lemmas.Option.{same_Some}
use Rattle.gtp_values.specs.Apn.{IsApn, are_labels_from}
use Rattle.gtp_values.specs.Imsi.{IsImsi}
use Rattle.gtp_values.specs.Plmn.{Network, IsNetwork}
use Rattle.gtp_values.proofs.Labels.{are_labels, labels_are}
use Rattle.gtp_values.proofs.Outcomes.{none_some}
use Rattle.gtp_values.proofs.Tests.{both}
use Rattle.gtp_ie.specs.declared.fault.ReadFault.{ReadFault}
use Rattle.gtp_ie.specs.declared.fault.ReadFault.TheVariants.{Short, Bad}
use Rattle.gtp_values.specs.Decides.{Decides}
use Rattle.gtp_ie.specs.declared.form.Form.{Form}
use Rattle.gtp_ie.specs.declared.form.Form.TheVariants as forms
use Rattle.gtp_ie.specs.Form.{form_of}
use Rattle.gtp_ie.specs.Layout.{octet, bits}
use Rattle.gtp_ie.specs.Digits.{packed, last_digits, digits_in, are_decimal, are_imsi_digits, are_network_digits}
use Rattle.gtp_ie.specs.Value.{Value, OfImsi, OfApn, OfPlmn, OfTft, OfFTeid, third_digit, network_in, fteid_in, has_v4, has_v6, least, least_of}
use Rattle.gtp_ie.specs.Value.{least_by, only_if, said, said_of, said_by, or_bad, value_at}
use Rattle.gtp_ie.specs.Spelling.{SpellsImsi, SpellsApn, SaysOf, SaysBy, Says, Spells}
use Rattle.gtp_ie.specs.reading.Spelling.{SpellsNone}
use Rattle.gtp_values.proofs.Decided.{known_ok, known_err}

-- what is found is what is
pub record Finds (found : Option Value) (P : Value → Type 0) : Type 0 where
  pub some : (v : Value) → found ≡ Some v → P v
  pub is : (v : Value) → P v → found ≡ Some v

finds_always : (w : Value) → Finds (Some w) (λ v. v ≡ w)
finds_always w = record { some = λ v h. cc; is = λ v h. ap (λ (x : Value). Some x) (sym h) }

-- a value that a test lets stand
finds_if : (good : Bool) (w : Value) (P : Type 0) → (good ≡ true → P) → (P → good ≡ true) → Finds (only_if good w) (λ v. P × (v ≡ w))
finds_if true w P to from = record { some = λ v h. (to refl, cc); is = λ v h. ap (λ (x : Value). Some x) (sym h.1) }
finds_if false w P to from = record { some = λ v h. absurd cc; is = λ v h. let e = from h.0 in absurd cc }

-- ---- access point names

apn_finds : (body : List ℕ) → 1 ≤ length body → Finds (only_if (nat_le (length body) 100 && are_labels_from 0 body) (OfApn body)) (SpellsApn body)
apn_finds body some =
    finds_if (nat_le (length body) 100 && are_labels_from 0 body) (OfApn body) (IsApn body)
    (λ h. let b = both (nat_le (length body) 100) (are_labels_from 0 body) h in record { least = some; most = grind (arith, nat_tests); labels = are_labels body b.right })
    (λ is. let most = is.most in let few : nat_le (length body) 100 ≡ true = grind (arith, nat_tests) in and_from (nat_le (length body) 100) (are_labels_from 0 body) few (labels_are body is.labels))

-- ---- digits

decimal_all : (digits : List ℕ) → are_decimal digits ≡ true → All (λ digit. digit < 10) digits
decimal_all [] h = All-nil (λ digit. digit < 10)
decimal_all (x ∷ xs) h = let b = both (nat_lt x 10) (are_decimal xs) h in All-cons (λ digit. digit < 10) x xs (ltb-true _ _ b.left) (decimal_all xs b.right)

pub all_decimal : (digits : List ℕ) → All (λ digit. digit < 10) digits → are_decimal digits ≡ true
all_decimal [] h = refl
all_decimal (x ∷ xs) h =
    let first : x < 10 = All-head (λ digit. digit < 10) x xs h in
    let small : nat_lt x 10 ≡ true = grind (arith, nat_tests) in
    and_from (nat_lt x 10) (are_decimal xs) small (all_decimal xs (All-tail (λ digit. digit < 10) x xs h))

imsi_to : (digits : List ℕ) → are_imsi_digits digits ≡ true → IsImsi digits
imsi_to digits h =
    let b = both (nat_le 6 (length digits) && nat_le (length digits) 15) (are_decimal digits) h in
    let c = both (nat_le 6 (length digits)) (nat_le (length digits) 15) b.left in
    record { least = grind (arith, nat_tests); most = grind (arith, nat_tests); decimal = decimal_all digits b.right }

imsi_from : (digits : List ℕ) → IsImsi digits → are_imsi_digits digits ≡ true
imsi_from digits is =
    let least = is.least in
    let most = is.most in
    let enough : nat_le 6 (length digits) ≡ true = grind (arith, nat_tests) in
    let few : nat_le (length digits) 15 ≡ true = grind (arith, nat_tests) in
    and_from (nat_le 6 (length digits) && nat_le (length digits) 15) (are_decimal digits) (and_from (nat_le 6 (length digits)) (nat_le (length digits) 15) enough few) (all_decimal digits is.decimal)

-- what the last octet's digits are packed into
last_again : (octet : ℕ) → packed (last_digits octet) ≡ octet ∷ []
last_again octet = by_filler (octet / 16 == 15) refl where
  by_filler : (b : Bool) → (octet / 16 == 15) ≡ b → packed (cond b (octet % 16 ∷ []) (octet % 16 ∷ octet / 16 ∷ [])) ≡ octet ∷ []
  by_filler true t = let high : octet / 16 ≡ 15 = grind (arith, nat_tests) in ap (λ (n : ℕ). n ∷ []) (omega arith)
  by_filler false t = ap (λ (n : ℕ). n ∷ []) (omega arith)

-- packing what was unpacked gives the octets back
pub packed_again : (body : List ℕ) → packed (digits_in body) ≡ body
packed_again [] = refl
packed_again (octet ∷ []) = last_again octet
packed_again (octet ∷ next ∷ octets) = let here : 16 * (octet / 16) + octet % 16 ≡ octet = omega arith in rw here (ap (λ (xs : List ℕ). octet ∷ xs) (packed_again (next ∷ octets)))

last_pair : (a b : ℕ) → a < 10 → b < 10 → last_digits (16 * b + a) ≡ a ∷ b ∷ []
last_pair a b p q =
    let high : (16 * b + a) / 16 ≡ b = omega arith in
    let low : (16 * b + a) % 16 ≡ a = omega arith in
    let no_filler : (b == 15) ≡ false = grind (arith, nat_tests) in
    rw (high, low, no_filler) refl

last_one : (a : ℕ) → a < 10 → last_digits (240 + a) ≡ a ∷ []
last_one a p =
    let high : (240 + a) / 16 ≡ 15 = omega arith in
    let low : (240 + a) % 16 ≡ a = omega arith in
    rw (high, low) refl

-- an octet with two digits before others
pair_before : (a b : ℕ) (octets : List ℕ) → a < 10 → b < 10 → (octets ≡ [] → ⊥) → digits_in ((16 * b + a) ∷ octets) ≡ a ∷ b ∷ digits_in octets
pair_before a b [] p q some = absurd (some refl)
pair_before a b (o ∷ octets) p q some =
    let high : (16 * b + a) / 16 ≡ b = omega arith in
    let low : (16 * b + a) % 16 ≡ a = omega arith in
    rw (high, low) refl

some_packed : (d : ℕ) (digits : List ℕ) → packed (d ∷ digits) ≡ [] → ⊥
some_packed d [] h = absurd cc
some_packed d (e ∷ digits) h = absurd cc

-- unpacking what was packed gives the digits back
pub digits_again : (digits : List ℕ) → All (λ digit. digit < 10) digits → digits_in (packed digits) ≡ digits
digits_again [] h = refl
digits_again (a ∷ []) h = last_one a (All-head (λ digit. digit < 10) a [] h)
digits_again (a ∷ b ∷ []) h = last_pair a b (All-head (λ digit. digit < 10) a (b ∷ []) h) (All-head (λ digit. digit < 10) b [] (All-tail (λ digit. digit < 10) a (b ∷ []) h))
digits_again (a ∷ b ∷ c ∷ digits) h =
    let rest = All-tail (λ digit. digit < 10) a (b ∷ c ∷ digits) h in
    let others = All-tail (λ digit. digit < 10) b (c ∷ digits) rest in
    pair_before a b (packed (c ∷ digits)) (All-head (λ digit. digit < 10) a (b ∷ c ∷ digits) h) (All-head (λ digit. digit < 10) b (c ∷ digits) rest) (some_packed c digits)
    ∙ ap (λ (xs : List ℕ). a ∷ b ∷ xs) (digits_again (c ∷ digits) others)

imsi_finds : (body : List ℕ) → Finds (only_if (are_imsi_digits (digits_in body)) (OfImsi (digits_in body))) (SpellsImsi body)
imsi_finds body = record {
  some = λ v h. let p = (by_test.some) v h in (digits_in body, p.0, sym (packed_again body), p.1);
  is = λ v (digits, is, text, e). let same : digits_in body ≡ digits = ap digits_in text ∙ digits_again digits is.decimal in by_test.is v (subst IsImsi (sym same) is, e ∙ ap OfImsi (sym same));
} where
  by_test : Finds (only_if (are_imsi_digits (digits_in body)) (OfImsi (digits_in body))) (λ v. IsImsi (digits_in body) × (v ≡ OfImsi (digits_in body)))
  by_test = finds_if (are_imsi_digits (digits_in body)) (OfImsi (digits_in body)) (IsImsi (digits_in body)) (imsi_to (digits_in body)) (imsi_from (digits_in body))

-- ---- networks

third_count : (digit : ℕ) → length (third_digit digit) ≤ 1
third_count digit = by_test (digit == 15) where
  by_test : (b : Bool) → length (cond b [] (digit ∷ [])) ≤ 1
  by_test true = omega arith
  by_test false = omega arith

network_to : (body : List ℕ) → are_network_digits (network_in body) ≡ true → IsNetwork (network_in body)
network_to body h =
    let b = both (are_decimal (network_in body).mcc) (are_decimal (network_in body).mnc) h in
    let count = third_count (bits 8 5 (octet 6 body)) in
    record { country = refl; least = omega arith; most = omega arith; country_digits = decimal_all (network_in body).mcc b.left; network_digits = decimal_all (network_in body).mnc b.right }

network_from : (n : Network) → IsNetwork n → are_network_digits n ≡ true
network_from n is = and_from (are_decimal n.mcc) (are_decimal n.mnc) (all_decimal n.mcc is.country_digits) (all_decimal n.mnc is.network_digits)

-- ---- any type

finds_none : Finds None (λ v. ⊥)
finds_none = record { some = λ v h. absurd cc; is = λ v h. absurd h }

-- what is read of a body that is long enough is what it says, by its form
form_finds : (form : Form) (body : List ℕ) → least_of form body ≤ length body → Finds (said_of form body) (SaysOf form body)
form_finds forms.Imsi body long = imsi_finds body
form_finds forms.Cause body long = finds_always _
form_finds forms.Recovery body long = finds_always _
form_finds forms.Apn body long = apn_finds body long
form_finds forms.Ambr body long = finds_always _
form_finds forms.Ebi body long = finds_always _
form_finds forms.Paa body long = finds_always _
form_finds forms.Qos body long = finds_always _
form_finds forms.Rat body long = finds_always _
form_finds forms.Plmn body long = finds_if (are_network_digits (network_in body)) (OfPlmn (network_in body)) (IsNetwork (network_in body)) (network_to body) (network_from (network_in body))
form_finds forms.Tft body long = finds_if (nat_le (length body) 255) (OfTft body) (length body ≤ 255) (λ h. grind (arith, nat_tests)) (λ h. grind (arith, nat_tests))
form_finds forms.FTeid body long = finds_if (has_v4 body || has_v6 body) (OfFTeid (fteid_in body)) (IsTrue (has_v4 body || has_v6 body)) (λ h. h) (λ h. h)
form_finds forms.ChargingId body long = finds_always _
form_finds forms.PdnType body long = finds_always _
form_finds forms.Pti body long = finds_always _
form_finds forms.Selection body long = finds_always _

finds_by : (o : Option Form) (body : List ℕ) → least_by o body ≤ length body → Finds (said_by o body) (SaysBy o body)
finds_by None body long = finds_none
finds_by (Some form) body long = form_finds form body long

pub said_finds : (kind : ℕ) (body : List ℕ) → least kind body ≤ length body → Finds (said kind body) (Says kind body)
unfolding Says
said_finds kind body long = finds_by (form_of kind) body long

-- reading a body decides which value it spells, and why it spells none
pub value_decided : (kind : ℕ) (body : List ℕ) → Decides (value_at kind body) (Spells kind body) (SpellsNone kind body)
unfolding value_at
value_decided kind body = by_length (nat_lt (length body) (least kind body)) refl where
  by_said : least kind body ≤ length body → (o : Option Value) → Finds o (Says kind body) → Decides (or_bad o) (Spells kind body) (SpellsNone kind body)
  by_said long (Some v) f =
      known_ok v (Spells kind body) (SpellsNone kind body) (record { long_enough = long; says = f.some v refl })
      (λ w s. sym (same_Some v w (f.is w s.says))) (λ g h. fault g h) where
        fault : (g : ReadFault) → SpellsNone kind body g → ⊥
        fault Short h = omega (arith, h)
        fault Bad h = h.silent v (f.some v refl)
  by_said long None f =
      known_err Bad (Spells kind body) (SpellsNone kind body) (record { long_enough = long; silent = λ v s. none_some v (f.is v s) })
      (λ w s. none_some w (f.is w s.says)) (λ g h. fault g h) where
        fault : (g : ReadFault) → SpellsNone kind body g → g ≡ Bad
        fault Short h = absurd (omega (arith, h))
        fault Bad h = refl

  by_length : (b : Bool) → nat_lt (length body) (least kind body) ≡ b → Decides (cond b (Err Short) (or_bad (said kind body))) (Spells kind body) (SpellsNone kind body)
  by_length true t = known_err Short (Spells kind body) (SpellsNone kind body) (ltb-true _ _ t) (λ w s. let short = ltb-true _ _ t in omega (arith, short, s.long_enough)) (λ g h. fault g h) where
    fault : (g : ReadFault) → SpellsNone kind body g → g ≡ Short
    fault Short h = refl
    fault Bad h = let short = ltb-true _ _ t in absurd (omega (arith, short, h.long_enough))
  by_length false t = by_said (ltb-false _ _ t) (said kind body) (said_finds kind body (ltb-false _ _ t))
