-- What values read from texts are.
use Rattle.std.proofs.Common.{◌≡◌, ◌&&◌, ℕ, Bool, true, false, cond, List, [], ◌∷◌, length, map, All, Option, Some, None, option_map, Result, Ok, Err}
use Rattle.std.proofs.Common.{IfOk, ne_eqb, refl, sym, ap, subst, ◌∙◌, lit≤, arith}
use Rattle.std.specs.Prelude.{nat_le}
use Rattle.std.specs.Int.{w32, from_be_bytes}
use Rattle.std.specs.List.{list_all}
use Rattle.std.specs.Result.{result_ok}
use Rattle.std.specs.declared.net.ipv4_addr.Ipv4Addr.{Ipv4Addr}
use Rattle.std.specs.Net.Grammar.{IsDotted, IsIpv4Text, Parses}
use Rattle.std.specs.Net.Reader.{read_ipv4, whole_value}
use Rattle.std.proofs.NetLemmas.Ipv4.{read_ipv4_complete, read_ipv4_sound}
use Rattle.std.proofs.lemmas.Bool.{le-leb}
use Rattle.std.proofs.lemmas.Bool.Decides.{nat_tests}
use Rattle.std.proofs.lemmas.List.{append-nil}
use Rattle.std.proofs.lemmas.List.Elements.{All-nil, All-cons, All-head, All-tail}
use Rattle.hex.specs.Hex.{decode_sized}
use Rattle.hex.specs.declared.error.FromHexError.{FromHexError}
use Rattle.hex.proofs.HexLemmas.{IsOk-decode_sized, decode_sized-twice}
use Rattle.gtp_values.specs.declared.fault.ValueFault.{ValueFault}
use Rattle.gtp_values.specs.declared.identifiers.Teid.{Teid}
use Rattle.gtp_values.specs.Imsi.{IsDigitCode, IsImsiText, ReadsImsi, value_of_digit}
use Rattle.gtp_values.specs.Apn.{IsApn, IsApnText, ReadsApn, are_labels_from, octets_of_text}
use Rattle.gtp_values.specs.Teid.{ReadsTeid}
use Rattle.gtp_values.proofs.Labels.{labels_are, are_labels}
use Rattle.gtp_values.proofs.NamesAsText.{again, text_has_length, name_of_text, length_of_name, says_its_name}
use Rattle.gtp_values.proofs.Tests.{both}
use Rattle.gtp_scenario.specs.Texts.{is_digit_code, imsi_of, apn_of, teid_of, address_of}

-- a choice whose test does not hold
none_where : {A : Type 0} (b : Bool) (x : A) → (b ≡ true → ⊥) → cond b (Some x) None ≡ None
none_where true x not = absurd (not refl)
none_where false x not = refl

-- ---- subscribers

digit_codes : (text : List ℕ) → All IsDigitCode text → list_all is_digit_code text ≡ true
digit_codes [] all = refl
digit_codes (octet ∷ text) all =
    let first = All-head IsDigitCode octet text all in
    rw (le-leb 48 octet first.least, le-leb octet 57 first.most) (digit_codes text (All-tail IsDigitCode octet text all))

are_digit_codes : (text : List ℕ) → list_all is_digit_code text ≡ true → All IsDigitCode text
are_digit_codes [] h = All-nil IsDigitCode
are_digit_codes (octet ∷ text) h =
    let b = both (is_digit_code octet) (list_all is_digit_code text) h in
    All-cons IsDigitCode octet text (record { least = grind (arith, nat_tests, b.left); most = grind (arith, nat_tests, b.left) }) (are_digit_codes text b.right)

pub imsi_is : (text : List ℕ) → IsImsiText text → imsi_of text ≡ Some (map value_of_digit text)
unfolding imsi_of
imsi_is text is = rw (le-leb 6 (length text) is.least, le-leb (length text) 15 is.most, digit_codes text is.decimal) refl

none_imsi : (text : List ℕ) → (IsImsiText text → ⊥) → imsi_of text ≡ None
unfolding imsi_of
none_imsi text not = none_where _ _ (λ h.
    let b = both (nat_le 6 (length text) && nat_le (length text) 15) (list_all is_digit_code text) h in
    let lengths = both (nat_le 6 (length text)) (nat_le (length text) 15) b.left in
    not (record { least = grind (arith, nat_tests, lengths.left); most = grind (arith, nat_tests, lengths.right); decimal = are_digit_codes text b.right }))

pub imsi_read : (text : List ℕ) (r : Result (List ℕ) ValueFault) → ReadsImsi text r → result_ok r ≡ imsi_of text
imsi_read text (Ok imsi) reads = ap Some reads.value ∙ sym (imsi_is text (reads.ok.0 refl))
imsi_read text (Err e) reads = sym (none_imsi text (λ is. absurd cc (reads.ok.1 is)))

-- ---- access point names

pub apn_is : (text : List ℕ) → IsApnText text → apn_of text ≡ Some (octets_of_text text)
unfolding apn_of
apn_is text is =
    let has = text_has_length text is in
    rw (le-leb 1 (length text) has.least, le-leb (length text) 99 has.most, labels_are (octets_of_text text) (name_of_text text is).labels) refl

none_apn : (text : List ℕ) → (IsApnText text → ⊥) → apn_of text ≡ None
unfolding apn_of
none_apn text not = none_where _ _ (λ h.
    let b = both (nat_le 1 (length text) && nat_le (length text) 99) (are_labels_from 0 (octets_of_text text)) h in
    let lengths = both (nat_le 1 (length text)) (nat_le (length text) 99) b.left in
    let has = length_of_name text (record { least = grind (arith, nat_tests, lengths.left); most = grind (arith, nat_tests, lengths.right) }) in
    not (says_its_name text (record { least = has.least; most = has.most; labels = are_labels (octets_of_text text) b.right })))

pub apn_read : (text : List ℕ) (r : Result (List ℕ) ValueFault) → IfOk r IsApn → ReadsApn text r → result_ok r ≡ apn_of text
apn_read text (Ok apn) is reads = ap Some (sym (again apn is) ∙ ap octets_of_text reads.value) ∙ sym (apn_is text (reads.ok.0 refl))
apn_read text (Err e) is reads = sym (none_apn text (λ is_text. absurd cc (reads.ok.1 is_text)))

-- ---- TEIDs

pub teid_read : (text : List ℕ) (r : Result Teid ValueFault) → ReadsTeid text r → result_ok r ≡ teid_of text
unfolding teid_of
teid_read text (Ok teid) reads =
    let is = reads.ok.0 refl in
    let writes = reads.value in
    rw (decode_sized-twice text 4 is.0, writes.1) (ap Some writes.2)
teid_read text (Err e) reads = sym (by_digits (decode_sized text 4) refl)
  where
    by_digits : (d : Result (List ℕ) FromHexError) → decode_sized text 4 ≡ d → option_map (from_be_bytes w32) (result_ok d) ≡ None
    by_digits (Ok octets) h = absurd cc (reads.ok.1 ((IsOk-decode_sized text 4).0 (rw h refl)))
    by_digits (Err e) h = refl

-- ---- addresses

dotted_is : (text octets : List ℕ) → IsDotted text octets → address_of text ≡ Some octets
unfolding address_of
dotted_is text octets is =
    let read = ap read_ipv4 (sym (append-nil text)) ∙ read_ipv4_complete text octets [] is (lit≤ tt) in
    rw read refl

none_dotted : (text : List ℕ) → ((octets : List ℕ) → IsDotted text octets → ⊥) → address_of text ≡ None
unfolding address_of
none_dotted text not = by_read (read_ipv4 text) refl
  where
    by_read : (r : Option (List ℕ × List ℕ)) → read_ipv4 text ≡ r → whole_value r ≡ None
    by_read None h = refl
    by_read (Some (octets, x ∷ rest)) h = rw (ne_eqb (length (x ∷ rest)) 0 (omega arith)) refl
    by_read (Some (octets, [])) h =
        let (front, split, is) = read_ipv4_sound text octets [] h in
        absurd (not octets (subst (λ t. IsDotted t octets) (sym (split ∙ append-nil front)) is))

pub address_read : (text : List ℕ) {E : Type 0} (r : Result Ipv4Addr E) → Parses IsIpv4Text text r → option_map (λ address. address.octets) (result_ok r) ≡ address_of text
address_read text (Ok address) reads = sym (dotted_is text address.octets reads)
address_read text (Err e) reads = sym (none_dotted text (λ octets is. reads (record { octets = octets }) is))
