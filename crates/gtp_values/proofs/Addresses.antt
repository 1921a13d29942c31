-- Addresses and their texts.
use Rattle.std.proofs.Common.{◌≡◌, ◌∙◌, ◌<◌, ◌≤◌, ◌++◌, ◌%◌, ◌/◌, ◌==◌, true, false, Ok, Err, Bool, cond, refl, ℕ, List, length, All, get_or, ap, subst, sym, arith, decimal}
use Rattle.std.specs.Net.Grammar.{IsDotted}
use Rattle.std.specs.declared.net.ipv4_addr.Ipv4Addr.{Ipv4Addr}
use Rattle.std.proofs.lemmas.List.{get_or_past}
use Rattle.std.proofs.NetLemmas.Texts.{IsDotted-ipv4_text}
use Rattle.std.proofs.NetLemmas.Theorems.{IsIpv4Text_unique}
use Rattle.hex.proofs.HexLemmas.{decode_of-encode_lower, length-encode_with}
use Rattle.std.specs.Prelude.{codes, nat_lt}
use Rattle.std.proofs.lemmas.Fmt.{decimal_nonempty, length-decimal-le}
use Rattle.std.proofs.lemmas.Bool.Decides.{nat_tests}
use Rattle.std.proofs.lemmas.Grind.{common_steps}
use Rattle.std.specs.Prelude.{Result, MatchResult}
use Rattle.hex.specs.declared.error.FromHexError.{FromHexError}
use Rattle.hex.specs.declared.error.FromHexError.TheVariants.{OddLength, InvalidStringLength}
use Rattle.hex.specs.Hex.{decode_sized, decode_pairs, lower_digits}
use Rattle.gtp_values.specs.declared.address.Ip.{Ip}
use Rattle.gtp_values.specs.declared.address.Ip.TheVariants as TheIp
use Rattle.gtp_values.specs.Address.{SomeIpText, IsIp, IsIpText, HasIpTextLength, ip_text}

-- one number of an address in dotted decimal
record IsPart (text : List ℕ) : Type 0 where
  least : 1 ≤ length text
  most : length text ≤ 3

part : (n : ℕ) → n < 256 → IsPart (decimal n)
part n below = record { least = decimal_nonempty n (omega arith); most = length-decimal-le 3 n (omega arith) (omega arith) (omega arith) }

-- four of them, and three dots
record IsFour (text : List ℕ) : Type 0 where
  least : 7 ≤ length text
  most : length text ≤ 15

four : (a b c d : List ℕ) → IsPart a → IsPart b → IsPart c → IsPart d → IsFour (a ++ codes "." ++ b ++ codes "." ++ c ++ codes "." ++ d)
four a b c d p q r s =
    let al : 1 ≤ length a = p.least in
    let bl : 1 ≤ length b = q.least in
    let cl : 1 ≤ length c = r.least in
    let dl : 1 ≤ length d = s.least in
    let am : length a ≤ 3 = p.most in
    let bm : length b ≤ 3 = q.most in
    let cm : length c ≤ 3 = r.most in
    let dm : length d ≤ 3 = s.most in
    record { least = grind (arith, common_steps); most = grind (arith, common_steps) }

dotted : (text octets : List ℕ) → IsDotted text octets → IsFour text
dotted text octets is =
    let a = part is.a is.fit.0 in
    let b = part is.b is.fit.1 in
    let c = part is.c is.fit.2 in
    let d = part is.d is.fit.3 in
    subst IsFour (sym is.spelled) (four _ _ _ _ a b c d)

dotted_most : (text octets : List ℕ) → IsDotted text octets → length text ≤ 15
dotted_most text octets is = (dotted text octets is).most

-- the text of an address has 7 to 32 characters
pub ip_text_length : (text : List ℕ) → SomeIpText text → HasIpTextLength text
ip_text_length text (TheIp.V4 octets, is) =
    let f = dotted text octets is in
    let most : length text ≤ 15 = f.most in
    record { least = f.least; most = omega arith }
ip_text_length text (TheIp.V6 octets, is) = record { least = omega (arith, is.0); most = omega (arith, is.0) }

-- ---- 32 hexadecimal digits

digits_32 : (text : List ℕ) → (length text % 2 == 1) ≡ false → (length text / 2 == 16) ≡ true → length text ≡ 32
digits_32 text even half = grind (arith, nat_tests)

-- what was decoded into 16 octets is what the text writes
pub decoded : (text octets : List ℕ) → decode_sized text 16 ≡ Ok octets → IsIpText text (TheIp.V6 octets)
decoded text octets h = by_tests (length text % 2 == 1) (length text / 2 == 16) refl refl h where
  by_tests : (odd half : Bool) → (length text % 2 == 1) ≡ odd → (length text / 2 == 16) ≡ half
      → cond odd (Err OddLength) (cond half (decode_pairs 0 text) (Err InvalidStringLength)) ≡ Ok octets → IsIpText text (TheIp.V6 octets)
  by_tests true half p q h = absurd cc
  by_tests false false p q h = absurd cc
  by_tests false true p q h = (digits_32 text p q, rw p h)

-- what the text writes is decoded into 16 octets
pub decodes : (text octets : List ℕ) → IsIpText text (TheIp.V6 octets) → decode_sized text 16 ≡ Ok octets
decodes text octets is = let e = is.0 in let h = rw e at (is.1) in rw e h

-- what a call answered that decodes into 16 octets
abbrev pub Answers : (text : List ℕ) (r : Result (Unit {0}) FromHexError) (out : List ℕ) → Type 0
Answers text r out = MatchResult (decode_sized text 16) (λ octets. (r ≡ Ok tt) × (out ≡ octets)) (λ e. r ≡ Err e)

pub wrote : (text : List ℕ) (r : Result (Unit {0}) FromHexError) (out : List ℕ) → Answers text r out → r ≡ Ok tt → IsIpText text (TheIp.V6 out)
wrote text r out a ok = by_answer (decode_sized text 16) refl a where
  by_answer : (d : Result (List ℕ) FromHexError) → decode_sized text 16 ≡ d → MatchResult d (λ octets. (r ≡ Ok tt) × (out ≡ octets)) (λ e. r ≡ Err e) → IsIpText text (TheIp.V6 out)
  by_answer (Ok octets) h a = decoded text out (h ∙ ap Ok (sym a.1))
  by_answer (Err e) h a = absurd (let bad = sym ok ∙ a in cc bad)

pub wrote_none : (text : List ℕ) (r : Result (Unit {0}) FromHexError) (out : List ℕ) (e : FromHexError) → Answers text r out → r ≡ Err e → (octets : List ℕ) → IsIpText text (TheIp.V6 octets) → ⊥
wrote_none text r out e a err octets is = by_answer (subst (λ d. MatchResult d (λ octets. (r ≡ Ok tt) × (out ≡ octets)) (λ e. r ≡ Err e)) (decodes text octets is) a) where
  by_answer : (r ≡ Ok tt) × (out ≡ octets) → ⊥
  by_answer a = let bad = sym a.0 ∙ err in cc bad

-- ---- what is written is read again

-- the octets of an address, also those that are not there
bytes : (octets : List ℕ) → All (λ octet. octet < 256) octets → (k : ℕ) → get_or octets k 0 < 256
bytes octets all k = by_place (nat_lt k (length octets)) refl where
  by_place : (b : Bool) → nat_lt k (length octets) ≡ b → get_or octets k 0 < 256
  by_place true h = all k 0 (grind (arith, nat_tests))
  by_place false h = let past : length octets ≤ k = grind (arith, nat_tests) in let none : get_or octets k 0 ≡ 0 = get_or_past octets k 0 past in omega (arith, none)

-- the text of an address writes it
pub writes_it : (ip : Ip) → IsIp ip → IsIpText (ip_text ip) ip
writes_it (TheIp.V4 octets) is = IsDotted-ipv4_text octets is.0 (bytes octets is.1)
writes_it (TheIp.V6 octets) is = (let long = length-encode_with lower_digits octets in omega (arith, long, is.0), decode_of-encode_lower octets (bytes octets is.1))

-- no text writes two addresses
pub one_ip : (text : List ℕ) (ip other : Ip) → IsIpText text ip → IsIpText text other → ip ≡ other
one_ip text (TheIp.V4 a) (TheIp.V4 b) h k = ap TheIp.V4 (ap (λ (ip : Ipv4Addr). ip.octets) (IsIpv4Text_unique text (record { octets = a }) (record { octets = b }) h k))
one_ip text (TheIp.V4 a) (TheIp.V6 b) h k = absurd (let short = dotted_most text a h in omega (arith, short, k.0))
one_ip text (TheIp.V6 a) (TheIp.V4 b) h k = absurd (let short = dotted_most text b k in omega (arith, short, h.0))
one_ip text (TheIp.V6 a) (TheIp.V6 b) h k = ap TheIp.V6 (same_octets (sym h.1 ∙ k.1)) where
  same_octets : ◌≡◌ {A = Result (List ℕ) FromHexError} (Ok a) (Ok b) → a ≡ b
  same_octets e = cc e
