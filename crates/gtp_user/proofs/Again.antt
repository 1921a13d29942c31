-- The encoding of a message spells it.
use Rattle.std.proofs.Common.{◌≡◌, ℕ, ◌+◌, ◌*◌, ◌/◌, ◌%◌, ◌<◌, ◌^◌, Bool, true, false, cond, List, [], ◌∷◌, ◌++◌, length, Option, Some, None, refl, sym, ap, subst, ◌∙◌, arith, inl, inr}
use Rattle.std.specs.Prelude.{◌==◌, not, is_some, unwrap_or, IsSome, IfSome}
use Rattle.std.specs.Int.{w32, from_be_bytes}
use Rattle.std.proofs.lemmas.Bool.Decides.{nat_tests}
use Rattle.std.proofs.lemmas.List.{append-nil}
use Rattle.gtp_values.specs.declared.address.Ip.{Ip}
use Rattle.gtp_values.specs.declared.address.Ip.TheVariants as addresses
use Rattle.gtp_user.specs.Chain.{first_kind, chain_encoding}
use Rattle.gtp_user.specs.Flags.{Flags, bits}
use Rattle.gtp_user.specs.Header.{Opens, IsHeaded}
use Rattle.gtp_user.specs.Element.{Recovery, TeidData, Peer, Types, SpellsAddress}
use Rattle.gtp_user.specs.Message.{Content, EchoRequest, EchoResponse, ErrorIndication, Notification, EndMarker, Packet, Other, MessageValue, numbered}
use Rattle.gtp_user.specs.Datagram.{Carries, IsUserMessage}
use Rattle.gtp_values.specs.Numbers.{two, four}
use Rattle.gtp_user.specs.Encoding.{kind_of, teid_of, HasAddressSize, address_encoding, content_encoding, options_encoding, encoding, IsEncodableBy, IsInRange, Meets}
use Rattle.gtp_user.proofs.Headers.{headed}
use Rattle.gtp_user.proofs.Chains.{encoding_chained}

-- ---- the header

four_again : (n : ℕ) (rest : List ℕ) → n < 2 ^ 32 → n ≡ from_be_bytes w32 (four n [])
four_again n rest lt = omega arith

opens : (flags : Flags) (kind teid : ℕ) (tail : List ℕ) → teid < 2 ^ 32 → length tail < 65536 → Opens ((48 + bits flags) ∷ kind ∷ two (length tail) (four teid tail)) flags kind teid tail
opens flags kind teid tail small short = (
  0,
  (length tail / 256) % 256,
  length tail % 256,
  (teid / 16777216) % 256,
  (teid / 65536) % 256,
  (teid / 256) % 256,
  teid % 256,
  refl,
  omega arith,
  omega arith,
  four_again teid [] small,
)

abbrev flags_with : Bool → Option ℕ → Option ℕ → Flags
flags_with none seq npdu = record { chain = not none; seq = is_some seq; npdu = is_some npdu }

abbrev options_with : Bool → Option ℕ → Option ℕ → ℕ → List ℕ
options_with none seq npdu first = cond (bits (flags_with none seq npdu) == 0) [] (two (unwrap_or seq 0) (unwrap_or npdu 0 ∷ first ∷ []))

abbrev headed_encoding : Bool → ℕ → ℕ → Option ℕ → Option ℕ → ℕ → List ℕ → List ℕ
headed_encoding none kind teid seq npdu first rest =
    (48 + bits (flags_with none seq npdu)) ∷ kind ∷ two (length (options_with none seq npdu first ++ rest)) (four teid (options_with none seq npdu first ++ rest))

two_again : (n : ℕ) → n < 2 ^ 16 → Some n ≡ Some (256 * ((n / 256) % 256) + n % 256)
two_again n lt = ap (λ (k : ℕ). Some k) (omega arith)

header_again : (none : Bool) (kind teid : ℕ) (seq npdu : Option ℕ) (first : ℕ) (rest : List ℕ) → (first == 0) ≡ none → teid < 2 ^ 32
    → IfSome seq (λ n. n < 2 ^ 16) → length (options_with none seq npdu first ++ rest) < 65536
    → IsHeaded (headed_encoding none kind teid seq npdu first rest) (headed kind teid seq npdu first rest)
header_again true kind teid None None first rest z t s l = inl (opens (flags_with true None None) kind teid rest t l, refl, refl, grind (arith, nat_tests))
header_again true kind teid None (Some p) first rest z t s l =
    inr (flags_with true None (Some p), 0, 0, p, first, omega arith, opens (flags_with true None (Some p)) kind teid (0 ∷ 0 ∷ p ∷ first ∷ rest) t l, refl, refl, grind (arith, nat_tests))
header_again true kind teid (Some n) None first rest z t s l =
    inr (
      flags_with true (Some n) None,
      (n / 256) % 256,
      n % 256,
      0,
      first,
      omega arith,
      opens (flags_with true (Some n) None) kind teid (two n (0 ∷ first ∷ rest)) t l,
      two_again n s,
      refl,
      grind (arith, nat_tests),
    )
header_again true kind teid (Some n) (Some p) first rest z t s l =
    inr (
      flags_with true (Some n) (Some p),
      (n / 256) % 256,
      n % 256,
      p,
      first,
      omega arith,
      opens (flags_with true (Some n) (Some p)) kind teid (two n (p ∷ first ∷ rest)) t l,
      two_again n s,
      refl,
      grind (arith, nat_tests),
    )
header_again false kind teid None None first rest z t s l =
    inr (flags_with false None None, 0, 0, 0, first, omega arith, opens (flags_with false None None) kind teid (0 ∷ 0 ∷ 0 ∷ first ∷ rest) t l, refl, refl, refl)
header_again false kind teid None (Some p) first rest z t s l =
    inr (flags_with false None (Some p), 0, 0, p, first, omega arith, opens (flags_with false None (Some p)) kind teid (0 ∷ 0 ∷ p ∷ first ∷ rest) t l, refl, refl, refl)
header_again false kind teid (Some n) None first rest z t s l =
    inr (flags_with false (Some n) None, (n / 256) % 256, n % 256, 0, first, omega arith, opens (flags_with false (Some n) None) kind teid (two n (0 ∷ first ∷ rest)) t l, two_again n s, refl, refl)
header_again false kind teid (Some n) (Some p) first rest z t s l =
    inr (
      flags_with false (Some n) (Some p),
      (n / 256) % 256,
      n % 256,
      p,
      first,
      omega arith,
      opens (flags_with false (Some n) (Some p)) kind teid (two n (p ∷ first ∷ rest)) t l,
      two_again n s,
      refl,
      refl,
    )

-- ---- what is carried

address_again : (address : Ip) → HasAddressSize address → SpellsAddress (address_encoding address) address []
address_again (addresses.V4 octets) size = (ap (λ (n : ℕ). 0 ∷ n ∷ octets) size ∙ ap (λ (xs : List ℕ). 0 ∷ 4 ∷ xs) (sym (append-nil octets)), size)
address_again (addresses.V6 octets) size = (ap (λ (n : ℕ). 0 ∷ n ∷ octets) size ∙ ap (λ (xs : List ℕ). 0 ∷ 16 ∷ xs) (sym (append-nil octets)), size)

carries_again : (content : Content) (seq : Option ℕ) → IsEncodableBy content seq → IsInRange content → Carries (kind_of content) (teid_of content) (content_encoding content) content
unfolding content_encoding
carries_again EchoRequest seq w r = refl
carries_again EchoResponse seq w r = (refl, (Recovery ∷ [], ([], (0, refl), refl), refl))
carries_again (ErrorIndication teid peer) seq w r = (
  refl,
  (
    TeidData teid ∷ Peer peer ∷ [],
    (
      133 ∷ address_encoding peer,
      ((teid / 16777216) % 256, (teid / 65536) % 256, (teid / 256) % 256, teid % 256, refl, four_again teid [] r.0),
      ([], (address_encoding peer, refl, address_again peer r.1), refl),
    ),
    refl,
    refl,
  ),
)
carries_again (Notification types) seq w r = (refl, (Types types ∷ [], ([], ap (λ (xs : List ℕ). 141 ∷ length types ∷ xs) (sym (append-nil types)), refl), refl))
carries_again (EndMarker teid) seq w r = (refl, refl)
carries_again (Packet teid payload) seq w r = (refl, refl, refl)
carries_again (Other kind teid octets) seq w r = (w, refl, refl, refl)

some_number : (seq : Option ℕ) → IsSome seq → seq ≡ Some (unwrap_or seq 0)
some_number (Some n) h = refl
some_number None h = absurd cc

numbered_again : (content : Content) (seq : Option ℕ) → IsEncodableBy content seq → seq ≡ numbered content seq
numbered_again EchoRequest seq w = some_number seq w
numbered_again EchoResponse seq w = some_number seq w
numbered_again (ErrorIndication teid peer) seq w = some_number seq w
numbered_again (Notification types) seq w = some_number seq w.0
numbered_again (EndMarker teid) seq w = refl
numbered_again (Packet teid payload) seq w = refl
numbered_again (Other kind teid octets) seq w = refl

-- ---- the whole message

pub encoding_again : (m : MessageValue) → Meets m → IsUserMessage (encoding m) m
unfolding options_encoding
encoding_again m meets =
    let first = first_kind m.ext in (
      headed (kind_of m.content) (teid_of m.content) m.seq m.npdu (first_kind m.ext) (chain_encoding m.ext ++ content_encoding m.content),
      header_again (first_kind m.ext == 0) (kind_of m.content) (teid_of m.content) m.seq m.npdu (first_kind m.ext)
          (chain_encoding m.ext ++ content_encoding m.content) refl meets.teid meets.seq meets.short,
      (
        content_encoding m.content,
        encoding_chained m.ext (content_encoding m.content) meets.ext,
        carries_again m.content m.seq meets.encodable meets.range,
        numbered_again m.content m.seq meets.encodable,
        refl,
      ),
    )

-- what was written, where it is the encoding
pub written_again : (m : MessageValue) (octets : List ℕ) → Meets m → octets ≡ encoding m → IsUserMessage octets m
written_again m octets meets is = subst (λ (xs : List ℕ). IsUserMessage xs m) (sym is) (encoding_again m meets)
