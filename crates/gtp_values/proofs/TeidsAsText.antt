-- Tunnel endpoint identifiers and their texts.
use Rattle.std.proofs.Common.{◌≡◌, ◌∙◌, ◌<◌, ◌^◌, ◌*◌, ◌/◌, ℕ, zero, suc, List, length, Ok, Result, sym, ap, refl, arith, mod-lt}
use Rattle.std.specs.Int.{w32, to_be_bytes, from_be_bytes}
use Rattle.std.proofs.lemmas.Nat.{from_be_bytes-to_be_bytes_4}
use Rattle.hex.specs.declared.error.FromHexError.{FromHexError}
use Rattle.hex.specs.Hex.{IsBytes, lower_digits}
use Rattle.hex.proofs.HexLemmas.{IsOk-decode_sized, decode_sized-twice, decode_of-encode_lower, length-encode_with}
use Rattle.gtp_values.specs.Teid.{IsTeidText, WritesTeid, teid_text}

-- the four octets are octets
are_bytes : (n : ℕ) → IsBytes (to_be_bytes w32 n)
are_bytes n zero = mod-lt (n / 16777216) (omega arith)
are_bytes n (suc zero) = mod-lt (n / 65536) (omega arith)
are_bytes n (suc (suc zero)) = mod-lt (n / 256) (omega arith)
are_bytes n (suc (suc (suc zero))) = mod-lt n (omega arith)
are_bytes n (suc (suc (suc (suc i)))) = omega arith

-- the text of an identifier writes it
pub teid_again : (teid : ℕ) → teid < 2 ^ 32 → IsTeidText (teid_text teid) × WritesTeid (teid_text teid) teid
teid_again teid small =
    let decodes = decode_of-encode_lower (to_be_bytes w32 teid) (are_bytes teid) in
    let long : length (teid_text teid) ≡ 2 * 4 = length-encode_with lower_digits (to_be_bytes w32 teid) in
    let read = decode_sized-twice (teid_text teid) 4 long ∙ decodes in
    ((IsOk-decode_sized (teid_text teid) 4).0 (rw read refl), (to_be_bytes w32 teid, decodes, sym (from_be_bytes-to_be_bytes_4 teid small)))

-- no text writes two identifiers
pub one_teid : (text : List ℕ) (teid other : ℕ) → WritesTeid text teid → WritesTeid text other → teid ≡ other
one_teid text teid other h k = h.2 ∙ (ap (from_be_bytes w32) (same_octets (sym h.1 ∙ k.1)) ∙ sym k.2) where
  same_octets : ◌≡◌ {A = Result (List ℕ) FromHexError} (Ok h.0) (Ok k.0) → h.0 ≡ k.0
  same_octets e = cc e
