-- Where the packet of a G-PDU begins.
use Rattle.std.proofs.Common.{◌≡◌, ℕ, ◌+◌, ◌-◌, ◌*◌, ◌/◌, ◌%◌, ◌<◌, ◌≤◌, Bool, true, false, cond, List, [], ◌∷◌, length, take, drop, Some, None, Result, Ok, Err, refl, sym, ap, subst, ◌∙◌, arith}
use Rattle.std.specs.Prelude.{◌==◌, slice_index}
use Rattle.std.proofs.lemmas.List.{length-drop, get_or-drop, drop-drop}
use Rattle.std.proofs.lemmas.Option.{same_Some}
use Rattle.gtp_user.specs.declared.fault.UserFault.{UserFault}
use Rattle.gtp_values.specs.Steps.{◌>>=◌}
use Rattle.gtp_user.specs.Chain.{Extension, IsChain}
use Rattle.gtp_user.specs.Headed.{Headed, where_set}
use Rattle.gtp_user.specs.reading.Headed.{header_at, after_flags}
use Rattle.gtp_user.specs.reading.Walk.{Chained, chain_at, HasNoRest, headers_in, headers_of, rest_of}
use Rattle.gtp_user.specs.reading.Message.{body_at}
use Rattle.gtp_user.specs.reading.Viewed.{tail_at, OpensPacket, teid_at}
use Rattle.gtp_user.proofs.Headers.{headed, at_plain, at_flags}
use Rattle.gtp_user.proofs.Chains.{chained, chain_decided, so_far_ends}

abbrev octet : List ℕ → ℕ → ℕ
octet octets i = slice_index octets i

-- one of two, by a test
pub chosen : {X : Type 0} {o : X} (x y : X) (b : Bool) → o ≡ cond b x y → b ≡ true → x ≡ o
chosen x y b e t = sym (e ∙ ap (λ (b : Bool). cond b x y) t)

pub other : {X : Type 0} {o : X} (x y : X) (b : Bool) → o ≡ cond b x y → b ≡ false → y ≡ o
other x y b e t = sym (e ∙ ap (λ (b : Bool). cond b x y) t)

-- the lowest bit
pub lowest : (n : ℕ) (b : Bool) → ((n / 1) % 2 == 1) ≡ b → (n % 2 == 1) ≡ b
lowest n b = subst (λ (k : ℕ). (k % 2 == 1) ≡ b) (omega arith)

-- ---- a chain

-- no extension header
no_chain : (end : ℕ) (octets : List ℕ) → rest_of (chain_at end 0 octets) ≡ Some octets
no_chain end octets = ap rest_of ((chain_decided end 0 octets).is (chained [] octets) (refl, refl))

-- the octets of a chain, and no more, are one
pub chain_alone : (first n : ℕ) (octets rest : List ℕ) (es : List Extension) → IsChain first octets es rest → n ≡ length octets - length rest
    → HasNoRest first (take n octets) × (headers_in first (take n octets) ≡ es)
chain_alone first n octets rest es chain is =
    let a = so_far_ends (length octets) first octets rest (es, chain) in
    subst (λ (k : ℕ). HasNoRest first (take k octets) × (headers_in first (take k octets) ≡ es)) (sym is)
    (a.whole, ap headers_of (sym a.chain ∙ (chain_decided (length octets) first octets).is (chained es rest) chain))

-- ---- a G-PDU

eight : (octets : List ℕ) → 8 ≤ length octets
    → octets ≡ octet octets 0 ∷ octet octets 1 ∷ octet octets 2 ∷ octet octets 3 ∷ octet octets 4 ∷ octet octets 5 ∷ octet octets 6 ∷ octet octets 7 ∷ drop 8 octets
eight [] l = absurd (omega arith)
eight (a ∷ []) l = absurd (omega arith)
eight (a ∷ b ∷ []) l = absurd (omega arith)
eight (a ∷ b ∷ c ∷ []) l = absurd (omega arith)
eight (a ∷ b ∷ c ∷ d ∷ []) l = absurd (omega arith)
eight (a ∷ b ∷ c ∷ d ∷ e ∷ []) l = absurd (omega arith)
eight (a ∷ b ∷ c ∷ d ∷ e ∷ f ∷ []) l = absurd (omega arith)
eight (a ∷ b ∷ c ∷ d ∷ e ∷ f ∷ g ∷ []) l = absurd (omega arith)
eight (a ∷ b ∷ c ∷ d ∷ e ∷ f ∷ g ∷ h ∷ rest) l = refl

four : (octets : List ℕ) → 4 ≤ length octets → octets ≡ octet octets 0 ∷ octet octets 1 ∷ octet octets 2 ∷ octet octets 3 ∷ drop 4 octets
four [] l = absurd (omega arith)
four (a ∷ []) l = absurd (omega arith)
four (a ∷ b ∷ []) l = absurd (omega arith)
four (a ∷ b ∷ c ∷ []) l = absurd (omega arith)
four (a ∷ b ∷ c ∷ d ∷ rest) l = refl

-- the rest of a header and a chain is the tail
packet_tail : (octets : List ℕ) (h : Headed) (t : List ℕ) → header_at octets ≡ Ok h → h.kind ≡ 255 → rest_of (chain_at (length octets) h.first h.rest) ≡ Some t → tail_at octets ≡ Ok t
unfolding tail_at body_at
packet_tail octets h t e k r = rw e (after (chain_at (length octets) h.first h.rest) r) where
  after : (c : Result Chained UserFault) → rest_of c ≡ Some t → (c >>= λ c. body_at (length octets) h.kind h.teid c.rest >>= λ content. Ok c.rest) ≡ Ok t
  after (Ok c) r = rw k (ap (λ (xs : List ℕ). Ok xs) (same_Some c.rest t r))
  after (Err f) r = absurd cc

-- a G-PDU with no flag set
pub packet_plain : (octets : List ℕ) → OpensPacket octets → octet octets 0 % 8 ≡ 0 → tail_at octets ≡ Ok (drop 8 octets)
packet_plain octets o f =
    packet_tail octets (headed (octet octets 1) (teid_at octets) None None 0 (drop 8 octets)) (drop 8 octets)
    (ap header_at (eight octets o.long) ∙ at_plain _ _ _ _ _ _ _ _ _ (omega (arith, o.version)) (omega (arith, o.version)) f (omega (arith, o.size, o.long, length-drop 8 octets)))
    o.kind (no_chain (length octets) (drop 8 octets))

-- with one set, whose chain begins with this type
packet_flagged : (octets : List ℕ) (first : ℕ) (t : List ℕ) → OpensPacket octets → 0 < octet octets 0 % 8 → 12 ≤ length octets
    → cond ((octet octets 0 / 4) % 2 == 1) (octet octets 11) 0 ≡ first → rest_of (chain_at (length octets) first (drop 12 octets)) ≡ Some t → tail_at octets ≡ Ok t
packet_flagged octets first t o f long is chain =
    packet_tail octets (headed (octet octets 1) (teid_at octets) (where_set ((octet octets 0 / 2) % 2 == 1) (256 * octet octets 8 + octet octets 9))
    (where_set (octet octets 0 % 2 == 1) (octet octets 10)) (cond ((octet octets 0 / 4) % 2 == 1) (octet octets 11) 0) (drop 12 octets)) t
    (ap header_at (eight octets o.long) ∙ (at_flags _ _ _ _ _ _ _ _ _ (omega (arith, o.version)) (omega (arith, o.version)) f (omega (arith, o.size, o.long, length-drop 8 octets)) ∙ after))
    o.kind (subst (λ (k : ℕ). rest_of (chain_at (length octets) k (drop 12 octets)) ≡ Some t) (sym is) chain)
  where
    after : after_flags (octet octets 0) (octet octets 1) (teid_at octets) (drop 8 octets)
        ≡ Ok (headed (octet octets 1) (teid_at octets) (where_set ((octet octets 0 / 2) % 2 == 1) (256 * octet octets 8 + octet octets 9))
        (where_set (octet octets 0 % 2 == 1) (octet octets 10)) (cond ((octet octets 0 / 4) % 2 == 1) (octet octets 11) 0) (drop 12 octets))
    after = ap (after_flags (octet octets 0) (octet octets 1) (teid_at octets)) (four (drop 8 octets) (omega (arith, length-drop 8 octets, long)))
        ∙ rw (get_or-drop 8 octets 0 0, get_or-drop 8 octets 1 0, get_or-drop 8 octets 2 0, get_or-drop 8 octets 3 0, drop-drop 4 8 octets) refl

-- with an extension header
pub packet_chained : (octets t : List ℕ) → OpensPacket octets → 0 < octet octets 0 % 8 → 12 ≤ length octets → ((octet octets 0 / 4) % 2 == 1) ≡ true
    → rest_of (chain_at (length octets) (octet octets 11) (drop 12 octets)) ≡ Some t → tail_at octets ≡ Ok t
packet_chained octets t o f long set chain = packet_flagged octets (octet octets 11) t o f long (ap (λ (b : Bool). cond b (octet octets 11) 0) set) chain

-- without one
pub packet_unchained : (octets : List ℕ) → OpensPacket octets → 0 < octet octets 0 % 8 → 12 ≤ length octets → ((octet octets 0 / 4) % 2 == 1) ≡ false → tail_at octets ≡ Ok (drop 12 octets)
packet_unchained octets o f long none =
    packet_flagged octets 0 (drop 12 octets) o f long (ap (λ (b : Bool). cond b (octet octets 11) 0) none) (no_chain (length octets) (drop 12 octets))
