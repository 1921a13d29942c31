-- What a message of the user plane carries, and where it lies.
use Rattle.std.proofs.Common.{◌≡◌, ℕ, ◌+◌, ◌-◌, ◌*◌, ◌%◌, ◌<◌, true, false, List, [], ◌∷◌, ◌++◌, length, drop, refl, sym, ap, ◌∙◌, subst, append_assoc, length-append, inl, inr, arith}
use Rattle.std.specs.Prelude.{Some, ◌==◌, unwrap_or}
use Rattle.std.proofs.lemmas.Bool.Decides.{nat_tests}
use Rattle.std.proofs.lemmas.List.{drop-drop, drop_at}
use Rattle.std.proofs.Math.Seq.{drop-append_seam}
use Rattle.std.proofs.lemmas.Option.{same_Some}
use Rattle.gtp_values.proofs.Outcomes.{none_some}
use Rattle.gtp_user.proofs.Chains.{chain_spelled}
use Rattle.gtp_user.proofs.Headers.{flags_are, test_not}
use Rattle.gtp_user.specs.Chain.{Extension, IsChain, Leads, chain_encoding}
use Rattle.gtp_user.specs.Datagram.{IsUserMessage, Carries}
use Rattle.gtp_user.specs.Headed.{Headed}
use Rattle.gtp_user.specs.Flags.{Flags, bits}
use Rattle.gtp_user.specs.Header.{IsHeaded}
use Rattle.gtp_user.specs.Message.{Content, EchoRequest, EchoResponse, ErrorIndication, Notification, EndMarker, Packet, Other, MessageValue, packet_in, receiver_in}
use Rattle.gtp_c.specs.Common.{AreLast}
use Rattle.gtp_c.specs.Reading.{LiesAtEnd, IsCarried}
use Rattle.gtp_c.specs.Sizes.{HasTypes, header_size}
use Rattle.gtp_c.specs.declared.user.Carried.{Carried}

-- a message that has a packet is a G-PDU
packet_is : (content : Content) (teid : ℕ) (payload : List ℕ) → Some (teid, payload) ≡ packet_in content → Packet teid payload ≡ content
packet_is (Packet t p) teid payload is = ap (λ (q : ℕ × List ℕ). Packet q.0 q.1) (same_Some (teid, payload) (t, p) is)
packet_is EchoRequest teid payload is = absurd (none_some (teid, payload) (sym is))
packet_is EchoResponse teid payload is = absurd (none_some (teid, payload) (sym is))
packet_is (ErrorIndication t p) teid payload is = absurd (none_some (teid, payload) (sym is))
packet_is (Notification ts) teid payload is = absurd (none_some (teid, payload) (sym is))
packet_is (EndMarker t) teid payload is = absurd (none_some (teid, payload) (sym is))
packet_is (Other k t p) teid payload is = absurd (none_some (teid, payload) (sym is))

-- the head tells what it carries
pub packet_carried : (content : Content) (told : Carried) (teid receiver : ℕ) (payload : List ℕ) → Some (teid, payload) ≡ packet_in content → receiver ≡ unwrap_or (receiver_in content) 0
    → IsCarried (Packet receiver payload) told → IsCarried content told
packet_carried content told teid receiver payload is to carried =
    let packet = packet_is content teid payload is in
    let same : receiver ≡ teid = to ∙ ap (λ (c : Content). unwrap_or (receiver_in c) 0) (sym packet) in
    subst (λ (c : Content). IsCarried c told) packet (subst (λ (n : ℕ). IsCarried (Packet n payload) told) same carried)

-- the octets end so
abbrev Ends : List ℕ → List ℕ → Type 0
Ends octets rest = (front : List ℕ) × (octets ≡ front ++ rest)

after_eight : (octets rest : List ℕ) (a b c d e f g h : ℕ) → octets ≡ a ∷ b ∷ c ∷ d ∷ e ∷ f ∷ g ∷ h ∷ rest → Ends octets rest
after_eight octets rest a b c d e f g h is = (a ∷ b ∷ c ∷ d ∷ e ∷ f ∷ g ∷ h ∷ [], is)

after_twelve : (octets rest : List ℕ) (a b c d e f g h i j k l : ℕ) → octets ≡ a ∷ b ∷ c ∷ d ∷ e ∷ f ∷ g ∷ h ∷ i ∷ j ∷ k ∷ l ∷ rest → Ends octets rest
after_twelve octets rest a b c d e f g h i j k l is = (a ∷ b ∷ c ∷ d ∷ e ∷ f ∷ g ∷ h ∷ i ∷ j ∷ k ∷ l ∷ [], is)

ends_header : (octets : List ℕ) (h : Headed) → IsHeaded octets h → Ends octets h.rest
ends_header octets h (inl plain) = after_eight octets h.rest _ _ _ _ _ _ _ _ plain.0.7
ends_header octets h (inr flagged) = after_twelve octets h.rest _ _ _ _ _ _ _ _ _ _ _ _ flagged.6.7

ends_chain : (kind : ℕ) (octets : List ℕ) (es : List Extension) (next : ℕ) (rest : List ℕ) → Leads kind octets es next rest → Ends octets rest
ends_chain kind octets [] next rest leads = ([], leads.1)
ends_chain kind octets (e ∷ es) next rest (follows, after, same, begins, leads) =
    let further = ends_chain follows after es next rest leads in (
      begins.0 ∷ (e.content ++ follows ∷ further.0),
      begins.1 ∙ (ap (λ (xs : List ℕ). begins.0 ∷ (e.content ++ follows ∷ xs)) further.1 ∙ ap (λ (xs : List ℕ). begins.0 ∷ xs) (sym (append_assoc e.content (follows ∷ further.0) rest))),
    )

both : (octets middle rest : List ℕ) → Ends octets middle → Ends middle rest → Ends octets rest
both octets middle rest one other = (one.0 ++ other.0, one.1 ∙ (ap (λ (xs : List ℕ). one.0 ++ xs) other.1 ∙ sym (append_assoc one.0 other.0 rest)))

last : (octets rest : List ℕ) → Ends octets rest → AreLast rest octets
last octets rest (front, is) =
    let sum = length-append front rest in
    let count : length (front ++ rest) - length rest ≡ length front = omega (arith, sum) in
    subst (λ (xs : List ℕ). drop (length xs - length rest) xs ≡ rest) (sym is) (ap (λ (n : ℕ). drop n (front ++ rest)) count ∙ drop-append_seam front rest)

at_end : (content : Content) (kind teid : ℕ) (tail octets : List ℕ) → Carries kind teid tail content → Ends octets tail → LiesAtEnd content octets
at_end (Packet t payload) kind teid tail octets carries ends = subst (λ (xs : List ℕ). AreLast xs octets) (sym carries.2) (last octets tail ends)
at_end (Other k t payload) kind teid tail octets carries ends = subst (λ (xs : List ℕ). AreLast xs octets) (sym carries.3) (last octets tail ends)
at_end EchoRequest kind teid tail octets carries ends = tt
at_end EchoResponse kind teid tail octets carries ends = tt
at_end (ErrorIndication t peer) kind teid tail octets carries ends = tt
at_end (Notification types) kind teid tail octets carries ends = tt
at_end (EndMarker t) kind teid tail octets carries ends = tt

-- what a message carries lies at the end of the octets that spell it
pub lies_at_end : (octets : List ℕ) (m : MessageValue) → IsUserMessage octets m → LiesAtEnd m.content octets
lies_at_end octets m (h, headed, (tail, chain, carries, seq, npdu)) =
    at_end m.content h.kind h.teid tail octets carries (both octets h.rest tail (ends_header octets h headed) (ends_chain h.first h.rest m.ext 0 tail chain))

-- what says the same lies at the end
pub same_at_end : (content : Content) (octets : List ℕ) (m : MessageValue) → IsUserMessage octets m → content ≡ m.content → LiesAtEnd content octets
same_at_end content octets m spelled same = subst (λ (c : Content). LiesAtEnd c octets) (sym same) (lies_at_end octets m spelled)

-- a packet lies at the end
pub packet_at_end : (octets : List ℕ) (m : MessageValue) (teid : ℕ) (payload : List ℕ) → IsUserMessage octets m → Some (teid, payload) ≡ packet_in m.content → AreLast payload octets
packet_at_end octets m teid payload spelled is = same_at_end (Packet teid payload) octets m spelled (packet_is m.content teid payload is)

-- ---- where elements begin

plain_size : (spare : ℕ) (rest : List ℕ) → header_size ((48 + 8 * spare + bits (record { chain = false; seq = false; npdu = false })) ∷ rest) ≡ 8
plain_size spare rest =
    let even : ((48 + 8 * spare + bits (record { chain = false; seq = false; npdu = false })) % 8 == 0) ≡ true = grind (arith, nat_tests) in
    rw even refl

flagged_size : (spare : ℕ) (flags : Flags) (rest : List ℕ) → spare < 2 → 0 < bits flags → header_size ((48 + 8 * spare + bits flags) ∷ rest) ≡ 12
flagged_size spare flags rest small some =
    let all = (flags_are spare flags small).all in
    let odd : ((48 + 8 * spare + bits flags) % 8 == 0) ≡ false = test_not _ 0 (λ none. absurd (omega (arith, none, all, some))) in
    rw odd refl

-- what follows the header begins behind its size
header_at : (octets : List ℕ) (h : Headed) → IsHeaded octets h → drop (header_size octets) octets ≡ h.rest
header_at octets h (inl ((spare, high, low, a, b, c, d, is, small, size, teid), seq, npdu, first)) =
    subst (λ (xs : List ℕ). drop (header_size xs) xs ≡ h.rest) (sym is) (rw (plain_size spare (h.kind ∷ high ∷ low ∷ a ∷ b ∷ c ∷ d ∷ h.rest)) refl)
header_at octets h (inr (flags, x, y, z, t, some, (spare, high, low, a, b, c, d, is, small, size, teid), seq, npdu, first)) =
    subst (λ (xs : List ℕ). drop (header_size xs) xs ≡ h.rest) (sym is) (rw (flagged_size spare flags (h.kind ∷ high ∷ low ∷ a ∷ b ∷ c ∷ d ∷ x ∷ y ∷ z ∷ t ∷ h.rest) small some) refl)

-- and what follows the chain behind its encoding
chain_at : (kind : ℕ) (octets : List ℕ) (es : List Extension) (rest : List ℕ) → IsChain kind octets es rest → drop (length (chain_encoding es)) octets ≡ rest
chain_at kind octets es rest chain =
    let spelled = chain_spelled kind octets es rest chain in
    ap (λ (xs : List ℕ). drop (length (chain_encoding es)) xs) spelled.encoding ∙ drop_at (chain_encoding es) rest (length (chain_encoding es)) refl

-- the elements of a notification, of which the first begins behind header and chain, have its types
pub has_types : (types octets : List ℕ) (m : MessageValue) → IsUserMessage octets m → Notification types ≡ m.content → HasTypes types (drop (header_size octets + length (chain_encoding m.ext)) octets)
has_types types octets m (h, headed, (tail, chain, carries, seq, npdu)) same =
    let whole : Carries h.kind h.teid tail (Notification types) = subst (λ (c : Content). Carries h.kind h.teid tail c) (sym same) carries in
    let n = length (chain_encoding m.ext) in
    let here : drop (header_size octets + n) octets ≡ tail =
    sym (drop-drop n (header_size octets) octets)
    ∙ (ap (λ (xs : List ℕ). drop n xs) (header_at octets h headed) ∙ chain_at h.first h.rest m.ext tail chain) in
    subst (λ (xs : List ℕ). HasTypes types xs) (sym here) whole.1
