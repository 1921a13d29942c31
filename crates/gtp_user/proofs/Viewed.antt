-- What the octets of a viewed message say.
use Rattle.std.proofs.Common.{◌≡◌, ℕ, ◌+◌, ◌-◌, ◌*◌, ◌/◌, ◌%◌, ◌<◌, ◌≤◌, Bool, true, false, cond, List, [], ◌∷◌, ◌++◌, length, take, drop, Option}
use Rattle.std.proofs.Common.{Some, None, Ok, inl, inr, refl, sym, ap, subst, ◌∙◌, arith}
use Rattle.std.specs.Prelude.{◌==◌, slice_index, unwrap_or}
use Rattle.std.proofs.lemmas.Bool.Decides.{nat_tests}
use Rattle.std.proofs.Math.Seq.{drop-append_seam}
use Rattle.std.proofs.lemmas.List.{length-append, length-drop, drop-drop}
use Rattle.gtp_user.specs.declared.fault.UserFault.{UserFault}
use Rattle.gtp_values.specs.Steps.{◌>>=◌}
use Rattle.gtp_values.proofs.Decided.{bind_ok}
use Rattle.gtp_values.proofs.Outcomes.{ok_same}
use Rattle.gtp_user.specs.Chain.{Extension, IsChain, chain_encoding}
use Rattle.gtp_user.specs.Headed.{Headed, where_set}
use Rattle.gtp_user.specs.Flags.{bits}
use Rattle.gtp_user.specs.Header.{IsHeaded}
use Rattle.gtp_user.specs.Message.{Content, EchoRequest, EchoResponse, ErrorIndication, Notification, EndMarker, Packet, Other, MessageValue, numbered, receiver_in, packet_in}
use Rattle.gtp_user.specs.Encoding.{kind_of}
use Rattle.gtp_user.specs.Datagram.{Carries}
use Rattle.gtp_user.specs.reading.Headed.{header_at}
use Rattle.gtp_user.specs.reading.Walk.{Chained, chain_at, HasNoRest, headers_in}
use Rattle.gtp_user.specs.reading.Message.{body_at, message_of, message_at}
use Rattle.gtp_user.specs.reading.Viewed.{tail_at, message_or_none, viewed, IsViewed, is_numbered, teid_at}
use Rattle.gtp_user.proofs.Headers.{header_decided, AreFlags, flags_are, test_not}
use Rattle.gtp_user.proofs.Chains.{chain_decided, chain_spelled}
use Rattle.gtp_user.proofs.Messages.{body_decided}
use Rattle.gtp_user.proofs.Packets.{chain_alone}

abbrev octet : List ℕ → ℕ → ℕ
octet octets i = slice_index octets i

-- ---- the header

-- what the octets say of a header, after which so many are passed
record HeaderSays (octets : List ℕ) (h : Headed) (size : ℕ) : Type 0 where
  kind : octet octets 1 ≡ h.kind
  teid : teid_at octets ≡ h.teid
  seq : h.seq ≡ where_set ((octet octets 0 / 2) % 2 == 1) (256 * octet octets 8 + octet octets 9)
  npdu : h.npdu ≡ where_set (octet octets 0 % 2 == 1) (octet octets 10)
  first : h.first ≡ cond ((octet octets 0 / 4) % 2 == 1) (octet octets 11) 0
  least : 8 ≤ size
  flagged : 0 < octet octets 0 % 8 → size ≡ 12
  rest : drop size octets ≡ h.rest
  long : length octets ≡ size + length h.rest

header_says : (octets : List ℕ) (h : Headed) → IsHeaded octets h → (size : ℕ) × HeaderSays octets h size
header_says octets h (inl ((spare, high, low, a, b, c, d, encoding, small, long, teid), seq, npdu, first)) =
    (8, subst (λ (xs : List ℕ). HeaderSays xs h 8) (sym encoding) (plain (flags_are spare (record { chain = false; seq = false; npdu = false }) small)))
  where
    plain : AreFlags (48 + 8 * spare + 0) (record { chain = false; seq = false; npdu = false }) → HeaderSays ((48 + 8 * spare + 0) ∷ h.kind ∷ high ∷ low ∷ a ∷ b ∷ c ∷ d ∷ h.rest) h 8
    plain f = record {
      kind = refl;
      teid = sym teid;
      seq = rw f.seq seq;
      npdu = rw f.npdu npdu;
      first = rw f.chain first;
      least = omega arith;
      flagged = λ some. absurd (omega (arith, f.all, some));
      rest = refl;
      long = omega arith;
    }
header_says octets h (inr (flags, x, y, z, t, some, (spare, high, low, a, b, c, d, encoding, small, long, teid), seq, npdu, first)) =
    (12, subst (λ (xs : List ℕ). HeaderSays xs h 12) (sym encoding) (by_flags (flags_are spare flags small)))
  where
    by_flags : AreFlags (48 + 8 * spare + bits flags) flags → HeaderSays ((48 + 8 * spare + bits flags) ∷ h.kind ∷ high ∷ low ∷ a ∷ b ∷ c ∷ d ∷ x ∷ y ∷ z ∷ t ∷ h.rest) h 12
    by_flags f = record {
      kind = refl;
      teid = sym teid;
      seq = rw f.seq seq;
      npdu = rw f.npdu npdu;
      first = rw f.chain first;
      least = omega arith;
      flagged = λ some. refl;
      rest = refl;
      long = omega arith;
    }

-- ---- the message

-- a message, its header, and what comes after its chain
record Lies (octets tail : List ℕ) (m : MessageValue) : Type 0 where
  h : Headed
  header : IsHeaded octets h
  chain : IsChain h.first h.rest m.ext tail
  carries : Carries h.kind h.teid tail m.content
  seq : m.seq ≡ numbered m.content h.seq
  npdu : m.npdu ≡ h.npdu

-- what is read, step by step
record Steps (octets tail : List ℕ) : Type 0 where
  h : Headed
  c : Chained
  content : Content
  header : header_at octets ≡ Ok h
  chain : chain_at (length octets) h.first h.rest ≡ Ok c
  body : body_at (length octets) h.kind h.teid c.rest ≡ Ok content
  rest : c.rest ≡ tail

steps : (octets tail : List ℕ) → tail_at octets ≡ Ok tail → Steps octets tail
unfolding tail_at
steps octets tail e =
    let (h, header, after) = bind_ok (header_at octets) (λ h. chain_at (length octets) h.first h.rest >>= λ c. body_at (length octets) h.kind h.teid c.rest >>= λ content. Ok c.rest) tail e in
    let (c, chain, last) = bind_ok (chain_at (length octets) h.first h.rest) (λ c. body_at (length octets) h.kind h.teid c.rest >>= λ content. Ok c.rest) tail after in
    let (content, body, is) = bind_ok (body_at (length octets) h.kind h.teid c.rest) (λ content. Ok c.rest) tail last in
    record { h = h; c = c; content = content; header = header; chain = chain; body = body; rest = ok_same UserFault c.rest tail is }

read : (octets tail : List ℕ) (s : Steps octets tail) → message_at octets ≡ Ok (message_of s.h s.c s.content)
unfolding message_at
read octets tail s = rw (s.header, s.chain, s.body) refl

-- a message is read where there is such a tail
pub viewed_read : (octets tail : List ℕ) → tail_at octets ≡ Ok tail → message_at octets ≡ Ok (viewed octets)
viewed_read octets tail e =
    let is = read octets tail (steps octets tail e) in
    is ∙ ap (λ (m : MessageValue). Ok m) (sym (ap message_or_none is))

-- ---- what comes after the chain

lies : (octets tail : List ℕ) (s : Steps octets tail) → Lies octets tail (message_of s.h s.c s.content)
lies octets tail s = record {
  h = s.h;
  header = (header_decided octets).ok s.h s.header;
  chain = subst (λ (xs : List ℕ). IsChain s.h.first s.h.rest s.c.headers xs) s.rest ((chain_decided (length octets) s.h.first s.h.rest).ok s.c s.chain);
  carries = subst (λ (xs : List ℕ). Carries s.h.kind s.h.teid xs s.content) s.rest ((body_decided (length octets) s.h.kind s.h.teid s.c.rest).ok s.content s.body);
  seq = refl;
  npdu = refl;
}

-- the tail is at the end
pub tail_last : (octets tail : List ℕ) → tail_at octets ≡ Ok tail → drop (length octets - length tail) octets ≡ tail
tail_last octets tail e =
    let l = lies octets tail (steps octets tail e) in
    let (size, says) = header_says octets l.h l.header in
    let spelled = chain_spelled l.h.first l.h.rest (steps octets tail e).c.headers tail l.chain in
    at_end size l.h.rest (chain_encoding (steps octets tail e).c.headers) says.rest says.long spelled.encoding
  where
    at_end : (size : ℕ) (rest chain : List ℕ) → drop size octets ≡ rest → length octets ≡ size + length rest → rest ≡ chain ++ tail → drop (length octets - length tail) octets ≡ tail
    at_end size rest chain d long is =
        ap (λ (k : ℕ). drop k octets) (omega (arith, long, ap length is, length-append chain tail))
        ∙ (sym (drop-drop (length chain) size octets) ∙ (ap (drop (length chain)) (d ∙ is) ∙ drop-append_seam chain tail))

-- where it begins that was read step by step
pub tail_placed : (octets : List ℕ) (h : Headed) (c : Chained) (content : Content) → header_at octets ≡ Ok h → chain_at (length octets) h.first h.rest ≡ Ok c
    → body_at (length octets) h.kind h.teid c.rest ≡ Ok content
    → tail_at octets ≡ Ok (drop (length octets - length c.rest) octets)
unfolding tail_at
tail_placed octets h c content header chain body = here ∙ ap (λ (xs : List ℕ). Ok xs) (sym (tail_last octets c.rest here)) where
  here : tail_at octets ≡ Ok c.rest
  here = rw (header, chain, body) refl

-- where the tail begins, the fields of a view are right
pub viewed_is : (octets : List ℕ) (start : ℕ) → start ≤ length octets → tail_at octets ≡ Ok (drop start octets) → IsViewed octets start
viewed_is octets start within e =
    let l = lies octets (drop start octets) (steps octets (drop start octets) e) in
    let (size, says) = header_says octets l.h l.header in
    let spelled = chain_spelled l.h.first l.h.rest (steps octets (drop start octets) e).c.headers (drop start octets) l.chain in
    let past : size ≤ start =
    omega (
      arith,
      says.long,
      ap length spelled.encoding,
      length-append (chain_encoding (steps octets (drop start octets) e).c.headers) (drop start octets),
      length-drop start octets,
      within,
    ) in
    record { least = omega (arith, says.least, past); flagged = λ some. omega (arith, says.flagged some, past); within = within; tail = e }

-- ---- what the octets say

-- which parts a message of a type has
numbered_kind : (kind teid : ℕ) (tail : List ℕ) (c : Content) → Carries kind teid tail c → receiver_in c ≡ cond (is_numbered kind) None (Some teid)
numbered_kind kind teid tail EchoRequest k = rw k refl
numbered_kind kind teid tail EchoResponse (k, p) = rw k refl
numbered_kind kind teid tail (ErrorIndication t peer) (k, p) = rw k refl
numbered_kind kind teid tail (Notification types) (k, p) = rw k refl
numbered_kind kind teid tail (EndMarker t) (k, e) = rw (k, e) refl
numbered_kind kind teid tail (Packet t payload) (k, e, p) = rw (k, e) refl
numbered_kind kind teid tail (Other n t octets) ((a, b, c, d, f, g), k, e, p) = rw (test_not kind 1 a, test_not kind 2 b, test_not kind 26 c, test_not kind 31 d, e) refl

numbered_seq : (kind teid : ℕ) (tail : List ℕ) (c : Content) (seq : Option ℕ) → Carries kind teid tail c → numbered c seq ≡ cond (is_numbered kind) (Some (unwrap_or seq 0)) seq
numbered_seq kind teid tail EchoRequest seq k = rw k refl
numbered_seq kind teid tail EchoResponse seq (k, p) = rw k refl
numbered_seq kind teid tail (ErrorIndication t peer) seq (k, p) = rw k refl
numbered_seq kind teid tail (Notification types) seq (k, p) = rw k refl
numbered_seq kind teid tail (EndMarker t) seq (k, e) = rw k refl
numbered_seq kind teid tail (Packet t payload) seq (k, e, p) = rw k refl
numbered_seq kind teid tail (Other n t octets) seq ((a, b, c, d, f, g), k, e, p) = rw (test_not kind 1 a, test_not kind 2 b, test_not kind 26 c, test_not kind 31 d) refl

carried_kind : (kind teid : ℕ) (tail : List ℕ) (c : Content) → Carries kind teid tail c → kind ≡ kind_of c
carried_kind kind teid tail EchoRequest k = k
carried_kind kind teid tail EchoResponse (k, p) = k
carried_kind kind teid tail (ErrorIndication t peer) (k, p) = k
carried_kind kind teid tail (Notification types) (k, p) = k
carried_kind kind teid tail (EndMarker t) (k, e) = k
carried_kind kind teid tail (Packet t payload) (k, e, p) = k
carried_kind kind teid tail (Other n t octets) (o, k, e, p) = sym k

carried_packet : (kind teid : ℕ) (tail : List ℕ) (c : Content) → Carries kind teid tail c → packet_in c ≡ cond (kind == 255) (Some (teid, tail)) None
carried_packet kind teid tail EchoRequest k = rw k refl
carried_packet kind teid tail EchoResponse (k, p) = rw k refl
carried_packet kind teid tail (ErrorIndication t peer) (k, p) = rw k refl
carried_packet kind teid tail (Notification types) (k, p) = rw k refl
carried_packet kind teid tail (EndMarker t) (k, e) = rw k refl
carried_packet kind teid tail (Packet t payload) (k, e, p) = rw (k, e, p) refl
carried_packet kind teid tail (Other n t octets) ((a, b, c, d, f, g), k, e, p) = rw (test_not kind 255 g) refl

-- what the octets of a viewed message say, part by part
pub record Says (octets : List ℕ) (start : ℕ) (m : MessageValue) : Type 0 where
  pub kind : octet octets 1 ≡ kind_of m.content
  pub teid : receiver_in m.content ≡ cond (is_numbered (octet octets 1)) None (Some (teid_at octets))
  pub packet : packet_in m.content ≡ cond (octet octets 1 == 255) (Some (teid_at octets, drop start octets)) None
  pub seq : m.seq ≡ cond ((octet octets 0 / 2) % 2 == 1) (Some (256 * octet octets 8 + octet octets 9)) (cond (is_numbered (octet octets 1)) (Some 0) None)
  pub npdu : m.npdu ≡ cond (octet octets 0 % 2 == 1) (Some (octet octets 10)) None
  pub no_chain : ((octet octets 0 / 4) % 2 == 1) ≡ false → m.ext ≡ []
  pub chain : ((octet octets 0 / 4) % 2 == 1) ≡ true → HasNoRest (octet octets 11) (take (start - 12) (drop 12 octets)) × (headers_in (octet octets 11) (take (start - 12) (drop 12 octets)) ≡ m.ext)

said : (octets : List ℕ) (start : ℕ) (m : MessageValue) → start ≤ length octets → Lies octets (drop start octets) m → Says octets start m
said octets start m within l = by_header (header_says octets l.h l.header).0 (header_says octets l.h l.header).1 where
  by_header : (size : ℕ) → HeaderSays octets l.h size → Says octets start m
  by_header size s = record {
    kind = s.kind ∙ carried_kind l.h.kind l.h.teid (drop start octets) m.content l.carries;
    teid =
        numbered_kind l.h.kind l.h.teid (drop start octets) m.content l.carries
        ∙ (ap (λ (k : ℕ). cond (is_numbered k) None (Some l.h.teid)) (sym s.kind)
        ∙ ap (λ (t : ℕ). cond (is_numbered (octet octets 1)) None (Some t)) (sym s.teid));
    packet =
        carried_packet l.h.kind l.h.teid (drop start octets) m.content l.carries
        ∙ (ap (λ (k : ℕ). cond (k == 255) (Some (l.h.teid, drop start octets)) None) (sym s.kind) ∙ ap (λ (t : ℕ). cond (octet octets 1 == 255) (Some (t, drop start octets)) None) (sym s.teid));
    seq =
        l.seq ∙ (numbered_seq l.h.kind l.h.teid (drop start octets) m.content l.h.seq l.carries
        ∙ (ap (λ (k : ℕ). cond (is_numbered k) (Some (unwrap_or l.h.seq 0)) l.h.seq) (sym s.kind) ∙ (ap (λ (o : Option ℕ). cond (is_numbered (octet octets 1)) (Some (unwrap_or o 0)) o) s.seq
        ∙ either (is_numbered (octet octets 1)) ((octet octets 0 / 2) % 2 == 1) (256 * octet octets 8 + octet octets 9))));
    npdu = l.npdu ∙ s.npdu;
    no_chain = λ none. by_headers m.ext (subst (λ (k : ℕ). IsChain k l.h.rest m.ext (drop start octets)) (s.first ∙ ap (λ (b : Bool). cond b (octet octets 11) 0) none) l.chain);
    chain = λ set. with_chain (s.flagged (some set)) (s.first ∙ ap (λ (b : Bool). cond b (octet octets 11) 0) set);
  }
    where
      some : ((octet octets 0 / 4) % 2 == 1) ≡ true → 0 < octet octets 0 % 8
      some set =
          let is : (octet octets 0 / 4) % 2 ≡ 1 = grind (arith, nat_tests) in
          omega (arith, is)

      either : (numbered set : Bool) (n : ℕ) → cond numbered (Some (unwrap_or (where_set set n) 0)) (where_set set n) ≡ cond set (Some n) (cond numbered (Some 0) None)
      either true true n = refl
      either true false n = refl
      either false true n = refl
      either false false n = refl

      by_headers : (es : List Extension) → IsChain 0 l.h.rest es (drop start octets) → es ≡ []
      by_headers [] p = refl
      by_headers (e ∷ es) (follows, after, same, begins, leads) = absurd (omega (arith, same, begins.3))

      with_chain : size ≡ 12 → l.h.first ≡ octet octets 11 → HasNoRest (octet octets 11) (take (start - 12) (drop 12 octets))
          × (headers_in (octet octets 11) (take (start - 12) (drop 12 octets)) ≡ m.ext)
      with_chain twelve first =
          let rest : drop 12 octets ≡ l.h.rest = ap (λ (k : ℕ). drop k octets) (sym twelve) ∙ s.rest in
          chain_alone (octet octets 11) (start - 12) (drop 12 octets) (drop start octets) m.ext
          (subst (λ (k : ℕ). IsChain k (drop 12 octets) m.ext (drop start octets)) first (subst (λ (xs : List ℕ). IsChain l.h.first xs m.ext (drop start octets)) (sym rest) l.chain))
          (omega (arith, length-drop 12 octets, length-drop start octets, within))

pub says : (octets : List ℕ) (start : ℕ) (m : MessageValue) → IsViewed octets start → viewed octets ≡ m → Says octets start m
says octets start m v is =
    subst (Says octets start) (sym (ap message_or_none (read octets (drop start octets) (steps octets (drop start octets) v.tail))) ∙ is)
    (said octets start (message_of (steps octets (drop start octets) v.tail).h (steps octets (drop start octets) v.tail).c
    (steps octets (drop start octets) v.tail).content) v.within (lies octets (drop start octets) (steps octets (drop start octets) v.tail)))
