-- Two requests for a session, or two of their answers, with one encoding name one TEID.
use Rattle.std.proofs.Common.{◌≡◌, ◌==◌, ◌&&◌, Bool, true, false, ℕ, ◌/◌, ◌%◌, ◌^◌, ◌<◌, length, List, [], ◌∷◌, ◌++◌, drop, take, get_or, map, Option, Some, None, refl, sym, ◌∙◌, ap, arith}
use Rattle.std.proofs.lemmas.List.{length-append}
use Rattle.gtp_values.specs.Plmn.{Network}
use Rattle.gtp_values.specs.TunnelEnd.{TunnelEnd}
use Rattle.gtp_values.specs.declared.paa.Paa.{Paa}
use Rattle.gtp_values.specs.declared.qos.Ambr.{Ambr}
use Rattle.gtp_ie.specs.Text.{element_encoding}
use Rattle.gtp_ie.specs.Spelling.{Says}
use Rattle.gtp_ie.specs.Value.{OfImsi, OfRat, OfPlmn, OfCause, OfFTeid, OfAmbr, OfPaa, OfRecovery, OfChargingId, encoding_of, charging_id_in}
use Rattle.gtp_ie.proofs.Again.{charging_id_again}
use Rattle.gtp_v2.specs.Encoding.{carried}
use Rattle.gtp_v2.specs.CreateSessionResponse.{session_response_context_rows}
use Rattle.gtp_v2.specs.Text.{value_encoding, groups_encoding}
use Rattle.gtp_machine.specs.Message.{CreateSessionRequest, CreateSessionResponse, CreatedBearer, Message, Create_session_request, Create_session_response, Control, plane_of}
use Rattle.gtp_machine.specs.Spelling.{control_value, created_rows, spelled, where_there}

-- lists that begin with parts of one length
same_parts : (b c r s : List ℕ) → length b ≡ length c → b ++ r ≡ c ++ s → (b ≡ c) × (r ≡ s)
same_parts [] [] r s long is = (refl, is)
same_parts [] (y ∷ c) r s long is = absurd (cc long)
same_parts (x ∷ b) [] r s long is = absurd (cc long)
same_parts (x ∷ b) (y ∷ c) r s long is =
    let rest = same_parts b c r s (omega (arith, long)) (ap (drop 1) is) in
    (λ i. get_or (is i) 0 0 ∷ rest.0 i, rest.1)

-- texts that begin with elements of one type
same_element : (kind instance : ℕ) (b c r s : List ℕ) → length (c ++ s) < 65536 → element_encoding kind instance b ++ r ≡ element_encoding kind instance c ++ s → (b ≡ c) × (r ≡ s)
same_element kind instance b c r s short is =
    let high : (length b / 256) % 256 ≡ (length c / 256) % 256 = ap (λ l. get_or l 1 0) is in
    let low : length b % 256 ≡ length c % 256 = ap (λ l. get_or l 2 0) is in
    let rest : b ++ r ≡ c ++ s = ap (drop 4) is in
    let whole : length (b ++ r) ≡ length (c ++ s) = ap length rest in
    let first = length-append b r in
    let second = length-append c s in
    same_parts b c r s (omega (arith, high, low, whole, first, second, short)) rest

-- the first octet of a text
abbrev opens_with : List ℕ → ℕ
opens_with text = get_or text 0 0

-- the text begins as that of a message with a TEID and of this type
abbrev opens_as : ℕ → List ℕ → Bool
opens_as kind text = (opens_with text == 72) && (get_or text 1 0 == kind)

unlike : {A : Type 0} (kind : ℕ) (text other : List ℕ) → opens_as kind text ≡ false → opens_as kind other ≡ true → text ≡ other → A
unlike kind text other apart like same = absurd (let no : false ≡ true = sym apart ∙ (ap (opens_as kind) same ∙ like) in cc)

-- a number is what its four octets say
said_back : (n : ℕ) → n < 2 ^ 32 → n ≡ charging_id_in (encoding_of (OfChargingId n))
unfolding Says
said_back n small = number_of n _ (charging_id_again n small).says
  where
    number_of : (x y : ℕ) → OfChargingId x ≡ OfChargingId y → x ≡ y
    number_of x y is = cc is

-- F-TEIDs with one encoding have one TEID
same_teid : (e f : TunnelEnd) → e.teid < 2 ^ 32 → f.teid < 2 ^ 32 → encoding_of (OfFTeid e) ≡ encoding_of (OfFTeid f) → e.teid ≡ f.teid
unfolding encoding_of
same_teid e f small low is =
    let octets : encoding_of (OfChargingId e.teid) ≡ encoding_of (OfChargingId f.teid) = ap (λ l. take 4 (drop 1 l)) is in
    said_back e.teid small ∙ ap charging_id_in octets ∙ sym (said_back f.teid low)

-- what stands after the header of a request for a session, and of its answer
abbrev pub after_request : CreateSessionRequest → List ℕ
after_request q = carried (control_value (Create_session_request q))

abbrev pub after_response : CreateSessionResponse → List ℕ
after_response a = carried (control_value (Create_session_response a))

-- a message with the text of one of this type is of this type, and says the same after its header
pub record IsLike {X : Type 0} (to : X → Message) (n : Message) (q : X) : Type 0 where
  pub one : X
  pub is : n ≡ to one
  pub after : carried (control_value (to one)) ≡ carried (control_value (to q))

pub request_like : (n : Message) (q : CreateSessionRequest) → plane_of n ≡ Control → spelled n ≡ spelled (Create_session_request q) → IsLike Create_session_request n q
request_like (Create_session_request p) q plane text = record { one = p; is = refl; after = ap (drop 12) text }
request_like n q plane text = unlike 32 (spelled n) (spelled (Create_session_request q)) refl refl text

pub response_like : (n : Message) (a : CreateSessionResponse) → plane_of n ≡ Control → spelled n ≡ spelled (Create_session_response a) → IsLike Create_session_response n a
response_like (Create_session_response x) a plane text = record { one = x; is = refl; after = ap (drop 12) text }
response_like n a plane text = unlike 33 (spelled n) (spelled (Create_session_response a)) refl refl text

-- what is left of a text is no longer
left_short : (c s : List ℕ) → length (c ++ s) < 65536 → length s < 65536
left_short c s short = let long = length-append c s in omega (arith, long, short)

-- Requests for a session with one encoding name one TEID.
module _ (p q : CreateSessionRequest) (short : length (after_request q) < 65536) (small : p.control.teid < 2 ^ 32) (low : q.control.teid < 2 ^ 32) where
  same_end : (r s : List ℕ) → length (element_encoding 87 0 (encoding_of (OfFTeid q.control)) ++ s) < 65536
      → element_encoding 87 0 (encoding_of (OfFTeid p.control)) ++ r ≡ element_encoding 87 0 (encoding_of (OfFTeid q.control)) ++ s
      → p.control.teid ≡ q.control.teid
  same_end r s room is = same_teid p.control q.control small low (same_element 87 0 (encoding_of (OfFTeid p.control)) (encoding_of (OfFTeid q.control)) r s (omega (arith, room)) is).0

  after_network : (m n : Option Network) (r s : List ℕ) → length (value_encoding 83 0 (where_there OfPlmn n) ++ (element_encoding 87 0 (encoding_of (OfFTeid q.control)) ++ s)) < 65536
      → value_encoding 83 0 (where_there OfPlmn m) ++ (element_encoding 87 0 (encoding_of (OfFTeid p.control)) ++ r)
      ≡ value_encoding 83 0 (where_there OfPlmn n) ++ (element_encoding 87 0 (encoding_of (OfFTeid q.control)) ++ s)
      → p.control.teid ≡ q.control.teid
  unfolding value_encoding
  after_network None None r s room is = same_end r s room is
  after_network None (Some n) r s room is = let kind : 87 ≡ 83 = ap opens_with is in absurd (omega (arith, kind))
  after_network (Some m) None r s room is = let kind : 83 ≡ 87 = ap opens_with is in absurd (omega (arith, kind))
  after_network (Some m) (Some n) r s room is =
      let rest = same_element 83 0 (encoding_of (OfPlmn m)) (encoding_of (OfPlmn n)) _ _ (omega (arith, room)) is in
      same_end r s (left_short (element_encoding 83 0 (encoding_of (OfPlmn n))) _ room) rest.1

  pub same_request_teid : after_request p ≡ after_request q → p.control.teid ≡ q.control.teid
  unfolding value_encoding
  same_request_teid is =
      let first = same_element 1 0 (encoding_of (OfImsi p.imsi)) (encoding_of (OfImsi q.imsi)) _ _ (omega (arith, short)) is in
      let room = left_short (element_encoding 1 0 (encoding_of (OfImsi q.imsi))) _ short in
      let second = same_element 82 0 (encoding_of (OfRat p.rat)) (encoding_of (OfRat q.rat)) _ _ (omega (arith, room)) first.1 in
      after_network p.network q.network _ _ (left_short (element_encoding 82 0 (encoding_of (OfRat q.rat))) _ room) second.1

-- what an answer says after its F-TEID of the control plane
abbrev after_end : Option Paa → Option Ambr → List CreatedBearer → Option ℕ → List ℕ
after_end address ambr contexts recovery =
    value_encoding 79 0 (where_there OfPaa address)
    ++ (value_encoding 72 0 (where_there OfAmbr ambr) ++ (groups_encoding 93 0 session_response_context_rows (map created_rows contexts)
    ++ (value_encoding 3 0 (where_there OfRecovery recovery) ++ [])))

-- that is no F-TEID
no_end : (address : Option Paa) (ambr : Option Ambr) (contexts : List CreatedBearer) (recovery : Option ℕ) (body s : List ℕ)
    → after_end address ambr contexts recovery ≡ element_encoding 87 1 body ++ s → ⊥
unfolding value_encoding groups_encoding
no_end (Some address) ambr contexts recovery body s is = let kind : 79 ≡ 87 = ap opens_with is in omega (arith, kind)
no_end None (Some ambr) contexts recovery body s is = let kind : 72 ≡ 87 = ap opens_with is in omega (arith, kind)
no_end None None (c ∷ contexts) recovery body s is = let kind : 93 ≡ 87 = ap opens_with is in omega (arith, kind)
no_end None None [] (Some recovery) body s is = let kind : 3 ≡ 87 = ap opens_with is in omega (arith, kind)
no_end None None [] None body s is = let kind : 0 ≡ 87 = ap opens_with is in omega (arith, kind)

-- an answer with the text of one that names a TEID names that TEID
pub record NamesTeid (x : CreateSessionResponse) (teid : ℕ) : Type 0 where
  pub end : TunnelEnd
  pub control : x.control ≡ Some end
  pub same : end.teid < 2 ^ 32 → end.teid ≡ teid

pub same_response_teid : (x a : CreateSessionResponse) (f : TunnelEnd) → a.control ≡ Some f → length (after_response a) < 65536 → f.teid < 2 ^ 32
    → after_response x ≡ after_response a → NamesTeid x f.teid
unfolding value_encoding
same_response_teid x a f names short low is =
    let first = same_element 2 0 (encoding_of (OfCause x.cause)) (encoding_of (OfCause a.cause)) _ _ (omega (arith, short)) is in
    by_ends x.control a.control refl names (left_short (element_encoding 2 0 (encoding_of (OfCause a.cause))) _ short) first.1
  where
    by_ends : (e g : Option TunnelEnd) → x.control ≡ e → g ≡ Some f → length (value_encoding 87 1 (where_there OfFTeid g) ++ after_end a.address a.ambr a.contexts a.recovery) < 65536
        → value_encoding 87 1 (where_there OfFTeid e) ++ after_end x.address x.ambr x.contexts x.recovery
        ≡ value_encoding 87 1 (where_there OfFTeid g) ++ after_end a.address a.ambr a.contexts a.recovery → NamesTeid x f.teid
    by_ends e None at none room same = absurd (cc none)
    by_ends None (Some g) at some room same = absurd (no_end x.address x.ambr x.contexts x.recovery (encoding_of (OfFTeid g)) _ same)
    by_ends (Some e) (Some g) at some room same =
        let here : g ≡ f = cc some in
        let ends = (same_element 87 1 (encoding_of (OfFTeid e)) (encoding_of (OfFTeid g)) _ _ (omega (arith, room)) same).0 in
        record { end = e; control = at; same = λ small. same_teid e f small low (ends ∙ ap (λ k. encoding_of (OfFTeid k)) here) }
