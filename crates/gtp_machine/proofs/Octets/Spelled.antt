-- What a gateway sends for a message reads as that message.
use Rattle.std.proofs.Common.{◌≡◌, inl, inr, ℕ, ◌+◌, ◌*◌, ◌≤◌, ◌<◌, false, List, [], ◌∷◌, map, Option, Some, None, unwrap_or, refl, sym, ◌∙◌, ap, subst, arith}
use Rattle.gtp_ie.specs.Value.{Value, OfRecovery, OfAmbr, OfEbi, OfPaa, OfQos, OfPlmn, OfFTeid, OfChargingId, OfPti, OfSelection}
use Rattle.gtp_v2.specs.Headed as headers
use Rattle.gtp_v2.specs.Header as control_headers
use Rattle.gtp_v2.specs.VersionNotSupported.{version_not_supported}
use Rattle.gtp_v2.specs.Message.{MessageValue}
use Rattle.gtp_v2.specs.Datagram.{IsMessage}
use Rattle.gtp_v2.proofs.Marked.{marked_again}
use Rattle.gtp_v2.proofs.Told as control
use Rattle.gtp_user.specs.Headed as user_headed
use Rattle.gtp_user.specs.Header as user_headers
use Rattle.gtp_values.proofs.Tests.{at_most_one}
use Rattle.gtp_user.specs.Flags.{Flags, bits}
use Rattle.gtp_user.specs.Header.{Opens}
use Rattle.gtp_user.specs.Message as user_messages
use Rattle.gtp_user.specs.Datagram.{IsUserMessage}
use Rattle.gtp_user.proofs.Again.{encoding_again}
use Rattle.gtp_user.proofs.Messages as user
use Rattle.gtp_machine.specs.Message.{CreatedBearer, WantedBearer, GivenBearer, Message, Echo_request, Echo_response, Create_session_request}
use Rattle.gtp_machine.specs.Message.{Create_session_response, Delete_session_request, Delete_session_response, Create_bearer_request}
use Rattle.gtp_machine.specs.Message.{Create_bearer_response, Delete_bearer_request, Delete_bearer_response, Other_control, Packet_data, End_marker}
use Rattle.gtp_machine.specs.Message.{Error_indication, User_echo_request, User_echo_response, Supported_extensions, Other_user, Plane, Control, User}
use Rattle.gtp_machine.specs.Message.{plane_of}
use Rattle.gtp_machine.specs.Input.{ControlReading, Control_message, UserReading, User_message}
use Rattle.gtp_machine.specs.Decoded.{row_in, list_in, contexts_in, number_of, end_in, qos_in, ambr_in, network_in, paa_in, first_in, requested, created, wanted, given, removed, message_of}
use Rattle.gtp_machine.specs.Reading.{control_reading_of, user_message_of, user_reading_of}
use Rattle.gtp_machine.specs.Spelling.{where_there, requested_rows, created_rows, wanted_rows, given_rows, removed_rows, control_value, user_value}
use Rattle.gtp_machine.specs.Spelling.{spelled_on, spelled, IsOfOwnKind, MeetsOn, IsSendable, ReadsAs, SpelledReads, SpelledApart}

-- a row that may be absent is read again
back : {X : Type 0} (is : X → Value) (out : Value → Option X) → ((x : X) → out (is x) ≡ Some x) → (o : Option X) → first_in out (where_there is o) ≡ o
back is out each None = refl
back is out each (Some x) = each x

-- each of some things is read again
each_back : {X V : Type 0} (values : X → V) (read : V → X) → ((x : X) → read (values x) ≡ x) → (xs : List X) → map read (map values xs) ≡ xs
each_back values read each [] = refl
each_back values read each (x ∷ xs) = λ i. each x i ∷ each_back values read each xs i

created_back : (c : CreatedBearer) → created (created_rows c) ≡ c
created_back c =
    λ i.
    record {
      identity = c.identity;
      cause = c.cause;
      user = back OfFTeid end_in (λ e. refl) c.user i;
      qos = back OfQos qos_in (λ q. refl) c.qos i;
      charging = back OfChargingId number_of (λ n. refl) c.charging i;
    }

wanted_back : (c : WantedBearer) → wanted (wanted_rows c) ≡ c
wanted_back c = λ i. record { identity = c.identity; tft = c.tft; user = c.user; qos = c.qos; charging = back OfChargingId number_of (λ n. refl) c.charging i }

given_back : (c : GivenBearer) → given (given_rows c) ≡ c
given_back c = λ i. record { identity = c.identity; cause = c.cause; serving_user = back OfFTeid end_in (λ e. refl) c.serving_user i; packet_user = back OfFTeid end_in (λ e. refl) c.packet_user i }

recovery_back : (o : Option ℕ) → first_in number_of (where_there OfRecovery o) ≡ o
recovery_back o = back OfRecovery number_of (λ n. refl) o

linked_back : (o : Option ℕ) → first_in number_of (where_there OfEbi o) ≡ o
linked_back o = back OfEbi number_of (λ n. refl) o

-- a Version Not Supported Indication is read again
told_back : (kind : ℕ) → kind ≡ version_not_supported.kind → message_of (control_value (Other_control kind)) ≡ Other_control kind
told_back kind is = subst (λ k. message_of (control_value (Other_control k)) ≡ Other_control k) (sym is) refl

-- what a message says is that message again
pub control_back : (m : Message) → plane_of m ≡ Control → IsOfOwnKind m → message_of (control_value m) ≡ m
unfolding row_in list_in contexts_in
control_back (Echo_request e) plane own = refl
control_back (Echo_response e) plane own = refl
control_back (Create_session_request q) plane own =
    λ i. Create_session_request (record {
      header = q.header;
      number = q.number;
      imsi = q.imsi;
      rat = q.rat;
      network = back OfPlmn network_in (λ n. refl) q.network i;
      control = q.control;
      access_point = q.access_point;
      selection = back OfSelection number_of (λ n. refl) q.selection i;
      pdn = q.pdn;
      address = back OfPaa paa_in (λ p. refl) q.address i;
      ambr = back OfAmbr ambr_in (λ a. refl) q.ambr i;
      context = q.context;
      further = each_back requested_rows requested (λ c. refl) q.further i;
      recovery = recovery_back q.recovery i;
    })
control_back (Create_session_response a) plane own =
    λ i. Create_session_response (record {
      header = a.header;
      number = a.number;
      cause = a.cause;
      control = back OfFTeid end_in (λ e. refl) a.control i;
      address = back OfPaa paa_in (λ p. refl) a.address i;
      ambr = back OfAmbr ambr_in (λ x. refl) a.ambr i;
      contexts = each_back created_rows created created_back a.contexts i;
      recovery = recovery_back a.recovery i;
    })
control_back (Delete_session_request d) plane own = λ i. Delete_session_request (record { header = d.header; number = d.number; linked = linked_back d.linked i })
control_back (Delete_session_response d) plane own = λ i. Delete_session_response (record { header = d.header; number = d.number; cause = d.cause; recovery = recovery_back d.recovery i })
control_back (Create_bearer_request r) plane own =
    λ i. Create_bearer_request
    (record {
      header = r.header;
      number = r.number;
      transaction = back OfPti number_of (λ n. refl) r.transaction i;
      linked = r.linked;
      context = wanted_back r.context i;
      further = each_back wanted_rows wanted wanted_back r.further i;
    })
control_back (Create_bearer_response x) plane own =
    λ i. Create_bearer_response
    (record {
      header = x.header;
      number = x.number;
      cause = x.cause;
      contexts = each_back given_rows given given_back x.contexts i;
      recovery = recovery_back x.recovery i;
    })
control_back (Delete_bearer_request d) plane own =
    λ i. Delete_bearer_request (record {
      header = d.header;
      number = d.number;
      linked = linked_back d.linked i;
      identities = each_back OfEbi (λ v. unwrap_or (number_of v) 0) (λ n. refl) d.identities i;
    })
control_back (Delete_bearer_response d) plane own =
    λ i. Delete_bearer_response (record {
      header = d.header;
      number = d.number;
      cause = d.cause;
      linked = linked_back d.linked i;
      contexts = each_back removed_rows removed (λ c. refl) d.contexts i;
      recovery = recovery_back d.recovery i;
    })
control_back (Other_control kind) plane own = told_back kind own
control_back _ plane own = absurd (cc plane)

user_back : (m : Message) → plane_of m ≡ User → IsOfOwnKind m → user_message_of (user_value m) ≡ m
user_back (Packet_data target payload) plane own = refl
user_back (End_marker target) plane own = refl
user_back (Error_indication target address) plane own = refl
user_back (User_echo_request number) plane own = refl
user_back (User_echo_response number) plane own = refl
user_back (Supported_extensions types) plane own = refl
user_back (Other_user kind) plane own = absurd own
user_back _ plane own = absurd (cc plane)

-- the octets of a message of this plane read as it
reads_on : (p : Plane) (m : Message) → plane_of m ≡ p → IsOfOwnKind m → MeetsOn p m → ReadsAs p (spelled_on p m) m
reads_on Control m plane own meets =
    ap (λ k. Control_message k) (sym (control_back m plane own))
    ∙ sym (ap control_reading_of ((control.message_decided (spelled_on Control m)).is (control_value m) (marked_again (control_value m) meets)))
reads_on User m plane own meets =
    ap (λ k. User_message k) (sym (user_back m plane own)) ∙ sym (ap user_reading_of ((user.message_decided (spelled_on User m)).is (user_value m) (encoding_again (user_value m) meets)))

pub spelled_reads : SpelledReads
spelled_reads m sendable = reads_on (plane_of m) m refl sendable.own sendable.meets

abbrev message_in_reading : ControlReading → Message
message_in_reading (Control_message m) = m
message_in_reading _ = Other_control 0

abbrev user_message_in_reading : UserReading → Message
user_message_in_reading (User_message m) = m
user_message_in_reading _ = Other_control 0

-- messages of this plane with one encoding are one
apart_on : (p : Plane) (octets : List ℕ) (m n : Message) → ReadsAs p octets m → ReadsAs p octets n → m ≡ n
apart_on Control octets m n as_m as_n = ap message_in_reading (as_m ∙ sym as_n)
apart_on User octets m n as_m as_n = ap user_message_in_reading (as_m ∙ sym as_n)

-- the first octet tells the plane: of a control datagram it is 64 or more, and of a user plane datagram less
abbrev first_of : List ℕ → ℕ
first_of [] = 0
first_of (octet ∷ octets) = octet

control_first : (octets : List ℕ) (h : headers.Headed) → control_headers.IsHeaded octets h → 64 ≤ first_of octets
control_first octets h (inl (flags, a, b, c, spare, few, (high, low, small, whole, size), is)) = let e : first_of octets ≡ 64 + flags = ap first_of whole in omega (arith, e)
control_first octets h (inr (flags, a, b, c, d, e, f, g, last, few, (high, low, small, whole, size), is)) = let first : first_of octets ≡ 64 + (8 + flags) = ap first_of whole in omega (arith, first)

opens_first : (octets : List ℕ) (flags : Flags) (kind teid : ℕ) (tail : List ℕ) → Opens octets flags kind teid tail → first_of octets < 64
opens_first octets flags kind teid tail (spare, high, low, a, b, c, d, whole, small, stated, teid_is) =
    let first : first_of octets ≡ 48 + 8 * spare + bits flags = ap first_of whole in
    omega (arith, first, small, at_most_one flags.chain, at_most_one flags.seq, at_most_one flags.npdu)

user_first : (octets : List ℕ) (h : user_headed.Headed) → user_headers.IsHeaded octets h → first_of octets < 64
user_first octets h (inl p) = opens_first octets (record { chain = false; seq = false; npdu = false }) h.kind h.teid h.rest p.0
user_first octets h (inr (flags, a, b, c, d, some, p, seq, npdu, first)) = opens_first octets flags h.kind h.teid (a ∷ b ∷ c ∷ d ∷ h.rest) p

no_plane_twice : (octets : List ℕ) (m : MessageValue) (n : user_messages.MessageValue) → IsMessage octets m → IsUserMessage octets n → ⊥
no_plane_twice octets m n is also = omega (arith, control_first octets is.0 is.1, user_first octets also.0 also.1)

pub spells_control : (m : Message) → plane_of m ≡ Control → IsSendable m → IsMessage (spelled m) (control_value m)
spells_control m plane sendable = subst (λ p. IsMessage (spelled_on p m) (control_value m)) (sym plane) (marked_again (control_value m) (subst (λ p. MeetsOn p m) plane sendable.meets))

spells_user : (m : Message) → plane_of m ≡ User → IsSendable m → IsUserMessage (spelled m) (user_value m)
spells_user m plane sendable = subst (λ p. IsUserMessage (spelled_on p m) (user_value m)) (sym plane) (encoding_again (user_value m) (subst (λ p. MeetsOn p m) plane sendable.meets))

same_plane : (m n : Message) → IsSendable m → IsSendable n → plane_of m ≡ plane_of n → spelled m ≡ spelled n → m ≡ n
same_plane m n m_sendable n_sendable plane text =
    apart_on (plane_of m) (spelled m) m n (spelled_reads m m_sendable)
    (subst (λ octets. ReadsAs (plane_of m) octets n) (sym text) (subst (λ p. ReadsAs p (spelled n) n) (sym plane) (spelled_reads n n_sendable)))

by_planes : (p q : Plane) (m n : Message) → plane_of m ≡ p → plane_of n ≡ q → IsSendable m → IsSendable n → spelled m ≡ spelled n → m ≡ n
by_planes Control Control m n m_plane n_plane m_sendable n_sendable text = same_plane m n m_sendable n_sendable (m_plane ∙ sym n_plane) text
by_planes User User m n m_plane n_plane m_sendable n_sendable text = same_plane m n m_sendable n_sendable (m_plane ∙ sym n_plane) text
by_planes Control User m n m_plane n_plane m_sendable n_sendable text =
    absurd (no_plane_twice (spelled m) (control_value m) (user_value n) (spells_control m m_plane m_sendable)
    (subst (λ octets. IsUserMessage octets (user_value n)) (sym text) (spells_user n n_plane n_sendable)))
by_planes User Control m n m_plane n_plane m_sendable n_sendable text =
    absurd (no_plane_twice (spelled n) (control_value n) (user_value m) (spells_control n n_plane n_sendable)
    (subst (λ octets. IsUserMessage octets (user_value m)) text (spells_user m m_plane m_sendable)))

pub spelled_apart : SpelledApart
spelled_apart m n m_sendable n_sendable text = by_planes (plane_of m) (plane_of n) m n refl refl m_sendable n_sendable text
