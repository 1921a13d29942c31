-- What messages say, by the values of their rows, where they lie.
use Rattle.std.proofs.Common.{◌≡◌, ℕ, true, false, List, [], ◌∷◌, Option, Some, None, option_map, refl, sym, ◌∙◌, ap}
use Rattle.std.proofs.lemmas.Option.{same_Some}
use Rattle.gtp_ie.specs.Value.{Value, OfRecovery}
use Rattle.gtp_ie.specs.declared.value.recovery.Recovery.{Recovery}
use Rattle.gtp_v2.specs.Message.{Content, Fields, Raw, MessageValue}
use Rattle.gtp_v2.specs.Datagram.{IsMessage}
use Rattle.gtp_v2.specs.Viewed.{has_row, row_of, always_has, front_value}
use Rattle.gtp_v2.proofs.Stands.{has_value}
use Rattle.gtp_machine.specs.Message.{recovery_of}
use Rattle.gtp_machine.specs.Decoded.{row_in, contexts_in, first_in, number_of, number_at, bearer_request_in, message_by, content_message, message_of}
use Rattle.gtp_machine.specs.declared.message_type.MessageType.{MessageType}
use Rattle.gtp_machine.specs.declared.message_type.MessageType.TheVariants as types
use Rattle.gtp_machine.specs.MessageType.{type_at, type_row}
use Rattle.gtp_machine.proofs.Basics.Types.{type_kind}
use Rattle.gtp_machine.proofs.Octets.Readings.{reads_as, create_session_request_read}

-- what was read of a row that may be absent is what it says
pub row_said : {A : Type 0} (of : A → Value) (is : Value → Option A) → ((a : A) → is (of a) ≡ Some a) → (vs : List Value) (o : Option A) → option_map of o ≡ front_value vs → first_in is vs ≡ o
row_said of is back [] None read = refl
row_said of is back (v ∷ vs) (Some a) read = ap is (sym (same_Some (of a) v read)) ∙ back a
row_said of is back vs o read = absurd cc

-- ---- the sender's restart counter

needed : (v : Value) (r : Option Recovery) → option_map (λ (x : Recovery). OfRecovery x.0.0) r ≡ Some v → option_map (λ (x : Recovery). x.0.0) r ≡ Some (number_at (v ∷ []))
needed v None is = absurd cc
needed v (Some r) is = let same : OfRecovery r.0.0 ≡ v = cc in ap (λ (x : Value). Some (number_at (x ∷ []))) same

if_there : (vs : List Value) (r : Option Recovery) → option_map (λ (x : Recovery). OfRecovery x.0.0) r ≡ front_value vs → option_map (λ (x : Recovery). x.0.0) r ≡ first_in number_of vs
if_there [] None is = refl
if_there (v ∷ vs) (Some r) is = let same : OfRecovery r.0.0 ≡ v = cc in ap number_of same
if_there vs r is = absurd cc

-- a type has a counter if its table has a row of it
counter_row : (p : MessageType) → has_row (type_row p).kind 3 0 ≡ (type_row p).has_counter
counter_row types.EchoRequest = refl
counter_row p = refl

-- the counter that was read in the row of a Recovery is the one that the message tells
pub counter_read : (octets : List ℕ) (m : MessageValue) (p : MessageType) (r : Option Recovery) → IsMessage octets m → type_at m.kind ≡ Some p → (type_row p).has_counter ≡ true
    → (has_row m.kind 3 0 ≡ true → option_map (λ (x : Recovery). OfRecovery x.0.0) r ≡ front_value (row_of 3 0 m)) → option_map (λ (x : Recovery). x.0.0) r ≡ recovery_of (message_of m)
unfolding row_in contexts_in
counter_read octets m p r is at tells reads = by p at tells (reads (ap (λ k. has_row k 3 0) (type_kind m.kind p at) ∙ counter_row p ∙ tells))
  where
    echo : (p : MessageType) → type_at m.kind ≡ Some p → always_has (type_row p).kind 3 0 ≡ true
        → option_map (λ (x : Recovery). OfRecovery x.0.0) r ≡ front_value (row_of 3 0 m)
        → option_map (λ (x : Recovery). x.0.0) r ≡ Some (number_at (row_of 3 0 m))
    echo p at always read =
        let v = has_value 3 0 octets m is (ap (λ k. always_has k 3 0) (type_kind m.kind p at) ∙ always) in
        needed v.0 r (read ∙ ap front_value v.1) ∙ ap (λ (vs : List Value). Some (number_at vs)) (sym v.1)

    by : (p : MessageType) → type_at m.kind ≡ Some p → (type_row p).has_counter ≡ true
        → option_map (λ (x : Recovery). OfRecovery x.0.0) r ≡ front_value (row_of 3 0 m)
        → option_map (λ (x : Recovery). x.0.0) r ≡ recovery_of (message_of m)
    by types.EchoRequest at tells read = echo types.EchoRequest at refl read ∙ sym (ap recovery_of (reads_as types.EchoRequest octets m is at))
    by types.EchoResponse at tells read = echo types.EchoResponse at refl read ∙ sym (ap recovery_of (reads_as types.EchoResponse octets m is at))
    by types.CreateSessionRequest at tells read = if_there (row_of 3 0 m) r read ∙ sym (ap recovery_of (create_session_request_read octets m is at).2)
    by types.CreateBearerRequest at tells read = absurd (let never : false ≡ true = tells in cc)
    by p at tells read =
        let said : recovery_of (message_by (Some p) m) ≡ first_in number_of (row_of 3 0 m) = cc in
        if_there (row_of 3 0 m) r read ∙ sym (ap recovery_of (reads_as p octets m is at) ∙ said)

-- a message of a type that has none tells no counter
pub none_read : (m : MessageValue) (p : MessageType) → type_at m.kind ≡ Some p → (type_row p).has_counter ≡ false → recovery_of (message_of m) ≡ None
none_read m p at none = content m.content
  where
    bearer : (groups : List (List (List Value))) → recovery_of (bearer_request_in m groups) ≡ None
    bearer [] = refl
    bearer (g ∷ groups) = refl

    fields : (p : MessageType) → (type_row p).has_counter ≡ false → recovery_of (message_by (Some p) m) ≡ None
    fields types.CreateBearerRequest none = bearer _
    fields p none = cc

    content : (c : Content) → recovery_of (content_message c m) ≡ None
    content (Fields f) = ap (λ t. recovery_of (message_by t m)) at ∙ fields p none
    content (Raw octets) = refl
