-- What requests read as.
use Rattle.std.proofs.Common.{◌≡◌, ℕ, Some, List, [], ◌∷◌, refl, sym, ◌∙◌, ap, subst}
use Rattle.gtp_ie.specs.Element.{Element}
use Rattle.gtp_ie.specs.Value.{Value}
use Rattle.gtp_v2.specs.Table.{Field, Table, start}
use Rattle.gtp_v2.specs.Grammar.{LinesAre}
use Rattle.gtp_v2.specs.Tables.{table_of}
use Rattle.gtp_v2.specs.Headed.{Headed}
use Rattle.gtp_v2.specs.Message.{Content, Fields, Raw, MessageValue}
use Rattle.gtp_v2.specs.Body.{kind_of, message_value}
use Rattle.gtp_v2.specs.Datagram.{IsMessage, CarriesBy}
use Rattle.gtp_v2.specs.Viewed.{always_has_context, contexts_of}
use Rattle.gtp_v2.proofs.Stands.{has_fields, has_context}
use Rattle.gtp_machine.specs.Decoded.{contexts_in, session_request_in, bearer_request_in, create_session_request_in, create_bearer_request_in, content_message, message_by, message_of}
use Rattle.gtp_machine.specs.Message.{Message, Create_session_request, Create_bearer_request}
use Rattle.gtp_machine.specs.declared.message_type.MessageType.{MessageType}
use Rattle.gtp_machine.specs.declared.message_type.MessageType.TheVariants as types
use Rattle.gtp_machine.specs.MessageType.{type_at, type_row}
use Rattle.gtp_machine.proofs.Basics.Types.{type_kind}
use Rattle.gtp_machine.specs.Reading.{CreateSessionRequestReads, CreateBearerRequestReads}

abbrev fields_in : Content → List Field
fields_in (Fields fields) = fields
fields_in (Raw octets) = []

-- the fields of a message whose type has a table are those of its lines
pub typed_lines : (kind : ℕ) (table : Table) (octets : List ℕ) (m : MessageValue) (fields : List Field)
    → ((h : Headed) (content : Content) → h.kind ≡ kind → CarriesBy (table_of h.kind) h content → CarriesBy (Some table) h content) → m.kind ≡ kind
    → m.content ≡ Fields fields → IsMessage octets m → (es : List Element) × LinesAre start table.lines es fields
typed_lines kind table octets m fields has of says is =
    let h = is.0 in
    let content = is.2.0 in
    let carries = has h content (sym (ap (λ (k : MessageValue). k.kind) is.2.2) ∙ of) is.2.1 in
    let same : fields ≡ carries.1 = ap fields_in (sym says ∙ ap (λ (k : MessageValue). k.content) is.2.2 ∙ carries.3) in
    (carries.2.0, subst (λ f. LinesAre start table.lines carries.2.0 f) (sym same) carries.2.2)

-- a message that octets spell reads as one of its type
pub reads_as : (t : MessageType) (octets : List ℕ) (m : MessageValue) → IsMessage octets m → type_at m.kind ≡ Some t → message_of m ≡ message_by (Some t) m
reads_as t octets m is at =
    let table = has_table t in
    let f = has_fields octets m table.0 is (ap table_of (type_kind m.kind t at) ∙ table.1) in
    ap (λ (c : Content). content_message c m) f.1 ∙ ap (λ o. message_by o m) at
  where
    has_table : (t : MessageType) → (table : Table) × (table_of (type_row t).kind ≡ Some table)
    has_table types.EchoRequest = (_, refl)
    has_table t = (_, refl)

-- a request that always has a bearer context, with the first of them
abbrev pub HasFirst : (MessageValue → List (List Value) → List (List (List Value)) → Message) → MessageValue → Type 0
HasFirst request m = (first : List (List Value)) × (further : List (List (List Value))) × (message_of m ≡ request m first further) × (contexts_of m ≡ first ∷ further)

pub create_session_request_read : (octets : List ℕ) (m : MessageValue) → IsMessage octets m → type_at m.kind ≡ Some types.CreateSessionRequest
    → HasFirst (λ m first further. Create_session_request (create_session_request_in m first further)) m
unfolding contexts_in
create_session_request_read octets m is at =
    let c = has_context octets m is (ap always_has_context (type_kind m.kind types.CreateSessionRequest at)) in
    (c.0, c.1, reads_as types.CreateSessionRequest octets m is at ∙ ap (session_request_in m) c.2, c.2)

pub create_bearer_request_read : (octets : List ℕ) (m : MessageValue) → IsMessage octets m → type_at m.kind ≡ Some types.CreateBearerRequest
    → HasFirst (λ m first further. Create_bearer_request (create_bearer_request_in m first further)) m
unfolding contexts_in
create_bearer_request_read octets m is at =
    let c = has_context octets m is (ap always_has_context (type_kind m.kind types.CreateBearerRequest at)) in
    (c.0, c.1, reads_as types.CreateBearerRequest octets m is at ∙ ap (bearer_request_in m) c.2, c.2)

pub create_session_request_reads : CreateSessionRequestReads
create_session_request_reads octets m q is of = let r = create_session_request_read octets (message_value m) is (ap (λ b. type_at (kind_of b)) of) in (_, r.2)

pub create_bearer_request_reads : CreateBearerRequestReads
create_bearer_request_reads octets m q is of = let r = create_bearer_request_read octets (message_value m) is (ap (λ b. type_at (kind_of b)) of) in (_, r.2)
