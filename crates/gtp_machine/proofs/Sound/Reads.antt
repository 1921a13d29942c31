-- What is read from octets names the F-TEIDs that its table asks for.
use Rattle.std.proofs.Common.{◌≡◌, inl, inr, ℕ, ◌≤◌, ◌<◌, Bool, true, false, ◌&&◌, List, [], ◌∷◌, map, drop, Option, Some, None, Result, Ok, Err, refl, sym, ◌∙◌, ap, subst, arith, if◌then◌else◌}
use Rattle.std.proofs.lemmas.Bool.Decides.{nat_tests}
use Rattle.std.proofs.lemmas.Bool.{and_from}
use Rattle.gtp_values.specs.Cause.{is_accepting_value}
use Rattle.gtp_values.specs.FiniteMap.{Among}
use Rattle.gtp_ie.specs.Element.{Element}
use Rattle.gtp_ie.specs.Value.{Value, OfCause, OfFTeid, fteid_in}
use Rattle.gtp_ie.specs.Spelling.{Says}
use Rattle.gtp_ie.specs.declared.fault.IeFault.{IeFault}
use Rattle.gtp_ie.specs.declared.fault.IeFault.TheVariants as elements
use Rattle.gtp_v2.specs.Grammar.{One, AtMostOne, RowIs, RowsAre, EachIs, GroupIs, LinesAre}
use Rattle.gtp_v2.specs.declared.table.Row.{Row}
use Rattle.gtp_v2.specs.declared.table.Row.TheVariants.{Mandatory, Accepted}
use Rattle.gtp_v2.specs.Table.{Field, Plain, Groups, accepts, start}
use Rattle.gtp_v2.specs.CreateSessionResponse.{create_session_response, session_response_context_rows}
use Rattle.gtp_v2.specs.CreateBearerResponse.{create_bearer_response, bearer_response_context_rows}
use Rattle.gtp_v2.specs.Message.{Content, Fields, Raw, MessageValue}
use Rattle.gtp_v2.specs.reading.Message.{message_at}
use Rattle.gtp_v2.specs.reading.Pair.{datagram_at}
use Rattle.gtp_v2.specs.Datagram.{IsMessage, CarriesBy}
use Rattle.gtp_v2.specs.Pair.{DatagramValue, IsDatagram}
use Rattle.gtp_v2.specs.Tables.{table_of}
use Rattle.gtp_v2.specs.declared.fault.Head.{Head}
use Rattle.gtp_v2.specs.declared.fault.V2Fault.{V2Fault}
use Rattle.gtp_v2.specs.declared.fault.V2Fault.TheVariants as faults
use Rattle.gtp_v2.proofs.Told.{message_decided}
use Rattle.gtp_v2.proofs.Pairs.{datagram_decided}
use Rattle.gtp_machine.specs.declared.message_type.MessageType.TheVariants as types
use Rattle.gtp_machine.specs.MessageType.{type_at}
use Rattle.gtp_machine.specs.Element.{IsAccepting, cause_of, teid_in}
use Rattle.gtp_machine.specs.Message.{CreatedBearer, GivenBearer}
use Rattle.gtp_machine.specs.Node.{Arrival}
use Rattle.gtp_machine.specs.Input.{Control_came, MessageType, Defect, Too_short, Out_of_range}
use Rattle.gtp_machine.specs.Decoded.{row_in, contexts_in, end_in, first_in, cause_at, row, values_in, groups_in, created, given, session_request_in, bearer_request_in, message_by, message_of}
use Rattle.gtp_machine.specs.Reading.{control_fault, control_reading_of, control_reading, element_fault, defect_in, request_type, missing_in}
use Rattle.gtp_machine.specs.Reading.{DatagramReading, Alone, Both, announces, messages_read, pair_reading_of, IsDatagramReadOf, taken_as}
use Rattle.gtp_machine.specs.Sound.{NamesItsEnds, IsWellFormed, ReadsWhole, PairReadsWhole, TakenWhole}
use Rattle.gtp_machine.proofs.Octets.Datagrams.{datagram_by_grammar}
use Rattle.gtp_machine.proofs.Octets.Readings.{typed_lines}
use Rattle.gtp_machine.proofs.Basics.Types.{type_kind}

is_accepting : (value : ℕ) → 16 ≤ value → value < 64 → is_accepting_value value ≡ true
is_accepting value low high = grind (arith, nat_tests)

-- a cause that is not there accepts nothing
none_accepts : IsAccepting (cause_of 0) → ⊥
none_accepts a = let low : 16 ≤ 0 = a.low in omega (arith, low)

groups_not_plain : (groups : List (List (List Value))) (values : List Value) → Groups groups ≡ Plain values → ⊥
groups_not_plain groups values same = cc same

plain_not_groups : (values : List Value) (groups : List (List (List Value))) → Plain values ≡ Groups groups → ⊥
plain_not_groups values groups same = cc same

-- a cause that accepts does so for the rows after it
accepted : (values : List Value) → IsAccepting (cause_at values) → accepts values ≡ true
accepted (OfCause c ∷ values) a = is_accepting c.value a.low a.high
accepted _ a = refl

-- an element of this type says its value, and no cause
end_said : (body : List ℕ) (v : Value) → Says 87 body v → v ≡ OfFTeid (fteid_in body)
unfolding Says
end_said body v says = says.1

ebi_accepts : (body : List ℕ) (v : Value) → Says 73 body v → accepts (v ∷ []) ≡ true
unfolding Says
ebi_accepts body v says = ap (λ k. accepts (k ∷ [])) says

end_accepts : (body : List ℕ) (v : Value) → Says 87 body v → accepts (v ∷ []) ≡ true
end_accepts body v says = ap (λ k. accepts (k ∷ [])) (end_said body v says)

paa_accepts : (body : List ℕ) (v : Value) → Says 79 body v → accepts (v ∷ []) ≡ true
unfolding Says
paa_accepts body v says = ap (λ k. accepts (k ∷ [])) says

ambr_accepts : (body : List ℕ) (v : Value) → Says 72 body v → accepts (v ∷ []) ≡ true
unfolding Says
ambr_accepts body v says = ap (λ k. accepts (k ∷ [])) says

-- rows of a type that is no cause change nothing
one_neutral : (kind instance : ℕ) (es : List Element) (values : List Value) → ((body : List ℕ) (v : Value) → Says kind body v → accepts (v ∷ []) ≡ true)
    → One kind instance es values → accepts values ≡ true
one_neutral kind instance es values neutral one = ap accepts one.2 ∙ neutral one.1.0.body one.0 one.1.2.says

most_neutral : (kind instance : ℕ) (es : List Element) (values : List Value) → ((body : List ℕ) (v : Value) → Says kind body v → accepts (v ∷ []) ≡ true)
    → AtMostOne kind instance es values → accepts values ≡ true
most_neutral kind instance es [] neutral most = refl
most_neutral kind instance es (v ∷ []) neutral most = neutral most.0.body v most.2.says
most_neutral kind instance es (v ∷ w ∷ values) neutral most = absurd most

-- a row that is needed where the causes accept, and they do
needed : (kind instance : ℕ) (b : Bool) (es : List Element) (values : List Value) → b ≡ true → RowIs b (Accepted kind instance) es values → One kind instance es values
needed kind instance b es values is row = subst (λ k. RowIs k (Accepted kind instance) es values) is row

-- its F-TEID
end_there : (instance : ℕ) (es : List Element) (values : List Value) → One 87 instance es values → (t : ℕ) × (teid_in (first_in end_in values) ≡ Some t)
end_there instance es values one = ((fteid_in one.1.0.body).teid, ap (λ k. teid_in (first_in end_in k)) (one.2 ∙ ap (λ k. k ∷ []) (end_said one.1.0.body one.0 one.1.2.says)))

-- what is one of some things that were read from elements
record From {X C : Type 0} (Is : Element → X → Type 0) (to : X → C) (c : C) : Type 0 where
  element : Element
  x : X
  same : c ≡ to x
  is : Is element x

each_from : {X C : Type 0} (Is : Element → X → Type 0) (to : X → C) (es : List Element) (xs : List X) → EachIs Is es xs → (c : C) → Among c (map to xs) → From Is to c
each_from Is to es [] each c none = absurd none
each_from Is to [] (x ∷ xs) each c among = absurd (cc each)
each_from Is to (e ∷ es) (x ∷ xs) each c (inl here) = record { element = e; x = x; same = here; is = each.0 }
each_from Is to (e ∷ es) (x ∷ xs) each c (inr there) = each_from Is to es xs each.1 c there

-- a bearer context of a Create Session or Create Bearer Response that accepts, where what stands before it does: its first F-TEID
context_end : (others : List Row) (b : Bool) (es : List Element) (rows : List (List Value)) → b ≡ true
    → RowsAre b (Mandatory 73 0 ∷ Mandatory 2 0 ∷ Accepted 87 2 ∷ others) es rows → IsAccepting (cause_at (row 1 rows))
    → (t : ℕ) × (teid_in (first_in end_in (row 2 rows)) ≡ Some t)
context_end others b es [] is are a = absurd (none_accepts a)
context_end others b es (ebi ∷ []) is are a = absurd (none_accepts a)
context_end others b es (ebi ∷ cause ∷ []) is are a = absurd are.1.1
context_end others b es (ebi ∷ cause ∷ user ∷ rows) is are a =
    end_there 2 es user (needed 87 2 ((b && accepts ebi) && accepts cause) es user (and_from _ _ (and_from _ _ is (one_neutral 73 0 es ebi ebi_accepts are.0)) (accepted cause a)) are.1.1.0)

-- a Create Session Response
session_whole : (m : MessageValue) (es : List Element) (f : List Field) → LinesAre start create_session_response.lines es f → NamesItsEnds (message_of (record m { kind = 33; content = Fields f }))
unfolding row_in contexts_in
session_whole m es [] lines a = absurd lines
session_whole m es (cause ∷ []) lines a = absurd lines.1
session_whole m es (cause ∷ control ∷ []) lines a = absurd lines.1.1
session_whole m es (cause ∷ control ∷ paa ∷ []) lines a = absurd lines.1.1.1
session_whole m es (cause ∷ control ∷ paa ∷ ambr ∷ []) lines a = absurd lines.1.1.1.1
session_whole m es (Groups g ∷ control ∷ paa ∷ ambr ∷ contexts ∷ rest) lines a = absurd (none_accepts a)
session_whole m es (Plain cause ∷ Groups g ∷ paa ∷ ambr ∷ contexts ∷ rest) lines a = absurd (groups_not_plain g _ lines.1.0.2)
session_whole m es (Plain cause ∷ Plain control ∷ Groups g ∷ ambr ∷ contexts ∷ rest) lines a = absurd (groups_not_plain g _ lines.1.1.0.2)
session_whole m es (Plain cause ∷ Plain control ∷ Plain paa ∷ Groups g ∷ contexts ∷ rest) lines a = absurd (groups_not_plain g _ lines.1.1.1.0.2)
session_whole m es (Plain cause ∷ Plain control ∷ Plain paa ∷ Plain ambr ∷ Plain values ∷ rest) lines a = absurd (plain_not_groups values _ lines.1.1.1.1.0.2)
session_whole m es (Plain cause ∷ Plain control ∷ Plain paa ∷ Plain ambr ∷ Groups contexts ∷ rest) lines a = (end_there 1 es control control_is, each)
  where
    plain : (values others : List Value) → Plain values ≡ Plain others → others ≡ values
    plain values others same = sym (ap values_in same)

    first : accepts cause ≡ true
    first = accepted cause a

    control_is : One 87 1 es control
    control_is = subst (One 87 1 es) (plain control _ lines.1.0.2) (needed 87 1 (accepts cause) es _ first lines.1.0.1)

    second : (accepts cause && accepts control) ≡ true
    second = and_from _ _ first (one_neutral 87 1 es control end_accepts control_is)

    paa_is : One 79 0 es paa
    paa_is = subst (One 79 0 es) (plain paa _ lines.1.1.0.2) (needed 79 0 (accepts cause && accepts control) es _ second lines.1.1.0.1)

    third : ((accepts cause && accepts control) && accepts paa) ≡ true
    third = and_from _ _ second (one_neutral 79 0 es paa paa_accepts paa_is)

    ambr_is : AtMostOne 72 0 es ambr
    ambr_is = subst (AtMostOne 72 0 es) (plain ambr _ lines.1.1.1.0.2) lines.1.1.1.0.1

    fourth : (((accepts cause && accepts control) && accepts paa) && accepts ambr) ≡ true
    fourth = and_from _ _ third (most_neutral 72 0 es ambr ambr_accepts ambr_is)

    each : (c : CreatedBearer) → Among c (map created contexts) → IsAccepting c.cause → (t : ℕ) × (teid_in c.user ≡ Some t)
    each c among accepting =
        let line = lines.1.1.1.1.0 in
        let there = subst (λ (k : List (List (List Value))). Among c (map created k)) (ap groups_in line.2) among in
        let found = each_from (GroupIs (((accepts cause && accepts control) && accepts paa) && accepts ambr) session_response_context_rows) created _ line.0 line.1.0 c there in
        let its =
        context_end (drop 3 session_response_context_rows) (((accepts cause && accepts control) && accepts paa) && accepts ambr) found.is.0 found.x
        fourth found.is.2 (subst (λ (k : CreatedBearer). IsAccepting k.cause) found.same accepting) in
        (its.0, ap (λ (k : CreatedBearer). teid_in k.user) found.same ∙ its.1)

-- a Create Bearer Response
bearer_whole : (m : MessageValue) (es : List Element) (f : List Field) → LinesAre start create_bearer_response.lines es f → NamesItsEnds (message_of (record m { kind = 96; content = Fields f }))
unfolding row_in contexts_in
bearer_whole m es [] lines a = absurd lines
bearer_whole m es (cause ∷ []) lines a = absurd lines.1
bearer_whole m es (Groups g ∷ contexts ∷ rest) lines a = absurd (none_accepts a)
bearer_whole m es (Plain cause ∷ Plain values ∷ rest) lines a = absurd (plain_not_groups values _ lines.1.0.2)
bearer_whole m es (Plain cause ∷ Groups contexts ∷ rest) lines a = each
  where
    each : (c : GivenBearer) → Among c (map given contexts) → IsAccepting c.cause → (t : ℕ) × (teid_in c.serving_user ≡ Some t)
    each c among accepting =
        let line = lines.1.0 in
        let there = subst (λ (k : List (List (List Value))). Among c (map given k)) (ap groups_in line.2) among in
        let found = each_from (GroupIs (accepts cause) bearer_response_context_rows) given _ line.0 line.1.0 c there in
        let its =
        context_end (drop 3 bearer_response_context_rows) (accepts cause) found.is.0 found.x (accepted cause a) found.is.2
        (subst (λ (k : GivenBearer). IsAccepting k.cause) found.same accepting) in
        (its.0, ap (λ (k : GivenBearer). teid_in k.serving_user) found.same ∙ its.1)

create_session_request_whole : (m : MessageValue) (contexts : List (List (List Value))) → NamesItsEnds (session_request_in m contexts)
create_session_request_whole m [] = tt
create_session_request_whole m (first ∷ further) = tt

create_bearer_request_whole : (m : MessageValue) (contexts : List (List (List Value))) → NamesItsEnds (bearer_request_in m contexts)
create_bearer_request_whole m [] = tt
create_bearer_request_whole m (first ∷ further) = tt

-- what octets spell is whole
fields_whole : (octets : List ℕ) (m : MessageValue) (f : List Field) → m.content ≡ Fields f → IsMessage octets m → NamesItsEnds (message_of (record m { content = Fields f }))
fields_whole octets m f says is = by (type_at m.kind) refl
  where
    by : (t : Option MessageType) → type_at m.kind ≡ t → NamesItsEnds (message_by t (record m { content = Fields f }))
    by (Some types.CreateSessionRequest) at = create_session_request_whole (record m { content = Fields f }) _
    by (Some types.CreateSessionResponse) at =
        let of = type_kind m.kind types.CreateSessionResponse at in
        let lines = typed_lines 33 create_session_response octets m f (λ h content kind c. subst (λ k. CarriesBy (table_of k) h content) kind c) of says is in
        subst (λ (k : ℕ). NamesItsEnds (message_by (Some types.CreateSessionResponse) (record m { kind = k; content = Fields f }))) (sym of) (session_whole m lines.0 f lines.1)
    by (Some types.CreateBearerRequest) at = create_bearer_request_whole (record m { content = Fields f }) _
    by (Some types.CreateBearerResponse) at =
        let of = type_kind m.kind types.CreateBearerResponse at in
        let lines = typed_lines 96 create_bearer_response octets m f (λ h content kind c. subst (λ k. CarriesBy (table_of k) h content) kind c) of says is in
        subst (λ (k : ℕ). NamesItsEnds (message_by (Some types.CreateBearerResponse) (record m { kind = k; content = Fields f }))) (sym of) (bearer_whole m lines.0 f lines.1)
    by t at = tt

message_whole : (octets : List ℕ) (m : MessageValue) → IsMessage octets m → NamesItsEnds (message_of m)
message_whole octets m is = by_content m.content refl
  where
    by_content : (content : Content) → m.content ≡ content → NamesItsEnds (message_of m)
    by_content (Fields f) says = subst (λ (k : Content). NamesItsEnds (message_of (record m { content = k }))) (sym says) (fields_whole octets m f says is)
    by_content (Raw rest) says = subst (λ (k : Content). NamesItsEnds (message_of (record m { content = k }))) (sym says) tt

defect_read : (request : Arrival) (kind : Option MessageType) (head : Head) (defect : Defect) (element instance : ℕ) → IsWellFormed (Control_came request (defect_in kind head defect element instance))
defect_read request None head defect element instance = tt
defect_read request (Some kind) head defect element instance = tt

element_read : (request : Arrival) (head : Head) (fault : IeFault) → IsWellFormed (Control_came request (element_fault head fault))
element_read request head (elements.Truncated at) = tt
element_read request head (elements.ShortValue kind instance at) = defect_read request (request_type head.kind) head Too_short kind instance
element_read request head (elements.BadValue kind instance at) = defect_read request (request_type head.kind) head Out_of_range kind instance
element_read request head elements.Memory = tt
element_read request head elements.TooLong = tt

-- a fault is no message
fault_read : (request : Arrival) (fault : V2Fault) → IsWellFormed (Control_came request (control_fault fault))
fault_read request (faults.Short held) = tt
fault_read request (faults.Version version) = tt
fault_read request (faults.BadPiggyback at) = tt
fault_read request (faults.Length stated held) = tt
fault_read request (faults.FlagT kind) = tt
fault_read request (faults.Missing kind instance conditional group head) = defect_read request (request_type head.kind) head (missing_in conditional) kind instance
fault_read request (faults.Element fault head) = element_read request head fault
fault_read request faults.Memory = tt
fault_read request faults.TooLong = tt

-- a message is whole, and a fault is none
read_whole : (request : Arrival) (r : Result MessageValue V2Fault) → message_at request.octets ≡ r → IsWellFormed (Control_came request (control_reading_of r))
read_whole request (Ok m) e = message_whole request.octets m ((message_decided request.octets).ok m e)
read_whole request (Err f) e = fault_read request f

pub reads_whole : ReadsWhole
reads_whole request reading is = subst (λ r. IsWellFormed (Control_came request r)) (sym is) (read_whole request (message_at request.octets) refl)

-- two messages are taken for one of another type, which has nothing to be whole
pair_whole : (request : Arrival) (r : Result DatagramValue V2Fault) → datagram_at request.octets ≡ r → IsWellFormed (Control_came request (taken_as (pair_reading_of r)))
pair_whole request (Err f) e = tt
pair_whole request (Ok d) e = by_messages ((datagram_decided request.octets).ok d e)
  where
    by_messages : IsDatagram request.octets d → IsWellFormed (Control_came request (taken_as (messages_read d.first d.second)))
    by_messages (inl (m, is, same)) = subst (λ (v : DatagramValue). IsWellFormed (Control_came request (taken_as (messages_read v.first v.second)))) (sym same) (message_whole request.octets m is)
    by_messages (inr (front, back, announces, (a, first, (b, second, same)))) =
        subst (λ (v : DatagramValue). IsWellFormed (Control_came request (taken_as (messages_read v.first v.second)))) (sym same) tt

pub pair_reads_whole : PairReadsWhole
pair_reads_whole octets first second reads = by ((datagram_by_grammar octets (Both first second)).0 reads)
  where
    by : IsDatagramReadOf octets (Both first second) → NamesItsEnds first × NamesItsEnds second
    by (inl (d, inl (m, is, same), as_d)) = absurd (cc (as_d ∙ ap (λ (v : DatagramValue). messages_read v.first v.second) same))
    by (inl (d, inr (front, back, announced, (a, a_is, (b, b_is, same))), as_d)) =
        let both : Both first second ≡ Both (message_of a) (message_of b) = as_d ∙ ap (λ (v : DatagramValue). messages_read v.first v.second) same in
        let one : first ≡ message_of a = cc both in
        let other : second ≡ message_of b = cc both in
        (subst NamesItsEnds (sym one) (message_whole front a a_is), subst NamesItsEnds (sym other) (message_whole back b b_is))
    by (inr (fault, fails, as_f)) = absurd (cc as_f)

pub taken_whole : TakenWhole
taken_whole request reading is = subst (λ (r : DatagramReading). IsWellFormed (Control_came request (taken_as r))) (sym is) (by_announcement (announces request.octets))
  where
    by_announcement : (b : Bool) → IsWellFormed (Control_came request (taken_as (if b then pair_reading_of (datagram_at request.octets) else Alone (control_reading request.octets))))
    by_announcement true = pair_whole request (datagram_at request.octets) refl
    by_announcement false = read_whole request (message_at request.octets) refl
