-- How deep the JSON of a datagram nests.
use Rattle.std.proofs.Common.{ℕ, suc, ◌≤◌, Bool, true, false, if◌then◌else◌, List, [], ◌∷◌, ◌++◌, map, Option, Some, None, Result, Ok, Err, codes, sym, subst, arith, inl, inr, ◌==◌, ◌+◌}
use Rattle.std.specs.Prelude.{⊤, ◌&&◌}
use Rattle.json.specs.Json.{Json, boolean}
use Rattle.json.specs.Tree.{depth, items_depth, members_depth}
use Rattle.gtp_values.specs.declared.cause.Offending.{Offending}
use Rattle.gtp_values.specs.declared.paa.Paa.{Paa}
use Rattle.gtp_values.specs.declared.paa.Paa.TheVariants as paas
use Rattle.gtp_values.specs.declared.plane.Plane.{Plane}
use Rattle.gtp_values.specs.declared.plane.Plane.TheVariants as planes
use Rattle.gtp_ie.specs.declared.fault.ReadFault.{ReadFault}
use Rattle.gtp_ie.specs.declared.fault.IeFault.{IeFault}
use Rattle.gtp_ie.specs.declared.fault.IeFault.TheVariants as elements
use Rattle.gtp_ie.specs.declared.form.Form.{Form}
use Rattle.gtp_ie.specs.Form.{form_of, bearer_context}
use Rattle.gtp_ie.specs.Form.{name_of as name_of_form}
use Rattle.gtp_ie.specs.Element.{Element, elements_of}
use Rattle.gtp_ie.specs.Value.{Value, OfImsi, OfCause, OfRecovery, OfApn, OfAmbr, OfEbi, OfPaa, OfQos, OfRat, OfPlmn, OfTft, OfFTeid, OfChargingId, OfPdnType, OfPti, OfSelection, value_at}
use Rattle.gtp_v2.specs.declared.fault.V2Fault.{V2Fault}
use Rattle.gtp_v2.specs.declared.fault.V2Fault.TheVariants as faults
use Rattle.gtp_v2.specs.Message.{Content, Fields, Raw, MessageValue}
use Rattle.gtp_user.specs.declared.fault.UserFault.{UserFault}
use Rattle.gtp_user.specs.declared.fault.UserFault.TheVariants as user_faults
use Rattle.gtp_user.specs.Chain.{Extension}
use Rattle.gtp_user.specs.Message.{EchoRequest, EchoResponse, ErrorIndication, Notification, EndMarker, Packet, Other}
use Rattle.gtp_user.specs.Message.{Content as UserContent, MessageValue as UserMessage}
use Rattle.gtp_user.specs.Encoding.{kind_of}
use Rattle.gtp_json.specs.Tree.{members_of, items_of, member, object_of, array_of}
use Rattle.gtp_ie.specs.declared.form.Form.TheVariants as forms
use Rattle.gtp_codes.specs.Words.{word_in, cause_words, interface_type_words, pdn_type_words}
use Rattle.gtp_lines.specs.Words.{read_word}
use Rattle.gtp_json.specs.Values.{word_members, beside, offending_members, cause_members, paa_members, v4_members, v6_members, interface_members}
use Rattle.gtp_json.specs.Values.{hexadecimal, end_members, value_json, octets_members, named_members, form_members, body_members}
use Rattle.gtp_json.specs.Control.{element_head, inner_json, group_members, element_members, element_json, name_members, name_of, title_members}
use Rattle.gtp_json.specs.Control.{teid_members, priority_members, header_members, head_members, CarriedMembers, MessageMembers}
use Rattle.gtp_json.specs.Control.{second_member, element_fault_members, fault_members, context_members, placed_members, fault_member}
use Rattle.gtp_lines.specs.User.{user_name, body_name}
use Rattle.gtp_json.specs.User.{named, user_title, target_members, some_member, user_head, extension_json, extensions_members, user_carried, user_members, user_fault_members}
use Rattle.gtp_json.specs.Places.{FaultMembers, user_place, user_members_at}
use Rattle.gtp_json.specs.declared.datagram.Members.{Members}
use Rattle.gtp_json.specs.declared.datagram.Members.TheVariants.{Plain, All}
use Rattle.gtp_forms.specs.declared.form.Row.{Row}
use Rattle.gtp_forms.specs.Rows.{row_of}
use Rattle.gtp_forms.proofs.AsMembers.{is_object}
use Rattle.gtp_names.specs.declared.names.Names.{Names}
use Rattle.gtp_names.specs.Parts.{tables_in}
use Rattle.gtp_names.specs.Groups.{is_group, is_connection}
use Rattle.gtp_names.specs.Groups.{form_of as form_in}
use Rattle.gtp_lines.specs.Named.{name_in, is_named}
use Rattle.gtp_json.specs.Named.{place_members, placed_head, fields_member, form_fields, row_fields, named_fields, content_members, leaf_members, leaf_json, group_octets, group_head}
use Rattle.gtp_json.specs.Named.{group_members as named_group}
use Rattle.gtp_json.specs.Named.{part_members as part_of, part_json, named_element, named_json, named_elements, extension_fields, named_extension, named_extension_json, named_extensions, named_user_members}
use Rattle.gtp_json.specs.Datagram.{UserShown, UserMembers, plane_member, ControlMembers, BeforeFault, WithFault, MembersBy, has_places, octets_shown, WholeMembers}
use Rattle.gtp_v2.specs.Headed.{Headed}
use Rattle.gtp_lines.specs.Fronts.{front_of, chain_at}
use Rattle.gtp_lines.specs.All.{UserHead, fault_context, head_at, pair_at, user_head_at}
use Rattle.gtp_json.specs.All.{rest_members, MessageShown, AloneShown, SecondShown, ShownBy, kind_members, packet_members, chain_members, user_shown}
use Rattle.gtp_json.specs.Frames.{path_members, frame_members, held_members, part_members, RestMembers}
use Rattle.gtp_capture.specs.Packet.{Packet as Captured}
use Rattle.gtp_capture.specs.Seen.{Seen}

-- no value of a member nests deeper
abbrev pub Within : ℕ → List (List ℕ × Json) → Type 0
Within n [] = ⊤
Within n (m ∷ ms) = (depth m.1 ≤ n) × Within n ms

pub join : (n : ℕ) (a b : List (List ℕ × Json)) → Within n a → Within n b → Within n (a ++ b)
join n [] b h k = k
join n (m ∷ ms) b h k = (h.0, join n ms b h.1 k)

pub more : (n k : ℕ) (ms : List (List ℕ × Json)) → n ≤ k → Within n ms → Within k ms
more n k [] le h = tt
more n k (m ∷ ms) le h = (omega (arith, h.0), more n k ms le h.1)

members_within : (n : ℕ) (ms : List (List ℕ × Json)) → Within n ms → members_depth (members_of ms) ≤ n
members_within n [] h = omega arith
members_within n (m ∷ ms) h = let rest = members_within n ms h.1 in let first = h.0 in omega (arith, rest, first)

pub object_depth : (n : ℕ) (ms : List (List ℕ × Json)) → Within n ms → depth (object_of ms) ≤ suc n
unfolding object_of
object_depth n ms h = let inner = members_within n ms h in omega (arith, inner)

items_within : {X : Type 0} (n : ℕ) (f : X → Json) (xs : List X) → ((x : X) → depth (f x) ≤ n) → items_depth (items_of (map f xs)) ≤ n
items_within n f [] h = omega arith
items_within n f (x ∷ xs) h = let rest = items_within n f xs h in let first = h x in omega (arith, rest, first)

array_depth : {X : Type 0} (n : ℕ) (f : X → Json) (xs : List X) → ((x : X) → depth (f x) ≤ n) → depth (array_of (map f xs)) ≤ suc n
unfolding array_of
array_depth n f xs h = let inner = items_within n f xs h in omega (arith, inner)

one : (n : ℕ) (name : List ℕ) (j : Json) → depth j ≤ n → Within n (member name j)
unfolding member
one n name j h = (h, tt)

-- ---- elements

offending_within : (o : Option Offending) → Within 1 (offending_members o)
unfolding member object_of
offending_within None = tt
offending_within (Some o) = (omega arith, tt)

word_within : (n : ℕ) (name : List ℕ) (word : Option (List ℕ)) → Within n (word_members name word)
unfolding member
word_within n name None = tt
word_within n name (Some word) = (omega arith, tt)

paa_within : (p : Paa) → Within 1 (paa_members p)
unfolding member
paa_within (paas.V4 v4) = (omega arith, (omega arith, tt))
paa_within (paas.V6 prefix v6) = (omega arith, (omega arith, (omega arith, tt)))
paa_within (paas.V4V6 prefix v6 v4) = (omega arith, (omega arith, (omega arith, (omega arith, tt))))
paa_within (paas.Other pdn) = (omega arith, (omega arith, word_within 1 (codes "pdn_type_name") (word_in pdn_type_words pdn)))

v4_within : (v : Option (List ℕ)) → Within 1 (v4_members v)
unfolding member
v4_within None = tt
v4_within (Some v) = (omega arith, tt)

v6_within : (v : Option (List ℕ)) → Within 1 (v6_members v)
unfolding member
v6_within None = tt
v6_within (Some v) = (omega arith, tt)

value_depth : (v : Value) → depth (value_json v) ≤ 2
unfolding value_json member object_of
value_depth (OfImsi digits) = omega arith
value_depth (OfCause c) =
    object_depth 1 (cause_members c) (
      omega arith,
      join 1 (word_members (codes "cause_name") (word_in cause_words c.value)) (offending_members c.offending)
          (word_within 1 (codes "cause_name") (word_in cause_words c.value)) (offending_within c.offending),
    )
value_depth (OfRecovery n) = omega arith
value_depth (OfApn octets) = omega arith
value_depth (OfAmbr a) = omega arith
value_depth (OfEbi n) = omega arith
value_depth (OfPaa p) = object_depth 1 (paa_members p) (paa_within p)
value_depth (OfQos q) = omega arith
value_depth (OfRat n) = omega arith
value_depth (OfPlmn n) = omega arith
value_depth (OfTft octets) = omega arith
value_depth (OfFTeid e) =
    object_depth 1 (end_members e)
    (join 1 (interface_members e.interface) _ (omega arith, word_within 1 (codes "interface_name") (word_in interface_type_words e.interface))
    (omega arith, join 1 (v4_members e.v4) (v6_members e.v6) (v4_within e.v4) (v6_within e.v6)))
value_depth (OfChargingId n) = omega arith
value_depth (OfPdnType n) = omega arith
value_depth (OfPti n) = omega arith
value_depth (OfSelection n) = omega arith

octets_within : (octets : List ℕ) → Within 2 (octets_members octets)
unfolding member
octets_within octets = (omega arith, tt)

named_within : (name body : List ℕ) (r : Result Value ReadFault) → Within 2 (named_members name body r)
unfolding member
named_within name body (Ok v) = (omega arith, (value_depth v, tt))
named_within name body (Err f) = octets_within body

beside_within : (form : Form) (read : Result Value ReadFault) → Within 2 (beside form read)
beside_within forms.Rat read = word_within 2 (codes "value_name") (read_word read)
beside_within forms.PdnType read = word_within 2 (codes "value_name") (read_word read)
beside_within form read = tt

form_within : (form : Option Form) (kind : ℕ) (body : List ℕ) → Within 2 (form_members form kind body)
form_within None kind body = octets_within body
form_within (Some form) kind body =
    join 2 (named_members (name_of_form form) body (value_at kind body)) (beside form (value_at kind body))
    (named_within (name_of_form form) body (value_at kind body)) (beside_within form (value_at kind body))

body_within : (kind : ℕ) (body : List ℕ) → Within 2 (body_members kind body)
unfolding body_members
body_within kind body = form_within (form_of kind) kind body

head_within : (e : Element) → Within 2 (element_head e)
unfolding member
head_within e = (omega arith, (omega arith, tt))

inner_depth : (e : Element) → depth (inner_json e) ≤ 3
inner_depth e = object_depth 2 (element_head e ++ body_members e.kind e.body) (join 2 (element_head e) (body_members e.kind e.body) (head_within e) (body_within e.kind e.body))

group_within : (e : Element) (r : Result (List Element) ℕ) → Within 4 (group_members e r)
unfolding member
group_within e (Ok inner) = (omega arith, (array_depth 3 inner_json inner inner_depth, tt))
group_within e (Err at) = more 2 4 (octets_members e.body) (omega arith) (octets_within e.body)

chosen_within : (b : Bool) (n : ℕ) (x y : List (List ℕ × Json)) → Within n x → Within n y → Within n (if b then x else y)
chosen_within true n x y h k = h
chosen_within false n x y h k = k

element_within : (e : Element) → Within 4 (element_members e)
element_within e =
    chosen_within (e.kind == bearer_context) 4 (group_members e (elements_of (e.at + 4) e.body)) (body_members e.kind e.body)
    (group_within e (elements_of (e.at + 4) e.body)) (more 2 4 (body_members e.kind e.body) (omega arith) (body_within e.kind e.body))

element_depth : (e : Element) → depth (element_json e) ≤ 5
element_depth e =
    object_depth 4 (element_head e ++ element_members e)
    (join 4 (element_head e) (element_members e) (more 2 4 (element_head e) (omega arith) (head_within e)) (element_within e))

-- ---- elements by their names and forms

fields_within : (names : Names) (form : ℕ) (body : List ℕ) → Within 17 (fields_member names form body)
unfolding fields_member member
fields_within names form body = ((is_object (tables_in names) form body).1, tt)

form_fields_within : (names : Names) (form : Option ℕ) (body : List ℕ) → Within 17 (form_fields names form body)
form_fields_within names None body = tt
form_fields_within names (Some form) body = fields_within names form body

row_fields_within : (names : Names) (message : ℕ) (row : Option Row) (body : List ℕ) → Within 17 (row_fields names message row body)
row_fields_within names message None body = tt
row_fields_within names message (Some row) body = form_fields_within names (form_in row message) body

named_fields_within : (names : Names) (message : ℕ) (row : Option Row) (body : List ℕ) → Within 17 (named_fields names message row body)
unfolding member
named_fields_within names message None body = tt
named_fields_within names message (Some row) body = (omega arith, form_fields_within names (form_in row message) body)

leaf_within : (names : Names) (message : ℕ) (e : Element) → Within 17 (leaf_members names message e)
unfolding content_members
leaf_within names message e =
    let row = row_of names.elements.now e.kind in
    join 17 (body_members e.kind e.body) _ (more 2 17 (body_members e.kind e.body) (omega arith) (body_within e.kind e.body))
    (chosen_within (is_named e.kind e.body) 17 (row_fields names message row e.body) (named_fields names message row e.body)
    (row_fields_within names message row e.body) (named_fields_within names message row e.body))

place_within : (places : Bool) (e : Element) → Within 2 (place_members places e)
unfolding member
place_within false e = tt
place_within true e = (omega arith, (omega arith, tt))

placed_within_head : (n : ℕ) (places : Bool) (e : Element) → 2 ≤ n → Within n (placed_head places e)
placed_within_head n places e le = more 2 n (placed_head places e) le (join 2 (element_head e) (place_members places e) (head_within e) (place_within places e))

leaf_depth : (places : Bool) (names : Names) (message : ℕ) (e : Element) → depth (leaf_json places names message e) ≤ 18
leaf_depth places names message e =
    object_depth 17 (placed_head places e ++ leaf_members names message e)
    (join 17 (placed_head places e) (leaf_members names message e) (placed_within_head 17 places e (omega arith)) (leaf_within names message e))

group_octets_within : (n : ℕ) (e : Element) → Within n (group_octets e)
unfolding member
group_octets_within n e = chosen_within (e.kind == bearer_context) n [] (octets_members e.body) tt (omega arith, tt)

group_head_within : (n : ℕ) (names : Names) (e : Element) → Within n (group_head names e)
unfolding member
group_head_within n names e = join n (group_octets e) _ (group_octets_within n e) (omega arith, tt)

named_group_within : (n : ℕ) (inner_json : Element → Json) (names : Names) (message : ℕ) (e : Element) (r : Result (List Element) ℕ)
    → 17 ≤ n → ((x : Element) → depth (inner_json x) ≤ n) → Within (suc n) (named_group inner_json names message e r)
unfolding member
named_group_within n inner_json names message e (Ok inner) le h =
    join (suc n) (group_head names e) _ (group_head_within (suc n) names e) (array_depth n inner_json inner h, tt)
named_group_within n inner_json names message e (Err at) le h = more 17 (suc n) (leaf_members names message e) (omega (arith, le)) (leaf_within names message e)

element_part_within : (places : Bool) (names : Names) (message : ℕ) (e : Element) → Within 19 (part_of places names message e)
element_part_within places names message e =
    let group = named_group (leaf_json places names message) names message e (elements_of (e.at + 4) e.body) in
    chosen_within (is_group e.kind) 19 group (leaf_members names message e)
    (named_group_within 18 (leaf_json places names message) names message e (elements_of (e.at + 4) e.body) (omega arith) (leaf_depth places names message))
    (more 17 19 (leaf_members names message e) (omega arith) (leaf_within names message e))

part_depth : (places : Bool) (names : Names) (message : ℕ) (e : Element) → depth (part_json places names message e) ≤ 20
part_depth places names message e =
    object_depth 19 (placed_head places e ++ part_of places names message e)
    (join 19 (placed_head places e) (part_of places names message e) (placed_within_head 19 places e (omega arith)) (element_part_within places names message e))

named_within_element : (places : Bool) (names : Names) (message : ℕ) (e : Element) → Within 21 (named_element places names message e)
named_within_element places names message e =
    let group = named_group (part_json places names message) names message e (elements_of (e.at + 4) e.body) in
    chosen_within (is_connection e.kind) 21 group (part_of places names message e)
    (named_group_within 20 (part_json places names message) names message e (elements_of (e.at + 4) e.body) (omega arith) (part_depth places names message))
    (more 19 21 (part_of places names message e) (omega arith) (element_part_within places names message e))

pub named_depth : (places : Bool) (names : Names) (message : ℕ) (e : Element) → depth (named_json places names message e) ≤ 22
named_depth places names message e =
    object_depth 21 (placed_head places e ++ named_element places names message e)
    (join 21 (placed_head places e) (named_element places names message e) (placed_within_head 21 places e (omega arith)) (named_within_element places names message e))

-- ---- control messages

name_within : (name : Option (List ℕ)) → Within 6 (name_members name)
unfolding member
name_within None = tt
name_within (Some name) = (omega arith, tt)

title_within : (name : Option (List ℕ)) (kind : ℕ) → Within 6 (title_members name kind)
unfolding title_members member
title_within name kind = (omega arith, name_within name)

teid_within : (t : Option ℕ) → Within 6 (teid_members t)
unfolding member
teid_within None = tt
teid_within (Some t) = (omega arith, tt)

priority_within : (p : Option ℕ) → Within 6 (priority_members p)
unfolding member
priority_within None = tt
priority_within (Some p) = (omega arith, tt)

header_within : (name : Option (List ℕ)) (kind : ℕ) (teid : Option ℕ) (seq : ℕ) (priority : Option ℕ) → Within 6 (header_members name kind teid seq priority)
unfolding member
header_within name kind teid seq priority = join 6 (title_members name kind) _ (title_within name kind) (join 6 (teid_members teid) _ (teid_within teid) (omega arith, priority_within priority))

carried_within : (octets : List ℕ) (m : MessageValue) (content : Content) (ms : List (List ℕ × Json)) → CarriedMembers octets m content ms → Within 6 ms
unfolding member
carried_within octets m (Raw carried) ms is = subst (Within 6) (sym is) (omega arith, tt)
carried_within octets m (Fields fields) ms (es, are, is) = subst (Within 6) (sym is) (array_depth 5 element_json es element_depth, tt)

message_within : (octets : List ℕ) (ms : List (List ℕ × Json)) → MessageMembers octets ms → Within 6 ms
message_within octets ms (m, spelled, (carried, has, is)) =
    subst (Within 6) (sym is)
    (join 6 (head_members m) carried (header_within (name_of m.kind) m.kind m.teid m.seq m.priority) (carried_within octets m m.content carried has))

element_fault_within : (f : IeFault) → Within 0 (element_fault_members f)
unfolding member
element_fault_within (elements.Truncated at) = (omega arith, (omega arith, tt))
element_fault_within (elements.ShortValue kind instance at) = (omega arith, (omega arith, (omega arith, (omega arith, tt))))
element_fault_within (elements.BadValue kind instance at) = (omega arith, (omega arith, (omega arith, (omega arith, tt))))
element_fault_within elements.Memory = (omega arith, tt)
element_fault_within elements.TooLong = (omega arith, tt)

context_within : (number : Option ℕ) → Within 1 (context_members number)
unfolding member
context_within None = tt
context_within (Some number) = (omega arith, tt)

fault_within : (f : V2Fault) → Within 1 (fault_members f)
unfolding member
fault_within (faults.Short held) = (omega arith, (omega arith, tt))
fault_within (faults.Version version) = (omega arith, (omega arith, tt))
fault_within (faults.Length stated held) = (omega arith, (omega arith, (omega arith, tt)))
fault_within (faults.FlagT kind) = (omega arith, (omega arith, tt))
fault_within (faults.Missing kind instance conditional group head) = (omega arith, (omega arith, (omega arith, (omega arith, tt))))
fault_within (faults.Element fault head) = (omega arith, (object_depth 0 (element_fault_members fault) (element_fault_within fault), tt))
fault_within (faults.BadPiggyback at) = (omega arith, (omega arith, tt))
fault_within faults.Memory = (omega arith, tt)
fault_within faults.TooLong = (omega arith, tt)

placed_within : (octets : List ℕ) (f : V2Fault) → Within 1 (placed_members octets f)
placed_within octets f = join 1 (fault_members f) (context_members (fault_context octets f)) (fault_within f) (context_within (fault_context octets f))

fault_member_within : (ms : List (List ℕ × Json)) → Within 1 ms → Within 7 (fault_member ms)
fault_member_within ms h = more 2 7 (fault_member ms) (omega arith) (one 2 (codes "fault") (object_of ms) (object_depth 1 ms h))

-- ---- the user plane

some_within : (name : List ℕ) (n : Option ℕ) → Within 7 (some_member name n)
unfolding member
some_within name None = tt
some_within name (Some n) = (omega arith, tt)

kind_within : (kind : ℕ) (name : Option (List ℕ)) → Within 7 (named kind name)
unfolding member
kind_within kind None = (omega arith, tt)
kind_within kind (Some name) = (omega arith, (omega arith, tt))

target_within : (c : UserContent) → Within 7 (target_members c)
unfolding member
target_within EchoRequest = tt
target_within EchoResponse = tt
target_within (ErrorIndication teid peer) = tt
target_within (Notification types) = tt
target_within (EndMarker teid) = (omega arith, tt)
target_within (Packet teid payload) = (omega arith, tt)
target_within (Other kind teid octets) = (omega arith, tt)

user_carried_within : (c : UserContent) → Within 7 (user_carried c)
unfolding member
user_carried_within EchoRequest = tt
user_carried_within EchoResponse = tt
user_carried_within (ErrorIndication teid peer) = (omega arith, (omega arith, tt))
user_carried_within (Notification types) = (omega arith, tt)
user_carried_within (EndMarker teid) = tt
user_carried_within (Packet teid payload) = (omega arith, tt)
user_carried_within (Other kind teid octets) = (omega arith, tt)

extension_depth : (e : Extension) → depth (extension_json e) ≤ 1
unfolding object_of member
extension_depth e = omega arith

user_head_within : (m : UserMessage) → Within 7 (user_head m)
user_head_within m =
    let seq = join 7 (some_member (codes "seq") m.seq) (some_member (codes "npdu") m.npdu) (some_within (codes "seq") m.seq) (some_within (codes "npdu") m.npdu) in
    join 7 (user_title m.content) _ (kind_within (kind_of m.content) (body_name m.content)) (join 7 (target_members m.content) _ (target_within m.content) seq)

user_message_within : (m : UserMessage) → Within 7 (user_members m)
user_message_within m =
    let extensions = more 2 7 (extensions_members m.ext) (omega arith) (one 2 (codes "extensions") (array_of (map extension_json m.ext)) (array_depth 1 extension_json m.ext extension_depth)) in
    join 7 (user_head m) _ (user_head_within m) (join 7 (extensions_members m.ext) (user_carried m.content) extensions (user_carried_within m.content))

user_fault_within : (f : UserFault) → Within 1 (user_fault_members f)
unfolding member
user_fault_within (user_faults.Short held) = (omega arith, (omega arith, tt))
user_fault_within (user_faults.Version version) = (omega arith, (omega arith, tt))
user_fault_within user_faults.Protocol = (omega arith, tt)
user_fault_within (user_faults.Length stated held) = (omega arith, (omega arith, (omega arith, tt)))
user_fault_within (user_faults.ExtensionZero at) = (omega arith, (omega arith, tt))
user_fault_within (user_faults.ExtensionPast at) = (omega arith, (omega arith, tt))
user_fault_within (user_faults.ExtensionNeeded kind at) = (omega arith, (omega arith, tt))
user_fault_within (user_faults.Missing kind) = (omega arith, (omega arith, tt))
user_fault_within (user_faults.Element at) = (omega arith, (omega arith, tt))
user_fault_within user_faults.Memory = (omega arith, tt)
user_fault_within user_faults.TooLong = (omega arith, tt)

extension_fields_within : (names : Names) (row : Option Row) (content : List ℕ) → Within 17 (extension_fields names row content)
unfolding member
extension_fields_within names None content = tt
extension_fields_within names (Some row) content = (omega arith, form_fields_within names row.form content)

named_extension_depth : (names : Names) (e : Extension) → depth (named_extension_json names e) ≤ 18
unfolding member
named_extension_depth names e =
    object_depth 17 (named_extension names e) (omega arith, (omega arith, extension_fields_within names (row_of names.extension_headers.now e.kind) e.content))

named_user_within : (names : Names) (m : UserMessage) → Within 24 (named_user_members names m)
named_user_within names m =
    let extensions = more 19 24 (named_extensions names m.ext) (omega arith)
    (one 19 (codes "extensions") (array_of (map (named_extension_json names) m.ext)) (array_depth 18 (named_extension_json names) m.ext (named_extension_depth names))) in
    let head = user_head_within m in
    join 24 (user_head m) _ (more 7 24 (user_head m) (omega arith) head)
    (join 24 (named_extensions names m.ext) (user_carried m.content) extensions (more 7 24 (user_carried m.content) (omega arith) (user_carried_within m.content)))

-- ---- all that can be shown

left_within : (octets : List ℕ) → Within 6 (rest_members octets)
unfolding member
left_within [] = tt
left_within (octet ∷ octets) = (omega arith, tt)

shown_within : (places : Bool) (names : Names) (h : Headed) (ms : List (List ℕ × Json)) → MessageShown places names h ms → Within 23 ms
unfolding member
shown_within places names h ms (es, rest, front, is) =
    let elements : Within 23 (named_elements places names h.kind es) = (array_depth 22 (named_json places names h.kind) es (named_depth places names h.kind), tt) in
    let head = header_members (name_in names h.kind) h.kind h.teid h.seq h.priority in
    subst (Within 23) (sym is) (join 23 head _ (more 6 23 head (omega arith) (header_within (name_in names h.kind) h.kind h.teid h.seq h.priority))
    (join 23 (named_elements places names h.kind es) (rest_members rest) elements (more 6 23 (rest_members rest) (omega arith) (left_within rest))))

alone_within : (places : Bool) (names : Names) (h : Option Headed) (ms : List (List ℕ × Json)) → AloneShown places names h ms → Within 23 ms
alone_within places names None ms is = subst (Within 23) (sym is) tt
alone_within places names (Some h) ms shown = shown_within places names h ms shown

second_within : (places : Bool) (names : Names) (octets : List ℕ) (h : Option Headed) (ms : List (List ℕ × Json)) → SecondShown places names octets h ms → Within 23 ms
second_within places names octets None ms is = subst (Within 23) (sym is) (more 6 23 (rest_members octets) (omega arith) (left_within octets))
second_within places names octets (Some h) ms shown = shown_within places names h ms shown

by_within : (places : Bool) (names : Names) (pair : Option (Headed × List ℕ)) (whole : Option Headed) (ms : List (List ℕ × Json)) → ShownBy places names pair whole ms → Within 24 ms
by_within places names None whole ms shown = more 23 24 ms (omega arith) (alone_within places names whole ms shown)
by_within places names (Some pair) whole ms (a, b, first, second, is) =
    subst (Within 24) (sym is) (join 24 a (second_member b) (more 23 24 a (omega arith) (shown_within places names pair.0 a first))
    (one 24 (codes "second") (object_of b) (object_depth 23 b (second_within places names pair.1 (head_at pair.1) b second))))

headers_within : (names : Names) (es : List Extension) → Within 19 (named_extensions names es)
headers_within names es = one 19 (codes "extensions") (array_of (map (named_extension_json names) es)) (array_depth 18 (named_extension_json names) es (named_extension_depth names))

packet_within : (kind next : ℕ) (rest : List ℕ) → Within 19 (packet_members kind next rest)
unfolding member
packet_within kind next rest = chosen_within ((next == 0) && (kind == 255)) 19 (member (codes "payload") (hexadecimal rest)) [] (omega arith, tt) tt

chain_within : (names : Names) (kind : ℕ) (chain : Option (ℕ × List ℕ)) → Within 19 (chain_members names kind chain)
chain_within names kind None = tt
chain_within names kind (Some chain) =
    let f = front_of chain.0 chain.1 in
    join 19 (named_extensions names f.headers) (packet_members kind f.next f.rest) (headers_within names f.headers) (packet_within kind f.next f.rest)

user_shown_within : (names : Names) (h : Option UserHead) (chain : Option (ℕ × List ℕ)) → Within 19 (user_shown names h chain)
unfolding member
user_shown_within names None chain = tt
user_shown_within names (Some h) chain =
    let seq = some_member (codes "seq") h.seq in
    join 19 (kind_members h.kind) _ (more 7 19 (kind_members h.kind) (omega arith) (kind_within h.kind (user_name h.kind))) (
      omega arith,
      join 19 seq _ (more 7 19 seq (omega arith) (some_within (codes "seq") h.seq))
          (join 19 (rest_members h.rest) _ (more 6 19 (rest_members h.rest) (omega arith) (left_within h.rest)) (chain_within names h.kind chain)),
    )

-- ---- places of faults

at_within : (place : Option ℕ) → Within 1 (some_member (codes "at") place)
unfolding member
at_within None = tt
at_within (Some at) = (omega arith, tt)

fault_members_within : (places : Bool) (octets : List ℕ) (f : V2Fault) (ms : List (List ℕ × Json)) → FaultMembers places octets f ms → Within 1 ms
fault_members_within false octets f ms is = subst (Within 1) (sym is) (placed_within octets f)
fault_members_within true octets f ms (place, lies, is) = subst (Within 1) (sym is) (join 1 (placed_members octets f) (some_member (codes "at") place) (placed_within octets f) (at_within place))

user_members_at_within : (places : Bool) (f : UserFault) → Within 1 (user_members_at places f)
user_members_at_within false f = user_fault_within f
user_members_at_within true f = join 1 (user_fault_members f) (some_member (codes "at") (user_place f)) (user_fault_within f) (at_within (user_place f))

-- ---- datagrams

control_within : (members : Members) (octets : List ℕ) (ms : List (List ℕ × Json)) → ControlMembers members octets ms → Within 24 ms
control_within Plain octets ms (inl h) = more 6 24 ms (omega arith) (message_within octets ms h)
control_within Plain octets ms (inr (front, back, announces, (a, b, ha, hb, is))) =
    subst (Within 24) (sym is)
    (join 24 a (second_member b) (more 6 24 a (omega arith) (message_within front a ha))
    (more 7 24 (second_member b) (omega arith) (one 7 (codes "second") (object_of b) (object_depth 6 b (message_within back b hb)))))
control_within (All names interface places) octets ms (is, how) = by_within places names (pair_at octets) (head_at octets) ms how

before_within : (members : Members) (plane : Plane) (octets : List ℕ) (ms : List (List ℕ × Json)) → BeforeFault members plane octets ms → Within 24 ms
before_within Plain plane octets ms is = subst (Within 24) (sym is) tt
before_within (All names interface places) planes.Control octets ms how = by_within places names (pair_at octets) (head_at octets) ms how
before_within (All names interface places) planes.User octets ms is = subst (Within 24) (sym is) (more 19 24 (user_shown names (user_head_at octets) (chain_at octets)) (omega arith) (user_shown_within names (user_head_at octets) (chain_at octets)))

with_fault_within : (members : Members) (plane : Plane) (octets : List ℕ) (fault ms : List (List ℕ × Json)) → Within 1 fault → WithFault members plane octets fault ms → Within 24 ms
with_fault_within members plane octets fault ms low (before, how, is) =
    subst (Within 24) (sym is) (join 24 before _ (before_within members plane octets before how) (more 7 24 (fault_member fault) (omega arith) (fault_member_within fault low)))

user_message_shallow : (names : Names) (octets : List ℕ) (ms : List (List ℕ × Json)) → UserShown names octets ms → Within 24 ms
user_message_shallow names octets ms (inl (m, spelled, is)) = subst (Within 24) (sym is) (named_user_within names m)
user_message_shallow names octets ms (inr (none, is)) =
    subst (Within 24) (sym is) (more 19 24 (user_shown names (user_head_at octets) (chain_at octets)) (omega arith) (user_shown_within names (user_head_at octets) (chain_at octets)))

user_by_within : (members : Members) (octets : List ℕ) (ms : List (List ℕ × Json)) → UserMembers members octets ms → Within 24 ms
user_by_within Plain octets ms (m, spelled, is) = subst (Within 24) (sym is) (more 7 24 (user_members m) (omega arith) (user_message_within m))
user_by_within (All names interface places) octets ms (m, shown) = user_message_shallow names octets ms shown

by_members_within : (members : Members) (plane : Plane) (octets : List ℕ) (ms : List (List ℕ × Json)) (faulty : Bool) → MembersBy members plane octets ms faulty → Within 24 ms
by_members_within members planes.Control octets ms true (f, first, (fault, its, has)) =
    with_fault_within members planes.Control octets fault ms (fault_members_within (has_places members) octets f fault its) has
by_members_within members planes.Control octets ms false has = control_within members octets ms has
by_members_within members planes.User octets ms true (f, first, has) =
    with_fault_within members planes.User octets (user_members_at (has_places members) f) ms (user_members_at_within (has_places members) f) has
by_members_within members planes.User octets ms false has = user_by_within members octets ms has

octets_shown_within : (members : Members) (octets : List ℕ) → Within 24 (octets_shown members octets)
unfolding member
octets_shown_within Plain octets = tt
octets_shown_within (All names interface false) octets = tt
octets_shown_within (All names interface true) octets = (omega arith, tt)

pub whole_within : (members : Members) (plane : Plane) (octets : List ℕ) (ms : List (List ℕ × Json)) (faulty : Bool) → WholeMembers members plane octets ms faulty → Within 24 ms
whole_within members plane octets ms faulty (said, has, is) =
    subst (Within 24) (sym is)
    (join 24 (octets_shown members octets) said (octets_shown_within members octets) (by_members_within members plane octets said faulty has))

pub plane_within : (plane : Plane) → Within 24 (plane_member plane)
plane_within plane = one 24 (codes "plane") _ (omega arith)

-- ---- captures

path_within : (p : Captured) → Within 24 (path_members p)
unfolding member object_of
path_within p = (omega arith, (omega arith, plane_within p.plane))

pub frame_within : (d : Seen) → Within 24 (frame_members d)
unfolding member
frame_within d = (omega arith, (omega arith, path_within d.packet))

part_within : (p : Captured) → Within 24 (part_members p)
unfolding member object_of
part_within p = chosen_within p.fragment 24 (member (codes "fragment") (boolean true)) (member (codes "cut") (object_of (held_members p))) (omega arith, tt) (omega arith, tt)

pub rest_within : (members : Members) (p : Captured) (ms : List (List ℕ × Json)) (faulty : Bool) → RestMembers members p ms faulty → Within 24 ms
rest_within members p ms faulty (inl (part, none, is)) = subst (Within 24) (sym is) (part_within p)
rest_within members p ms faulty (inr (all, h)) = whole_within members p.plane p.octets ms faulty h
