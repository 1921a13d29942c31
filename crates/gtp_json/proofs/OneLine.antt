-- A datagram has one line in each form.
use Rattle.std.proofs.Common.{◌≡◌, ℕ, Bool, true, false, List, [], ◌++◌, drop, Option, Some, None, Result, refl, sym, ap, subst, ◌∙◌, inl, inr}
use Rattle.std.specs.Prelude.{codes}
use Rattle.json.specs.Json.{Json}
use Rattle.gtp_values.specs.Decides.{Decides}
use Rattle.gtp_values.proofs.Outcomes.{ok_same, err_same, apart}
use Rattle.gtp_values.specs.declared.plane.Plane.{Plane}
use Rattle.gtp_values.specs.declared.plane.Plane.TheVariants as planes
use Rattle.gtp_ie.specs.Element.{Element}
use Rattle.gtp_v2.specs.declared.fault.V2Fault.{V2Fault}
use Rattle.gtp_v2.specs.Datagram.{IsMessage, IsFault}
use Rattle.gtp_v2.specs.Headed.{Headed}
use Rattle.gtp_v2.specs.Message.{Content, Fields, Raw, MessageValue}
use Rattle.gtp_v2.specs.Pair.{DatagramValue, IsDatagram, IsDatagramBy, IsDatagramFaultBy, alone, both}
use Rattle.gtp_v2.specs.Viewed.{place_of}
use Rattle.gtp_v2.proofs.Pairs.{datagram_by_decided}
use Rattle.gtp_v2.proofs.Told.{message_decided}
use Rattle.gtp_user.specs.Message.{MessageValue as UserMessage}
use Rattle.gtp_user.specs.Datagram.{IsUserMessage, IsUserMessageBy, IsUserFaultBy}
use Rattle.gtp_user.proofs.Messages.{message_with_decided}
use Rattle.gtp_interfaces.specs.declared.interface.Interface.{Interface}
use Rattle.gtp_interfaces.specs.declared.interface.Interface.TheVariants as interfaces
use Rattle.gtp_interfaces.specs.Interface.{asked_on, understood_on}
use Rattle.gtp_capture.specs.Packet.{Packet as Captured}
use Rattle.gtp_lines.specs.All.{head_at, pair_at}
use Rattle.gtp_lines.proofs.Alike.{one_front}
use Rattle.gtp_lines.proofs.Before.{all_front}
use Rattle.gtp_json.specs.declared.datagram.Members.{Members}
use Rattle.gtp_json.specs.declared.datagram.Members.TheVariants.{Plain, All}
use Rattle.gtp_json.specs.Tree.{object_of, line_of}
use Rattle.gtp_json.specs.Control.{CarriedMembers, MessageMembers, PairMembers, header_members, head_members, elements_members, second_member, placed_members, fault_member}
use Rattle.gtp_json.specs.Places.{FaultMembers, user_members_at}
use Rattle.gtp_json.specs.User.{some_member, user_members}
use Rattle.gtp_names.specs.declared.names.Names.{Names}
use Rattle.gtp_lines.specs.Named.{name_in}
use Rattle.gtp_json.specs.Named.{named_elements, named_user_members}
use Rattle.gtp_json.specs.All.{rest_members, MessageShown, AloneShown, SecondShown, ShownBy}
use Rattle.gtp_json.specs.Datagram.{interface_of, UserShown, UserMembers, plane_member, ControlMembers, BeforeFault, WithFault, MembersBy, has_places, octets_shown, WholeMembers}
use Rattle.gtp_json.specs.Frames.{frame_members, RestMembers}
use Rattle.gtp_json.specs.Laws.{OneLine, OneFrameLine}
use Rattle.gtp_json.proofs.FaultPlaces.{same_parts, place_one}

-- ---- one outcome

pub record One {X E : Type 0} (Is : X → Type 0) (Fails : E → Type 0) : Type 0 where
  pub value : (x y : X) → Is x → Is y → x ≡ y
  pub fault : (f g : E) → Fails f → Fails g → f ≡ g
  pub either : (x : X) (f : E) → Is x → Fails f → ⊥

pub one_of : {X E : Type 0} (r : Result X E) (Is : X → Type 0) (Fails : E → Type 0) → Decides r Is Fails → One Is Fails
one_of {X} {E} r Is Fails d = record {
  value = λ x y a b. ok_same E x y (sym (d.is x a) ∙ d.is y b);
  fault = λ f g a b. err_same X f g (sym (d.fails f a) ∙ d.fails g b);
  either = λ x f a b. apart x f (sym (d.is x a) ∙ d.fails f b);
}

-- on an interface
pub control_by : (interface : Interface) (octets : List ℕ) → One (IsDatagramBy (asked_on interface) octets) (IsDatagramFaultBy (asked_on interface) octets)
control_by interface octets = one_of _ (IsDatagramBy (asked_on interface) octets) (IsDatagramFaultBy (asked_on interface) octets) (datagram_by_decided (asked_on interface) octets)

pub user_by : (interface : Interface) (octets : List ℕ) → One (IsUserMessageBy (understood_on interface) octets) (IsUserFaultBy (understood_on interface) octets)
user_by interface octets =
    one_of _ (IsUserMessageBy (understood_on interface) octets) (IsUserFaultBy (understood_on interface) octets) (message_with_decided (understood_on interface) octets)

-- ---- control

carried_one : (octets : List ℕ) (m : MessageValue) (content : Content) (a b : List (List ℕ × Json)) → CarriedMembers octets m content a → CarriedMembers octets m content b → a ≡ b
carried_one octets m (Raw carried) a b x y = x ∙ sym y
carried_one octets m (Fields fields) a b (es, are, is) (ds, others, b_is) =
    let at = place_of m.teid in
    let here = drop at octets in
    let p = one_front at here es [] ds [] (all_front at here es are) (all_front at here ds others) in
    is ∙ (ap elements_members p.0 ∙ sym b_is)

message_one : (octets : List ℕ) (ms ns : List (List ℕ × Json)) → MessageMembers octets ms → MessageMembers octets ns → ms ≡ ns
message_one octets ms ns (m, spelled, (carried, has, is)) (n, other, (brought, had, ns_is)) =
    let one = one_of _ (IsMessage octets) (IsFault octets) (message_decided octets) in
    let same : m ≡ n = one.value m n spelled other in
    let moved = subst (λ (x : MessageValue). CarriedMembers octets x x.content brought) (sym same) had in
    let c : carried ≡ brought = carried_one octets m m.content carried brought has moved in
    is ∙ (ap (λ (x : MessageValue). head_members x ++ carried) same ∙ (ap (λ (xs : List (List ℕ × Json)). head_members n ++ xs) c ∙ sym ns_is))

pair_one : (octets : List ℕ) (ms ns : List (List ℕ × Json)) → PairMembers octets ms → PairMembers octets ns → ms ≡ ns
pair_one octets ms ns (front, back, announces, (a, b, ha, hb, is)) (fore, rear, announced, (c, d, hc, hd, ns_is)) =
    let same = same_parts octets front back fore rear announces announced in
    let first : a ≡ c = message_one fore a c (subst (λ (xs : List ℕ). MessageMembers xs a) same.0 ha) hc in
    let second : b ≡ d = message_one rear b d (subst (λ (xs : List ℕ). MessageMembers xs b) same.1 hb) hd in
    is ∙ (ap (λ (xs : List (List ℕ × Json)). xs ++ second_member b) first ∙ (ap (λ (xs : List (List ℕ × Json)). c ++ second_member xs) second ∙ sym ns_is))

-- what the members of one message or of two are of
spelled_alone : (octets : List ℕ) (ms : List (List ℕ × Json)) → MessageMembers octets ms → (m : MessageValue) × IsDatagram octets (alone m)
spelled_alone octets ms (m, spelled, rest) = (m, inl (m, spelled, refl))

spelled_both : (octets : List ℕ) (ms : List (List ℕ × Json)) → PairMembers octets ms → (a : MessageValue) × (b : MessageValue) × IsDatagram octets (both a b)
spelled_both octets ms (front, back, announces, (a, b, (m, sm, am), (n, sn, bn), is)) = (m, n, inr (front, back, announces, (m, sm, (n, sn, refl))))

pub spelled : (members : Members) (octets : List ℕ) (ms : List (List ℕ × Json)) → ControlMembers members octets ms → (d : DatagramValue) × IsDatagramBy (asked_on (interface_of members)) octets d
spelled Plain octets ms (inl h) = let s = spelled_alone octets ms h in (alone s.0, s.1)
spelled Plain octets ms (inr h) = let s = spelled_both octets ms h in (both s.0 s.1, s.2)
spelled (All names interface places) octets ms (d, how) = d

not_both : (octets : List ℕ) (ms ns : List (List ℕ × Json)) → MessageMembers octets ms → PairMembers octets ns → ⊥
not_both octets ms ns a p =
    let one = control_by interfaces.S5S8 octets in
    let s = spelled_alone octets ms a in
    let t = spelled_both octets ns p in
    let same : None ≡ Some t.1 = ap (λ (d : DatagramValue). d.second) (one.value (alone s.0) (both t.0 t.1) s.1 t.2) in
    absurd cc

-- ---- all that can be shown

front_one : (places : Bool) (names : Names) (h : Headed) (ms ns : List (List ℕ × Json)) → MessageShown places names h ms → MessageShown places names h ns → ms ≡ ns
front_one places names h ms ns (es, rest, front, is) (ds, left, other, ns_is) =
    let p = one_front h.at h.rest es rest ds left front other in
    let head = header_members (name_in names h.kind) h.kind h.teid h.seq h.priority in
    is
    ∙ (ap (λ (xs : List Element). head ++ (named_elements places names h.kind xs ++ rest_members rest)) p.0
    ∙ (ap (λ (xs : List ℕ). head ++ (named_elements places names h.kind ds ++ rest_members xs)) p.1 ∙ sym ns_is))

alone_one : (places : Bool) (names : Names) (w : Option Headed) (ms ns : List (List ℕ × Json)) → AloneShown places names w ms → AloneShown places names w ns → ms ≡ ns
alone_one places names None ms ns a b = a ∙ sym b
alone_one places names (Some h) ms ns a b = front_one places names h ms ns a b

second_one : (places : Bool) (names : Names) (back : List ℕ) (w : Option Headed) (ms ns : List (List ℕ × Json)) → SecondShown places names back w ms → SecondShown places names back w ns → ms ≡ ns
second_one places names back None ms ns a b = a ∙ sym b
second_one places names back (Some h) ms ns a b = front_one places names h ms ns a b

shown_one : (places : Bool) (names : Names) (p : Option (Headed × List ℕ)) (w : Option Headed) (ms ns : List (List ℕ × Json)) → ShownBy places names p w ms → ShownBy places names p w ns → ms ≡ ns
shown_one places names None w ms ns a b = alone_one places names w ms ns a b
shown_one places names (Some pair) w ms ns (a, b, first, second, is) (c, d, other, third, ns_is) =
    is
    ∙ (ap (λ (xs : List (List ℕ × Json)). xs ++ second_member b) (front_one places names pair.0 a c first other)
    ∙ (ap (λ (xs : List (List ℕ × Json)). c ++ second_member xs) (second_one places names pair.1 (head_at pair.1) b d second third) ∙ sym ns_is))

-- ---- datagrams

control_one : (members : Members) (octets : List ℕ) (ms ns : List (List ℕ × Json)) → ControlMembers members octets ms → ControlMembers members octets ns → ms ≡ ns
control_one Plain octets ms ns (inl a) (inl b) = message_one octets ms ns a b
control_one Plain octets ms ns (inl a) (inr b) = absurd (not_both octets ms ns a b)
control_one Plain octets ms ns (inr a) (inl b) = absurd (not_both octets ns ms b a)
control_one Plain octets ms ns (inr a) (inr b) = pair_one octets ms ns a b
control_one (All names interface places) octets ms ns (d, a) (e, b) = shown_one places names (pair_at octets) (head_at octets) ms ns a b

before_one : (members : Members) (plane : Plane) (octets : List ℕ) (ms ns : List (List ℕ × Json)) → BeforeFault members plane octets ms → BeforeFault members plane octets ns → ms ≡ ns
before_one Plain plane octets ms ns a b = a ∙ sym b
before_one (All names interface places) planes.Control octets ms ns a b = shown_one places names (pair_at octets) (head_at octets) ms ns a b
before_one (All names interface places) planes.User octets ms ns a b = a ∙ sym b

fault_one : (members : Members) (plane : Plane) (octets : List ℕ) (fs gs ms ns : List (List ℕ × Json)) → fs ≡ gs → WithFault members plane octets fs ms → WithFault members plane octets gs ns → ms ≡ ns
fault_one members plane octets fs gs ms ns same (a, before, is) (b, other, ns_is) =
    is
    ∙ (ap (λ (xs : List (List ℕ × Json)). xs ++ fault_member fs) (before_one members plane octets a b before other)
    ∙ (ap (λ (xs : List (List ℕ × Json)). b ++ fault_member xs) same ∙ sym ns_is))

-- a fault has its members alone
same_fault : (places : Bool) (octets : List ℕ) (f : V2Fault) (fs gs : List (List ℕ × Json)) → FaultMembers places octets f fs → FaultMembers places octets f gs → fs ≡ gs
same_fault false octets f fs gs a b = a ∙ sym b
same_fault true octets f fs gs (p, lies, is) (q, lie, gs_is) = is ∙ (ap (λ (x : Option ℕ). placed_members octets f ++ some_member (codes "at") x) (place_one octets f p q lies lie) ∙ sym gs_is)

-- what is shown of a datagram of the user plane without a fault
user_shown_one : (names : Names) (octets : List ℕ) (ms ns : List (List ℕ × Json)) → UserShown names octets ms → UserShown names octets ns → ms ≡ ns
user_shown_one names octets ms ns (inl (m, said, is)) (inl (n, other, ns_is)) =
    let one = user_by interfaces.S5S8 octets in
    is ∙ (ap (named_user_members names) (one.value m n said other) ∙ sym ns_is)
user_shown_one names octets ms ns (inl (m, said, is)) (inr (none, ns_is)) = absurd (none m said)
user_shown_one names octets ms ns (inr (none, is)) (inl (n, other, ns_is)) = absurd (none n other)
user_shown_one names octets ms ns (inr (none, is)) (inr (others, ns_is)) = is ∙ sym ns_is

user_one : (members : Members) (octets : List ℕ) (ms ns : List (List ℕ × Json)) → UserMembers members octets ms → UserMembers members octets ns → ms ≡ ns
user_one Plain octets ms ns (m, said, is) (n, other, ns_is) =
    let one = user_by interfaces.S5S8 octets in
    is ∙ (ap user_members (one.value m n said other) ∙ sym ns_is)
user_one (All names interface places) octets ms ns (m, a) (n, b) = user_shown_one names octets ms ns a b

-- the message that it spells, by who understands what is understood on the interface
pub user_spelled : (members : Members) (octets : List ℕ) (ms : List (List ℕ × Json)) → UserMembers members octets ms → (m : UserMessage) × IsUserMessageBy (understood_on (interface_of members)) octets m
user_spelled Plain octets ms (m, said, is) = (m, said)
user_spelled (All names interface places) octets ms (m, shown) = m

members_one : (members : Members) (plane : Plane) (octets : List ℕ) (ms ns : List (List ℕ × Json)) (x y : Bool) → MembersBy members plane octets ms x
    → MembersBy members plane octets ns y → (ms ≡ ns) × (x ≡ y)
members_one members planes.Control octets ms ns true true (f, fails, (fs, its, has)) (g, fault, (gs, other, had)) =
    let one = control_by (interface_of members) octets in
    let places = has_places members in
    let same = same_fault places octets g fs gs (subst (λ (x : V2Fault). FaultMembers places octets x fs) (one.fault f g fails fault) its) other in
    (fault_one members planes.Control octets fs gs ms ns same has had, refl)
members_one members planes.Control octets ms ns true false (f, fails, has) h =
    let one = control_by (interface_of members) octets in
    let s = spelled members octets ns h in
    absurd (one.either s.0 f s.1 fails)
members_one members planes.Control octets ms ns false true h (f, fails, has) =
    let one = control_by (interface_of members) octets in
    let s = spelled members octets ms h in
    absurd (one.either s.0 f s.1 fails)
members_one members planes.Control octets ms ns false false a b = (control_one members octets ms ns a b, refl)
members_one members planes.User octets ms ns true true (f, fails, has) (g, fault, had) =
    let one = user_by (interface_of members) octets in
    let told = user_members_at (has_places members) in
    (fault_one members planes.User octets (told f) (told g) ms ns (ap told (one.fault f g fails fault)) has had, refl)
members_one members planes.User octets ms ns true false (f, fails, has) h =
    let one = user_by (interface_of members) octets in
    let s = user_spelled members octets ns h in
    absurd (one.either s.0 f s.1 fails)
members_one members planes.User octets ms ns false true h (f, fails, has) =
    let one = user_by (interface_of members) octets in
    let s = user_spelled members octets ms h in
    absurd (one.either s.0 f s.1 fails)
members_one members planes.User octets ms ns false false a b = (user_one members octets ms ns a b, refl)

whole_one : (members : Members) (plane : Plane) (octets : List ℕ) (ms ns : List (List ℕ × Json)) (x y : Bool) → WholeMembers members plane octets ms x
    → WholeMembers members plane octets ns y → (ms ≡ ns) × (x ≡ y)
whole_one members plane octets ms ns x y (a, has, is) (b, had, ns_is) =
    let same = members_one members plane octets a b x y has had in
    (is ∙ (ap (λ (xs : List (List ℕ × Json)). octets_shown members octets ++ xs) same.0 ∙ sym ns_is), same.1)

pub one_line : OneLine
one_line members plane octets text faulty other wrong (j, (ms, a, j_is), text_is) (i, (ns, b, i_is), other_is) =
    let same = whole_one members plane octets ms ns faulty wrong a b in
    let value : j ≡ i = j_is ∙ (ap (λ (xs : List (List ℕ × Json)). object_of (plane_member plane ++ xs)) same.0 ∙ sym i_is) in
    (text_is ∙ (ap line_of value ∙ sym other_is), same.1)

-- ---- captures

rest_one : (members : Members) (p : Captured) (ms ns : List (List ℕ × Json)) (x y : Bool) → RestMembers members p ms x → RestMembers members p ns y → (ms ≡ ns) × (x ≡ y)
rest_one members p ms ns x y (inl (part, a, is)) (inl (partly, b, ns_is)) = (is ∙ sym ns_is, a ∙ sym b)
rest_one members p ms ns x y (inl (part, a, is)) (inr (all, b)) = absurd cc
rest_one members p ms ns x y (inr (all, a)) (inl (part, b, is)) = absurd cc
rest_one members p ms ns x y (inr (all, a)) (inr (wholly, b)) = whole_one members p.plane p.octets ms ns x y a b

pub one_frame_line : OneFrameLine
one_frame_line members d text faulty other wrong (j, (ms, a, j_is), text_is) (i, (ns, b, i_is), other_is) =
    let same = rest_one members d.packet ms ns faulty wrong a b in
    let value : j ≡ i = j_is ∙ (ap (λ (xs : List (List ℕ × Json)). object_of (frame_members d ++ xs)) same.0 ∙ sym i_is) in
    (text_is ∙ (ap line_of value ∙ sym other_is), same.1)
