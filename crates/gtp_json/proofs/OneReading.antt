-- The lines of a datagram and its object are of one reading.
use Rattle.std.proofs.Common.{◌≡◌, ℕ, true, false, List, [], ◌++◌, inl, inr, refl, subst, ◌∙◌, ap}
use Rattle.json.specs.Json.{Json}
use Rattle.gtp_values.specs.declared.plane.Plane.{Plane}
use Rattle.gtp_values.specs.declared.plane.Plane.TheVariants as planes
use Rattle.gtp_v2.specs.declared.fault.V2Fault.{V2Fault}
use Rattle.gtp_v2.specs.Message.{MessageValue}
use Rattle.gtp_v2.specs.Pair.{DatagramValue, IsDatagram, IsDatagramBy, IsDatagramFaultBy, alone, both}
use Rattle.gtp_user.specs.declared.fault.UserFault.{UserFault}
use Rattle.gtp_user.specs.Message.{MessageValue as UserValue}
use Rattle.gtp_user.specs.Datagram.{IsUserMessageBy, IsUserFaultBy}
use Rattle.gtp_interfaces.specs.declared.interface.Interface.TheVariants as interfaces
use Rattle.gtp_interfaces.specs.Interface.{asked_on, understood_on}
use Rattle.gtp_lines.specs.Named as worded
use Rattle.gtp_lines.specs.Messages.{AloneLines, PairLines}
use Rattle.gtp_lines.specs.User.{user_fault_line}
use Rattle.gtp_lines.specs.All.{user_shown, user_head_at}
use Rattle.gtp_lines.specs.Fronts.{chain_at}
use Rattle.gtp_json.specs.declared.datagram.Members.{Members}
use Rattle.gtp_json.specs.declared.datagram.Members.TheVariants.{Plain, All}
use Rattle.gtp_json.specs.Tree.{object_of}
use Rattle.gtp_json.specs.Places.{FaultMembers, user_members_at}
use Rattle.gtp_json.specs.User.{user_members}
use Rattle.gtp_json.specs.Named.{named_user_members}
use Rattle.gtp_json.specs.All.{user_shown as shown_members}
use Rattle.gtp_json.specs.Datagram.{interface_of, UserMembers, plane_member, has_places, octets_shown}
use Rattle.gtp_json.specs.Laws.{IsUserObject, OfMessage, LinesBy, fault_lines, EndsInLine, EndsInFault, OneReading}
use Rattle.gtp_json.proofs.OneLine.{control_by, user_by, spelled, user_spelled}

-- what lines that are no fault's are of
lines_alone : (octets text : List ℕ) → AloneLines worded.Plain octets text → (m : MessageValue) × IsDatagram octets (alone m)
lines_alone octets text (m, is, rest) = (m, inl (m, is, refl))

lines_both : (octets text : List ℕ) → PairLines worded.Plain octets text → (a : MessageValue) × (b : MessageValue) × IsDatagram octets (both a b)
lines_both octets text (front, back, announces, (before, (a, first, rest), (b, second, others))) = (a, b, inr (front, back, announces, (a, first, (b, second, refl))))

lines_of : (members : Members) (octets text : List ℕ) → LinesBy members planes.Control octets text false → (d : DatagramValue) × IsDatagramBy (asked_on (interface_of members)) octets d
lines_of Plain octets text (inl h) = let s = lines_alone octets text h in (alone s.0, s.1)
lines_of Plain octets text (inr h) = let s = lines_both octets text h in (both s.0 s.1, s.2)
lines_of (All names interface places) octets text (d, how) = d

-- the fault that lines end in
fault_of : (members : Members) (octets text : List ℕ) → LinesBy members planes.Control octets text true
    → (f : V2Fault) × IsDatagramFaultBy (asked_on (interface_of members)) octets f × EndsInLine members planes.Control octets (fault_lines members octets f) text
fault_of Plain octets text (f, fails, is) = (f, fails, ([], refl, is))
fault_of (All names interface places) octets text found = found

user_fault_of : (members : Members) (octets text : List ℕ) → LinesBy members planes.User octets text true
    → (f : UserFault) × IsUserFaultBy (understood_on (interface_of members)) octets f × EndsInLine members planes.User octets (user_fault_line f) text
user_fault_of Plain octets text (f, fails, is) = (f, fails, ([], refl, is))
user_fault_of (All names interface places) octets text (f, fails, is) = (f, fails, (user_shown names (user_head_at octets) (chain_at octets), refl, is))

-- the message of the user plane that lines are of, by who understands what is understood on the interface
user_of : (members : Members) (octets text : List ℕ) → LinesBy members planes.User octets text false → (m : UserValue) × IsUserMessageBy (understood_on (interface_of members)) octets m
user_of Plain octets text (m, spelled, is) = (m, spelled)
user_of (All names interface places) octets text (m, shown) = m

-- an object of these members
whole_is : (members : Members) (plane : Plane) (octets : List ℕ) (ms said : List (List ℕ × Json)) (j : Json) → ms ≡ octets_shown members octets ++ said
    → j ≡ object_of (plane_member plane ++ ms) → j ≡ object_of (plane_member plane ++ (octets_shown members octets ++ said))
whole_is members plane octets ms said j whole is = is ∙ ap (λ (xs : List (List ℕ × Json)). object_of (plane_member plane ++ xs)) whole

-- an object of other members that are the same
object_of_same : (members : Members) (octets : List ℕ) (ms ns : List (List ℕ × Json)) (j : Json) → IsUserObject members octets ms j → ms ≡ ns → IsUserObject members octets ns j
object_of_same members octets ms ns j is same = is ∙ ap (λ (xs : List (List ℕ × Json)). object_of (plane_member planes.User ++ (octets_shown members octets ++ xs))) same

-- lines and members of the user plane without a fault
of_message : (members : Members) (octets text : List ℕ) (ms : List (List ℕ × Json)) (j : Json) → LinesBy members planes.User octets text false
    → UserMembers members octets ms → IsUserObject members octets ms j → OfMessage members octets text j
of_message Plain octets text ms j (m, spelled, is) (n, other, ms_is) object =
    let one = user_by interfaces.S5S8 octets in
    (m, spelled, is, object_of_same Plain octets ms (user_members m) j object (ms_is ∙ ap user_members (one.value n m other spelled)))
of_message (All names interface places) octets text ms j (w, inl (m, spelled, is)) (v, inl (n, other, ms_is)) object =
    let one = user_by interfaces.S5S8 octets in
    inl (m, spelled, is, object_of_same (All names interface places) octets ms (named_user_members names m) j object (ms_is ∙ ap (named_user_members names) (one.value n m other spelled)))
of_message (All names interface places) octets text ms j (w, inl (m, spelled, is)) (v, inr (none, ms_is)) object = absurd (none m spelled)
of_message (All names interface places) octets text ms j (w, inr (none, is)) (v, inl (n, other, ms_is)) object = absurd (none n other)
of_message (All names interface places) octets text ms j (w, inr (none, is)) (v, inr (others, ms_is)) object =
    inr (none, is, object_of_same (All names interface places) octets ms (shown_members names (user_head_at octets) (chain_at octets)) j object ms_is)

pub one_reading : OneReading
one_reading members planes.Control octets text true j true lines (ms, (said, (g, fault, (its, are, has)), whole), is) =
    let one = control_by (interface_of members) octets in
    let found = fault_of members octets text lines in
    let moved = subst (λ (z : V2Fault). FaultMembers (has_places members) octets z its) (one.fault g found.0 fault found.1) are in
    (refl, (found.0, found.1, found.2, (its, moved, (said, has, whole_is members planes.Control octets ms said j whole is))))
one_reading members planes.Control octets text true j false lines (ms, (said, has, whole), is) =
    let one = control_by (interface_of members) octets in
    let found = fault_of members octets text lines in
    let s = spelled members octets said has in
    absurd (one.either s.0 found.0 s.1 found.1)
one_reading members planes.Control octets text false j true lines (ms, (said, (f, fails, has), whole), is) =
    let one = control_by (interface_of members) octets in
    let s = lines_of members octets text lines in
    absurd (one.either s.0 f s.1 fails)
one_reading members planes.Control octets text false j false lines (ms, (said, has, whole), is) =
    let one = control_by (interface_of members) octets in
    let s = lines_of members octets text lines in
    (refl, (s.0, s.1, λ other other_is. one.value other s.0 other_is s.1))
one_reading members planes.User octets text true j true lines (ms, (said, (g, fault, has), whole), is) =
    let one = user_by (interface_of members) octets in
    let found = user_fault_of members octets text lines in (
      refl,
      (
        found.0,
        found.1,
        found.2,
        subst (λ (z : UserFault). EndsInFault members planes.User octets (user_members_at (has_places members) z) j) (one.fault g found.0 fault found.1)
            (said, has, whole_is members planes.User octets ms said j whole is),
      ),
    )
one_reading members planes.User octets text true j false lines (ms, (said, has, whole), is) =
    let one = user_by (interface_of members) octets in
    let found = user_fault_of members octets text lines in
    let s = user_spelled members octets said has in
    absurd (one.either s.0 found.0 s.1 found.1)
one_reading members planes.User octets text false j true lines (ms, (said, (f, fails, has), whole), is) =
    let one = user_by (interface_of members) octets in
    let s = user_of members octets text lines in
    absurd (one.either s.0 f s.1 fails)
one_reading members planes.User octets text false j false lines (ms, (said, has, whole), is) =
    (refl, of_message members octets text said j lines has (whole_is members planes.User octets ms said j whole is))
