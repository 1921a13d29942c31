-- How deep the objects of a run nest.
use Rattle.std.proofs.Common.{◌≤◌, ℕ, suc, List, [], ◌∷◌, ◌++◌, Bool, map, Option, Some, None, codes, sym, subst, arith}
use Rattle.std.specs.Prelude.{⊤}
use Rattle.std.specs.FinMap.{entries}
use Rattle.json.specs.Json.{Json, string, boolean}
use Rattle.json.specs.Tree.{depth, items_depth}
use Rattle.gtp_machine.specs.Input.{Entry}
use Rattle.gtp_machine.specs.Spelling.{Datagram}
use Rattle.gtp_machine.specs.declared.role.Role.{Role}
use Rattle.gtp_machine.specs.declared.role.Role.TheVariants.{Serving, Packet}
use Rattle.gtp_tables.specs.declared.context.Session.{Session}
use Rattle.gtp_tables.specs.declared.context.Bearer.{Bearer}
use Rattle.gtp_machine.specs.declared.outcome.DropReason.{DropReason}
use Rattle.gtp_machine.specs.declared.outcome.DropReason.TheVariants.{Undecodable, OldCounter, NoPending, Mismatch, ContextNotActive, UnknownContext}
use Rattle.gtp_machine.specs.declared.outcome.DropReason.TheVariants.{AfterEnd, HeldFull, Unexpected, UnknownExtension, NotPeer, OtherVersion}
use Rattle.gtp_machine.specs.declared.outcome.Outcome.{Outcome}
use Rattle.gtp_machine.specs.declared.outcome.Outcome.TheVariants.{Begun, GoneOut, Refused, Answered, Echoed, Repeated, Opened, Closed, Clash, Rejected, Alive, Accepted, Ended, Broken, Dropped}
use Rattle.gtp_machine.specs.World.{By, Event, EventOutcome, Came_to, Ticked, Restarted, No_such_datagram, Restarts_used, Cut_too_long}
use Rattle.gtp_world.specs.Record.{WorldRecord, EventRecord}
use Rattle.gtp_world.specs.Naming.{Pair, Sessions, Bearers}
use Rattle.gtp_outcomes.specs.Outcomes.{limit_word, outcome_word, first_word}
use Rattle.gtp_json.specs.Tree.{member, object_of, array_of, items_of, number_of}
use Rattle.gtp_json.specs.Values.{hexadecimal, teid_value}
use Rattle.gtp_json.proofs.Shallow.{Within, join, object_depth}
use Rattle.gtp_run_json.specs.Members.{where_some, word_member, number_member, teid_member}
use Rattle.gtp_run_json.specs.Happened.{drop_members, outcome_details, outcome_members, event_details, came_members, second_members, told_members}
use Rattle.gtp_run_json.specs.Happened.{sent_json, forgot_json, head_members, left_members, event_json}
use Rattle.gtp_run_json.specs.Contexts.{ends_members, session_json, bearer_json, sessions_members, bearers_members}
use Rattle.gtp_run_json.specs.Verdicts.{JudgesEach, mutual_json, accepted_json}
use Rattle.gtp_run_json.specs.Ending.{IsEndJson}

-- no item nests deeper
abbrev Shallow : ℕ → List Json → Type 0
Shallow n [] = ⊤
Shallow n (j ∷ js) = (depth j ≤ n) × Shallow n js

items_within : (n : ℕ) (js : List Json) → Shallow n js → items_depth (items_of js) ≤ n
items_within n [] h = omega arith
items_within n (j ∷ js) h = let rest = items_within n js h.1 in let first = h.0 in omega (arith, rest, first)

array_depth : (n : ℕ) (js : List Json) → Shallow n js → depth (array_of js) ≤ suc n
unfolding array_of
array_depth n js h = let inner = items_within n js h in omega (arith, inner)

shallow_map : {X : Type 0} (n : ℕ) (f : X → Json) (xs : List X) → ((x : X) → depth (f x) ≤ n) → Shallow n (map f xs)
shallow_map n f [] h = tt
shallow_map n f (x ∷ xs) h = (h x, shallow_map n f xs h)

shallow_both : (n : ℕ) (a b : List Json) → Shallow n a → Shallow n b → Shallow n (a ++ b)
shallow_both n [] b h k = k
shallow_both n (j ∷ js) b h k = (h.0, shallow_both n js b h.1 k)

shallow_judged : {X : Type 0} (n : ℕ) (Holds : X → Type 0) (shape : X → Bool → Json) (xs : List X) (js : List Json) → ((x : X) (b : Bool) → depth (shape x b) ≤ n)
    → JudgesEach Holds shape xs js → Shallow n js
shallow_judged n Holds shape [] js h none = subst (Shallow n) (sym none) tt
shallow_judged n Holds shape (x ∷ xs) js h (verdict, others, is, tells, whole) = subst (Shallow n) (sym whole) (h x verdict, shallow_judged n Holds shape xs others h tells)

one : (n : ℕ) (name : List ℕ) (j : Json) → depth j ≤ n → Within n (member name j)
unfolding member
one n name j h = (h, tt)

word_within : (n : ℕ) (name word : List ℕ) → Within n (word_member name word)
word_within n name word = one n name (string word) (omega arith)

number_within : (n : ℕ) (name : List ℕ) (number : ℕ) → Within n (number_member name number)
number_within n name number = one n name (number_of number) (omega arith)

teid_within : (n : ℕ) (name : List ℕ) (teid : ℕ) → Within n (teid_member name teid)
teid_within n name teid = one n name (teid_value teid) (omega arith)

flag_within : (n : ℕ) (name : List ℕ) (b : Bool) → Within n (member name (boolean b))
flag_within n name b = one n name (boolean b) (omega arith)

hex_within : (n : ℕ) (name octets : List ℕ) → Within n (member name (hexadecimal octets))
hex_within n name octets = one n name (hexadecimal octets) (omega arith)

where_within : {X : Type 0} (n : ℕ) (members : X → List (List ℕ × Json)) (o : Option X) → ((x : X) → Within n (members x)) → Within n (where_some members o)
where_within n members None h = tt
where_within n members (Some x) h = h x

-- ---- events

drop_within : (n : ℕ) (reason : DropReason) → Within n (drop_members reason)
drop_within n (Undecodable name) = word_within n _ _
drop_within n OldCounter = tt
drop_within n NoPending = tt
drop_within n Mismatch = tt
drop_within n ContextNotActive = tt
drop_within n UnknownContext = tt
drop_within n AfterEnd = tt
drop_within n HeldFull = tt
drop_within n Unexpected = tt
drop_within n UnknownExtension = tt
drop_within n NotPeer = tt
drop_within n OtherVersion = tt

details_within : (n : ℕ) (outcome : Outcome) → Within n (outcome_details outcome)
details_within n (Begun teid) = where_within n (teid_member (codes "teid")) teid (λ x. teid_within n (codes "teid") x)
details_within n GoneOut = tt
details_within n (Refused refusal) = where_within n (word_member (codes "limit")) (limit_word refusal) (λ x. word_within n (codes "limit") x)
details_within n (Answered cause) = number_within n (codes "cause") cause
details_within n Echoed = tt
details_within n Repeated = tt
details_within n Opened = tt
details_within n Closed = tt
details_within n Clash = tt
details_within n (Rejected cause) = number_within n (codes "cause") cause
details_within n Alive = tt
details_within n Accepted = tt
details_within n Ended = tt
details_within n Broken = tt
details_within n (Dropped reason) = drop_within n reason

outcome_within : (n : ℕ) (outcome : Outcome) → Within n (outcome_members outcome)
outcome_within n outcome = join n _ (outcome_details outcome) (word_within n (codes "outcome") (outcome_word outcome)) (details_within n outcome)

event_details_within : (outcome : EventOutcome) → Within 2 (event_details outcome)
event_details_within (Came_to outcome) = details_within 2 outcome
event_details_within Ticked = tt
event_details_within (Restarted counter) = number_within 2 (codes "counter") counter
event_details_within No_such_datagram = tt
event_details_within Restarts_used = tt
event_details_within Cut_too_long = tt

then_depth : (outcome : Outcome) → depth (object_of (outcome_members outcome)) ≤ 2
then_depth outcome = let inner = object_depth 0 (outcome_members outcome) (outcome_within 0 outcome) in omega (arith, inner)

told_within : (t : EventRecord) → Within 2 (told_members t)
told_within t =
    join 2 (came_members t.outcome) _ (join 2 _ (event_details t.outcome) (word_within 2 (codes "outcome") (first_word t.outcome)) (event_details_within t.outcome))
    (join 2 (second_members t.second) _ (where_within 2 _ t.second (λ outcome. one 2 (codes "then") (object_of (outcome_members outcome)) (then_depth outcome)))
    (where_within 2 (number_member (codes "restart")) t.learned (λ x. number_within 2 (codes "restart") x)))

sent_depth : (d : ℕ × By Datagram) → depth (sent_json d) ≤ 1
sent_depth d = object_depth 0 _ (join 0 _ _ (number_within 0 (codes "datagram") d.0) (join 0 _ _ (word_within 0 (codes "plane") _) (hex_within 0 (codes "octets") d.1.what.octets)))

left_within : (sent : List (ℕ × By Datagram)) (t : EventRecord) → Within 2 (left_members sent t)
left_within sent t =
    let gave_up = array_depth 1 (map number_of t.gave_up) (shallow_map 1 number_of t.gave_up (λ x. omega arith)) in
    let forgot = array_depth 1 (map forgot_json t.forgot) (shallow_map 1 forgot_json t.forgot (λ x. omega arith)) in
    join 2 _ _ (one 2 (codes "sent") (array_of (map sent_json sent)) (array_depth 1 (map sent_json sent) (shallow_map 1 sent_json sent sent_depth)))
    (join 2 _ _ (one 2 (codes "gave_up") (array_of (map number_of t.gave_up)) gave_up) (one 2 (codes "forgot") (array_of (map forgot_json t.forgot)) forgot))

pub event_depth : (place : ℕ) (sent : List (ℕ × By Datagram)) (event : Event) (t : EventRecord) → depth (event_json place sent event t) ≤ 3
event_depth place sent event t =
    object_depth 2 _ (join 2 (head_members place event t) (left_members sent t)
    (join 2 _ _ (number_within 2 (codes "event") place) (join 2 _ _ (word_within 2 (codes "do") _) (told_within t))) (left_within sent t))

-- ---- the end

ends_within : (node : Role) (own : ℕ) (remote : Option ℕ) → Within 0 (ends_members node own remote)
ends_within node own remote =
    join 0 _ _ (word_within 0 (codes "node") _) (join 0 _ _ (teid_within 0 (codes "local") own) (where_within 0 (teid_member (codes "remote")) remote (λ x. teid_within 0 (codes "remote") x)))

session_depth : (node : Role) (e : ℕ × Session) → depth (session_json node e) ≤ 1
session_depth node e =
    object_depth 0 _ (join 0 _ _ (ends_within node e.0 e.1.remote)
    (join 0 _ _ (join 0 _ _ (word_within 0 (codes "imsi") _) (join 0 _ _ (word_within 0 (codes "apn") _) (number_within 0 (codes "ebi") _)))
    (join 0 _ _ (where_within 0 _ e.1.address (λ x. word_within 0 (codes "address") _)) (word_within 0 (codes "state") _))))

bearer_depth : (node : Role) (e : ℕ × Bearer) → depth (bearer_json node e) ≤ 1
bearer_depth node e =
    object_depth 0 _ (join 0 _ _ (ends_within node e.0 e.1.remote)
    (join 0 _ _ (teid_within 0 (codes "session") _) (join 0 _ _ (where_within 0 (number_member (codes "ebi")) e.1.identity (λ x. number_within 0 (codes "ebi") x))
    (join 0 _ _ (word_within 0 (codes "state") _) (flag_within 0 (codes "ended") e.1.ended)))))

mutual_depth : (pair : Pair) (agree : Bool) → depth (mutual_json pair agree) ≤ 1
mutual_depth (Sessions serving packet) agree =
    object_depth 0 _ (join 0 _ _ (word_within 0 (codes "kind") _)
    (join 0 _ _ (teid_within 0 (codes "serving") _) (join 0 _ _ (teid_within 0 (codes "packet") _) (flag_within 0 (codes "agree") agree))))
mutual_depth (Bearers serving packet) agree =
    object_depth 0 _ (join 0 _ _ (word_within 0 (codes "kind") _)
    (join 0 _ _ (teid_within 0 (codes "serving") _) (join 0 _ _ (teid_within 0 (codes "packet") _) (flag_within 0 (codes "agree") agree))))

accepted_depth : (a : By Entry) (owed : Bool) → depth (accepted_json a owed) ≤ 1
accepted_depth a owed =
    object_depth 0 _ (join 0 _ _ (word_within 0 (codes "node") _) (join 0 _ _ (teid_within 0 (codes "teid") _) (join 0 _ _ (hex_within 0 (codes "payload") _) (flag_within 0 (codes "owed") owed))))

sessions_within : (v : WorldRecord) → Within 2 (sessions_members v)
sessions_within v =
    let serving = entries v.serving.state.node.sessions in
    let packet = entries v.packet.state.node.sessions in
    one 2 (codes "sessions") _ (array_depth 1 _ (shallow_both 1 _ _ (shallow_map 1 (session_json Serving) serving (session_depth Serving))
    (shallow_map 1 (session_json Packet) packet (session_depth Packet))))

bearers_within : (v : WorldRecord) → Within 2 (bearers_members v)
bearers_within v =
    let serving = entries v.serving.state.node.bearers in
    let packet = entries v.packet.state.node.bearers in
    one 2 (codes "bearers") _ (array_depth 1 _ (shallow_both 1 _ _ (shallow_map 1 (bearer_json Serving) serving (bearer_depth Serving))
    (shallow_map 1 (bearer_json Packet) packet (bearer_depth Packet))))

pub end_depth : (v : WorldRecord) (j : Json) → IsEndJson v j → depth j ≤ 3
end_depth v j is =
    let pairs = array_depth 1 is.pairs (shallow_judged 1 _ mutual_json _ is.pairs mutual_depth is.agreeing) in
    let packets = array_depth 1 is.packets (shallow_judged 1 _ accepted_json _ is.packets accepted_depth is.owed) in
    subst (λ j. depth j ≤ 3) (sym is.whole) (object_depth 2 _ (join 2 _ _ (sessions_within v) (join 2 _ _ (bearers_within v)
    (join 2 _ _ (one 2 (codes "mutual") (array_of is.pairs) pairs) (join 2 _ _ (one 2 (codes "accepted") (array_of is.packets) packets) (number_within 2 (codes "late") v.log.late))))))
