-- There is one reading of octets.
use Rattle.std.proofs.Common.{◌≡◌, ◌≤◌, ◌+◌, ◌-◌, ℕ, zero, suc, List, [], ◌∷◌, ◌++◌, length, map, Option, Some, None, MatchOption, Result, Ok, Err, refl, sym, ap, subst, ◌∙◌, arith}
use Rattle.std.specs.List.{flat_map, range_with_len}
use Rattle.serde_json.specs.Data.{Data, Items, no_items, item}
use Rattle.gtp_machine.specs.World.{Event, Deliver}
use Rattle.gtp_machine.specs.declared.role.Role.{Role}
use Rattle.gtp_machine.specs.declared.role.Role.TheVariants.{Serving, Packet}
use Rattle.gtp_machine.specs.Node.{Node}
use Rattle.gtp_world.specs.Determined.{GatewaysAlike, WorldsAlike}
use Rattle.gtp_world.specs.Record.{GatewayRecord, WorldRecord, Log}
use Rattle.gtp_world.specs.Runs.{Setup, begun}
use Rattle.gtp_world.proofs.Determined.Lasting.{BothLast, comes_last, begun_last}
use Rattle.gtp_world.proofs.Determined.Steps.{comes_alike}
use Rattle.gtp_scenario.specs.declared.fault.Refusal.{Refusal}
use Rattle.gtp_scenario.specs.declared.halt.Halt.{Halt}
use Rattle.gtp_scenario.specs.declared.halt.Halt.TheVariants as halts
use Rattle.gtp_scenario.specs.declared.halt.Halted.{Halted}
use Rattle.gtp_scenario.specs.declared.name.Name.{Name}
use Rattle.gtp_scenario.specs.declared.name.Name.TheVariants.{Newest, All, Session, Bearer}
use Rattle.gtp_scenario.specs.Entries.{Entry, events_in}
use Rattle.gtp_scenario.specs.Named.{name_of, expected_of, entry_about, delivery}
use Rattle.gtp_scenario.specs.Past.{Past, just_begun, sent_in, sent_between, undelivered, Happens, Happen, last_before, newest, session_named, bearer_named, node_in, DeliversFirst}
use Rattle.gtp_scenario.specs.Scenarios.{Scenario, Head, json_of, head_in, count_in, named_entry, delivery_of, AreDelivered, HasHappened, IsReadBy}
use Rattle.gtp_scenario.specs.Scenarios.{IsRead, AreRead, scenario_by, IsReadOn, IsReadIn, IsReadFrom, IsReading}

-- ---- pasts that are alike

-- the worlds are alike, the same datagrams wait, and both worlds last
record Alike (one other : Past) : Type 0 where
  worlds : WorldsAlike one.world other.world
  waiting : one.waiting ≡ other.waiting
  lasts : BothLast one.world
  lasts_too : BothLast other.world

gateway_itself : (h : GatewayRecord) → GatewaysAlike h h
gateway_itself h = record {
  settings = refl;
  state = record { role = refl; node = refl; timers = refl; next = refl; waiting = refl; held = refl };
  first = refl;
  restarts = refl;
  seen = refl;
  forgotten = refl;
  made = refl;
}

begun_alike : (setup : Setup) → Alike (just_begun setup) (just_begun setup)
begun_alike setup = record {
  worlds = record { serving = gateway_itself (begun setup).serving; packet = gateway_itself (begun setup).packet; log = refl };
  waiting = refl;
  lasts = begun_last setup;
  lasts_too = begun_last setup;
}

sent_alike : (one other : WorldRecord) → WorldsAlike one other → sent_in one ≡ sent_in other
sent_alike one other alike = ap (λ (l : Log). length l.datagrams) alike.log

happens_alike : (one other : Past) (event : Event) (new left : Past) → Alike one other → Happens one event new → Happens other event left → Alike new left
happens_alike one other event new left alike happens also =
    let worlds = comes_alike one.world other.world alike.worlds alike.lasts alike.lasts_too event new.world left.world happens.leaves also.leaves in
    let before = sent_alike one.world other.world alike.worlds in
    let after = sent_alike new.world left.world worlds in
    record {
      worlds = worlds;
      waiting = happens.waiting ∙ ((λ i. undelivered event (alike.waiting i) ++ range_with_len (before i) (after i - before i)) ∙ sym also.waiting);
      lasts = comes_last one.world event new.world alike.lasts happens.leaves;
      lasts_too = comes_last other.world event left.world alike.lasts_too also.leaves;
    }

happen_alike : (events : List Event) (one other new left : Past) → Alike one other → Happen one events new → Happen other events left → Alike new left
happen_alike [] one other new left alike is also = subst (λ (p : Past). Alike p left) (sym is) (subst (λ (p : Past). Alike one p) (sym also) alike)
happen_alike (event ∷ events) one other new left alike (mid, happens, rest) (too, also, rest_too) =
    happen_alike events mid too new left (happens_alike one other event mid too alike happens also) rest rest_too

past_alike : (setup : Setup) (before : List Entry) (one other : Past) → HasHappened setup before one → HasHappened setup before other → Alike one other
past_alike setup before one other happened also = happen_alike (flat_map events_in before) (just_begun setup) (just_begun setup) one other (begun_alike setup) happened also

node_alike : (one other : Past) (role : Role) → Alike one other → node_in one role ≡ node_in other role
node_alike one other Serving alike = alike.worlds.serving.state.node
node_alike one other Packet alike = alike.worlds.packet.state.node

-- ---- all that wait

heads_same : (a b : ℕ) (xs ys : List ℕ) → a ∷ xs ≡ b ∷ ys → a ≡ b
heads_same a b xs ys h = cc

cons_not : (n : ℕ) (ns : List ℕ) → n ∷ ns ≡ [] → ⊥
cons_not n ns h = cc

-- deliveries of alike pasts, each of which has come to an end: none waits, or there is no more room
record AtEnd (room : ℕ) (numbers : List ℕ) (end : Past) : Type 0 where
  few : length numbers ≤ room
  over : (n : ℕ) (ns : List ℕ) → end.waiting ≡ n ∷ ns → length numbers ≡ room

record OneEnd (numbers others : List ℕ) (end left : Past) : Type 0 where
  numbers_same : numbers ≡ others
  alike : Alike end left

one_end : (room : ℕ) (one other : Past) (numbers others : List ℕ) (end left : Past) → Alike one other → DeliversFirst one numbers end
    → DeliversFirst other others left → AtEnd room numbers end → AtEnd room others left → OneEnd numbers others end left
one_end room one other [] [] end left alike is also at at_too =
    record { numbers_same = refl; alike = subst (λ (p : Past). Alike p left) (sym is) (subst (λ (p : Past). Alike one p) (sym also) alike) }
one_end room one other [] (m ∷ others) end left alike is (rest, first, mid, happens, later) at at_too =
    let waits : end.waiting ≡ m ∷ rest = ap (λ (p : Past). p.waiting) is ∙ (alike.waiting ∙ first) in
    let full = at.over m rest waits in
    let few : suc (length others) ≤ room = at_too.few in
    absurd (let none : 0 ≡ room = full in omega (arith, none, few))
one_end room one other (n ∷ numbers) [] end left alike (rest, first, mid, happens, later) also at at_too =
    let waits : left.waiting ≡ n ∷ rest = ap (λ (p : Past). p.waiting) also ∙ (sym alike.waiting ∙ first) in
    let full = at_too.over n rest waits in
    let few : suc (length numbers) ≤ room = at.few in
    absurd (let none : 0 ≡ room = full in omega (arith, none, few))
one_end zero one other (n ∷ numbers) (m ∷ others) end left alike d e at at_too = absurd (let few : suc (length numbers) ≤ 0 = at.few in omega (arith, few))
one_end (suc room) one other (n ∷ numbers) (m ∷ others) end left alike (rest, first, mid, happens, later) (rest_too, first_too, mid_too, happens_too, later_too) at at_too =
    let same : n ≡ m = heads_same n m rest rest_too (sym first ∙ (alike.waiting ∙ first_too)) in
    let next = happens_alike one other (Deliver n) mid mid_too alike happens (subst (λ k. Happens other (Deliver k) mid_too) (sym same) happens_too) in
    let ends = one_end room mid mid_too numbers others end left next later later_too
    (record { few = (let few : suc (length numbers) ≤ suc room = at.few in omega (arith, few)); over = λ k ns w. (let full : suc (length numbers) ≡ suc room = at.over k ns w in omega (arith, full)) })
    (record {
      few = (let few : suc (length others) ≤ suc room = at_too.few in omega (arith, few));
      over = λ k ns w. (let full : suc (length others) ≡ suc room = at_too.over k ns w in omega (arith, full));
    }) in
    record { numbers_same = (λ i. same i ∷ ends.numbers_same i); alike = ends.alike }

done : (room : ℕ) (numbers : List ℕ) (end : Past) → end.waiting ≡ [] → length numbers ≤ room → AtEnd room numbers end
done room numbers end none few = record { few = few; over = λ n ns w. absurd (cons_not n ns (sym w ∙ none)) }

full : (room : ℕ) (numbers : List ℕ) (end : Past) → length numbers ≡ room → AtEnd room numbers end
full room numbers end as_many = record { few = omega (arith, as_many); over = λ n ns w. as_many }

delivered_one : (room : ℕ) (expect : Option (List ℕ)) (one other : Past) (reading also : Result (List Entry) Halt) → Alike one other
    → AreDelivered room expect one reading → AreDelivered room expect other also → reading ≡ also
delivered_one room expect one other (Ok xs) (Ok ys) alike (ns, end, d, none, few, are) (ms, left, e, none_too, few_too, are_too) =
    let ends = one_end room one other ns ms end left alike d e (done room ns end none few) (done room ms left none_too few_too) in
    ap (λ es. Ok es) (are ∙ (ap (map (delivery expect)) ends.numbers_same ∙ sym are_too))
delivered_one room expect one other (Ok xs) (Err halt) alike (ns, end, d, none, few, are) (ms, left, e, some, many, is) =
    let ends = one_end room one other ns ms end left alike d e (done room ns end none few) (full room ms left many) in
    absurd (some (sym ends.alike.waiting ∙ none))
delivered_one room expect one other (Err halt) (Ok ys) alike (ms, left, e, some, many, is) (ns, end, d, none, few, are) =
    let ends = one_end room one other ms ns left end alike e d (full room ms left many) (done room ns end none few) in
    absurd (some (ends.alike.waiting ∙ none))
delivered_one room expect one other (Err halt) (Err stop) alike (ns, end, d, some, many, is) (ms, left, e, some_too, many_too, is_too) = ap (λ h. Err h) (is ∙ sym is_too)

-- ---- an entry

all_one : (o : Option (Option (List ℕ))) (setup : Setup) (before : List Entry) (room : ℕ) (reading also : Result (List Entry) Halt)
    → MatchOption o (reading ≡ Err halts.Wrong) (λ expect. (past : Past) × HasHappened setup before past × AreDelivered room expect past reading)
    → MatchOption o (also ≡ Err halts.Wrong) (λ expect. (past : Past) × HasHappened setup before past × AreDelivered room expect past also)
    → reading ≡ also
all_one None setup before room reading also h k = h ∙ sym k
all_one (Some expect) setup before room reading also (one, happened, is) (other, happened_too, is_too) =
    delivered_one room expect one other reading also (past_alike setup before one other happened happened_too) is is_too

read_one : (name : Option Name) (setup : Setup) (before : List Entry) (room : ℕ) (d : Data) (reading also : Result (List Entry) Halt)
    → IsReadBy name (HasHappened setup before) room d reading → IsReadBy name (HasHappened setup before) room d also → reading ≡ also
read_one None setup before room d reading also h k = h ∙ sym k
read_one (Some Newest) setup before room d reading also (one, happened, is) (other, happened_too, is_too) =
    let alike = past_alike setup before one other happened happened_too in
    is ∙ (ap (λ (n : Option ℕ). named_entry room n (delivery_of d)) (ap last_before (sent_alike one.world other.world alike.worlds)) ∙ sym is_too)
read_one (Some All) setup before room d reading also h k = all_one (expected_of d) setup before room reading also h k
read_one (Some (Session node name)) setup before room d reading also (one, happened, is) (other, happened_too, is_too) =
    let alike = node_alike one other node (past_alike setup before one other happened happened_too) in
    is ∙ (ap (λ (n : Node). named_entry room (session_named name n) (λ teid. entry_about teid d)) alike ∙ sym is_too)
read_one (Some (Bearer node name)) setup before room d reading also (one, happened, is) (other, happened_too, is_too) =
    let alike = node_alike one other node (past_alike setup before one other happened happened_too) in
    is ∙ (ap (λ (n : Node). named_entry room (bearer_named name n) (λ teid. entry_about teid d)) alike ∙ sym is_too)

-- ---- a list

list_one : (setup : Setup) (place : ℕ) (before : List Entry) (room : ℕ) (items : Items) (reading also : Result (List Entry) Halted)
    → AreRead setup place before room items reading → AreRead setup place before room items also → reading ≡ also
list_one setup place before room no_items reading also h k = h ∙ sym k
list_one setup place before room (item d items) reading also (Ok es, is, rest) (Ok fs, is_too, rest_too) =
    let same : es ≡ fs = (let e = read_one (name_of d) setup before room d (Ok es) (Ok fs) is is_too in cc) in
    list_one setup (place + 1) (before ++ es) (room - count_in es) items reading also rest
    (subst (λ (l : List Entry). AreRead setup (place + 1) (before ++ l) (room - count_in l) items also) (sym same) rest_too)
list_one setup place before room (item d items) reading also (Ok es, is, rest) (Err halt, is_too, rest_too) =
    absurd (let e = read_one (name_of d) setup before room d (Ok es) (Err halt) is is_too in cc)
list_one setup place before room (item d items) reading also (Err halt, is, rest) (Ok es, is_too, rest_too) =
    absurd (let e = read_one (name_of d) setup before room d (Err halt) (Ok es) is is_too in cc)
list_one setup place before room (item d items) reading also (Err halt, is, rest) (Err stop, is_too, rest_too) =
    let same : halt ≡ stop = (let e = read_one (name_of d) setup before room d (Err halt) (Err stop) is is_too in cc) in
    rest ∙ (ap (λ h. Err (record { place = place; halt = h })) same ∙ sym rest_too)

-- ---- octets

in_one : (head : Option Head) (reading also : Result Scenario Refusal) → IsReadIn head reading → IsReadIn head also → reading ≡ also
in_one (Some head) reading also on on_too =
    on.is ∙ (ap (scenario_by head.setup) (list_one head.setup 0 [] _ head.items on.list on_too.list on.read on_too.read) ∙ sym on_too.is)
in_one None reading also h k = h ∙ sym k

from_one : (o : Option Data) (reading also : Result Scenario Refusal) → IsReadFrom o reading → IsReadFrom o also → reading ≡ also
from_one (Some d) reading also h k = in_one (head_in d) reading also h k
from_one None reading also h k = h ∙ sym k

pub one_reading : (octets : List ℕ) (reading also : Result Scenario Refusal) → IsReading octets reading → IsReading octets also → reading ≡ also
one_reading octets reading also h k = from_one (json_of octets) reading also h k
