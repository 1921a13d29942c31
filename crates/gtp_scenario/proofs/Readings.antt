-- What octets are read as.
use Rattle.std.proofs.Common.{◌≡◌, ◌<◌, ◌≤◌, ◌+◌, ◌-◌, ℕ, List, [], ◌∷◌, ◌++◌, length, take, Option, Some, None, Result, Ok, Err, refl, sym, ap, subst, ◌∙◌, arith, length-append}
use Rattle.std.specs.List.{flat_map}
use Rattle.std.proofs.lemmas.Grind.{flat_map-append}
use Rattle.serde_json.specs.Data.{Data, Items, no_items, item}
use Rattle.gtp_values.proofs.Outcomes.{ok_same}
use Rattle.gtp_world.specs.Runs.{Setup}
use Rattle.gtp_scenario.specs.declared.fault.Refusal.{Refusal}
use Rattle.gtp_scenario.specs.declared.halt.Halt.{Halt}
use Rattle.gtp_scenario.specs.declared.halt.Halted.{Halted}
use Rattle.gtp_scenario.specs.Entries.{Entry, events_in}
use Rattle.gtp_scenario.specs.Named.{name_of}
use Rattle.gtp_scenario.specs.Scenarios.{Scenario, Head, most_octets, most_events, json_of, head_in, count_in, HasHappened, AreRead, IsListRead, scenario_by, IsReadOn, IsReadIn, IsReadFrom, IsReading}
use Rattle.gtp_scenario.proofs.Front.{json_of_front}
use Rattle.gtp_scenario.proofs.ReadBy.{read_fits}

-- ---- how many events there are

count_more : (before es : List Entry) → count_in (before ++ es) ≡ count_in before + count_in es
count_more before es = ap length (flat_map-append events_in before es) ∙ length-append (flat_map events_in before) (flat_map events_in es)

within_room : (setup : Setup) (place : ℕ) (before : List Entry) (room : ℕ) (items : Items) (entries : List Entry)
    → AreRead setup place before room items (Ok entries) → count_in entries ≤ count_in before + room
within_room setup place before room no_items entries is =
    let same : count_in before ≡ count_in entries = ap count_in (ok_same Halted before entries (sym is)) in
    omega (arith, same)
within_room setup place before room (item d items) entries (Ok es, read, rest) =
    let more = within_room setup (place + 1) (before ++ es) (room - count_in es) items entries rest in
    let few = read_fits (name_of d) (HasHappened setup before) room d es read in
    let count = count_more before es in
    omega (arith, more, few, count)
within_room setup place before room (item d items) entries (Err halt, read, rest) = absurd cc

few_by : (setup : Setup) (list : Result (List Entry) Halted) (items : Items) (s : Scenario) → IsListRead setup items list → Ok s ≡ scenario_by setup list → count_in s.entries ≤ most_events
few_by setup (Ok entries) items s read is =
    let same : record { setup = setup; entries = entries } ≡ s = ok_same Refusal (record { setup = setup; entries = entries }) s (sym is) in
    let few : count_in entries ≤ count_in [] + most_events = within_room setup 0 [] most_events items entries read in
    subst (λ (x : Scenario). count_in x.entries ≤ most_events) same few
few_by setup (Err halted) items s read is = absurd cc

few_in : (head : Option Head) (s : Scenario) → IsReadIn head (Ok s) → count_in s.entries ≤ most_events
few_in (Some head) s on = few_by head.setup on.list head.items s on.read on.is
few_in None s is = absurd cc

few_from : (o : Option Data) (s : Scenario) → IsReadFrom o (Ok s) → count_in s.entries ≤ most_events
few_from (Some d) s is = few_in (head_in d) s is
few_from None s is = absurd cc

pub few_events : (octets : List ℕ) (s : Scenario) → IsReading octets (Ok s) → count_in s.entries ≤ most_events
few_events octets s reading = few_from (json_of octets) s reading

-- ---- octets past the limit

pub reading_of_front : (n : ℕ) (octets : List ℕ) (reading : Result Scenario Refusal) → most_octets < n → IsReading (take n octets) reading → IsReading octets reading
reading_of_front n octets reading more is = subst (λ (o : Option Data). IsReadFrom o reading) (json_of_front n octets more) is

pub reading_at_front : (n : ℕ) (octets : List ℕ) (reading : Result Scenario Refusal) → most_octets < n → IsReading octets reading → IsReading (take n octets) reading
reading_at_front n octets reading more is = subst (λ (o : Option Data). IsReadFrom o reading) (sym (json_of_front n octets more)) is
