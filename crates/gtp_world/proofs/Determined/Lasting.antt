-- What holds of both gateways of a world at each moment: steps of the machine led there, and what the node keeps is what ticks and draws go by.
use Rattle.std.proofs.Common.{◌≡◌, ◌⊎◌, inl, inr, ℕ, Bool, true, false, List, [], ◌∷◌, ◌++◌, filter, length, map, Option, Some, None, refl, sym, ◌∙◌, ap, subst}
use Rattle.gtp_values.specs.declared.address.Endpoint.{Endpoint}
use Rattle.gtp_tables.specs.Drawn.{drawn_up_to}
use Rattle.gtp_reliable.specs.Pending.{AreDistinct}
use Rattle.gtp_reliable.specs.Waiting.{just_sent}
use Rattle.gtp_reliable.proofs.Requests.{distinct_push, distinct_filter, ticked_distinct}
use Rattle.gtp_machine.specs.Config.{Config}
use Rattle.gtp_machine.specs.Message.{CreateSessionResponse, CreateBearerRequest, Plane, Control, User}
use Rattle.gtp_machine.specs.declared.role.Role.{Role}
use Rattle.gtp_machine.specs.declared.role.Role.TheVariants.{Serving, Packet}
use Rattle.gtp_machine.specs.Node.{Arrival, Node, fresh_node}
use Rattle.gtp_machine.specs.Input.{Move, Input, Moves_on, Out, Effect}
use Rattle.gtp_machine.specs.Move.{MoveStep}
use Rattle.gtp_machine.specs.Spelling.{Datagram}
use Rattle.gtp_machine.specs.Step.{Step, Done, Steps}
use Rattle.gtp_machine.specs.Tick.{TickStep}
use Rattle.gtp_machine.specs.Determined.{OneAnswerPerRequest}
use Rattle.gtp_machine.specs.World.{EventOutcome, By, Event, Does, Tick, Deliver, Cut, Restart, other}
use Rattle.gtp_machine.proofs.Determined.Alike.{Fits}
use Rattle.gtp_machine.proofs.Requests.ActsOnce.{reached_holds_once}
use Rattle.gtp_gateway.specs.receive.Queues.{Beginning, begun_with, IsNext, waiting_on, QueuesAfterMessage}
use Rattle.gtp_gateway.specs.receive.TwoMessages.{second_arrival}
use Rattle.gtp_gateway.specs.Parts.{arrival_of, held_of, pending_in}
use Rattle.gtp_gateway.specs.receive.Received.{coming, first_comes, second_comes}
use Rattle.gtp_gateway.specs.Settings.{Settings}
use Rattle.gtp_gateway.specs.GatewayState.{Queues, GatewayState, starting, NodeMatchesQueues}
use Rattle.gtp_gateway.specs.Tick.{QueuesAfterTick}
use Rattle.gtp_gateway.proofs.QueuesAfter.{on_goes}
use Rattle.gtp_world.specs.Record.{Log, WorldRecord, gateway_in, with_gateway}
use Rattle.gtp_world.specs.Runs.{Setup, begun}
use Rattle.gtp_world.specs.Stepped.{WaitsFor, AsksFor, KeepsOn, StepsOn, TakesBoth, TakesOn, Brings, kept_after, kept_after_both, passed_over, counter_after, gateway_restarted, EventLeaves}
use Rattle.gtp_world.proofs.Determined.Commands.{IsQuiet, IsBegun, commanded}
use Rattle.gtp_gateway.proofs.Left.{BringDrawn}
use Rattle.gtp_world.proofs.Determined.Placed.{placed_fits, placed_brings, reached_placed}

-- steps of the machine lead to the gateway from a start, no two of its requests have one number, and what its node keeps is what ticks and draws go by
pub record Lasts (s : GatewayState) : Type 0 where
  pub config : Config
  pub counter : ℕ
  pub log : List Done
  pub steps : Steps s.role (fresh_node config counter) log s.node
  pub tied : NodeMatchesQueues s
  pub apart : AreDistinct s.queues.waiting

pub lasts_fits : (s : GatewayState) → Lasts s → Fits s.node
lasts_fits s l = placed_fits s.node (reached_placed s.role l.config l.counter l.log s.node l.steps)

pub lasts_once : (s : GatewayState) → Lasts s → OneAnswerPerRequest s.node
lasts_once s l = reached_holds_once s.role l.config l.counter l.log s.node l.steps

-- the TEID that a request brings was drawn, where it waits
pub lasts_bring : (s : GatewayState) → Lasts s → BringDrawn s.node
lasts_bring s l = placed_brings s.node (reached_placed s.role l.config l.counter l.log s.node l.steps)

pub lasts_starting : (role : Role) (settings : Settings) (counter : ℕ) → Lasts (starting role settings counter)
lasts_starting role settings counter = record { config = settings.config; counter = counter; log = []; steps = refl; tied = record { pending = refl; held = refl; drawn = refl }; apart = tt }

-- ---- one step more

steps_push : (role : Role) (start : Node) (log : List Done) (old : Node) (input : Input) (e : Effect) → Steps role start log old → Step role old input e
    → Steps role start (log ++ (record { before = old; input = input; effect = e } ∷ [])) e.node
steps_push role start [] old input e is step = (is, subst (λ n. Step role n input e) is step, refl)
steps_push role start (done ∷ log) old input e steps step = (steps.0, steps.1, steps_push role done.effect.node log old input e steps.2 step)

-- after a step, what a step needs to be determined stands again
pub mid_ready : (s : GatewayState) → Lasts s → (input : Input) (e : Effect) → Step s.role s.node input e → Fits e.node × OneAnswerPerRequest e.node
mid_ready s l input e step =
    let steps = steps_push s.role (fresh_node l.config l.counter) l.log s.node input e l.steps step in
    (placed_fits e.node (reached_placed s.role l.config l.counter _ e.node steps), reached_holds_once s.role l.config l.counter _ e.node steps)

move_is : (role : Role) (old : Node) (move : Move) (e : Effect) → MoveStep old move e → Step role old (Moves_on move) e
move_is Serving old move e step = step
move_is Packet old move e step = step

-- a tick, move by move
steps_ticked : (role : Role) (start : Node) (log : List Done) (old : Node) (moves : List Move) (out : Out) (new : Node) → Steps role start log old
    → TickStep old moves out new → (longer : List Done) × Steps role start longer new
steps_ticked role start log old [] out new steps tick = (log, subst (λ n. Steps role start log n) (sym tick.1) steps)
steps_ticked role start log old (move ∷ moves) out new steps (e, rest, step, others, is) =
    steps_ticked role start (log ++ (record { before = old; input = Moves_on move; effect = e } ∷ [])) e.node moves rest new
    (steps_push role start log old (Moves_on move) e steps (move_is role old move e step)) others

module _ (old new : GatewayState) (l : Lasts old) (stays : new.role ≡ old.role) (tied : NodeMatchesQueues new) (apart : AreDistinct new.queues.waiting) where
  lasts_with : (log : List Done) (node : Node) → new.node ≡ node → Steps old.role (fresh_node l.config l.counter) log node → Lasts new
  lasts_with log node is steps = record {
    config = l.config;
    counter = l.counter;
    log = log;
    steps = subst (λ r. Steps r (fresh_node l.config l.counter) log new.node) (sym stays) (subst (λ n. Steps old.role (fresh_node l.config l.counter) log n) (sym is) steps);
    tied = tied;
    apart = apart;
  }

  lasts_took : (input : Input) (e : Effect) → new.node ≡ e.node → Step old.role old.node input e → Lasts new
  lasts_took input e is step = lasts_with _ e.node is (steps_push old.role (fresh_node l.config l.counter) l.log old.node input e l.steps step)

  -- two steps, one after the other
  lasts_both : (input next : Input) (e f : Effect) → new.node ≡ f.node → Step old.role old.node input e → Step old.role e.node next f → Lasts new
  lasts_both input next e f is step follows =
      let start = fresh_node l.config l.counter in
      lasts_with _ f.node is (steps_push old.role start _ e.node next f (steps_push old.role start l.log old.node input e l.steps step) follows)

  lasts_ticked : (moves : List Move) (out : Out) → TickStep old.node moves out new.node → Lasts new
  lasts_ticked moves out tick =
      let longer = steps_ticked old.role (fresh_node l.config l.counter) l.log old.node moves out new.node l.steps tick in
      lasts_with longer.0 new.node refl longer.1

-- ---- what ticks go by

pub keeps_goes : (plane : Plane) (source : Endpoint) (octets : List ℕ) (sent : List Datagram) (outcome : EventOutcome) (old new : GatewayState)
    → KeepsOn plane source octets sent outcome old new → QueuesAfterMessage (arrival_of source octets) old new
keeps_goes Control source octets sent outcome old new keeps = keeps
keeps_goes User source octets sent outcome old new keeps = on_goes (arrival_of source octets) old new keeps.1 keeps.2

goes_apart : (arrival : Arrival) (old new : GatewayState) → QueuesAfterMessage arrival old new → AreDistinct old.queues.waiting → AreDistinct new.queues.waiting
goes_apart arrival old new goes apart = subst (λ (t : Queues). AreDistinct t.waiting) (sym goes.queues) (by goes.begun goes.next)
  where
    by : (begun : Option Beginning) → IsNext begun (waiting_on goes.stays old.queues) → AreDistinct (begun_with begun (waiting_on goes.stays old.queues)).waiting
    by None next = distinct_filter goes.stays old.queues.waiting apart
    by (Some b) next = distinct_push (filter goes.stays old.queues.waiting) (just_sent b.number b.to b.octets b.purpose) (distinct_filter goes.stays old.queues.waiting apart) next.free

waits_apart : (old : GatewayState) (d : Datagram) (new : GatewayState) → WaitsFor old d new → AreDistinct old.queues.waiting → AreDistinct new.queues.waiting
waits_apart old d new waits apart =
    subst (λ (t : Queues). AreDistinct t.waiting) (sym waits.queues)
    (distinct_push old.queues.waiting (just_sent waits.number d.to d.octets waits.purpose) apart waits.free.free)

counts_apart : (old new : GatewayState) → QueuesAfterTick old new → AreDistinct old.queues.waiting → AreDistinct new.queues.waiting
counts_apart old new counts apart =
    subst (λ (t : Queues). AreDistinct t.waiting) (sym counts.queues)
    (ticked_distinct old.queues.timers.t3 old.queues.timers.n3 (filter counts.stays old.queues.waiting)
    (distinct_filter counts.stays old.queues.waiting apart))

-- where a command leaves what ticks and draws go by
pub quiet_tied : (old new : GatewayState) (e : Effect) → NodeMatchesQueues old → IsQuiet old.node e → new.node ≡ e.node → new.queues ≡ old.queues → NodeMatchesQueues new
quiet_tied old new e tied quiet is queues =
    let counter : new.node.counter ≡ old.node.counter = ap (λ (n : Node). n.counter) is ∙ quiet.counter in
    let drawn : new.node.drawn ≡ old.node.drawn = ap (λ (n : Node). n.drawn) is ∙ quiet.drawn in
    record {
      pending = ap (λ (n : Node). n.pending) is ∙ (quiet.pending ∙ (tied.pending ∙ ap (λ (t : Queues). pending_in t.waiting) (sym queues)));
      held = ap (λ (n : Node). n.held) is ∙ (quiet.held ∙ (tied.held ∙ ap (λ (t : Queues). map held_of t.held) (sym queues)));
      drawn = drawn ∙ (tied.drawn ∙ (λ i. drawn_up_to (sym counter i) (length (sym drawn i))));
    }

-- and so it is after each command, and after each datagram
pub asks_ready : (old new : GatewayState) (sent : List Datagram) (e : Effect) → Lasts old → IsBegun e ⊎ IsQuiet old.node e → new.node ≡ e.node
    → AsksFor sent e.outcome old new → NodeMatchesQueues new × AreDistinct new.queues.waiting
asks_ready old new sent e l (inl begun) is asks = let a = asks.asks begun.0 begun.1 in (a.2.tied, waits_apart old a.0 new a.2 l.apart)
asks_ready old new sent e l (inr quiet) is asks =
    let same = asks.none quiet.begins_none in
    (quiet_tied old new e l.tied quiet is same, subst (λ (t : Queues). AreDistinct t.waiting) (sym same) l.apart)

-- ---- both gateways of a world

pub record BothLast (v : WorldRecord) : Type 0 where
  pub serving : Lasts v.serving.state
  pub packet : Lasts v.packet.state

pub last_of : (v : WorldRecord) → BothLast v → (role : Role) → Lasts (gateway_in v role).state
last_of v both Serving = both.serving
last_of v both Packet = both.packet

pub begun_last : (setup : Setup) → BothLast (begun setup)
begun_last setup = record { serving = lasts_starting Serving setup.serving setup.serving_counter; packet = lasts_starting Packet setup.packet setup.packet_counter }

after_last : (v : WorldRecord) (role : Role) (state : GatewayState) (out : Out) (sent : List Datagram) (outcome : EventOutcome) (late : Bool) → BothLast v
    → Lasts state → BothLast (kept_after v role state out sent outcome late)
after_last v Serving state out sent outcome late both l = record { serving = l; packet = both.packet }
after_last v Packet state out sent outcome late both l = record { serving = both.serving; packet = l }

restarted_last : (v : WorldRecord) (role : Role) (log : Log) → BothLast v → BothLast (record (with_gateway v role (gateway_restarted role (gateway_in v role))) { log = log })
restarted_last v Serving log both = record { serving = lasts_starting Serving v.serving.settings (counter_after v.serving); packet = both.packet }
restarted_last v Packet log both = record { serving = both.serving; packet = lasts_starting Packet v.packet.settings (counter_after v.packet) }

passed_last : (v : WorldRecord) (outcome : EventOutcome) (new : WorldRecord) → BothLast v → new ≡ passed_over v outcome → BothLast new
passed_last v outcome new both is = subst (λ k. BothLast k) (sym is) (record { serving = both.serving; packet = both.packet })

takes_last : (v : WorldRecord) (role : Role) (input : Input) (Timed : List Datagram → EventOutcome → GatewayState → GatewayState → Type 0) (late : Bool)
    (new : WorldRecord) (t : StepsOn v role input Timed late new) → BothLast v → NodeMatchesQueues t.state × AreDistinct t.state.queues.waiting
    → BothLast new
takes_last v role input Timed late new t both ready =
    subst (λ k. BothLast k) (sym t.becomes)
    (after_last v role t.state t.effect.out _ _ late both
    (lasts_took (gateway_in v role).state t.state (last_of v both role) t.role_stays ready.0 ready.1 input t.effect t.node t.step))

both_last : (v : WorldRecord) (role : Role) (state : GatewayState) (first second : Effect) (sent more : List Datagram) (late : Bool) → BothLast v
    → Lasts state → BothLast (kept_after_both v role state first second sent more late)
both_last v Serving state first second sent more late both l = record { serving = l; packet = both.packet }
both_last v Packet state first second sent more late both l = record { serving = both.serving; packet = l }

pair_last : (v : WorldRecord) (role : Role) (arrival : Arrival) (answer : CreateSessionResponse) (asked : CreateBearerRequest) (late : Bool)
    (new : WorldRecord) → BothLast v → TakesBoth v role arrival answer asked late new → BothLast new
pair_last v role arrival answer asked late new both t =
    let old = (gateway_in v role).state in
    let l = last_of v both role in
    subst (λ k. BothLast k) (sym t.becomes)
    (both_last v role t.state t.first t.second _ _ late both
    (lasts_both old t.state l t.role_stays t.timed.tied (goes_apart (second_arrival arrival) old t.state t.timed l.apart)
    (first_comes arrival answer) (second_comes arrival asked) t.first t.second t.node t.step t.follows))

whole_last : (v : WorldRecord) (role : Role) (plane : Plane) (source : Endpoint) (octets : List ℕ) (late : Bool) (new : WorldRecord) → BothLast v
    → StepsOn v role (coming plane source octets) (KeepsOn plane source octets) late new → BothLast new
whole_last v role plane source octets late new both t =
    let old = (gateway_in v role).state in
    let goes = keeps_goes plane source octets _ t.effect.outcome old t.state t.timed in
    takes_last v role _ _ late new t both (goes.tied, goes_apart (arrival_of source octets) old t.state goes (last_of v both role).apart)

taken_last : (v : WorldRecord) (role : Role) (plane : Plane) (source : Endpoint) (octets : List ℕ) (late : Bool) (new : WorldRecord) → BothLast v
    → TakesOn v role plane source octets late new → BothLast new
taken_last v role Control source octets late new both (inl (none, t)) = whole_last v role Control source octets late new both t
taken_last v role Control source octets late new both (inr (pair, t)) = pair_last v role (arrival_of source octets) pair.answer pair.asked late new both t
taken_last v role User source octets late new both t = whole_last v role User source octets late new both t

brings_last : (v : WorldRecord) (sent : By Datagram) (octets : List ℕ) (late : Bool) (new : WorldRecord) → BothLast v → Brings v sent octets late new → BothLast new
brings_last v sent octets late new both t = taken_last v (other sent.role) sent.what.plane sent.what.from octets late new both t

-- what comes of an event
pub comes_last : (v : WorldRecord) (event : Event) (new : WorldRecord) → BothLast v → EventLeaves v event new → BothLast new
comes_last v (Does role command) new both t =
    let old = (gateway_in v role).state in
    takes_last v role _ _ false new t both (asks_ready old t.state _ t.effect (last_of v both role) (commanded old.node old.role command t.effect t.step) t.node t.timed)
comes_last v (Tick role) new both t =
    let old = (gateway_in v role).state in
    subst (λ k. BothLast k) (sym t.becomes)
    (after_last v role t.state t.out _ _ false both
    (lasts_ticked old t.state (last_of v both role) t.role_stays t.counts.tied (counts_apart old t.state t.counts (last_of v both role).apart) t.ticks.moves t.out t.ticks.step))
comes_last v (Deliver number) new both (inl (none, is)) = passed_last v _ new both is
comes_last v (Deliver number) new both (inr (found, inl (timely, t))) = brings_last v found.sent _ false new both t
comes_last v (Deliver number) new both (inr (found, inr (late, t))) = brings_last v found.sent _ true new both t
comes_last v (Cut number count) new both (inl (none, is)) = passed_last v _ new both is
comes_last v (Cut number count) new both (inr (found, inl (long, is))) = passed_last v _ new both is
comes_last v (Cut number count) new both (inr (found, inr (short, t))) = brings_last v found.sent _ false new both t
comes_last v (Restart role) new both (inl (used, is)) = passed_last v _ new both is
comes_last v (Restart role) new both (inr (few, is)) = subst (λ k. BothLast k) (sym is) (restarted_last v role _ both)
