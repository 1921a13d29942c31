-- A run goes on by what comes of an event.
use Rattle.std.proofs.Common.{◌≡◌, inl, inr, ℕ, ◌<◌, Bool, true, false, List, [], ◌∷◌, ◌++◌, length, take, All, refl, sym, ◌∙◌, ap, subst}
use Rattle.gtp_values.specs.FiniteMap.{Among}
use Rattle.gtp_v2.specs.Codes.{short_number}
use Rattle.gtp_machine.specs.Config.{Addresses, Config, own_end}
use Rattle.gtp_machine.specs.Input.{Input, Commanded, Control_came, Control_message, Control_fault, Effect}
use Rattle.gtp_machine.specs.Message.{CreateSessionResponse, CreateBearerRequest, Message, Create_session_response, Create_bearer_request, Plane, Control, User}
use Rattle.gtp_machine.specs.declared.role.Role.{Role}
use Rattle.gtp_machine.specs.declared.role.Role.TheVariants.{Serving, Packet}
use Rattle.gtp_machine.specs.Node.{Arrival, Node}
use Rattle.gtp_machine.specs.Ordered.{Unless}
use Rattle.gtp_machine.specs.Reading.{DatagramReading, Alone, Both, datagram_reading, reading_of}
use Rattle.gtp_machine.specs.Spelling.{Datagram, datagram_plane, spelled, spelled_all, announcing, last_part}
use Rattle.gtp_machine.specs.Step.{Step, TakesPair, Done, tick_steps}
use Rattle.gtp_machine.specs.Tick.{Ticks, ticked}
use Rattle.gtp_machine.specs.World.{By, SentDatagram, World, Side, EventOutcome, Restarted, Event, Does, Tick, Deliver, Cut, Restart, Happens, Moves}
use Rattle.gtp_machine.specs.World.{MovesTwice, Stands, Ticked, No_such_datagram, Cut_too_long, Restarts_used, quiet_note, noted, with_side}
use Rattle.gtp_machine.specs.World.{with_steps, restarted, next_counter, other, side_of, come_from, delivered_on, first_came, second_came}
use Rattle.gtp_machine.specs.World.{fault_of_cut, cut_on, IsLateOn, Run, start}
use Rattle.gtp_machine.proofs.Worlds.Coming.{no_pair}
use Rattle.gtp_machine.proofs.Worlds.Runs.{Run-push}
use Rattle.gtp_gateway.specs.Parts.{arrival_of}
use Rattle.gtp_gateway.specs.receive.Received.{coming, first_comes, second_comes}
use Rattle.gtp_gateway.specs.messages.Sent.{SendingReads, ReadsBackOn}
use Rattle.gtp_gateway.specs.GatewayState.{GatewayState}
use Rattle.gtp_gateway.specs.Tick.{due_in}
use Rattle.gtp_gateway.proofs.SentBack.{none_sent}
use Rattle.gtp_world.specs.Record.{WorldRecord, gateway_in}
use Rattle.gtp_world.specs.Last.{last_octets}
use Rattle.gtp_world.specs.Runs.{Setup, config_in, IsFor, StandsFor, LeftByRun}
use Rattle.gtp_world.specs.Stepped.{AreReadable, StepsOn, TakesBoth, TakesOn, KeepsOn, AsksFor, Brings, TicksBy, IsThere, IsLate, EventLeaves, passed_over}
use Rattle.gtp_world.proofs.Lists.{Found, find, back}
use Rattle.gtp_world.proofs.Pairs.{first_sent, second_sent, last_sent}
use Rattle.gtp_world.proofs.Cuts.{came, cut, cut_alone}
use Rattle.gtp_world.proofs.Configs.{set_up}
use Rattle.gtp_world.proofs.Standing.{gateway_stands, lates, world_after, world_after_both, after_step, after_both, after_none, after_restart}

-- the machine's world goes on by the event, and what is kept stands for it
pub record GoesOn (setup : Setup) (old : World) (event : Event) (new : WorldRecord) : Type 0 where
  pub world : World
  pub happens : Happens old event world
  pub stands : StandsFor setup new world

-- a gateway takes an input, and that is a move of the world
pub record Moved (setup : Setup) (old : World) (role : Role) (input : Input) (new : WorldRecord) : Type 0 where
  pub world : World
  pub moves : Moves old role input world
  pub stands : StandsFor setup new world

-- a gateway takes two messages of one datagram, and these are two steps of the world
pub record MovedTwice (setup : Setup) (old : World) (role : Role) (first second : Input) (new : WorldRecord) : Type 0 where
  pub world : World
  pub moves : MovesTwice old role first second world
  pub stands : StandsFor setup new world

-- the machine's `ComesTo`, for a datagram that is of this plane
abbrev pub ComesOn : Plane → World → Role → Addresses → List Message → World → Type 0
ComesOn plane old role from datagram new =
    Unless (TakesPair role (side_of old role).node.config (come_from from (spelled_all datagram)) (reading_of datagram)) (Moves old role (delivered_on plane from datagram) new) (λ pair.
    MovesTwice old role (first_came from (Create_session_response pair.answer)) (second_came from (Create_bearer_request pair.asked)) new)

-- a datagram comes to a gateway, as the machine's world has it come
pub record Came (setup : Setup) (old : World) (role : Role) (from : Addresses) (plane : Plane) (datagram : List Message) (new : WorldRecord) : Type 0 where
  pub world : World
  pub comes : ComesOn plane old role from datagram world
  pub stands : StandsFor setup new world

module _ (setup : Setup) (v : WorldRecord) (w : World) (stands : StandsFor setup v w) (same : (role : Role) → (side_of w role).node.config ≡ config_in setup role) where
  -- the step is one of the machine's gateway
  step_there : (role : Role) (input : Input) (e : Effect) → Step (gateway_in v role).state.role (gateway_in v role).state.node input e → Step role (side_of w role).node input e
  step_there role input e step =
      let gateway = gateway_stands setup v w stands role in
      subst (λ n. Step role n input e) gateway.node (subst (λ r. Step r (gateway_in v role).state.node input e) gateway.role step)

  -- a request, where none came late
  no_request : Role → Arrival
  no_request role = record { source = own_end (side_of w role).node.config Control; octets = [] }

  late_node : (late : Bool) (role : Role) (a : Arrival) → (side_of w role).node ≡ (side_of (lates late w role a) role).node
  late_node false role a = refl
  late_node true Serving a = refl
  late_node true Packet a = refl

  takes_on : (role : Role) (late : Bool) (a : Arrival) (input there : Input) (Timed : List Datagram → EventOutcome → GatewayState → GatewayState → Type 0)
      (new : WorldRecord) → input ≡ there → StepsOn v role input Timed late new → Moved setup (lates late w role a) role there new
  takes_on role late a input there Timed new is t =
      let old = lates late w role a in
      let steps : List Done = record { before = (side_of old role).node; input = there; effect = t.effect } ∷ [] in
      let next = world_after old role t.effect t.effect.outcome steps in
      record {
        world = next;
        moves =
            record {
              effect = t.effect;
              step = subst (λ n. Step role n there t.effect) (late_node late role a)
                  (subst (λ k. Step role (side_of w role).node k t.effect) is (step_there role input t.effect t.step));
              becomes = refl;
            };
        stands = subst (λ k. StandsFor setup k next) (sym t.becomes) (after_step setup v w role t.state t.effect t.effect.outcome late a steps (same role) stands t.readable t.node t.role_stays);
      }

  does_on : (role : Role) (input : Input) (new : WorldRecord) → StepsOn v role input AsksFor false new → Moved setup w role input new
  does_on role input new t = takes_on role false (no_request role) input input AsksFor new refl t

  -- two messages of one datagram
  takes_both : (role : Role) (late : Bool) (a : Arrival) (arrival : Arrival) (answer : CreateSessionResponse) (asked : CreateBearerRequest)
      (first second : Input) (new : WorldRecord) → first_comes arrival answer ≡ first → second_comes arrival asked ≡ second
      → TakesBoth v role arrival answer asked late new → MovedTwice setup (lates late w role a) role first second new
  takes_both role late a arrival answer asked first second new first_is second_is t =
      let old = lates late w role a in
      let steps : List Done = record { before = (side_of old role).node; input = first; effect = t.first } ∷ record { before = t.first.node; input = second; effect = t.second } ∷ [] in
      let next = world_after_both old role t.first t.second steps in
      let readable : AreReadable t.first.out = subst (λ l. All SendingReads l) (sym t.silent) (none_sent (gateway_in v role).state.node.config).read in
      record {
        world = next;
        moves = record {
          effect = t.first;
          step =
              subst (λ n. Step role n first t.first) (late_node late role a)
              (subst (λ k. Step role (side_of w role).node k t.first) first_is (step_there role (first_comes arrival answer) t.first t.step));
          next = t.second;
          follows =
              subst (λ k. Step role t.first.node k t.second) second_is
              (subst (λ r. Step r t.first.node (second_comes arrival asked) t.second) (gateway_stands setup v w stands role).role t.follows);
          becomes = refl;
        };
        stands = subst (λ k. StandsFor setup k next) (sym t.becomes) (after_both setup v w role t.state t.first t.second late a steps (same role) stands readable t.readable t.node t.role_stays);
      }

  ticks_on : (role : Role) (new : WorldRecord) → TicksBy v role new → GoesOn setup w (Tick role) new
  ticks_on role new t =
      let gateway = gateway_stands setup v w stands role in
      let due = subst (λ n. Ticks n (due_in (gateway_in v role).state.queues) t.out t.state.node) gateway.node t.ticks in
      let steps = tick_steps (side_of w role).node due.moves t.out t.state.node due.step in
      let next = world_after w role (ticked t.out t.state.node) Ticked steps in
      record {
        world = next;
        happens = record { moves = due.moves; out = t.out; after = t.state.node; tick = due.step; becomes = refl };
        stands =
            subst (λ k. StandsFor setup k next) (sym t.becomes)
            (after_step setup v w role t.state (ticked t.out t.state.node) Ticked false (no_request role) steps (same role) stands t.readable refl
            t.role_stays);
      }

  -- the configuration of a gateway, as it is
  abbrev config_of : Role → Config
  config_of role = (side_of w role).node.config

  -- a datagram of these messages, but for where it goes to
  abbrev as_sent : Datagram → SentDatagram → Datagram
  as_sent d s = record { plane = datagram_plane s.what; from = own_end (config_of s.role) (datagram_plane s.what); to = d.to; octets = spelled_all s.what }

  is_sent : (d : By Datagram) (s : SentDatagram) → IsFor setup d s → d.what ≡ as_sent d.what s
  is_sent d s for = λ i. record { plane = for.plane i; from = (for.from ∙ ap (λ c. own_end c (datagram_plane s.what)) (sym (same s.role))) i; to = d.what.to; octets = for.octets i }

  -- what is late to the one is late to the other
  to_late : (p : Plane) (config : Config) (datagram : List Message) (side : Side) (forgotten : List Arrival) → ReadsBackOn p datagram
      → forgotten ≡ side.forgotten → IsLateOn p config.own side datagram
      → (p ≡ Control) × Among (arrival_of (own_end config p) (last_octets (spelled_all datagram))) forgotten
  to_late Control config datagram side forgotten reads e late = (
    refl,
    subst (λ o. Among (come_from config.own o) forgotten) (sym (last_sent datagram reads))
        (subst (λ l. Among (come_from config.own (last_part datagram)) l) (sym e) late),
  )
  to_late User config datagram side forgotten reads e late = absurd late

  from_late : (p : Plane) (config : Config) (datagram : List Message) (side : Side) (forgotten : List Arrival) → ReadsBackOn p datagram
      → forgotten ≡ side.forgotten → (p ≡ Control) × Among (arrival_of (own_end config p) (last_octets (spelled_all datagram))) forgotten
      → IsLateOn p config.own side datagram
  from_late Control config datagram side forgotten reads e late =
      subst (λ o. Among (come_from config.own o) side.forgotten) (last_sent datagram reads)
      (subst (λ l. Among (come_from config.own (last_octets (spelled_all datagram))) l) e late.1)
  from_late User config datagram side forgotten reads e late = absurd (cc (late.0))

  -- a pair is taken by the one gateway where it is taken by the other
  module _ (role : Role) (late : Bool) (a : Arrival) (request : Arrival) (one other : DatagramReading) (reads : one ≡ other) where
    config_there : (gateway_in v role).state.node.config ≡ (side_of (lates late w role a) role).node.config
    config_there = ap (λ (n : Node). n.config) ((gateway_stands setup v w stands role).node ∙ late_node late role a)

    abbrev pair_there : TakesPair (gateway_in v role).state.role (gateway_in v role).state.node.config request other → TakesPair role (side_of (lates late w role a) role).node.config request one
    pair_there p =
        record {
          by = sym (gateway_stands setup v w stands role).role ∙ p.by;
          peer = p.peer ∙ ap (λ (c : Config). c.peer.control) config_there;
          answer = p.answer;
          asked = p.asked;
          is = reads ∙ p.is;
        }

    pair_here : TakesPair role (side_of (lates late w role a) role).node.config request one → TakesPair (gateway_in v role).state.role (gateway_in v role).state.node.config request other
    pair_here p =
        record {
          by = (gateway_stands setup v w stands role).role ∙ p.by;
          peer = p.peer ∙ ap (λ (c : Config). c.peer.control) (sym config_there);
          answer = p.answer;
          asked = p.asked;
          is = sym reads ∙ p.is;
        }

  -- a datagram that was sent comes
  module _ (role : Role) (late : Bool) (a : Arrival) (config : Config) (new : WorldRecord) where
    abbrev old : World
    old = lates late w role a

    comes_whole : (datagram : List Message) → ReadsBackOn Control datagram
        → (TakesPair (gateway_in v role).state.role (gateway_in v role).state.node.config (arrival_of (own_end config Control) (spelled_all datagram))
        (datagram_reading (spelled_all datagram)) → ⊥) → StepsOn v role (coming Control (own_end config Control) (spelled_all datagram))
        (KeepsOn Control (own_end config Control) (spelled_all datagram)) late new → Came setup old role config.own Control datagram new
    comes_whole datagram reads none t =
        let m = takes_on role late a _ _ _ new (came Control config datagram reads) t in
        record { world = m.world; comes = inl ((λ p. none (pair_here role late a _ _ _ reads.0 p)), m.moves); stands = m.stands }

    comes_apart : (m n : Message) (rest : List Message) → ReadsBackOn Control (m ∷ n ∷ rest)
        → (pair : TakesPair (gateway_in v role).state.role (gateway_in v role).state.node.config
        (arrival_of (own_end config Control) (spelled_all (m ∷ n ∷ rest))) (datagram_reading (spelled_all (m ∷ n ∷ rest))))
        → TakesBoth v role (arrival_of (own_end config Control) (spelled_all (m ∷ n ∷ rest))) pair.answer pair.asked late new
        → Came setup old role config.own Control (m ∷ n ∷ rest) new
    comes_apart m n rest reads pair t =
        let both : Both m n ≡ Both (Create_session_response pair.answer) (Create_bearer_request pair.asked) = reads.0 ∙ pair.is in
        let first : m ≡ Create_session_response pair.answer = cc both in
        let second : n ≡ Create_bearer_request pair.asked = cc both in
        let x = takes_both role late a _ pair.answer pair.asked (first_came config.own (Create_session_response pair.answer)) (second_came config.own (Create_bearer_request pair.asked)) new
        (ap (λ o. Control_came (come_from config.own o) (Control_message (Create_session_response pair.answer))) (first_sent m n rest reads.1 ∙ ap announcing first))
        (ap (λ o. Control_came (come_from config.own o) (Control_message (Create_bearer_request pair.asked))) (second_sent m n rest reads.1 ∙ ap spelled second))
        t in
        record { world = x.world; comes = inr (pair_there role late a _ _ _ reads.0 pair, x.moves); stands = x.stands }

    comes_there : (p : Plane) (datagram : List Message) → ReadsBackOn p datagram → TakesOn v role p (own_end config p) (spelled_all datagram) late new → Came setup old role config.own p datagram new
    comes_there Control datagram reads (inl (none, t)) = comes_whole datagram reads none t
    comes_there Control [] reads (inr (pair, t)) =
        let never : Alone (Control_fault short_number) ≡ Both (Create_session_response pair.answer) (Create_bearer_request pair.asked) = reads.0 ∙ pair.is in
        absurd (cc never)
    comes_there Control (m ∷ []) reads (inr (pair, t)) =
        let never : Alone (Control_message m) ≡ Both (Create_session_response pair.answer) (Create_bearer_request pair.asked) = reads.0 ∙ pair.is in
        absurd (cc never)
    comes_there Control (m ∷ n ∷ rest) reads (inr (pair, t)) = comes_apart m n rest reads pair t
    comes_there User (m ∷ []) reads t =
        let x = takes_on role late a _ _ _ new (came User config (m ∷ []) reads) t in
        record { world = x.world; comes = inl (no_pair role (side_of old role).node.config _ m, x.moves); stands = x.stands }
    comes_there User [] reads t = absurd reads
    comes_there User (m ∷ n ∷ rest) reads t = absurd reads

  -- a datagram comes cut: its first octets are no pair
  comes_cut_there : (role : Role) (config : Config) (new : WorldRecord) (p : Plane) (datagram : List Message) (count : ℕ) → ReadsBackOn p datagram
      → count < length (spelled_all datagram) → TakesOn v role p (own_end config p) (take count (spelled_all datagram)) false new
      → Moved setup w role (cut_on p config.own datagram count) new
  comes_cut_there role config new Control datagram count reads short (inl (none, t)) = takes_on role false (no_request role) _ _ _ new (cut Control config datagram count reads short) t
  comes_cut_there role config new Control datagram count reads short (inr (pair, t)) =
      let never : Alone (Control_fault (fault_of_cut datagram count)) ≡ Both (Create_session_response pair.answer) (Create_bearer_request pair.asked) =
      sym (cut_alone datagram count reads short) ∙ pair.is in
      absurd (cc never)
  comes_cut_there role config new User datagram count reads short t = takes_on role false (no_request role) _ _ _ new (cut User config datagram count reads short) t

  -- where a datagram is there, so are its messages, and the other way round
  no_message : (number : ℕ) → (IsThere v.log.datagrams number → ⊥) → Stands w.datagrams number → ⊥
  no_message number none s = let d = back setup v.log.datagrams w.datagrams number s.sent stands.datagrams s.is in none (record { sent = d.0; is = d.1 })

  -- a datagram comes
  module _ (number : ℕ) (new : WorldRecord) (found : IsThere v.log.datagrams number) (f : Found setup w.datagrams number found.sent) where
    abbrev receiver : Role
    receiver = other f.sent.role

    -- the gateway that it comes to
    to_other : other found.sent.role ≡ receiver
    to_other = ap other f.for.role

    datagram_is : found.sent.what ≡ as_sent found.sent.what f.sent
    datagram_is = is_sent found.sent f.sent f.for

    gateway_forgotten : (gateway_in v receiver).forgotten ≡ (side_of w receiver).forgotten
    gateway_forgotten = (gateway_stands setup v w stands receiver).forgotten

    late_here : IsLateOn (datagram_plane f.sent.what) (config_of f.sent.role).own (side_of w receiver) f.sent.what → IsLate (gateway_in v (other found.sent.role)) found.sent.what
    late_here late =
        subst (λ r. IsLate (gateway_in v r) found.sent.what) (sym to_other) (subst (λ d. IsLate (gateway_in v receiver) d) (sym datagram_is)
        (to_late (datagram_plane f.sent.what) (config_of f.sent.role) f.sent.what (side_of w receiver) (gateway_in v receiver).forgotten f.for.reads
        gateway_forgotten late))

    late_there : IsLate (gateway_in v (other found.sent.role)) found.sent.what → IsLateOn (datagram_plane f.sent.what) (config_of f.sent.role).own (side_of w receiver) f.sent.what
    late_there late =
        from_late (datagram_plane f.sent.what) (config_of f.sent.role) f.sent.what (side_of w receiver) (gateway_in v receiver).forgotten f.for.reads
        gateway_forgotten
        (subst (λ d. IsLate (gateway_in v receiver) d) datagram_is (subst (λ r. IsLate (gateway_in v r) found.sent.what) to_other late))

    abbrev there : Stands w.datagrams number
    there = record { sent = f.sent; is = f.is }

    -- it comes, late or not
    brought : (late : Bool) (a : Arrival) → Brings v found.sent found.sent.what.octets late new
        → Came setup (lates late w receiver a) receiver (config_of f.sent.role).own (datagram_plane f.sent.what) f.sent.what new
    brought late a t =
        comes_there receiver late a (config_of f.sent.role) new (datagram_plane f.sent.what) f.sent.what f.for.reads
        (subst (λ (d : Datagram). TakesOn v receiver d.plane d.from d.octets late new) datagram_is
        (subst (λ r. TakesOn v r found.sent.what.plane found.sent.what.from found.sent.what.octets late new) to_other t))

    on_time : (IsLate (gateway_in v (other found.sent.role)) found.sent.what → ⊥) → Brings v found.sent found.sent.what.octets false new → GoesOn setup w (Deliver number) new
    on_time timely t =
        let m = brought false (no_request receiver) t in
        record { world = m.world; happens = inr (there, inl ((λ late. timely (late_here late)), m.comes)); stands = m.stands }

    too_late : IsLate (gateway_in v (other found.sent.role)) found.sent.what → Brings v found.sent found.sent.what.octets true new → GoesOn setup w (Deliver number) new
    too_late late t =
        let m = brought true (come_from (config_of f.sent.role).own (last_part f.sent.what)) t in
        record { world = m.world; happens = inr (there, inr (late_there late, m.comes)); stands = m.stands }

    as_long : length found.sent.what.octets ≡ length (spelled_all f.sent.what)
    as_long = ap length f.for.octets

    cut_short : (count : ℕ) → count < length found.sent.what.octets → Brings v found.sent (take count found.sent.what.octets) false new → GoesOn setup w (Cut number count) new
    cut_short count short t =
        let fewer : count < length (spelled_all f.sent.what) = subst (λ n. count < n) as_long short in
        let m = comes_cut_there receiver (config_of f.sent.role) new (datagram_plane f.sent.what) f.sent.what count f.for.reads fewer
        (subst (λ (d : Datagram). TakesOn v receiver d.plane d.from (take count d.octets) false new) datagram_is
        (subst (λ r. TakesOn v r found.sent.what.plane found.sent.what.from (take count found.sent.what.octets) false new) to_other t)) in
        record { world = m.world; happens = inr (there, inr (fewer, m.moves)); stands = m.stands }

    cut_long : (count : ℕ) → (count < length found.sent.what.octets → ⊥) → count < length (spelled_all f.sent.what) → ⊥
    cut_long count long fewer = long (subst (λ n. count < n) (sym as_long) fewer)

  found_by : (number : ℕ) (found : IsThere v.log.datagrams number) → Found setup w.datagrams number found.sent
  found_by number found = find setup v.log.datagrams w.datagrams number found.sent stands.datagrams found.is

  passed : (outcome : EventOutcome) (new : WorldRecord) → new ≡ passed_over v outcome → StandsFor setup new (noted w (quiet_note outcome))
  passed outcome new is = subst (λ k. StandsFor setup k (noted w (quiet_note outcome))) (sym is) (after_none setup v w outcome stands)

  few_there : (role : Role) → (gateway_in v role).restarts ≡ (side_of w role).restarts
  few_there role = (gateway_stands setup v w stands role).restarts

  -- what comes of an event
  pub goes_on : (event : Event) (new : WorldRecord) → EventLeaves v event new → GoesOn setup w event new
  goes_on (Does role command) new t = let m = does_on role (Commanded command) new t in record { world = m.world; happens = m.moves; stands = m.stands }
  goes_on (Tick role) new t = ticks_on role new t
  goes_on (Deliver number) new (inl (none, is)) = record { world = noted w (quiet_note No_such_datagram); happens = inl (no_message number none, refl); stands = passed No_such_datagram new is }
  goes_on (Deliver number) new (inr (found, inl (timely, t))) = on_time number new found (found_by number found) timely t
  goes_on (Deliver number) new (inr (found, inr (late, t))) = too_late number new found (found_by number found) late t
  goes_on (Cut number count) new (inl (none, is)) = record { world = noted w (quiet_note No_such_datagram); happens = inl (no_message number none, refl); stands = passed No_such_datagram new is }
  goes_on (Cut number count) new (inr (found, inl (long, is))) =
      let f = found_by number found in
      record { world = noted w (quiet_note Cut_too_long); happens = inr (there number new found f, inl (cut_long number new found f count long, refl)); stands = passed Cut_too_long new is }
  goes_on (Cut number count) new (inr (found, inr (short, t))) = cut_short number new found (found_by number found) count short t
  goes_on (Restart role) new (inl (used, is)) =
      record {
        world = noted w (quiet_note Restarts_used);
        happens = inl ((λ few. used (subst (λ n. n < 127) (sym (few_there role)) few)), refl);
        stands = passed Restarts_used new is;
      }
  goes_on (Restart role) new (inr (few, is)) =
      let next = with_steps (noted (with_side w role (restarted (side_of w role))) (quiet_note (Restarted (next_counter (side_of w role))))) role [] in
      record { world = next; happens = inr (subst (λ n. n < 127) (few_there role) few, refl); stands = subst (λ k. StandsFor setup k next) (sym is) (after_restart setup v w role (same role) stands) }

-- A run goes on by one event: so does the machine's world.
pub record Goes (setup : Setup) (events : List Event) (old : World) (event : Event) (new : WorldRecord) : Type 0 where
  pub world : World
  pub happens : Happens old event world
  pub run : Run (start setup.serving.config setup.packet.config setup.serving_counter setup.packet_counter) (events ++ event ∷ []) world
  pub stands : StandsFor setup new world

pub goes : (setup : Setup) (events : List Event) (v : WorldRecord) (r : LeftByRun setup events v) (event : Event) (new : WorldRecord) → EventLeaves v event new → Goes setup events r.world event new
goes setup events v r event new comes =
    let g = goes_on setup v r.world r.stands (set_up setup events r.world r.run) event new comes in
    record { world = g.world; happens = g.happens; run = Run-push _ events r.world event g.world r.run g.happens; stands = g.stands }

pub run_on : (setup : Setup) (events : List Event) (v : WorldRecord) → LeftByRun setup events v → (event : Event) (new : WorldRecord) → EventLeaves v event new
    → LeftByRun setup (events ++ event ∷ []) new
run_on setup events v r event new comes =
    let g = goes setup events v r event new comes in
    record { world = g.world; run = g.run; stands = g.stands }
