-- What comes of an event in two worlds that were alike.
use Rattle.std.proofs.Common.{◌≡◌, ◌≢◌, ◌⊎◌, inl, inr, ⊎_elim, ℕ, Bool, true, false, List, [], ◌∷◌, ◌++◌, length, map, take, Some, None, option_to_list, refl, sym, ◌∙◌, ap, subst, slice_get}
use Rattle.std.specs.Prelude.{◌<◌, ◌+◌, ◌%◌}
use Rattle.std.specs.FinMap.{get, insert}
use Rattle.gtp_values.specs.FiniteMap.{FiniteMap, Among}
use Rattle.gtp_values.specs.declared.address.Endpoint.{Endpoint}
use Rattle.gtp_tables.specs.Drawn.{drawn_up_to}
use Rattle.gtp_tables.specs.Identity.{IsLowestUnused}
use Rattle.gtp_reliable.specs.Waiting.{Waiting, just_sent}
use Rattle.gtp_machine.specs.Message.{CreateSessionResponse, CreateBearerRequest, Create_session_response, Create_bearer_request, Plane, Control, User}
use Rattle.gtp_machine.specs.declared.role.Role.{Role}
use Rattle.gtp_machine.specs.declared.role.Role.TheVariants.{Serving, Packet}
use Rattle.gtp_machine.specs.Node.{PendingRequest, Arrival, Node}
use Rattle.gtp_machine.specs.Input.{Command, ControlReading, Input, Commanded, Control_came, Out, Effect}
use Rattle.gtp_machine.specs.Choice.{HasPending}
use Rattle.gtp_machine.specs.Determined.{unchosen}
use Rattle.gtp_machine.specs.Ordered.{Unless}
use Rattle.gtp_machine.specs.Reading.{Both, datagram_reading}
use Rattle.gtp_machine.specs.Spelling.{Datagram, datagram_of}
use Rattle.gtp_machine.specs.Step.{Step, TakesPair}
use Rattle.gtp_machine.specs.Tick.{Ticks}
use Rattle.gtp_machine.specs.World.{By, EventOutcome, Ticked, Restarted, No_such_datagram, Restarts_used, Cut_too_long, Event, Does, Tick, Deliver, Cut, Restart, other}
use Rattle.gtp_machine.proofs.Basics.Facts.{one_value}
use Rattle.gtp_machine.proofs.Basics.FiniteMaps.{found-insert, get-insert_same}
use Rattle.gtp_machine.proofs.Determined.Alike.{WaitsBeside, Alike}
use Rattle.gtp_machine.proofs.Determined.Steps.{step_done}
use Rattle.gtp_machine.proofs.Determined.Ticks.{one_tick}
use Rattle.gtp_machine.proofs.Requests.Opening.{opening, same_drawn, none_made}
use Rattle.gtp_gateway.specs.declared.command.purpose.Purpose.{Purpose}
use Rattle.gtp_gateway.specs.receive.Choosing.{MakesLowestSession, MakesLowestBearer, MakesLowest}
use Rattle.gtp_gateway.specs.Determined.{AreLeftAlike}
use Rattle.gtp_gateway.specs.Parts.{arrival_of, pending_of, pending_in}
use Rattle.gtp_gateway.specs.receive.TwoMessages.{second_arrival, first_arrival}
use Rattle.gtp_gateway.specs.receive.Received.{coming, first_comes, second_comes}
use Rattle.gtp_gateway.specs.Settings.{Settings}
use Rattle.gtp_gateway.specs.GatewayState.{Queues, GatewayState, starting, NodeMatchesQueues}
use Rattle.gtp_gateway.specs.Tick.{due_in}
use Rattle.gtp_gateway.proofs.ChosenOnce.{one_lowest_address, one_lowest_identity, lowest_address, lowest_identity, one_drawn}
use Rattle.gtp_gateway.proofs.Requests.{pending_push}
use Rattle.gtp_world.specs.Record.{oldest_first, GatewayRecord, Log, WorldRecord, gateway_in, with_gateway}
use Rattle.gtp_world.specs.Determined.{GatewaysAlike, WorldsAlike}
use Rattle.gtp_world.specs.Last.{last_octets}
use Rattle.gtp_world.specs.Stepped.{WaitsFor, AsksFor, KeepsOn, TakesLowest, StepsOn, TakesBoth, TakesOn, Brings, TicksBy, gateway_after, kept_after}
use Rattle.gtp_world.specs.Stepped.{kept_after_both, log_after, log_after_both, log_with, sent_at, passed_over, counter_after, gateway_restarted}
use Rattle.gtp_world.specs.Stepped.{IsThere, IsLate, EventLeaves}
use Rattle.gtp_world.proofs.Determined.Commands.{IsQuiet, IsBegun, commanded, unchosen_begun}
use Rattle.gtp_world.proofs.Determined.Lasting.{Lasts, lasts_fits, lasts_once, lasts_bring, mid_ready, keeps_goes, asks_ready, BothLast, last_of}
use Rattle.gtp_gateway.proofs.Left.{same_due, one_free, left_stays, left_begun, left_goes, number_begun, left_ticked}
use Rattle.gtp_world.proofs.Determined.Opening.{bearers_from, none_from}

tied_draws : (new : GatewayState) (node : Node) → new.node ≡ node → NodeMatchesQueues new → node.drawn ≡ drawn_up_to node.counter (length node.drawn)
tied_draws new node is tied = subst (λ (k : Node). k.drawn ≡ drawn_up_to k.counter (length k.drawn)) is tied.drawn

-- ---- an input comes to two gateways that are alike

module _ (one other : GatewayState) (alike : AreLeftAlike one other) (l : Lasts one) (input : Input) (e f : Effect)
    (first : Step one.role one.node input e) (second : Step other.role other.node input f) where
  -- both are steps of one gateway
  there : Step one.role one.node input f
  there = subst (λ n. Step one.role n input f) (sym alike.node) (subst (λ r. Step r other.node input f) (sym alike.role) second)

  both : Alike one.role one.node input e f
  both = step_done one.role one.node input (lasts_fits one l) (lasts_once one l) e f first there

  -- and where the lowest is taken of what is free, and the same number, they are one
  module _ (new left : GatewayState) (new_is : new.node ≡ e.node) (left_is : left.node ≡ f.node) (new_stays : new.role ≡ one.role)
      (left_stays_so : left.role ≡ other.role) (new_tied : NodeMatchesQueues new) (left_tied : NodeMatchesQueues left)
      (new_lowest : TakesLowest new.role e.out one.node new.node) (left_lowest : TakesLowest left.role f.out other.node left.node) where
    one_effect : ((command : Command) → input ≡ Commanded command → (number : ℕ) → get one.node.pending number ≡ None → HasPending e.node number → HasPending f.node number)
        → ((request : Arrival) (reading : ControlReading) → input ≡ Control_came request reading
        → (others : FiniteMap PendingRequest) (m n : ℕ) (p q : PendingRequest) → WaitsBeside one.node.drawn e.node.pending others m p
        → WaitsBeside one.node.drawn f.node.pending others n q → m ≡ n) → e ≡ f
    one_effect numbers wanted = both.one (record {
      drawn = one_drawn e.node f.node (tied_draws new e.node new_is new_tied) (tied_draws left f.node left_is left_tied) both.tell.counter both.tell.draws;
      addresses = λ request reading is packet made others t a b x y version p q in_one in_other.
          let first_lowest =
          lowest_address one.node e.node others t a
          (subst (λ k. MakesLowestSession one.node k) new_is (subst (λ r. MakesLowest r one.node new.node) packet (made_lowest made))) x version p
          in_one in
          let second_lowest =
          lowest_address one.node f.node others t b
          (subst (λ k. MakesLowestSession one.node k) left_is (subst (λ r. MakesLowest r one.node left.node) packet (also_lowest made))) y version q
          in_other in
          one_lowest_address version others one.node.config.pools p q first_lowest second_lowest;
      identities = λ request reading is serving made others t a b x y session.
          let first_lowest =
          lowest_identity one.node e.node others t a
          (subst (λ k. MakesLowestBearer one.node k) new_is (subst (λ r. MakesLowest r one.node new.node) serving (made_lowest made))) x in
          let second_lowest =
          lowest_identity one.node f.node others t b
          (subst (λ k. MakesLowestBearer one.node k) left_is (subst (λ r. MakesLowest r one.node left.node) serving (also_lowest made))) y in
          first_lowest.1 ∙ (ap (λ k. Some k) (one_lowest_identity others a.session first_lowest.0 second_lowest.0 first_lowest.2
          (subst (λ k. IsLowestUnused others k second_lowest.0) (sym session) second_lowest.2)) ∙ sym second_lowest.1);
      numbers = numbers;
      wanted = λ request reading is packet made. wanted request reading is;
    })
      where
        made_lowest : e.out.made ≢ [] → MakesLowest one.role one.node new.node
        made_lowest made = subst (λ r. MakesLowest r one.node new.node) new_stays (new_lowest made)

        also_lowest : e.out.made ≢ [] → MakesLowest one.role one.node left.node
        also_lowest made =
            subst (λ n. MakesLowest one.role n left.node) (sym alike.node)
            (subst (λ r. MakesLowest r other.node left.node) (left_stays_so ∙ sym alike.role)
            (left_lowest (λ none. made (ap (λ (o : Out). o.made) both.tell.told ∙ none))))

-- ---- the number of a request

-- the request that was begun waits beside the others
begun_waits : (old : GatewayState) (d : Datagram) (new : GatewayState) → NodeMatchesQueues old → (w : WaitsFor old d new)
    → (p : PendingRequest) × (new.node.pending ≡ insert old.node.pending w.number p)
begun_waits old d new tied w =
    let request : Waiting Purpose = just_sent w.number d.to d.octets w.purpose in (
      (pending_of request).1,
      w.tied.pending
          ∙ (ap (λ (t : Queues). pending_in t.waiting) w.queues ∙ (pending_push old.queues.waiting request (pending_of request).1 w.free.free refl
          ∙ ap (λ (k : FiniteMap PendingRequest). insert k w.number (pending_of request).1) (sym tied.pending))),
    )

waits_too : (pending : FiniteMap PendingRequest) (one other : Node) (m n : ℕ) (p q : PendingRequest) → one.pending ≡ insert pending m p
    → other.pending ≡ insert pending n q → m ≡ n → (number : ℕ) → get pending number ≡ None → HasPending one number → HasPending other number
waits_too pending one other m n p q is_one is_other same number free waits = ⊎_elim
    (λ here. record { pending = q; waits = ap (λ (k : FiniteMap PendingRequest). get k number) is_other ∙ (ap (λ k. get (insert pending n q) k) (here.0 ∙ same) ∙ get-insert_same pending n q) })
    (λ there. absurd (never waits.pending there.1))
    (found-insert pending m p number waits.pending (ap (λ (k : FiniteMap PendingRequest). get k number) (sym is_one) ∙ waits.waits))
  where
    never : (x : PendingRequest) → get pending number ≡ Some x → ⊥
    never x e = cc

-- where nothing is begun nothing new waits
none_new : (old one other : Node) → one.pending ≡ old.pending → (number : ℕ) → get old.pending number ≡ None → HasPending one number → HasPending other number
none_new old one other same number free waits = absurd (never waits.pending (ap (λ (k : FiniteMap PendingRequest). get k number) (sym same) ∙ waits.waits))
  where
    never : (x : PendingRequest) → get old.pending number ≡ Some x → ⊥
    never x e = cc

-- ---- what is kept after one step, and after two

gateway_after_alike : (h k : GatewayRecord) → GatewaysAlike h k → (new left : GatewayState) → AreLeftAlike new left → (out : Out) → GatewaysAlike (gateway_after h new out) (gateway_after k left out)
gateway_after_alike h k a new left leaves out = record {
  settings = a.settings;
  state = leaves;
  first = a.first;
  restarts = a.restarts;
  seen = ap (λ l. l ++ option_to_list out.heard) a.seen;
  forgotten = ap (λ l. l ++ out.forgot) a.forgotten;
  made = ap (λ l. l ++ oldest_first out.made) a.made;
}

after_alike : (u v : WorldRecord) → WorldsAlike u v → (role : Role) (new left : GatewayState) → AreLeftAlike new left
    → (out : Out) (sent : List Datagram) (outcome : EventOutcome) (late : Bool)
    → WorldsAlike (kept_after u role new out sent outcome late) (kept_after v role left out sent outcome late)
after_alike u v alike Serving new left leaves out sent outcome late =
    record {
      serving = gateway_after_alike u.serving v.serving alike.serving new left leaves out;
      packet = alike.packet;
      log = λ i. log_after (alike.log i) Serving out sent outcome late;
    }
after_alike u v alike Packet new left leaves out sent outcome late =
    record {
      serving = alike.serving;
      packet = gateway_after_alike u.packet v.packet alike.packet new left leaves out;
      log = λ i. log_after (alike.log i) Packet out sent outcome late;
    }

both_after_alike : (u v : WorldRecord) → WorldsAlike u v → (role : Role) (new left : GatewayState) → AreLeftAlike new left
    → (first second : Effect) (sent more : List Datagram) (late : Bool)
    → WorldsAlike (kept_after_both u role new first second sent more late) (kept_after_both v role left first second sent more late)
both_after_alike u v alike Serving new left leaves first second sent more late = record {
  serving =
      gateway_after_alike (gateway_after u.serving new first.out) (gateway_after v.serving left first.out)
      (gateway_after_alike u.serving v.serving alike.serving new left leaves first.out) new left leaves second.out;
  packet = alike.packet;
  log = λ i. log_after_both (alike.log i) Serving first second sent more late;
}
both_after_alike u v alike Packet new left leaves first second sent more late = record {
  serving = alike.serving;
  packet =
      gateway_after_alike (gateway_after u.packet new first.out) (gateway_after v.packet left first.out)
      (gateway_after_alike u.packet v.packet alike.packet new left leaves first.out) new left leaves second.out;
  log = λ i. log_after_both (alike.log i) Packet first second sent more late;
}

-- ---- one effect, and gateways that are alike after it

pub record IsOne (e f : Effect) (new left : GatewayState) : Type 0 where
  pub effect : e ≡ f
  pub leaves : AreLeftAlike new left

-- the gateways of both worlds
pub gateway_alike : (u v : WorldRecord) → WorldsAlike u v → (role : Role) → GatewaysAlike (gateway_in u role) (gateway_in v role)
gateway_alike u v alike Serving = alike.serving
gateway_alike u v alike Packet = alike.packet

module _ (u v : WorldRecord) (alike : WorldsAlike u v) (role : Role) (lasts : BothLast u) (lasts_too : BothLast v) where
  abbrev one : GatewayState
  one = (gateway_in u role).state

  abbrev two : GatewayState
  two = (gateway_in v role).state

  stations : AreLeftAlike one two
  stations = (gateway_alike u v alike role).state

  -- the same is sent, where the effects are one
  same_sent : (e f : Effect) → e ≡ f → sent_at (gateway_in u role) e.out ≡ sent_at (gateway_in v role) f.out
  same_sent e f same = λ i. map (datagram_of (stations.node i).config) (same i).out.sent

  -- ---- a command

  module _ (c : Command) (new left : WorldRecord) (t : StepsOn u role (Commanded c) AsksFor false new) (s : StepsOn v role (Commanded c) AsksFor false left) where
    roles : t.state.role ≡ s.state.role
    roles = t.role_stays ∙ (stations.role ∙ sym s.role_stays)

    nodes : t.effect ≡ s.effect → t.state.node ≡ s.state.node
    nodes same = t.node ∙ (ap (λ (k : Effect). k.node) same ∙ sym s.node)

    came : IsBegun t.effect ⊎ IsQuiet one.node t.effect
    came = commanded one.node one.role c t.effect t.step

    came_too : IsBegun s.effect ⊎ IsQuiet two.node s.effect
    came_too = commanded two.node two.role c s.effect s.step

    no_datagram : (request : Arrival) (reading : ControlReading) → Commanded c ≡ Control_came request reading → ⊥
    no_datagram request reading e = cc

    same_effect : ((number : ℕ) → get one.node.pending number ≡ None → HasPending t.effect.node number → HasPending s.effect.node number) → t.effect ≡ s.effect
    same_effect numbers =
        one_effect one two stations (last_of u lasts role) (Commanded c) t.effect s.effect t.step s.step t.state s.state t.node s.node t.role_stays s.role_stays
        (asks_ready one t.state _ t.effect (last_of u lasts role) came t.node t.timed).0
        (asks_ready two s.state _ s.effect (last_of v lasts_too role) came_too s.node s.timed).0
        t.lowest s.lowest (λ command is. numbers) (λ request reading is. absurd (no_datagram request reading is))

    tells : unchosen (Commanded c) t.effect.outcome ≡ unchosen (Commanded c) s.effect.outcome
    tells = (both one two stations (last_of u lasts role) (Commanded c) t.effect s.effect t.step s.step).tell.outcome

    both_begun : (w : (d : Datagram) × (sent_at (gateway_in u role) t.effect.out ≡ d ∷ []) × WaitsFor one d t.state)
        → (x : (d : Datagram) × (sent_at (gateway_in v role) s.effect.out ≡ d ∷ []) × WaitsFor two d s.state)
        → IsOne t.effect s.effect t.state s.state
    both_begun (d, sent, w) (d_too, sent_too, x) =
        let p = begun_waits one d t.state (last_of u lasts role).tied w in
        let q = begun_waits two d_too s.state (last_of v lasts_too role).tied x in
        let same : t.effect ≡ s.effect = same_effect (waits_too one.node.pending t.effect.node s.effect.node w.number x.number p.0 q.0
        (ap (λ (k : Node). k.pending) (sym t.node) ∙ p.1)
        (ap (λ (k : Node). k.pending) (sym s.node) ∙ (q.1 ∙ ap (λ (k : Node). insert k.pending x.number q.0) (sym stations.node)))
        (one_free one two w.number x.number stations w.free x.free)) in
        let list : (d ∷ []) ≡ (d_too ∷ []) = sym sent ∙ (same_sent t.effect s.effect same ∙ sent_too) in
        let datagram : d ≡ d_too = cc list in
        let y : WaitsFor two d s.state = subst (λ k. WaitsFor two k s.state) (sym datagram) x in
        record {
          effect = same;
          leaves = left_begun one two t.state s.state stations roles (nodes same) d w.number y.number w.purpose y.purpose w.free y.free w.queues y.queues;
        }

    by_came : IsBegun t.effect ⊎ IsQuiet one.node t.effect → IsBegun s.effect ⊎ IsQuiet two.node s.effect → IsOne t.effect s.effect t.state s.state
    by_came (inl a) (inl b) = both_begun (t.timed.asks a.0 a.1) (s.timed.asks b.0 b.1)
    by_came (inl a) (inr q) = absurd (unchosen_begun c s.effect.outcome (sym tells ∙ ap (unchosen (Commanded c)) a.1) q.begins_none)
    by_came (inr q) (inl b) = absurd (unchosen_begun c t.effect.outcome (tells ∙ ap (unchosen (Commanded c)) b.1) q.begins_none)
    by_came (inr p) (inr q) =
        let same : t.effect ≡ s.effect = same_effect (none_new one.node t.effect.node s.effect.node p.pending) in
        record { effect = same; leaves = left_stays one two t.state s.state stations roles (nodes same) (t.timed.none p.begins_none) (s.timed.none q.begins_none) }

    command_one : IsOne t.effect s.effect t.state s.state
    command_one = by_came came came_too

  -- ---- a datagram

  no_command : (plane : Plane) (source : Endpoint) (octets : List ℕ) (c : Command) → coming plane source octets ≡ Commanded c → ⊥
  no_command Control source octets c e = cc
  no_command User source octets c e = cc

  module _ (plane : Plane) (source : Endpoint) (octets : List ℕ) (late : Bool) (new left : WorldRecord)
      (t : StepsOn u role (coming plane source octets) (KeepsOn plane source octets) late new)
      (s : StepsOn v role (coming plane source octets) (KeepsOn plane source octets) late left) where
    datagram_one : IsOne t.effect s.effect t.state s.state
    datagram_one =
        let goes = keeps_goes plane source octets _ t.effect.outcome one t.state t.timed in
        let goes_too = keeps_goes plane source octets _ s.effect.outcome two s.state s.timed in
        let l = last_of u lasts role in
        let k = last_of v lasts_too role in
        let same : t.effect ≡ s.effect =
        one_effect one two stations l (coming plane source octets) t.effect s.effect t.step s.step t.state s.state t.node s.node t.role_stays s.role_stays
        goes.tied goes_too.tied t.lowest s.lowest (λ c is. absurd (no_command plane source octets c is))
        (λ request reading is others m n p q waits too.
        number_begun one two t.state s.state stations l.apart k.apart (arrival_of source octets) goes goes_too (lasts_bring one l) l.tied k.tied others m n p q
        (subst (λ (x : Node). WaitsBeside one.node.drawn x.pending others m p) (sym t.node) waits)
        (subst (λ (x : Node). WaitsBeside one.node.drawn x.pending others n q) (sym s.node) too)) in
        record {
          effect = same;
          leaves =
              left_goes one two t.state s.state stations (t.role_stays ∙ (stations.role ∙ sym s.role_stays))
              (t.node ∙ (ap (λ (x : Effect). x.node) same ∙ sym s.node)) l.apart k.apart (arrival_of source octets) goes goes_too;
        }

  -- ---- two messages of one datagram

  module _ (arrival : Arrival) (answer : CreateSessionResponse) (asked : CreateBearerRequest) (late : Bool) (new left : WorldRecord)
      (serves : one.role ≡ Serving) (t : TakesBoth u role arrival answer asked late new) (s : TakesBoth v role arrival answer asked late left) where
    abbrev lies : Arrival
    lies = first_arrival arrival

    not_packet : one.role ≡ Packet → ⊥
    not_packet packet = let apart : Serving ≡ Packet = sym serves ∙ packet in cc apart

    served : (input : Input) (e : Effect) → Step one.role one.node input e → Step Serving one.node input e
    served input e step = subst (λ r. Step r one.node input e) serves step

    -- the first chooses nothing
    first_one : t.first ≡ s.first
    first_one =
        let input = first_comes arrival answer in
        let here = served input t.first t.step in
        let also = served input s.first (there one two stations (last_of u lasts role) input t.first s.first t.step s.step) in
        (both one two stations (last_of u lasts role) input t.first s.first t.step s.step).one (record {
          drawn = same_drawn one.node lies t.first (opening lies answer one.node t.first here) ∙ sym (same_drawn one.node lies s.first (opening lies answer one.node s.first also));
          addresses = λ request reading is packet. absurd (not_packet packet);
          identities = λ request reading is serving made. absurd (made (none_made one.node lies t.first (opening lies answer one.node t.first here)));
          numbers = λ command is. absurd (cc is);
          wanted = λ request reading is packet. absurd (not_packet packet);
        })

    abbrev mid : Node
    mid = t.first.node

    -- the second finds one gateway
    follows_too : Step one.role mid (second_comes arrival asked) s.second
    follows_too =
        subst (λ (x : Effect). Step one.role x.node (second_comes arrival asked) s.second) (sym first_one)
        (subst (λ r. Step r s.first.node (second_comes arrival asked) s.second) (sym stations.role) s.follows)

    second_both : Alike one.role mid (second_comes arrival asked) t.second s.second
    second_both =
        let m = mid_ready one (last_of u lasts role) (first_comes arrival answer) t.first t.step in
        step_done one.role mid (second_comes arrival asked) m.0 m.1 t.second s.second t.follows follows_too

    -- what is the lowest beside what stood before the first is so beside what stands after it
    since : (new : Node) → MakesLowestBearer one.node new → MakesLowestBearer mid new
    since new l = record {
      teid = l.teid;
      bearer = l.bearer;
      others = l.others;
      identity = l.identity;
      bearers = l.bearers;
      beside = l.beside;
      before = none_from one.node mid (bearers_from lies answer one.node t.first (served (first_comes arrival answer) t.first t.step)) l.teid l.before;
      has = l.has;
      lowest = l.lowest;
    }

    second_lowest : t.second.out.made ≢ [] → MakesLowestBearer mid t.second.node
    second_lowest made = since t.second.node (subst (λ k. MakesLowestBearer one.node k) t.node (subst (λ r. MakesLowest r one.node t.state.node) (t.role_stays ∙ serves) (t.lowest made)))

    second_lowest_too : t.second.out.made ≢ [] → MakesLowestBearer mid s.second.node
    second_lowest_too made =
        since s.second.node (subst (λ k. MakesLowestBearer one.node k) s.node
        (subst (λ n. MakesLowestBearer n s.state.node) (sym stations.node)
        (subst (λ r. MakesLowest r two.node s.state.node) (s.role_stays ∙ (sym stations.role ∙ serves))
        (s.lowest (λ none. made (ap (λ (o : Out). o.made) second_both.tell.told ∙ none))))))

    second_one : t.second ≡ s.second
    second_one = second_both.one (record {
      drawn =
          one_drawn t.second.node s.second.node (tied_draws t.state t.second.node t.node t.timed.tied)
          (tied_draws s.state s.second.node s.node s.timed.tied) second_both.tell.counter second_both.tell.draws;
      addresses = λ request reading is packet. absurd (not_packet packet);
      identities = λ request reading is serving made others x a b p q session.
          let first = lowest_identity mid t.second.node others x a (second_lowest made) p in
          let second = lowest_identity mid s.second.node others x b (second_lowest_too made) q in
          first.1 ∙ (ap (λ k. Some k) (one_lowest_identity others a.session first.0 second.0 first.2 (subst (λ k. IsLowestUnused others k second.0) (sym session) second.2)) ∙ sym second.1);
      numbers = λ command is. absurd (cc is);
      wanted = λ request reading is packet. absurd (not_packet packet);
    })

    pair_left : AreLeftAlike t.state s.state
    pair_left =
        left_goes one two t.state s.state stations (t.role_stays ∙ (stations.role ∙ sym s.role_stays)) (t.node ∙ (ap (λ (x : Effect). x.node) second_one ∙ sym s.node))
        (last_of u lasts role).apart (last_of v lasts_too role).apart (second_arrival arrival) t.timed s.timed

    pair_becomes : kept_after_both v role s.state s.first s.second (sent_at (gateway_in v role) s.first.out) (sent_at (gateway_in v role) s.second.out) late
        ≡ kept_after_both v role s.state t.first t.second (sent_at (gateway_in u role) t.first.out) (sent_at (gateway_in u role) t.second.out) late
    pair_becomes = λ i. kept_after_both v role s.state (sym first_one i) (sym second_one i) (sym (same_sent t.first s.first first_one) i) (sym (same_sent t.second s.second second_one) i) late

    pair_alike : WorldsAlike new left
    pair_alike =
        subst (λ k. WorldsAlike k left) (sym t.becomes)
        (subst (λ k. WorldsAlike (kept_after_both u role t.state t.first t.second (sent_at (gateway_in u role) t.first.out)
        (sent_at (gateway_in u role) t.second.out) late) k) (sym (s.becomes ∙ pair_becomes))
        (both_after_alike u v alike role t.state s.state pair_left t.first t.second (sent_at (gateway_in u role) t.first.out) (sent_at (gateway_in u role) t.second.out) late))

-- ---- what is kept after it

-- worlds that are what was kept of the same
become_alike : (u v new left : WorldRecord) (role : Role) (one two : GatewayState) (out other : Out) (sent sent_too : List Datagram)
    (outcome outcome_too : EventOutcome) (late : Bool) → WorldsAlike u v → AreLeftAlike one two → out ≡ other → sent ≡ sent_too
    → outcome ≡ outcome_too → new ≡ kept_after u role one out sent outcome late → left ≡ kept_after v role two other sent_too outcome_too late
    → WorldsAlike new left
become_alike u v new left role one two out other sent sent_too outcome outcome_too late alike leaves same same_sent same_outcome is is_too =
    subst (λ k. WorldsAlike k left) (sym is)
    (subst (λ k. WorldsAlike (kept_after u role one out sent outcome late) k) (sym (is_too ∙ (λ i. kept_after v role two (sym same i) (sym same_sent i) (sym same_outcome i) late)))
    (after_alike u v alike role one two leaves out sent outcome late))

takes_alike : (u v : WorldRecord) → WorldsAlike u v
    → (role : Role) (input : Input) (Timed : List Datagram → EventOutcome → GatewayState → GatewayState → Type 0) (late : Bool)
    (new left : WorldRecord) (t : StepsOn u role input Timed late new) (s : StepsOn v role input Timed late left)
    → IsOne t.effect s.effect t.state s.state → WorldsAlike new left
takes_alike u v alike role input Timed late new left t s is =
    become_alike u v new left role t.state s.state t.effect.out s.effect.out _ _ _ _ late alike is.leaves
    (ap (λ (k : Effect). k.out) is.effect)
    (λ i. map (datagram_of ((gateway_alike u v alike role).state.node i).config) (is.effect i).out.sent)
    (ap (λ (k : Effect). k.outcome) is.effect)
    t.becomes s.becomes

-- nothing comes of the event
passed_alike : (u v new left : WorldRecord) (outcome : EventOutcome) → WorldsAlike u v → new ≡ passed_over u outcome → left ≡ passed_over v outcome → WorldsAlike new left
passed_alike u v new left outcome alike is is_too =
    subst (λ k. WorldsAlike k left) (sym is)
    (subst (λ k. WorldsAlike (passed_over u outcome) k) (sym is_too)
    (record { serving = alike.serving; packet = alike.packet; log = λ i. log_with (alike.log i) outcome }))

-- ---- a restart

same_counter : (h k : GatewayRecord) → GatewaysAlike h k → counter_after h ≡ counter_after k
same_counter h k a = λ i. (a.first i + (a.restarts i + 1)) % 256

starts_alike : (role : Role) (settings : Settings) (counter : ℕ) → AreLeftAlike (starting role settings counter) (starting role settings counter)
starts_alike role settings counter = record { role = refl; node = refl; timers = refl; next = refl; waiting = refl; held = refl }

gateway_restarts : (role : Role) (h k : GatewayRecord) → GatewaysAlike h k → GatewaysAlike (gateway_restarted role h) (gateway_restarted role k)
gateway_restarts role h k a = record {
  settings = a.settings;
  state =
      subst (λ (s : GatewayState). AreLeftAlike (starting role h.settings (counter_after h)) s)
      (λ i. starting role (a.settings i) (same_counter h k a i)) (starts_alike role h.settings (counter_after h));
  first = a.first;
  restarts = ap (λ n. n + 1) a.restarts;
  seen = refl;
  forgotten = refl;
  made = refl;
}

abbrev restarted_world : WorldRecord → Role → WorldRecord
restarted_world v role = record (with_gateway v role (gateway_restarted role (gateway_in v role))) { log = log_with v.log (Restarted (counter_after (gateway_in v role))) }

worlds_restarted : (u v : WorldRecord) → WorldsAlike u v → (role : Role) → WorldsAlike (restarted_world u role) (restarted_world v role)
worlds_restarted u v alike Serving =
    record {
      serving = gateway_restarts Serving u.serving v.serving alike.serving;
      packet = alike.packet;
      log = λ i. log_with (alike.log i) (Restarted (same_counter u.serving v.serving alike.serving i));
    }
worlds_restarted u v alike Packet =
    record {
      serving = alike.serving;
      packet = gateway_restarts Packet u.packet v.packet alike.packet;
      log = λ i. log_with (alike.log i) (Restarted (same_counter u.packet v.packet alike.packet i));
    }

-- ---- an event

module _ (u v : WorldRecord) (alike : WorldsAlike u v) (lasts : BothLast u) (lasts_too : BothLast v) where
  ticks_alike : (role : Role) (new left : WorldRecord) → TicksBy u role new → TicksBy v role left → WorldsAlike new left
  ticks_alike role new left t s =
      let gateways = gateway_alike u v alike role in
      let one = (gateway_in u role).state in
      let two = (gateway_in v role).state in
      let due = same_due one two gateways.state in
      let second = subst (λ n. Ticks n (due_in one.queues) s.out s.state.node) (sym gateways.state.node) (subst (λ d. Ticks two.node d s.out s.state.node) (sym due) s.ticks) in
      let same = one_tick one.node (due_in one.queues) t.out s.out t.state.node s.state.node t.ticks second in
      become_alike u v new left role t.state s.state t.out s.out _ _ Ticked Ticked false alike
      (left_ticked one two t.state s.state gateways.state (t.role_stays ∙ (gateways.state.role ∙ sym s.role_stays)) same.1
      (last_of u lasts role).apart (last_of v lasts_too role).apart t.counts s.counts)
      same.0
      (λ i. map (datagram_of (gateways.state.node i).config) (same.0 i).sent)
      refl
      t.becomes s.becomes

  -- a datagram comes to one gateway of both
  module _ (role : Role) (source : Endpoint) (octets : List ℕ) (late : Bool) (new left : WorldRecord) where
    whole_alike : (plane : Plane) → StepsOn u role (coming plane source octets) (KeepsOn plane source octets) late new
        → StepsOn v role (coming plane source octets) (KeepsOn plane source octets) late left → WorldsAlike new left
    whole_alike plane t s = takes_alike u v alike role _ _ late new left t s (datagram_one u v alike role lasts lasts_too plane source octets late new left t s)

    abbrev Pairs : WorldRecord → Type 0
    Pairs w = TakesPair (gateway_in w role).state.role (gateway_in w role).state.node.config (arrival_of source octets) (datagram_reading octets)

    -- a pair is taken by both, or by none
    pair_there : Pairs u → Pairs v
    pair_there p =
        let s = (gateway_alike u v alike role).state in
        record
        { by = sym s.role ∙ p.by; peer = p.peer ∙ ap (λ (n : Node). n.config.peer.control) s.node; answer = p.answer; asked = p.asked; is = p.is }

    pair_here : Pairs v → Pairs u
    pair_here p =
        let s = (gateway_alike u v alike role).state in
        record
        { by = s.role ∙ p.by; peer = p.peer ∙ ap (λ (n : Node). n.config.peer.control) (sym s.node); answer = p.answer; asked = p.asked; is = p.is }

    pairs_alike : (p : Pairs u) (q : Pairs v) → TakesBoth u role (arrival_of source octets) p.answer p.asked late new
        → TakesBoth v role (arrival_of source octets) q.answer q.asked late left → WorldsAlike new left
    pairs_alike p q t s =
        let both : Both (Create_session_response q.answer) (Create_bearer_request q.asked) ≡ Both (Create_session_response p.answer) (Create_bearer_request p.asked) = sym q.is ∙ p.is in
        let answer : q.answer ≡ p.answer = cc both in
        let asked : q.asked ≡ p.asked = cc both in
        pair_alike u v alike role lasts lasts_too (arrival_of source octets) p.answer p.asked late new left p.by t
        (subst (λ k. TakesBoth v role (arrival_of source octets) p.answer k late left) asked (subst (λ k. TakesBoth v role (arrival_of source octets) k q.asked late left) answer s))

    taken_alike : (plane : Plane) → TakesOn u role plane source octets late new → TakesOn v role plane source octets late left → WorldsAlike new left
    taken_alike Control (inl t) (inl s) = whole_alike Control t.1 s.1
    taken_alike Control (inl t) (inr s) = absurd (t.0 (pair_here s.0))
    taken_alike Control (inr t) (inl s) = absurd (s.0 (pair_there t.0))
    taken_alike Control (inr t) (inr s) = pairs_alike t.0 s.0 t.1 s.1
    taken_alike User t s = whole_alike User t s

  brings_alike : (sent : By Datagram) (octets : List ℕ) (late : Bool) (new left : WorldRecord) → Brings u sent octets late new → Brings v sent octets late left → WorldsAlike new left
  brings_alike sent octets late new left t s = taken_alike (other sent.role) sent.what.from octets late new left sent.what.plane t s

  -- the logs have the same datagrams
  same_found : (number : ℕ) (found : IsThere u.log.datagrams number) (also : IsThere v.log.datagrams number) → found.sent ≡ also.sent
  same_found number found also = one_value (slice_get u.log.datagrams number) found.sent also.sent found.is (ap (λ (l : Log). slice_get l.datagrams number) alike.log ∙ also.is)

  found_there : (number : ℕ) → IsThere u.log.datagrams number → IsThere v.log.datagrams number
  found_there number found = subst (λ (l : Log). IsThere l.datagrams number) alike.log found

  found_here : (number : ℕ) → IsThere v.log.datagrams number → IsThere u.log.datagrams number
  found_here number found = subst (λ (l : Log). IsThere l.datagrams number) (sym alike.log) found

  late_there : (role : Role) (d : Datagram) → IsLate (gateway_in u role) d → IsLate (gateway_in v role) d
  late_there role d late = (late.0, subst (λ l. Among (arrival_of d.from (last_octets d.octets)) l) (gateway_alike u v alike role).forgotten late.1)

  late_here : (role : Role) (d : Datagram) → IsLate (gateway_in v role) d → IsLate (gateway_in u role) d
  late_here role d late = (late.0, subst (λ l. Among (arrival_of d.from (last_octets d.octets)) l) (sym (gateway_alike u v alike role).forgotten) late.1)

  -- a delivery of a datagram that is there
  abbrev Delivered : WorldRecord → By Datagram → WorldRecord → Type 0
  Delivered old sent new = Unless (IsLate (gateway_in old (other sent.role)) sent.what) (Brings old sent sent.what.octets false new) (λ late. Brings old sent sent.what.octets true new)

  delivered_alike : (sent : By Datagram) (new left : WorldRecord) → Delivered u sent new → Delivered v sent left → WorldsAlike new left
  delivered_alike sent new left (inl t) (inl s) = brings_alike sent sent.what.octets false new left t.1 s.1
  delivered_alike sent new left (inl t) (inr s) = absurd (t.0 (late_here (other sent.role) sent.what s.0))
  delivered_alike sent new left (inr t) (inl s) = absurd (s.0 (late_there (other sent.role) sent.what t.0))
  delivered_alike sent new left (inr t) (inr s) = brings_alike sent sent.what.octets true new left t.1 s.1

  -- and of its first octets
  abbrev CutOff : WorldRecord → ℕ → By Datagram → WorldRecord → Type 0
  CutOff old count sent new = Unless (count < length sent.what.octets) (new ≡ passed_over old Cut_too_long) (λ short. Brings old sent (take count sent.what.octets) false new)

  cut_alike : (count : ℕ) (sent : By Datagram) (new left : WorldRecord) → CutOff u count sent new → CutOff v count sent left → WorldsAlike new left
  cut_alike count sent new left (inl t) (inl s) = passed_alike u v new left Cut_too_long alike t.1 s.1
  cut_alike count sent new left (inl t) (inr s) = absurd (t.0 s.0)
  cut_alike count sent new left (inr t) (inl s) = absurd (s.0 t.0)
  cut_alike count sent new left (inr t) (inr s) = brings_alike sent (take count sent.what.octets) false new left t.1 s.1

  same_restarts : (role : Role) → (gateway_in u role).restarts ≡ (gateway_in v role).restarts
  same_restarts role = (gateway_alike u v alike role).restarts

  -- what comes of an event
  pub comes_alike : (event : Event) (new left : WorldRecord) → EventLeaves u event new → EventLeaves v event left → WorldsAlike new left
  comes_alike (Does role c) new left t s = takes_alike u v alike role (Commanded c) AsksFor false new left t s (command_one u v alike role lasts lasts_too c new left t s)
  comes_alike (Tick role) new left t s = ticks_alike role new left t s
  comes_alike (Deliver number) new left (inl t) (inl s) = passed_alike u v new left No_such_datagram alike t.1 s.1
  comes_alike (Deliver number) new left (inl t) (inr s) = absurd (t.0 (found_here number s.0))
  comes_alike (Deliver number) new left (inr t) (inl s) = absurd (s.0 (found_there number t.0))
  comes_alike (Deliver number) new left (inr t) (inr s) = delivered_alike t.0.sent new left t.1 (subst (λ k. Delivered v k left) (sym (same_found number t.0 s.0)) s.1)
  comes_alike (Cut number count) new left (inl t) (inl s) = passed_alike u v new left No_such_datagram alike t.1 s.1
  comes_alike (Cut number count) new left (inl t) (inr s) = absurd (t.0 (found_here number s.0))
  comes_alike (Cut number count) new left (inr t) (inl s) = absurd (s.0 (found_there number t.0))
  comes_alike (Cut number count) new left (inr t) (inr s) = cut_alike count t.0.sent new left t.1 (subst (λ k. CutOff v count k left) (sym (same_found number t.0 s.0)) s.1)
  comes_alike (Restart role) new left (inl t) (inl s) = passed_alike u v new left Restarts_used alike t.1 s.1
  comes_alike (Restart role) new left (inl t) (inr s) = absurd (t.0 (subst (λ n. n < 127) (sym (same_restarts role)) s.0))
  comes_alike (Restart role) new left (inr t) (inl s) = absurd (s.0 (subst (λ n. n < 127) (same_restarts role) t.0))
  comes_alike (Restart role) new left (inr t) (inr s) =
      subst (λ k. WorldsAlike k left) (sym t.1)
      (subst (λ k. WorldsAlike (restarted_world u role) k) (sym s.1) (worlds_restarted u v alike role))
