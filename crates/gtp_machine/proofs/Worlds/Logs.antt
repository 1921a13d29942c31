-- The steps that the world keeps of each gateway, and that each create request acts once in them.
use Rattle.std.proofs.Common.{◌≡◌, ◌⊎◌, inl, inr, ⊎_elim, ℕ, ◌+◌, ◌%◌, true, List, [], ◌∷◌, ◌++◌, refl, sym, ◌∙◌, ap, subst, append_assoc, append-nil, arith}
use Rattle.gtp_values.specs.FiniteMap.{Among}
use Rattle.gtp_machine.specs.Config.{Addresses, Config}
use Rattle.gtp_machine.specs.Message.{Message, Create_session_request, Create_session_response, Create_bearer_request}
use Rattle.gtp_machine.specs.Node.{Role, Serving, Packet, Arrival, Node, fresh_node}
use Rattle.gtp_machine.specs.Input.{Move, Input, Control_came, Moves_on, Control_message, Out, Effect}
use Rattle.gtp_machine.specs.Tick.{TickStep, ticked}
use Rattle.gtp_machine.specs.Step.{Step, Done, Steps, tick_steps}
use Rattle.gtp_machine.specs.Once.{Makes, TookRequest}
use Rattle.gtp_machine.specs.World.{World, Side, Note, Event, first_came, second_came, note_of_both, Run, side_of, with_side, steps_of, with_steps}
use Rattle.gtp_machine.specs.World.{logged, stepped, moved, noted, marked_late, restarted, begun, start}
use Rattle.gtp_machine.specs.Laws.{Always, StepsAreKept, EachRequestActsOnce}
use Rattle.gtp_machine.proofs.Basics.FiniteMaps.{Among-left, Among-right, Among-one_more}
use Rattle.gtp_machine.proofs.Requests.ActsOnce.{acts_once_from, acts_once_in_time}
use Rattle.gtp_machine.proofs.Worlds.Ticking.{side_twice, side_nothing, move_quiet}
use Rattle.gtp_machine.proofs.Exchange.Held.{move_config}
use Rattle.gtp_machine.proofs.Worlds.Runs as run
use Rattle.gtp_machine.proofs.Worlds.Runs.{IsMarked, lesser_marked, brings_marked, first_carried, after_first, second_carried, second_marked}
use Rattle.gtp_machine.proofs.Worlds.Coming.{both_steps, Walks}
use Rattle.gtp_machine.proofs.Basics.Kinds.{creates}

-- a request that makes a context
makes_creates : (role : Role) (m : Message) → Makes role m → creates role m ≡ true
makes_creates Serving (Create_bearer_request r) makes = refl
makes_creates Packet (Create_session_request q) makes = refl
makes_creates role m makes = absurd makes

-- a list that ends with x has y at a place: the last one, or one before it
not_empty : {X : Type 0} (front back : List X) (y : X) → [] ≡ front ++ (y ∷ back) → ⊥
not_empty [] back y e = absurd (cc e)
not_empty (z ∷ front) back y e = absurd (cc e)

last_split : {X : Type 0} (xs front back : List X) (x y : X) → xs ++ (x ∷ []) ≡ front ++ (y ∷ back) → ((xs ≡ front) × (x ≡ y)) ⊎ ((rest : List X) × (xs ≡ front ++ (y ∷ rest)))
last_split [] [] back x y e = inl (refl, cc e)
last_split [] (z ∷ front) back x y e = absurd (not_empty front back y (cc e))
last_split (z ∷ xs) [] back x y e = let same : z ≡ y = cc e in inr (xs, ap (λ k. k ∷ xs) same)
last_split (z ∷ xs) (v ∷ front) back x y e =
    let same : z ≡ v = cc e in
    let rest : xs ++ (x ∷ []) ≡ front ++ (y ∷ back) = cc e in
    ⊎_elim (λ is. inl ((λ i. same i ∷ is.0 i), is.1)) (λ was. inr (was.0, (λ i. same i ∷ was.1 i))) (last_split xs front back x y rest)

steps_push : (role : Role) (old : Node) (steps : List Done) (mid : Node) (done : Done) → Steps role old steps mid → done.before ≡ mid
    → Step role mid done.input done.effect → Steps role old (steps ++ (done ∷ [])) done.effect.node
steps_push role old [] mid done is before step = (before ∙ is, subst (λ node. Step role node done.input done.effect) is step, refl)
steps_push role old (first ∷ steps) mid done s before step = (s.0, s.1, steps_push role first.effect.node steps mid done s.2 before step)

-- what holds of the steps that are kept of a gateway: they lead from its start to it, as it is configured, what they gave up is known to the world, and what came
-- late is marked
pub record AreStepsOf (role : Role) (side : Side) (steps : List Done) : Type 0 where
  pub config : Config
  pub same : side.node.config ≡ config
  pub reach : Steps role (fresh_node config ((side.first + side.restarts) % 256)) steps side.node
  pub forgets : (done : Done) (a : Arrival) → Among done steps → Among a done.effect.out.forgot → Among a side.forgotten
  pub late : (front back : List Done) (done earlier : Done) (request : Arrival) (message : Message) → creates role message ≡ true
      → steps ≡ front ++ (done ∷ back) → TookRequest done request message → Among earlier front → Among request earlier.effect.out.forgot
      → Among request side.late_requests

pushed : (role : Role) (side : Side) (steps : List Done) → AreStepsOf role side steps → (done : Done) → done.before ≡ side.node
    → done.effect.node.config ≡ side.node.config → Step role side.node done.input done.effect
    → ((a : Arrival) (m : Message) → creates role m ≡ true → done.input ≡ Control_came a (Control_message m) → Among a side.forgotten
    → Among a side.late_requests) → AreStepsOf role (stepped side done.effect) (steps ++ (done ∷ []))
pushed role side steps are done before stays step marked = record {
  config = are.config;
  same = stays ∙ are.same;
  reach = steps_push role _ steps side.node done are.reach before step;
  forgets =
      λ d a among gone. ⊎_elim (λ was. Among-left a side.forgotten done.effect.out.forgot (are.forgets d a was gone))
      (λ is. Among-right a side.forgotten done.effect.out.forgot (subst (λ (k : Done). Among a k.effect.out.forgot) is gone))
      (Among-one_more d done steps among);
  late = λ front back d earlier request message create split takes among gone. ⊎_elim
      (λ is. marked request message create (subst (λ (k : Done). TookRequest k request message) (sym is.1) takes) (are.forgets earlier request (subst (λ k. Among earlier k) (sym is.0) among) gone))
      (λ was. are.late front was.0 d earlier request message create was.1 takes among gone)
      (last_split steps front back done d split);
}

-- one more late delivery
with_late : (role : Role) (side : Side) (steps : List Done) (a : Arrival) → AreStepsOf role side steps → AreStepsOf role (record side { late_requests = a ∷ side.late_requests }) steps
with_late role side steps a are =
    record {
      config = are.config;
      same = are.same;
      reach = are.reach;
      forgets = are.forgets;
      late = λ front back d earlier request message create split takes among gone.
          inr (are.late front back d earlier request message create split takes among gone);
    }

fresh_steps : (role : Role) (side : Side) → AreStepsOf role (restarted side) []
fresh_steps role side =
    record {
      config = side.node.config;
      same = refl;
      reach = refl;
      forgets = λ d a none. absurd none;
      late = λ front back d earlier request message create split. absurd (not_empty front back d split);
    }

begun_steps : (role : Role) (config : Config) (first : ℕ) → AreStepsOf role (begun config first) []
begun_steps role config first =
    record {
      config = config;
      same = refl;
      reach = ap (λ n. fresh_node config (n % 256)) from;
      forgets = λ d a none. absurd none;
      late = λ front back d earlier request message create split. absurd (not_empty front back d split);
    }
  where
    from : first ≡ first + 0
    from = omega arith

-- a tick, move by move
ticked_steps : (role : Role) (side : Side) (steps : List Done) → AreStepsOf role side steps
    → (moves : List Move) (out : Out) (after : Node) (tick : TickStep side.node moves out after)
    → AreStepsOf role (stepped side (ticked out after)) (steps ++ tick_steps side.node moves out after tick)
ticked_steps role side steps are [] out after tick =
    subst (λ k. AreStepsOf role k (steps ++ [])) (sym ((λ i. stepped side (ticked (tick.0 i) (tick.1 i))) ∙ side_nothing side)) (subst (λ k. AreStepsOf role side k) (sym (append-nil steps)) are)
ticked_steps role side steps are (move ∷ moves) out after (e, rest, step, others, is) =
    let done : Done = record { before = side.node; input = Moves_on move; effect = e } in
    let first = pushed role side steps are done refl (move_config side.node move e step) step (λ a m create came. absurd (cc came)) in
    let both = ticked_steps role (stepped side e) (steps ++ (done ∷ [])) first moves rest after others in
    subst (λ k. AreStepsOf role k (steps ++ (done ∷ tick_steps e.node moves rest after others)))
    (side_twice side e rest after (move_quiet side.node move e step) ∙ ap (λ o. stepped side (ticked o after)) (sym is))
    (subst (λ k. AreStepsOf role (stepped (stepped side e) (ticked rest after)) k) (append_assoc steps (done ∷ []) (tick_steps e.node moves rest after others)) both)

-- what holds of both gateways
abbrev EachSteps : World → Type 0
EachSteps w = (role : Role) → AreStepsOf role (side_of w role) (steps_of w role)

noted_steps : (w : World) (note : Note) → EachSteps w → EachSteps (noted w note)
noted_steps w note each Serving = each Serving
noted_steps w note each Packet = each Packet

late_steps : (w : World) (role : Role) (a : Arrival) → EachSteps w → EachSteps (marked_late w role a)
late_steps w Serving a each Serving = with_late Serving w.serving w.serving_steps a (each Serving)
late_steps w Serving a each Packet = each Packet
late_steps w Packet a each Serving = each Serving
late_steps w Packet a each Packet = with_late Packet w.packet w.packet_steps a (each Packet)

restarted_steps : (w : World) (role : Role) (note : Note) → EachSteps w → EachSteps (with_steps (noted (with_side w role (restarted (side_of w role))) note) role [])
restarted_steps w Serving note each Serving = fresh_steps Serving w.serving
restarted_steps w Serving note each Packet = each Packet
restarted_steps w Packet note each Serving = each Serving
restarted_steps w Packet note each Packet = fresh_steps Packet w.packet

tick_moves : (w : World) (role : Role) (moves : List Move) (out : Out) (after : Node) (tick : TickStep (side_of w role).node moves out after) (note : Note)
    → EachSteps w → EachSteps (logged (noted (moved w role (ticked out after)) note) role (tick_steps (side_of w role).node moves out after tick))
tick_moves w Serving moves out after tick note each Serving = ticked_steps Serving w.serving w.serving_steps (each Serving) moves out after tick
tick_moves w Serving moves out after tick note each Packet = each Packet
tick_moves w Packet moves out after tick note each Serving = each Serving
tick_moves w Packet moves out after tick note each Packet = ticked_steps Packet w.packet w.packet_steps (each Packet) moves out after tick

module _ (own : Addresses) where
  one_step : (w : World) (role : Role) (input : Input) (e : Effect) (note : Note) → EachSteps w → IsMarked role (side_of w role) input → e.node.config ≡ (side_of w role).node.config
      → Step role (side_of w role).node input e → EachSteps (logged (noted (moved w role e) note) role (record { before = (side_of w role).node; input = input; effect = e } ∷ []))
  one_step w Serving input e note each marked stays step Serving =
      pushed Serving w.serving w.serving_steps (each Serving) (record { before = w.serving.node; input = input; effect = e }) refl stays step marked
  one_step w Serving input e note each marked stays step Packet = each Packet
  one_step w Packet input e note each marked stays step Serving = each Serving
  one_step w Packet input e note each marked stays step Packet =
      pushed Packet w.packet w.packet_steps (each Packet) (record { before = w.packet.node; input = input; effect = e }) refl stays step marked

  -- two steps of one delivery
  two_steps : (w : World) (first second : Input) (e next : Effect) (note : Note) → EachSteps w → IsMarked Serving w.serving first → e.node.config ≡ w.serving.node.config
      → Step Serving w.serving.node first e → IsMarked Serving (stepped w.serving e) second → next.node.config ≡ e.node.config → Step Serving e.node second next
      → EachSteps (logged (noted (moved (moved w Serving e) Serving next) note) Serving (both_steps w.serving.node first second e next))
  two_steps w first second e next note each marked stays step marked_next stays_next follows Packet = each Packet
  two_steps w first second e next note each marked stays step marked_next stays_next follows Serving =
      let done : Done = record { before = w.serving.node; input = first; effect = e } in
      let after : Done = record { before = e.node; input = second; effect = next } in
      let once = pushed Serving w.serving w.serving_steps (each Serving) done refl stays step marked in
      subst (λ k. AreStepsOf Serving (stepped (stepped w.serving e) next) k) (append_assoc w.serving_steps (done ∷ []) (after ∷ []))
      (pushed Serving (stepped w.serving e) (w.serving_steps ++ (done ∷ [])) once after refl stays_next follows marked_next)

  walks : Walks (run.Invariant own) EachSteps
  walks = record {
    notes = noted_steps;
    late = λ w role request inv each. late_steps w role request each;
    restarts = λ w role note inv each few. restarted_steps w role note each;
    ticks = λ w role new inv each t. subst EachSteps (sym t.becomes) (tick_moves w role t.moves t.out t.after t.tick _ each);
    moves =
        λ w role input new inv each b m. subst EachSteps (sym m.becomes) (one_step w role input m.effect _ each (brings_marked w role input b)
        (run.config_stays own w inv role input m.effect (run.brings_carried own w inv role input b) m.step) m.step);
    pairs = λ w a r new inv each a_sent r_sent timely m.
        let first = first_came w.packet.node.config.own (Create_session_response a) in
        let second = second_came w.packet.node.config.own (Create_bearer_request r) in
        let still = after_first own w inv a r a_sent r_sent m.effect m.step in
        subst EachSteps (sym m.becomes)
        (two_steps w first second m.effect m.next (note_of_both m.effect m.next) each
        (lesser_marked Serving w.serving _ (Create_session_response a) refl)
        (run.config_stays own w inv Serving first m.effect (first_carried own w inv a r a_sent r_sent) m.step) m.step
        (second_marked own w inv a r a_sent r_sent m.effect m.step timely.marked)
        (run.config_stays own (moved w Serving m.effect) still Serving second m.next (second_carried own w inv a r a_sent r_sent m.effect m.step) m.follows) m.follows);
  }

start_steps : (serving packet : Config) (serving_counter packet_counter : ℕ) → EachSteps (start serving packet serving_counter packet_counter)
start_steps serving packet serving_counter packet_counter Serving = begun_steps Serving serving serving_counter
start_steps serving packet serving_counter packet_counter Packet = begun_steps Packet packet packet_counter

kept_in : (serving packet : Config) (serving_counter packet_counter : ℕ) (events : List Event) (w : World) → Run (start serving packet serving_counter packet_counter) events w → EachSteps w
kept_in serving packet sc pc = run.from_start serving packet sc pc EachSteps (walks packet.own) (start_steps serving packet sc pc)

pub always_kept : Always StepsAreKept
always_kept serving packet sc pc events w r role = let are = kept_in serving packet sc pc events w r role in
    subst (λ config. Steps role (fresh_node config (((side_of w role).first + (side_of w role).restarts) % 256)) (steps_of w role) (side_of w role).node) (sym are.same) are.reach

pub always_acts_once : Always EachRequestActsOnce
always_acts_once serving packet sc pc events w r role request message first second two makes first_takes second_takes cond =
    let are = kept_in serving packet sc pc events w r role in
    let steps = subst (λ k. Steps role (fresh_node are.config (((side_of w role).first + (side_of w role).restarts) % 256)) k (side_of w role).node) two.are are.reach in
    ⊎_elim
    (λ in_time. acts_once_in_time role request message first second (record {
      makes = makes;
      config = are.config;
      counter = ((side_of w role).first + (side_of w role).restarts) % 256;
      before = two.before;
      between = two.between;
      after = two.after;
      finish = (side_of w role).node;
      steps = steps;
      first_takes = first_takes;
      second_takes = second_takes;
      in_time = λ front back done m makes split takes earlier among gone. in_time (are.late front back done earlier request m (makes_creates role m makes) (two.are ∙ split) takes among gone);
    }))
    (λ kept.
    acts_once_from role request message first second are.config (((side_of w role).first + (side_of w role).restarts) % 256) two.before two.between
    two.after (side_of w role).node makes steps first_takes second_takes kept)
    cond
