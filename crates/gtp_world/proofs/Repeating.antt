-- A create request that is delivered again is answered with the same octets.
use Rattle.std.proofs.Common.{◌≡◌, ◌⊎◌, inl, inr, ⊎_elim, ℕ, List, [], ◌∷◌, ◌++◌, Some, refl, sym, ◌∙◌, ap, subst, append_assoc, append-nil, slice_get}
use Rattle.gtp_values.specs.FiniteMap.{Among}
use Rattle.gtp_machine.specs.Answer.{Repeats}
use Rattle.gtp_machine.specs.Config.{Addresses, own_end}
use Rattle.gtp_machine.specs.Input.{Move, Input, Commanded, Control_came, Control_message, Out, Effect, datagrams}
use Rattle.gtp_machine.specs.Laws.{Follow}
use Rattle.gtp_machine.specs.Message.{CreateSessionResponse, CreateBearerRequest, Message, Create_session_response, Create_bearer_request, Other_control, Control, plane_of}
use Rattle.gtp_machine.specs.Node.{Arrival, Node}
use Rattle.gtp_machine.specs.Once.{Makes, TookRequest, NeverForgets}
use Rattle.gtp_machine.specs.Reading.{control_reading, ControlReads, Both, datagram_reading, reading_of}
use Rattle.gtp_machine.specs.Spelling.{Datagram, datagram_plane, spelled, spelled_all, announcing, last_part}
use Rattle.gtp_machine.specs.Step.{Step, TakesPair, Done, tick_steps}
use Rattle.gtp_machine.specs.Tick.{TickStep, ticked}
use Rattle.gtp_machine.specs.World.{By, SentDatagram, World, Note, Event, Does, Tick, Deliver, Cut, Restart, Happens, ComesTo, Delivers, Moves}
use Rattle.gtp_machine.specs.World.{MovesTwice, TicksOn, Run, come_from, first_came, second_came, delivered_on, marked_late, logged, moved, noted}
use Rattle.gtp_machine.specs.World.{other, side_of, signed, steps_of}
use Rattle.gtp_machine.specs.declared.role.Role.{Role}
use Rattle.gtp_machine.specs.declared.role.Role.TheVariants.{Serving, Packet}
use Rattle.gtp_machine.proofs.Basics.Datagrams.{IsFew}
use Rattle.gtp_machine.proofs.Basics.FiniteMaps.{Among-left, Among-right, Among-cases, among_at}
use Rattle.gtp_machine.proofs.Exchange.Held.{HeldOfSent, not_announcing, always_held}
use Rattle.gtp_machine.proofs.Requests.Opening.{Trace, IsMute, opening, none_forgotten}
use Rattle.gtp_machine.proofs.Worlds.Coming.{by_few, ComesWhole, alone_comes, peer_comes}
use Rattle.gtp_machine.proofs.Worlds.Logs.{always_acts_once}
use Rattle.gtp_machine.proofs.Worlds.Runs.{always}
use Rattle.gtp_gateway.specs.Parts.{arrival_of}
use Rattle.gtp_gateway.specs.messages.Sent.{ReadsBackOn}
use Rattle.gtp_world.specs.Record.{WorldRecord}
use Rattle.gtp_world.specs.Last.{last_octets}
use Rattle.gtp_world.specs.Repeated.{HoldLast, IsSentBetween, NeverRestarts, IsAnsweredAgainAlike}
use Rattle.gtp_world.specs.Runs.{Setup, config_in, IsFor, AreFor, LeftByRun, Continues}
use Rattle.gtp_world.specs.Views.{as_it_came}
use Rattle.gtp_world.proofs.Configs.{set_up}
use Rattle.gtp_world.proofs.Cuts.{by_itself}
use Rattle.gtp_world.proofs.Going.{Goes, goes}
use Rattle.gtp_world.proofs.Lists.{Found, find}
use Rattle.gtp_world.proofs.Pairs.{second_alone, last_sent}
use Rattle.gtp_world.proofs.Running.{runs_on}
use Rattle.gtp_world.proofs.Standing.{gateway_stands}

-- ---- what a run adds

-- Of the gateway, the steps of the one are the first steps of the other, and of both, so it is with what was sent. The other has forgotten what the one has, and
-- what the steps forget that came between.
record HasGrown (role : Role) (old new : World) : Type 0 where
  pub steps : List Done
  pub sent : List SentDatagram
  pub steps_are : steps_of new role ≡ steps_of old role ++ steps
  pub adds : new.datagrams ≡ old.datagrams ++ sent
  pub forgets : (done : Done) (a : Arrival) → Among done steps → Among a done.effect.out.forgot → Among a (side_of new role).forgotten
  pub keeps : (a : Arrival) → Among a (side_of old role).forgotten → Among a (side_of new role).forgotten

nothing_grown : (role : Role) (old new : World) → steps_of new role ≡ steps_of old role → new.datagrams ≡ old.datagrams
    → (side_of new role).forgotten ≡ (side_of old role).forgotten → HasGrown role old new
nothing_grown role old new steps adds forgotten = record {
  steps = [];
  sent = [];
  steps_are = steps ∙ sym (append-nil (steps_of old role));
  adds = adds ∙ sym (append-nil old.datagrams);
  forgets = λ done a none gone. absurd none;
  keeps = λ a was. subst (λ k. Among a k) (sym forgotten) was;
}

-- a gateway has made some steps, which forget no more than is told
step_grown : (role mover : Role) (old : World) (e : Effect) (note : Note) (steps : List Done) (new : World)
    → new ≡ logged (noted (moved old mover e) note) mover steps
    → ((done : Done) (a : Arrival) → Among done steps → Among a done.effect.out.forgot → Among a e.out.forgot) → HasGrown role old new
step_grown Serving Serving old e note steps new is each = record {
  steps = steps;
  sent = _;
  steps_are = ap (λ (w : World). w.serving_steps) is;
  adds = ap (λ (w : World). w.datagrams) is;
  forgets = λ done a among gone. subst (λ (w : World). Among a w.serving.forgotten) (sym is) (Among-right a old.serving.forgotten e.out.forgot (each done a among gone));
  keeps = λ a was. subst (λ (w : World). Among a w.serving.forgotten) (sym is) (Among-left a old.serving.forgotten e.out.forgot was);
}
step_grown Packet Packet old e note steps new is each = record {
  steps = steps;
  sent = _;
  steps_are = ap (λ (w : World). w.packet_steps) is;
  adds = ap (λ (w : World). w.datagrams) is;
  forgets = λ done a among gone. subst (λ (w : World). Among a w.packet.forgotten) (sym is) (Among-right a old.packet.forgotten e.out.forgot (each done a among gone));
  keeps = λ a was. subst (λ (w : World). Among a w.packet.forgotten) (sym is) (Among-left a old.packet.forgotten e.out.forgot was);
}
step_grown Serving Packet old e note steps new is each = record {
  steps = [];
  sent = _;
  steps_are = ap (λ (w : World). w.serving_steps) is ∙ sym (append-nil old.serving_steps);
  adds = ap (λ (w : World). w.datagrams) is;
  forgets = λ done a none gone. absurd none;
  keeps = λ a was. subst (λ (w : World). Among a w.serving.forgotten) (sym is) was;
}
step_grown Packet Serving old e note steps new is each = record {
  steps = [];
  sent = _;
  steps_are = ap (λ (w : World). w.packet_steps) is ∙ sym (append-nil old.packet_steps);
  adds = ap (λ (w : World). w.datagrams) is;
  forgets = λ done a none gone. absurd none;
  keeps = λ a was. subst (λ (w : World). Among a w.packet.forgotten) (sym is) was;
}

moves_grown : (role mover : Role) (old : World) (input : Input) (new : World) → Moves old mover input new → HasGrown role old new
moves_grown role mover old input new m = step_grown role mover old m.effect _ _ new m.becomes (λ done a among gone. one_step done a among gone)
  where
    one_step : (done : Done) (a : Arrival) → Among done (record { before = (side_of old mover).node; input = input; effect = m.effect } ∷ [])
        → Among a done.effect.out.forgot → Among a m.effect.out.forgot
    one_step done a (inl is) gone = subst (λ (d : Done). Among a d.effect.out.forgot) is gone
    one_step done a (inr none) gone = absurd none

-- a gateway has made two steps of one delivery
both_grown : (role mover : Role) (old : World) (e next : Effect) (note : Note) (steps : List Done) (new : World)
    → new ≡ logged (noted (moved (moved old mover e) mover next) note) mover steps
    → ((done : Done) (a : Arrival) → Among done steps → Among a done.effect.out.forgot → Among a e.out.forgot ⊎ Among a next.out.forgot)
    → HasGrown role old new
both_grown Serving Serving old e next note steps new is each = record {
  steps = steps;
  sent = _;
  steps_are = ap (λ (w : World). w.serving_steps) is;
  adds = ap (λ (w : World). w.datagrams) is ∙ append_assoc old.datagrams _ _;
  forgets =
      λ done a among gone. subst (λ (w : World). Among a w.serving.forgotten) (sym is)
      (⊎_elim (λ was. Among-left a (old.serving.forgotten ++ e.out.forgot) next.out.forgot (Among-right a old.serving.forgotten e.out.forgot was))
      (λ now. Among-right a (old.serving.forgotten ++ e.out.forgot) next.out.forgot now) (each done a among gone));
  keeps =
      λ a was. subst (λ (w : World). Among a w.serving.forgotten) (sym is)
      (Among-left a (old.serving.forgotten ++ e.out.forgot) next.out.forgot (Among-left a old.serving.forgotten e.out.forgot was));
}
both_grown Packet Packet old e next note steps new is each = record {
  steps = steps;
  sent = _;
  steps_are = ap (λ (w : World). w.packet_steps) is;
  adds = ap (λ (w : World). w.datagrams) is ∙ append_assoc old.datagrams _ _;
  forgets =
      λ done a among gone. subst (λ (w : World). Among a w.packet.forgotten) (sym is)
      (⊎_elim (λ was. Among-left a (old.packet.forgotten ++ e.out.forgot) next.out.forgot (Among-right a old.packet.forgotten e.out.forgot was))
      (λ now. Among-right a (old.packet.forgotten ++ e.out.forgot) next.out.forgot now) (each done a among gone));
  keeps =
      λ a was. subst (λ (w : World). Among a w.packet.forgotten) (sym is)
      (Among-left a (old.packet.forgotten ++ e.out.forgot) next.out.forgot (Among-left a old.packet.forgotten e.out.forgot was));
}
both_grown Serving Packet old e next note steps new is each = record {
  steps = [];
  sent = _;
  steps_are = ap (λ (w : World). w.serving_steps) is ∙ sym (append-nil old.serving_steps);
  adds = ap (λ (w : World). w.datagrams) is ∙ append_assoc old.datagrams _ _;
  forgets = λ done a none gone. absurd none;
  keeps = λ a was. subst (λ (w : World). Among a w.serving.forgotten) (sym is) was;
}
both_grown Packet Serving old e next note steps new is each = record {
  steps = [];
  sent = _;
  steps_are = ap (λ (w : World). w.packet_steps) is ∙ sym (append-nil old.packet_steps);
  adds = ap (λ (w : World). w.datagrams) is ∙ append_assoc old.datagrams _ _;
  forgets = λ done a none gone. absurd none;
  keeps = λ a was. subst (λ (w : World). Among a w.packet.forgotten) (sym is) was;
}

twice_grown : (role mover : Role) (old : World) (first second : Input) (new : World) → MovesTwice old mover first second new → HasGrown role old new
twice_grown role mover old first second new m = both_grown role mover old m.effect m.next _ _ new m.becomes (λ done a among gone. two_steps done a among gone)
  where
    two_steps : (done : Done) (a : Arrival) → Among done (record { before = (side_of old mover).node; input = first; effect = m.effect } ∷ record
        { before = m.effect.node; input = second; effect = m.next } ∷ []) → Among a done.effect.out.forgot
        → Among a m.effect.out.forgot ⊎ Among a m.next.out.forgot
    two_steps done a (inl is) gone = inl (subst (λ (d : Done). Among a d.effect.out.forgot) is gone)
    two_steps done a (inr (inl is)) gone = inr (subst (λ (d : Done). Among a d.effect.out.forgot) is gone)
    two_steps done a (inr (inr none)) gone = absurd none

comes_grown : (role receiver : Role) (from : Addresses) (datagram : List Message) (old new : World) → ComesTo old receiver from datagram new → HasGrown role old new
comes_grown role receiver from datagram old new (inl whole) = moves_grown role receiver old _ new whole.1
comes_grown role receiver from datagram old new (inr pair) = twice_grown role receiver old _ _ new pair.1

-- what a step of a tick forgets, the tick forgets
tick_forgets : (moves : List Move) (old : Node) (out : Out) (new : Node) (tick : TickStep old moves out new) (done : Done) (a : Arrival)
    → Among done (tick_steps old moves out new tick) → Among a done.effect.out.forgot → Among a out.forgot
tick_forgets [] old out new tick done a none gone = absurd none
tick_forgets (move ∷ moves) old out new (e, rest, step, others, is) done a (inl same) gone =
    subst (λ (o : Out). Among a o.forgot) (sym is) (Among-left a e.out.forgot rest.forgot (subst (λ (d : Done). Among a d.effect.out.forgot) same gone))
tick_forgets (move ∷ moves) old out new (e, rest, step, others, is) done a (inr there) gone =
    subst (λ (o : Out). Among a o.forgot) (sym is) (Among-right a e.out.forgot rest.forgot (tick_forgets moves e.node rest new others done a there gone))

ticks_grown : (role mover : Role) (old new : World) → TicksOn old mover new → HasGrown role old new
ticks_grown role mover old new t = step_grown role mover old (ticked t.out t.after) _ _ new t.becomes (tick_forgets t.moves (side_of old mover).node t.out t.after t.tick)

same_steps : (w : World) (role receiver : Role) (a : Arrival) → steps_of (marked_late w receiver a) role ≡ steps_of w role
same_steps w Serving Serving a = refl
same_steps w Serving Packet a = refl
same_steps w Packet Serving a = refl
same_steps w Packet Packet a = refl

same_forgotten : (w : World) (role receiver : Role) (a : Arrival) → (side_of (marked_late w receiver a) role).forgotten ≡ (side_of w role).forgotten
same_forgotten w Serving Serving a = refl
same_forgotten w Serving Packet a = refl
same_forgotten w Packet Serving a = refl
same_forgotten w Packet Packet a = refl

same_datagrams : (w : World) (receiver : Role) (a : Arrival) → (marked_late w receiver a).datagrams ≡ w.datagrams
same_datagrams w Serving a = refl
same_datagrams w Packet a = refl

late_grown : (role receiver : Role) (a : Arrival) (old new : World) → HasGrown role (marked_late old receiver a) new → HasGrown role old new
late_grown role receiver a old new g = record {
  steps = g.steps;
  sent = g.sent;
  steps_are = g.steps_are ∙ ap (λ k. k ++ g.steps) (same_steps old role receiver a);
  adds = g.adds ∙ ap (λ k. k ++ g.sent) (same_datagrams old receiver a);
  forgets = g.forgets;
  keeps = λ b was. g.keeps b (subst (λ k. Among b k) (sym (same_forgotten old role receiver a)) was);
}

delivers_grown : (role sender : Role) (datagram : List Message) (old new : World) → Delivers old sender datagram new → HasGrown role old new
delivers_grown role sender datagram old new (inl d) = comes_grown role (other sender) _ datagram old new d.1
delivers_grown role sender datagram old new (inr d) = late_grown role (other sender) _ old new (comes_grown role (other sender) _ datagram _ new d.1)

-- what changes nothing, and is noted
noted_grown : (role : Role) (old new : World) (note : Note) → new ≡ noted old note → HasGrown role old new
noted_grown Serving old new note is = nothing_grown Serving old new (ap (λ (w : World). w.serving_steps) is) (ap (λ (w : World). w.datagrams) is) (ap (λ (w : World). w.serving.forgotten) is)
noted_grown Packet old new note is = nothing_grown Packet old new (ap (λ (w : World). w.packet_steps) is) (ap (λ (w : World). w.datagrams) is) (ap (λ (w : World). w.packet.forgotten) is)

happens_grown : (role : Role) (old : World) (event : Event) (new : World) → (event ≡ Restart role → ⊥) → Happens old event new → HasGrown role old new
happens_grown role old (Does mover command) new never m = moves_grown role mover old (Commanded command) new m
happens_grown role old (Tick mover) new never t = ticks_grown role mover old new t
happens_grown role old (Deliver number) new never (inl none) = noted_grown role old new _ none.1
happens_grown role old (Deliver number) new never (inr (found, d)) = delivers_grown role found.sent.role found.sent.what old new d
happens_grown role old (Cut number count) new never (inl none) = noted_grown role old new _ none.1
happens_grown role old (Cut number count) new never (inr (found, inl long)) = noted_grown role old new _ long.1
happens_grown role old (Cut number count) new never (inr (found, inr (short, c))) = moves_grown role (other found.sent.role) old _ new c
happens_grown role old (Restart mover) new never (inl used) = noted_grown role old new _ used.1
happens_grown Serving old (Restart Serving) new never (inr (few, is)) = absurd (never refl)
happens_grown Packet old (Restart Packet) new never (inr (few, is)) = absurd (never refl)
happens_grown Serving old (Restart Packet) new never (inr (few, is)) =
    nothing_grown Serving old new (ap (λ (w : World). w.serving_steps) is) (ap (λ (w : World). w.datagrams) is)
    (ap (λ (w : World). w.serving.forgotten) is)
happens_grown Packet old (Restart Serving) new never (inr (few, is)) =
    nothing_grown Packet old new (ap (λ (w : World). w.packet_steps) is) (ap (λ (w : World). w.datagrams) is)
    (ap (λ (w : World). w.packet.forgotten) is)

runs_grown : (role : Role) (old : World) (events : List Event) (new : World) → NeverRestarts role events → Run old events new → HasGrown role old new
runs_grown role old [] new never is = nothing_grown role old new (ap (λ (w : World). steps_of w role) is) (ap (λ (w : World). w.datagrams) is) (ap (λ (w : World). (side_of w role).forgotten) is)
runs_grown role old (event ∷ events) new never r =
    let one = happens_grown role old event r.0 (λ is. never (inl (sym is))) r.1 in
    let rest = runs_grown role r.0 events new (λ there. never (inr there)) r.2 in
    record {
      steps = one.steps ++ rest.steps;
      sent = one.sent ++ rest.sent;
      steps_are = rest.steps_are ∙ (ap (λ k. k ++ rest.steps) one.steps_are ∙ append_assoc (steps_of old role) one.steps rest.steps);
      adds = rest.adds ∙ (ap (λ k. k ++ rest.sent) one.adds ∙ append_assoc old.datagrams one.sent rest.sent);
      forgets = λ done a among gone. ⊎_elim (λ first. rest.keeps a (one.forgets done a first gone)) (λ later. rest.forgets done a later gone) (Among-cases done one.steps rest.steps among);
      keeps = λ a was. rest.keeps a (one.keeps a was);
    }

-- ---- what a delivery does

-- The receiver takes the request, which is the last message of the datagram, in the last of its steps; what this sends is all that is sent. The steps before it,
-- if there are any, give up no answer.
record IsTaken (old : World) (role : Role) (request : Arrival) (m : Message) (new : World) : Type 0 where
  pub front : List Done
  pub quiet : (done : Done) → Among done front → done.effect.out.forgot ≡ []
  pub done : Done
  pub takes : TookRequest done request m
  pub steps : steps_of new role ≡ steps_of old role ++ (front ++ (done ∷ []))
  pub adds : new.datagrams ≡ old.datagrams ++ signed role (datagrams done.effect.out.sent)

-- or the datagram is dropped, and nothing is sent
abbrev TakenOr : World → Role → Arrival → Message → World → Type 0
TakenOr old role request m new = IsTaken old role request m new ⊎ (new.datagrams ≡ old.datagrams)

-- a step of a move
record IsStep (old : World) (role : Role) (input : Input) (new : World) : Type 0 where
  pub done : Done
  pub took : done.input ≡ input
  pub steps : steps_of new role ≡ steps_of old role ++ (done ∷ [])
  pub adds : new.datagrams ≡ old.datagrams ++ signed role (datagrams done.effect.out.sent)

step_of : (old : World) (role : Role) (input : Input) (new : World) → Moves old role input new → IsStep old role input new
step_of old Serving input new m =
    record {
      done = record { before = old.serving.node; input = input; effect = m.effect };
      took = refl;
      steps = ap (λ (w : World). w.serving_steps) m.becomes;
      adds = ap (λ (w : World). w.datagrams) m.becomes;
    }
step_of old Packet input new m =
    record {
      done = record { before = old.packet.node; input = input; effect = m.effect };
      took = refl;
      steps = ap (λ (w : World). w.packet_steps) m.becomes;
      adds = ap (λ (w : World). w.datagrams) m.becomes;
    }

-- a datagram of one message comes
alone_taken : (old : World) (role : Role) (from : Addresses) (m : Message) (new : World) → plane_of m ≡ Control → ComesTo old role from (m ∷ []) new
    → IsTaken old role (come_from from (spelled m)) m new
alone_taken old role from m new control c =
    let step = step_of old role _ new (alone_comes old role from new m c) in
    record {
      front = [];
      quiet = λ done none. absurd none;
      done = step.done;
      takes = step.took ∙ ap (λ p. delivered_on p from (m ∷ [])) control;
      steps = step.steps;
      adds = step.adds;
    }

-- a pair comes that is not taken: it is not from the peer
whole_dropped : (old : World) (from : Addresses) (a : CreateSessionResponse) (r : CreateBearerRequest) (new : World)
    → (TakesPair Serving old.serving.node.config (come_from from (spelled_all (Create_session_response a ∷ Create_bearer_request r ∷ [])))
    (Both (Create_session_response a) (Create_bearer_request r)) → ⊥)
    → ComesWhole old Serving from a r new → new.datagrams ≡ old.datagrams
whole_dropped old from a r new none m = ap (λ (w : World). w.datagrams) m.becomes ∙ (ap (λ l. old.datagrams ++ signed Serving (datagrams l)) (silent m.step) ∙ append-nil old.datagrams)
  where
    silent : Step Serving old.serving.node
        (Control_came (come_from from (spelled_all (Create_session_response a ∷ Create_bearer_request r ∷ []))) (Control_message (Other_control 0)))
        m.effect → m.effect.out.sent ≡ []
    silent (inl f) = ap (λ (e : Effect). e.out.sent) f.1
    silent (inr (peer, rest)) = absurd (none (record { by = refl; peer = peer; answer = a; asked = r; is = refl }))

-- a pair comes that is taken: its first message sends nothing, and gives up no answer
apart_taken : (old : World) (from : Addresses) (a : CreateSessionResponse) (r : CreateBearerRequest) (new : World) → HeldOfSent old
    → MovesTwice old Serving (first_came from (Create_session_response a)) (second_came from (Create_bearer_request r)) new
    → IsTaken old Serving (come_from from (spelled (Create_bearer_request r))) (Create_bearer_request r) new
apart_taken old from a r new held m =
    record {
      front = first ∷ [];
      quiet = λ done among. quietly done among;
      done = record { before = m.effect.node; input = second_came from (Create_bearer_request r); effect = m.next };
      takes = refl;
      steps = ap (λ (w : World). w.serving_steps) m.becomes;
      adds =
          ap (λ (w : World). w.datagrams) m.becomes
          ∙ (ap (λ l. (old.datagrams ++ signed Serving (datagrams l)) ++ signed Serving (datagrams m.next.out.sent)) silent
          ∙ ap (λ l. l ++ signed Serving (datagrams m.next.out.sent)) (append-nil old.datagrams));
    }
  where
    lies : Arrival
    lies = come_from from (announcing (Create_session_response a))

    first : Done
    first = record { before = old.serving.node; input = first_came from (Create_session_response a); effect = m.effect }

    opens : IsMute old.serving.node m.effect ⊎ Repeats old.serving.node lies m.effect
    opens = opening lies a old.serving.node m.effect m.step

    silent : m.effect.out.sent ≡ []
    silent = ⊎_elim
        (λ mute. ap (λ (t : Trace). t.sent) mute)
        (λ again. let h = held Serving again.held again.stands in absurd (not_announcing h.message a h.control (ap (λ (k : Arrival). k.octets) (sym h.is ∙ again.same))))
        opens

    quietly : (done : Done) → Among done (first ∷ []) → done.effect.out.forgot ≡ []
    quietly done (inl is) = ap (λ (d : Done). d.effect.out.forgot) is ∙ none_forgotten old.serving.node lies m.effect opens
    quietly done (inr none) = absurd none

pair_taken : (old : World) (role : Role) (from : Addresses) (a : CreateSessionResponse) (r : CreateBearerRequest) (new : World) → role ≡ Serving
    → HeldOfSent old → ComesTo old role from (Create_session_response a ∷ Create_bearer_request r ∷ []) new
    → TakenOr old role (come_from from (spelled (Create_bearer_request r))) (Create_bearer_request r) new
pair_taken old Serving from a r new by held (inl (none, m)) = inr (whole_dropped old from a r new none m)
pair_taken old Serving from a r new by held (inr d) = inl (apart_taken old from a r new held (peer_comes old Serving from new a r refl d.0.peer (inr d)).moves)
pair_taken old Packet from a r new by held c = absurd (cc by)

-- the last message of a datagram of one or of a pair comes
few_taken : (old : World) (role : Role) (from : Addresses) (new : World) → HeldOfSent old → (datagram : List Message) → IsFew datagram → (m : Message)
    → datagram_plane datagram ≡ Control → HoldLast (reading_of datagram) m → Makes role m → ComesTo old role from datagram new
    → TakenOr old role (come_from from (last_part datagram)) m new
few_taken old role from new held =
    by_few (λ datagram.
    (m : Message) → datagram_plane datagram ≡ Control → HoldLast (reading_of datagram) m → Makes role m → ComesTo old role from datagram new
    → TakenOr old role (come_from from (last_part datagram)) m new)
    (λ n m control holds makes c. let same : n ≡ m = cc holds in inl (subst (λ k. IsTaken old role (come_from from (spelled n)) k new) same (alone_taken old role from n new control c)))
    (λ a r m control holds makes c. subst (λ k. TakenOr old role (come_from from (spelled (Create_bearer_request r))) k new) holds
    (pair_taken old role from a r new (serving_makes role r (subst (Makes role) (sym holds) makes)) held c))
  where
    serving_makes : (role : Role) (r : CreateBearerRequest) → Makes role (Create_bearer_request r) → role ≡ Serving
    serving_makes Serving r makes = refl
    serving_makes Packet r makes = absurd makes

still_held : (w : World) (role : Role) (a : Arrival) → HeldOfSent w → HeldOfSent (marked_late w role a)
still_held w Serving a held Serving = held Serving
still_held w Serving a held Packet = held Packet
still_held w Packet a held Serving = held Serving
still_held w Packet a held Packet = held Packet

late_taken : (old : World) (role : Role) (a : Arrival) (request : Arrival) (m : Message) (new : World) → TakenOr (marked_late old role a) role request m new → TakenOr old role request m new
late_taken old role a request m new (inl t) = inl (record {
  front = t.front;
  quiet = t.quiet;
  done = t.done;
  takes = t.takes;
  steps = t.steps ∙ ap (λ k. k ++ (t.front ++ (t.done ∷ []))) (same_steps old role role a);
  adds = t.adds ∙ ap (λ k. k ++ signed role (datagrams t.done.effect.out.sent)) (same_datagrams old role a);
})
late_taken old role a request m new (inr none) = inr (none ∙ same_datagrams old role a)

taken_by : (old : World) (s : SentDatagram) (new : World) (m : Message) → HeldOfSent old → IsFew s.what → datagram_plane s.what ≡ Control
    → HoldLast (reading_of s.what) m → Makes (other s.role) m → Delivers old s.role s.what new
    → TakenOr old (other s.role) (come_from (side_of old s.role).node.config.own (last_part s.what)) m new
taken_by old s new m held few control holds makes (inl d) = few_taken old (other s.role) _ new held s.what few m control holds makes d.1
taken_by old s new m held few control holds makes (inr d) =
    let a = come_from (side_of old s.role).node.config.own (last_part s.what) in
    late_taken old (other s.role) a _ m new (few_taken (marked_late old (other s.role) a) (other s.role) _ new (still_held old (other s.role) a held) s.what few m control holds makes d.1)

taken : (old : World) (number : ℕ) (s : SentDatagram) (new : World) (m : Message) → HeldOfSent old → IsFew s.what → datagram_plane s.what ≡ Control
    → HoldLast (reading_of s.what) m → Makes (other s.role) m → Happens old (Deliver number) new → slice_get old.datagrams number ≡ Some s
    → TakenOr old (other s.role) (come_from (side_of old s.role).node.config.own (last_part s.what)) m new
taken old number s new m held few control holds makes (inl none) is = absurd (none.0 (record { sent = s; is = is }))
taken old number s new m held few control holds makes (inr (found, d)) is =
    let same : found.sent ≡ s = cc (sym found.is ∙ is) in
    taken_by old s new m held few control holds makes (subst (λ k. Delivers old k.role k.what new) same d)

-- ---- what was sent, datagram by datagram

for_rest : (setup : Setup) (a : List (By Datagram)) (b : List SentDatagram) (c : List (By Datagram)) (d : List SentDatagram) → AreFor setup a b → AreFor setup (a ++ c) (b ++ d) → AreFor setup c d
for_rest setup [] [] c d are all = all
for_rest setup [] (s ∷ b) c d are all = absurd are
for_rest setup (x ∷ a) [] c d are all = absurd are
for_rest setup (x ∷ a) (s ∷ b) c d are all = for_rest setup a b c d are.1 all.1

-- the messages of one spell the octets
record IsSaid (d : By Datagram) (said : List (List Message)) : Type 0 where
  pub messages : List Message
  pub among : Among messages said
  pub octets : d.what.octets ≡ spelled_all messages

said_by : (setup : Setup) (role : Role) (sent : List (By Datagram)) (said : List (List Message)) (d : By Datagram) → AreFor setup sent (signed role said) → Among d sent → IsSaid d said
said_by setup role [] said d are none = absurd none
said_by setup role (x ∷ sent) [] d are among = absurd are
said_by setup role (x ∷ sent) (m ∷ said) d are (inl is) = record { messages = m; among = inl refl; octets = ap (λ (k : By Datagram). k.what.octets) is ∙ are.0.octets }
said_by setup role (x ∷ sent) (m ∷ said) d are (inr there) = let rest = said_by setup role sent said d are.1 there in record { messages = rest.messages; among = inr rest.among; octets = rest.octets }

sent_says : (setup : Setup) (old new : WorldRecord) (role : Role) (before after : List SentDatagram) (said : List (List Message)) (d : By Datagram)
    → AreFor setup old.log.datagrams before → AreFor setup new.log.datagrams after → after ≡ before ++ signed role said → IsSentBetween old new d
    → IsSaid d said
sent_says setup old new role before after said d are all is sent =
    said_by setup role sent.sent said d
    (for_rest setup old.log.datagrams before sent.sent (signed role said) are
    (subst (λ k. AreFor setup (old.log.datagrams ++ sent.sent) k) is (subst (λ k. AreFor setup k after) sent.are all)))
    sent.among

-- ---- the law

-- the last message of a datagram reads as itself
last_alone : (datagram : List Message) (m : Message) → IsFew datagram → ReadsBackOn Control datagram → HoldLast (reading_of datagram) m → ControlReads (last_part datagram) (Control_message m)
last_alone [] m few reads holds = absurd few
last_alone (n ∷ []) m few reads holds = let same : n ≡ m = cc holds in subst (λ k. ControlReads (spelled n) (Control_message k)) same (by_itself (spelled n) n reads.0)
last_alone (a ∷ b ∷ rest) m few reads holds = subst (λ k. ControlReads (spelled b) (Control_message k)) holds (second_alone a b rest reads)

-- which that is
last_of : (datagram : List Message) → IsFew datagram → (m : Message) × HoldLast (reading_of datagram) m
last_of [] few = absurd few
last_of (m ∷ []) few = (m, refl)
last_of (a ∷ b ∷ rest) few = (b, refl)

-- datagrams of whose last messages the octets are one hold one last message
same_last : (one two : List Message) (m : Message) → IsFew one → IsFew two → ReadsBackOn Control one → ReadsBackOn Control two → last_part one ≡ last_part two
    → HoldLast (reading_of one) m → HoldLast (reading_of two) m
same_last one two m few also reads too same holds =
    let l = last_of two also in
    let both : Control_message l.0 ≡ Control_message m = last_alone two l.0 also too l.1 ∙ (ap control_reading (sym same) ∙ sym (last_alone one m few reads holds)) in
    let is : l.0 ≡ m = cc both in
    subst (λ k. HoldLast (reading_of two) k) is l.1

-- a datagram of the control plane, by its messages
module _ (setup : Setup) (d : By Datagram) (s : SentDatagram) (for : IsFor setup d s) (control : d.what.plane ≡ Control) where
  on_control : datagram_plane s.what ≡ Control
  on_control = sym for.plane ∙ control

  reads_on : ReadsBackOn Control s.what
  reads_on = subst (λ p. ReadsBackOn p s.what) on_control for.reads

  last_is : last_octets d.what.octets ≡ last_part s.what
  last_is = ap last_octets for.octets ∙ last_sent s.what reads_on

  -- as its receiver keeps the last of them
  kept_as : (w : World) → (side_of w s.role).node.config ≡ config_in setup s.role → as_it_came d ≡ come_from (side_of w s.role).node.config.own (last_part s.what)
  kept_as w same =
      (λ i. arrival_of ((for.from ∙ ap (λ p. own_end (config_in setup s.role) p) on_control) i) (last_is i))
      ∙ ap (λ c. come_from c.own (last_part s.what)) (sym same)

-- steps, one after the other
in_order : (before front : List Done) (one : Done) (between back : List Done) (two : Done)
    → ((before ++ (front ++ (one ∷ []))) ++ between) ++ (back ++ (two ∷ [])) ≡ (before ++ front) ++ (one ∷ ((between ++ back) ++ (two ∷ [])))
in_order before front one between back two =
    append_assoc (before ++ (front ++ (one ∷ []))) between (back ++ (two ∷ []))
    ∙ (ap (λ k. k ++ (between ++ (back ++ (two ∷ [])))) (sym (append_assoc before front (one ∷ [])))
    ∙ (append_assoc (before ++ front) (one ∷ []) (between ++ (back ++ (two ∷ [])))
    ∙ ap (λ k. (before ++ front) ++ (one ∷ k)) (sym (append_assoc between back (two ∷ [])))))

-- where nothing was sent, no answer was
none_said : (setup : Setup) (old new : WorldRecord) (role : Role) (before after : List SentDatagram) (d : By Datagram) → AreFor setup old.log.datagrams before
    → AreFor setup new.log.datagrams after → after ≡ before → IsSentBetween old new d → ⊥
none_said setup old new role before after d are all is sent = (sent_says setup old new role before after [] d are all (is ∙ sym (append-nil before)) sent).among

pub answered_again : (first : WorldRecord) → IsAnsweredAgainAlike first
answered_again first setup events r number second_number between answered second again are found found_again repeats create timely never answer second_answer answer_sent second_sent =
    ⊎_elim
    (λ one. ⊎_elim (λ two. both_taken one two) (λ none.
    absurd (none_said setup second again (other g.sent.role) on.whole.world.datagrams end.world.datagrams second_answer on.whole.stands.datagrams
    end.stands.datagrams none second_sent)) second_taken)
    (λ none. absurd (none_said setup first answered (other f.sent.role) r.world.datagrams begin.world.datagrams answer r.stands.datagrams begin.stands.datagrams none answer_sent))
    first_taken
  where
    receiver : Role
    receiver = other found.sent.role

    request : Arrival
    request = as_it_came found.sent

    f : Found setup r.world.datagrams number found.sent
    f = find setup first.log.datagrams r.world.datagrams number found.sent r.stands.datagrams found.is

    begin : Goes setup events r.world (Deliver number) answered
    begin = goes setup events first r (Deliver number) answered are.comes

    on : Continues setup (events ++ (Deliver number ∷ [])) begin.world between second
    on = runs_on answered between second are.goes_on setup (events ++ (Deliver number ∷ [])) (record { world = begin.world; run = begin.run; stands = begin.stands })

    end : Goes setup ((events ++ (Deliver number ∷ [])) ++ between) on.whole.world (Deliver second_number) again
    end = goes setup ((events ++ (Deliver number ∷ [])) ++ between) second on.whole (Deliver second_number) again are.comes_again

    g : Found setup on.whole.world.datagrams second_number found_again.sent
    g = find setup second.log.datagrams on.whole.world.datagrams second_number found_again.sent on.whole.stands.datagrams found_again.is

    to_receiver : other f.sent.role ≡ receiver
    to_receiver = ap other (sym f.for.role)

    to_receiver_again : other g.sent.role ≡ receiver
    to_receiver_again = ap other (sym g.for.role ∙ repeats.role)

    control_again : found_again.sent.what.plane ≡ Control
    control_again = repeats.plane ∙ create.plane

    few : (events : List Event) (v : WorldRecord) (x : LeftByRun setup events v) (s : SentDatagram) (n : ℕ) → slice_get x.world.datagrams n ≡ Some s → IsFew s.what
    few events v x s n is = (always setup.serving.config setup.packet.config setup.serving_counter setup.packet_counter events x.world x.run).few s (among_at x.world.datagrams n s is)

    held : (events : List Event) (v : WorldRecord) (x : LeftByRun setup events v) → HeldOfSent x.world
    held events v x = always_held setup.serving.config setup.packet.config setup.serving_counter setup.packet_counter events x.world x.run

    holds : HoldLast (reading_of f.sent.what) create.request
    holds = subst (λ k. HoldLast k create.request) (sym (reads_on setup found.sent f.sent f.for create.plane).0) (subst (λ o. HoldLast (datagram_reading o) create.request) f.for.octets create.reads)

    same_octets : last_part f.sent.what ≡ last_part g.sent.what
    same_octets = sym (last_is setup found.sent f.sent f.for create.plane) ∙ (sym repeats.octets ∙ last_is setup found_again.sent g.sent g.for control_again)

    holds_again : HoldLast (reading_of g.sent.what) create.request
    holds_again =
        same_last f.sent.what g.sent.what create.request (few events first r f.sent number f.is) (few _ second on.whole g.sent second_number g.is)
        (reads_on setup found.sent f.sent f.for create.plane) (reads_on setup found_again.sent g.sent g.for control_again) same_octets holds

    first_taken : TakenOr r.world (other f.sent.role) (come_from (side_of r.world f.sent.role).node.config.own (last_part f.sent.what)) create.request begin.world
    first_taken =
        taken r.world number f.sent begin.world create.request (held events first r) (few events first r f.sent number f.is)
        (on_control setup found.sent f.sent f.for create.plane) holds (subst (λ k. Makes k create.request) (sym to_receiver) create.makes)
        begin.happens f.is

    second_taken : TakenOr on.whole.world (other g.sent.role) (come_from (side_of on.whole.world g.sent.role).node.config.own (last_part g.sent.what)) create.request end.world
    second_taken =
        taken on.whole.world second_number g.sent end.world create.request (held _ second on.whole) (few _ second on.whole g.sent second_number g.is)
        (on_control setup found_again.sent g.sent g.for control_again) holds_again
        (subst (λ k. Makes k create.request) (sym to_receiver_again) create.makes) end.happens g.is

    kept_same : as_it_came found_again.sent ≡ request
    kept_same = λ i. arrival_of (repeats.from i) (repeats.octets i)

    both_taken : IsTaken r.world (other f.sent.role) (come_from (side_of r.world f.sent.role).node.config.own (last_part f.sent.what)) create.request
        begin.world
        → IsTaken on.whole.world (other g.sent.role) (come_from (side_of on.whole.world g.sent.role).node.config.own (last_part g.sent.what))
        create.request end.world → answer.what.octets ≡ second_answer.what.octets
    both_taken one two =
        let grown = runs_grown receiver begin.world between on.whole.world never on.on in
        let steps = steps_of r.world receiver in
        let one_steps : steps_of begin.world receiver ≡ steps ++ (one.front ++ (one.done ∷ [])) =
        subst (λ k. steps_of begin.world k ≡ steps_of r.world k ++ (one.front ++ (one.done ∷ []))) to_receiver one.steps in
        let two_steps : steps_of end.world receiver ≡ steps_of on.whole.world receiver ++ (two.front ++ (two.done ∷ [])) =
        subst (λ k. steps_of end.world k ≡ steps_of on.whole.world k ++ (two.front ++ (two.done ∷ []))) to_receiver_again two.steps in
        let follow : Follow (steps_of end.world receiver) one.done two.done =
        record {
          before = steps ++ one.front;
          between = grown.steps ++ two.front;
          after = [];
          are = two_steps ∙ (ap (λ k. k ++ (two.front ++ (two.done ∷ []))) (grown.steps_are ∙ ap (λ k. k ++ grown.steps) one_steps) ∙ in_order steps one.front one.done grown.steps two.front two.done);
        } in
        let takes : TookRequest one.done request create.request =
        subst (λ k. TookRequest one.done k create.request) (sym (kept_as setup found.sent f.sent f.for create.plane r.world (set_up setup events r.world r.run f.sent.role))) one.takes in
        let takes_again : TookRequest two.done request create.request =
        subst (λ k. TookRequest two.done k create.request)
        (sym (kept_as setup found_again.sent g.sent g.for control_again on.whole.world (set_up setup _ on.whole.world on.whole.run g.sent.role))
        ∙ kept_same) two.takes in
        let kept : NeverForgets (grown.steps ++ two.front) request = λ done among gone. ⊎_elim
        (λ here. timely (create.plane, subst (λ k. Among request k) (sym (gateway_stands setup second on.whole.world on.whole.stands receiver).forgotten) (grown.forgets done request here gone)))
        (λ there. subst (Among request) (two.quiet done there) gone)
        (Among-cases done grown.steps two.front among) in
        let once =
        always_acts_once setup.serving.config setup.packet.config setup.serving_counter setup.packet_counter _ end.world end.run receiver request
        create.request one.done two.done follow create.makes takes takes_again (inr kept) in
        let one_says = sent_says setup first answered (other f.sent.role) r.world.datagrams begin.world.datagrams _ answer r.stands.datagrams begin.stands.datagrams one.adds answer_sent in
        let two_says =
        sent_says setup second again (other g.sent.role) on.whole.world.datagrams end.world.datagrams _ second_answer on.whole.stands.datagrams
        end.stands.datagrams two.adds second_sent in
        one_says.octets ∙ (ap spelled_all (once.one_answer one_says.messages two_says.messages one_says.among two_says.among) ∙ sym two_says.octets)
