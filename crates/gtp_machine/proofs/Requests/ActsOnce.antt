-- Until its answer is given up, a create request makes one context and has one answer.
use Rattle.std.proofs.Common.{◌≡◌, ◌⊎◌, inl, inr, ⊎_elim, ℕ, List, [], ◌∷◌, ◌++◌, Option, Some, None, refl, sym, ◌∙◌, ap, subst, append_assoc}
use Rattle.std.specs.FinMap.{get}
use Rattle.gtp_values.specs.FiniteMap.{Among}
use Rattle.gtp_machine.specs.Step.{TakesBy, Step, Done, Steps}
use Rattle.gtp_machine.specs.Config.{Config}
use Rattle.gtp_machine.specs.Message.{CreateSessionRequest, CreateBearerRequest, Message, Create_session_request, Create_bearer_request}
use Rattle.gtp_machine.specs.Node.{Role, Serving, Packet, Bearer, Arrival, Held, Node, fresh_node}
use Rattle.gtp_machine.specs.Input.{EventOutcome, Input, Commanded, Control_came, User_came, Moves_on, Control_message, Resend, Give_up, Forget, Effect, datagrams}
use Rattle.gtp_machine.specs.Recovery.{Hears, peer_restarted}
use Rattle.gtp_machine.specs.Move.{Forgets}
use Rattle.gtp_machine.specs.Answer.{making, Repeats, IsNew, TakesReading, ControlStep, answered}
use Rattle.gtp_machine.specs.Serving.{CreateBearerAsked, ServingTakes}
use Rattle.gtp_machine.specs.Config.{template_asked}
use Rattle.gtp_machine.proofs.Basics.Finishing.{quietly, on_bearer_asked, on_session_asked, on_hears, on_control, by_rule}
use Rattle.gtp_machine.proofs.Basics.Templates.{goes}
use Rattle.gtp_machine.specs.Packet.{session_cause, session_response, made_session, session_made, CreateSessionAsked, PacketTakes}
use Rattle.gtp_machine.specs.Once.{TookRequest, Makes, NeverForgets, SecondAddsNothing, ActsOnce, ActsOnceInTime, HeldUntilForgotten}
use Rattle.gtp_machine.specs.Determined.{OneAnswerPerRequest, ReachedHoldsOneAnswer}
use Rattle.gtp_machine.proofs.Basics.FiniteMaps.{Among-only, Among-left, Among-right, Among-last, Among-one_more}
use Rattle.gtp_machine.proofs.Changes.Shrinking.{Shrunk-finished, Shrinks-restart}
use Rattle.gtp_machine.proofs.Requests.Holding.{held_in, Keeps, Adds, command_held, user_held, control_held}
use Rattle.gtp_machine.proofs.Changes.Forgetting.{leaves}

-- what a step does with the answers that are held
pub record HeldStep (old : Node) (e : Effect) : Type 0 where
  pub stays : (h : Held) → Among h old.held → Among h e.node.held ⊎ Among h.request e.out.forgot
  pub once : OneAnswerPerRequest old → OneAnswerPerRequest e.node

keeps : (old : Node) (e : Effect) → Keeps old e → HeldStep old e
keeps old e same = record {
  stays = λ h was. inl (subst (Among h) (sym same) was);
  once = λ o. record { once = λ g h x y. o.once g h (subst (Among g) same x) (subst (Among h) same y) };
}

adds : (request : Arrival) (old : Node) (e : Effect) → IsNew old request → Adds request old e → HeldStep old e
adds request old e is_new a = record {
  stays = λ h was. inl (subst (Among h) (sym a.held) (Among-left h old.held _ was));
  once = λ o. record { once = λ g h x y. both o g h (subst (Among g) a.held x) (subst (Among h) a.held y) };
}
  where
    added : Held
    added = record { request = request; answer = a.answer }

    one_of : OneAnswerPerRequest old → (g h : Held) → Among g old.held ⊎ (g ≡ added) → Among h old.held ⊎ (h ≡ added) → g.request ≡ h.request → g.answer ≡ h.answer
    one_of o g h (inr g_is) (inr h_is) same = ap (λ (k : Held). k.answer) (g_is ∙ sym h_is)
    one_of o g h (inr g_is) (inl h_in) same = absurd (is_new h h_in (sym same ∙ ap (λ (k : Held). k.request) g_is))
    one_of o g h (inl g_in) (inr h_is) same = absurd (is_new g g_in (same ∙ ap (λ (k : Held). k.request) h_is))
    one_of o g h (inl g_in) (inl h_in) same = o.once g h g_in h_in same

    both : OneAnswerPerRequest old → (g h : Held) → Among g (old.held ++ (added ∷ [])) → Among h (old.held ++ (added ∷ [])) → g.request ≡ h.request → g.answer ≡ h.answer
    both o g h g_in h_in same = one_of o g h (Among-one_more g added old.held g_in) (Among-one_more h added old.held h_in) same

forgets : (request : Arrival) (old : Node) (e : Effect) → Forgets old request e → HeldStep old e
forgets request old e r = let l = leaves request old.held r.rest r.left in record {
  stays =
      λ h was. ⊎_elim (λ stays. inl (subst (Among h) (sym (ap held_in r.gives)) stays))
      (λ same. inr (subst (Among h.request) (sym (ap (λ (f : Effect). f.out.forgot) r.gives)) (inl same))) (l.others h was);
  once = λ o. record { once = λ g h x y. o.once g h (l.only g (subst (Among g) (ap held_in r.gives) x)) (l.only h (subst (Among h) (ap held_in r.gives) y)) };
}

step_held : (role : Role) (old : Node) (input : Input) (e : Effect) → Step role old input e → HeldStep old e
step_held role old (Commanded command) e r = keeps old e (command_held role command old e r)
step_held role old (Control_came request reading) e r = ⊎_elim (λ same. keeps old e same) (λ a. adds request old e a.0 a.1) (control_held role request reading old e r)
step_held role old (User_came source reading) e r = keeps old e (user_held role source reading old e r)
step_held role old (Moves_on (Resend number)) e r = keeps old e (ap held_in r.gives)
step_held role old (Moves_on (Give_up number)) e r = keeps old e (ap held_in r.gives ∙ (Shrunk-finished old number r.at.pending.session r.at.pending.bearer).held)
step_held role old (Moves_on (Forget request)) e r = forgets request old e r

reached_once : (role : Role) (old : Node) (log : List Done) (new : Node) → OneAnswerPerRequest old → Steps role old log new → OneAnswerPerRequest new
reached_once role old [] new o is = subst OneAnswerPerRequest (sym is) o
reached_once role old (d ∷ log) new o s = reached_once role d.effect.node log new ((step_held role old d.input d.effect s.1).once o) s.2

-- what is held stays until it is given up
held_through : (role : Role) (request : Arrival) (a : List Message) (old : Node) (log : List Done) (new : Node)
    → Among (record { request = request; answer = a }) old.held → NeverForgets log request → Steps role old log new
    → Among (record { request = request; answer = a }) new.held
held_through role request a old [] new held never is = subst (λ (n : Node). Among (record { request = request; answer = a }) n.held) (sym is) held
held_through role request a old (d ∷ log) new held never s =
    held_through role request a d.effect.node log new (⊎_elim (λ stays. stays) (λ gone. absurd (never d (inl refl) gone))
    ((step_held role old d.input d.effect s.1).stays (record { request = request; answer = a }) held)) (λ x among. never x (inr among)) s.2

-- the last of some steps
pub record Last (role : Role) (old : Node) (log : List Done) (done : Done) : Type 0 where
  pub mid : Node
  pub until : Steps role old log mid
  pub before : done.before ≡ mid
  pub step : Step role mid done.input done.effect

last_step : (role : Role) (old : Node) (log : List Done) (done : Done) (new : Node) → Steps role old (log ++ (done ∷ [])) new → Last role old log done
last_step role old [] done new s = record { mid = old; until = refl; before = s.0; step = s.1 }
last_step role old (d ∷ log) done new s =
    let l = last_step role d.effect.node log done new s.2 in
    record { mid = l.mid; until = (s.0, s.1, l.until); before = l.before; step = l.step }

-- nothing is sent, and no bearer comes
pub record IsQuiet (old : Node) (e : Effect) : Type 0 where
  pub silent : datagrams e.out.sent ≡ []
  pub none_comes : (key : ℕ) (b : Bearer) → get e.node.bearers key ≡ Some b → (x : Bearer) × (get old.bearers key ≡ Some x)

-- one datagram is sent, and is held as the answer
pub record IsAnswered (request : Arrival) (e : Effect) : Type 0 where
  pub answer : List Message
  pub sends : datagrams e.out.sent ≡ answer ∷ []
  pub held : Among (record { request = request; answer = answer }) e.node.held

abbrev Responds : Arrival → Node → Effect → Type 0
Responds request old e = IsQuiet old e ⊎ IsAnswered request e

quiet : (request : Arrival) (old : Node) (e : Effect) (outcome : EventOutcome) → e ≡ quietly old outcome → Responds request old e
quiet request old e outcome gives =
    inl (record {
      silent = ap (λ (f : Effect). datagrams f.out.sent) gives;
      none_comes = λ key b is. (b, ap (λ (f : Effect). get f.node.bearers key) (sym gives) ∙ is);
    })

made : (request : Arrival) (old : Node) (e : Effect) (m : List Message) (cause : ℕ) (new : Node) → e ≡ making request m cause new → Responds request old e
made request old e m cause new gives =
    inr (record {
      answer = m;
      sends = ap (λ (f : Effect). datagrams f.out.sent) gives;
      held = subst (λ (f : Effect). Among (record { request = request; answer = m }) f.node.held) (sym gives)
          (Among-last {X = Held} (record { request = request; answer = m }) new.held);
    })

gave : (request : Arrival) (old : Node) (e : Effect) (m : Message) (cause : ℕ) (new : Node) → e ≡ answered request m cause new → Responds request old e
gave request old e m cause new gives =
    inr (record {
      answer = m ∷ [];
      sends = ap (λ (f : Effect). datagrams f.out.sent) gives;
      held = subst (λ (f : Effect). Among (record { request = request; answer = m ∷ [] }) f.node.held) (sym gives)
          (Among-last {X = Held} (record { request = request; answer = m ∷ [] }) new.held);
    })

create_bearer_asked : (request : Arrival) (q : CreateBearerRequest) (old : Node) (e : Effect) → CreateBearerAsked request q old e → Responds request old e
create_bearer_asked request q old e r = on_bearer_asked old e (quiet request old e) request q (λ room x cause f. gave request old e _ _ _ f) (λ room at draws r. made request old e _ _ _ r.gives) r

create_session_asked : (request : Arrival) (q : CreateSessionRequest) (old : Node) (e : Effect) → CreateSessionAsked request q old e → Responds request old e
create_session_asked request q old e r =
    on_session_asked old e (quiet request old e) request q
    (λ room cause high f. gave request old e _ _ _ f)
    (λ room identity few draws r. ⊎_elim
    (λ alone. made request old e _ _ _ alone)
    (λ x. made request old e _ _ _ x.adds.gives)
    (goes request (session_response old q r.control r.user r.address) (session_cause q.pdn r.address) r.control (made_session q r.address)
    (session_made old q r.control r.user r.address) e (template_asked old.config q.access_point) r.gives))
    r

-- hearing the counter first makes no bearer
module _ (request : Arrival) (Takes : Node → Effect → Type 0) (takes : (old : Node) (e : Effect) → Takes old e → Responds request old e) where
  from_restart : (old : Node) (c : ℕ) (e : Effect) → Responds request (peer_restarted old c) e → Responds request old e
  from_restart old c e (inl q) =
      inl (record {
        silent = q.silent;
        none_comes = λ key b is. (let x = q.none_comes key b is in let was = (Shrinks-restart old c).bearers key x.0 x.1 in (was.before, was.stood));
      })
  from_restart old c e (inr a) = inr a

  from_first : (old : Node) (c : ℕ) (e : Effect) → Responds request (record old { known = Some c }) e → Responds request old e
  from_first old c e (inl q) = inl (record { silent = q.silent; none_comes = q.none_comes })
  from_first old c e (inr a) = inr a

  heard : (old : Node) (o : Option ℕ) (e : Effect) → Hears Takes old o e → Responds request old e
  heard old =
      on_hears (Responds request old) Takes old (takes old)
      (λ c e r. from_first old c e (takes (record old { known = Some c }) e r))
      (λ c e r. from_restart old c e (takes (peer_restarted old c) e r))
      (quiet request old)
      (λ taken heard learned. ⊎_elim
      (λ q. inl (record { silent = q.silent; none_comes = q.none_comes }))
      (λ a. inr (record { answer = a.answer; sends = a.sends; held = a.held })))

-- a repeat sends the answer that is held, and changes nothing
repeated : (request : Arrival) (old : Node) (e : Effect) → Repeats old request e → Responds request old e
repeated request old e r = inr (record {
  answer = r.held.answer;
  sends = ap (λ (f : Effect). datagrams f.out.sent) r.gives;
  held = subst (λ (f : Effect). Among (record { request = request; answer = r.held.answer }) f.node.held) (sym r.gives) (subst (λ h. Among h old.held) entry r.stands);
})
  where
    entry : ◌≡◌ {A = Held} r.held (record { request = request; answer = r.held.answer })
    entry = λ i. record { request = r.same i; answer = r.held.answer }

-- what a step on a create request does
on_request : (role : Role) (request : Arrival) (m : Message) → Makes role m → (old : Node) (e : Effect) → Step role old (Control_came request (Control_message m)) e → Responds request old e
on_request Serving request (Create_bearer_request q) makes old e r =
    on_control old e (quiet request old e) request (repeated request old e) (λ new. by_rule (quiet request old e _)
    (λ takes. heard request (ServingTakes request (Create_bearer_request q)) (create_bearer_asked request q) old None e)) r
on_request Packet request (Create_session_request q) makes old e r =
    on_control old e (quiet request old e) request (repeated request old e) (λ new. by_rule (quiet request old e _)
    (λ takes. heard request (PacketTakes request (Create_session_request q)) (create_session_asked request q) old q.recovery e)) r
on_request Serving request _ makes old e r = absurd makes
on_request Packet request _ makes old e r = absurd makes

only : (a b : List Message) (sent : List (List Message)) → sent ≡ b ∷ [] → Among a sent → a ≡ b
only a b sent is among = Among-only a b (subst (Among a) is among)

-- a request whose answer is held changes nothing, and gets that answer
pub record IsAgain (old : Node) (e : Effect) (a : List Message) : Type 0 where
  pub same : e.node ≡ old
  pub sends : (b : List Message) → Among b (datagrams e.out.sent) → b ≡ a

again : (Reads : Arrival → Node → Effect → Type 0) (request : Arrival) (a : List Message) (old : Node) (e : Effect) → OneAnswerPerRequest old
    → Among (record { request = request; answer = a }) old.held → ControlStep Reads request old e → IsAgain old e a
again Reads request a old e o held (inl f) = record { same = ap (λ (x : Effect). x.node) f.1; sends = λ b among. absurd (subst (Among b) (ap (λ (x : Effect). datagrams x.out.sent) f.1) among) }
again Reads request a old e o held (inr (peer, inl r)) = record {
  same = ap (λ (x : Effect). x.node) r.gives;
  sends =
      λ b among. only b r.held.answer (datagrams e.out.sent) (ap (λ (x : Effect). datagrams x.out.sent) r.gives) among
      ∙ o.once r.held (record { request = request; answer = a }) r.stands held r.same;
}
again Reads request a old e o held (inr (peer, inr r)) = absurd (r.0 (record { request = request; answer = a }) held refl)

step_again : (role : Role) (request : Arrival) (m : Message) (a : List Message) (old : Node) (e : Effect) → OneAnswerPerRequest old
    → Among (record { request = request; answer = a }) old.held → Step role old (Control_came request (Control_message m)) e → IsAgain old e a
step_again role request m = again (TakesReading role (TakesBy role) (Control_message m)) request

fresh_once : (config : Config) (counter : ℕ) → OneAnswerPerRequest (fresh_node config counter)
fresh_once config counter = record { once = λ g h none. absurd none }

pub reached_holds_once : ReachedHoldsOneAnswer
reached_holds_once role config counter log node steps = reached_once role (fresh_node config counter) log node (fresh_once config counter) steps

-- what is there is not absent
there_not : (o : Option Bearer) (b : Bearer) → o ≡ None → o ≡ Some b → ⊥
there_not o b none some = cc

pub acts_once : ActsOnce
acts_once role request message first second t = ⊎_elim quietly answered_so responds
  where
    first_before : first.before ≡ t.start
    first_before = t.steps.0

    first_step : Step role t.start (Control_came request (Control_message message)) first.effect
    first_step = subst (λ i. Step role t.start i first.effect) t.first_takes t.steps.1

    responds : Responds request t.start first.effect
    responds = on_request role request message t.makes t.start first.effect first_step

    l : Last role first.effect.node t.between second
    l = last_step role first.effect.node t.between second t.finish t.steps.2

    start_once : OneAnswerPerRequest t.start
    start_once = reached_once role (fresh_node t.config t.counter) t.before t.start (fresh_once t.config t.counter) t.reached

    mid_once : OneAnswerPerRequest l.mid
    mid_once = reached_once role first.effect.node t.between l.mid ((step_held role t.start first.input first.effect t.steps.1).once start_once) l.until

    quietly : IsQuiet t.start first.effect → SecondAddsNothing first second
    quietly q = record {
      one_context = λ x y. let was = q.none_comes x.key x.bearer x.comes in there_not (get t.start.bearers x.key) was.0 (ap (λ (n : Node). get n.bearers x.key) (sym first_before) ∙ x.none) was.1;
      one_answer = λ a b a_in b_in. absurd (subst (Among a) q.silent a_in);
    }

    answered_so : IsAnswered request first.effect → SecondAddsNothing first second
    answered_so is =
        let held = held_through role request is.answer first.effect.node t.between l.mid is.held t.kept l.until in
        let g = step_again role request message is.answer l.mid second.effect mid_once held (subst (λ i. Step role l.mid i second.effect) t.second_takes l.step) in
        record {
          one_context = λ x y. there_not (get second.before.bearers y.key) y.bearer y.none (ap (λ (n : Node). get n.bearers y.key) (l.before ∙ sym g.same) ∙ y.comes);
          one_answer = λ a b a_in b_in. only a is.answer (datagrams first.effect.out.sent) is.sends a_in ∙ sym (g.sends b b_in);
        }

-- some steps, and those after them
steps_after : (role : Role) (old : Node) (xs ys : List Done) (new : Node) → Steps role old (xs ++ ys) new → (mid : Node) × Steps role old xs mid × Steps role mid ys new
steps_after role old [] ys new s = (old, refl, s)
steps_after role old (d ∷ xs) ys new s =
    let r = steps_after role d.effect.node xs ys new s.2 in
    (r.0, (s.0, s.1, r.1), r.2)

-- the steps up to one of them
steps_until : (role : Role) (old : Node) (xs : List Done) (d : Done) (ys : List Done) (new : Node) → Steps role old (xs ++ (d ∷ ys)) new → (mid : Node) × Steps role old (xs ++ (d ∷ [])) mid
steps_until role old [] d ys new s = (d.effect.node, (s.0, s.1, refl))
steps_until role old (x ∷ xs) d ys new s =
    let r = steps_until role x.effect.node xs d ys new s.2 in
    (r.0, (s.0, s.1, r.1))

-- two steps of one start, with no giving up between them
pub acts_once_from : (role : Role) (request : Arrival) (message : Message) (first second : Done) (config : Config) (counter : ℕ) (before between after : List Done)
    (finish : Node) → Makes role message → Steps role (fresh_node config counter) (before ++ (first ∷ (between ++ (second ∷ after)))) finish
    → TookRequest first request message → TookRequest second request message → NeverForgets between request → SecondAddsNothing first second
acts_once_from role request message first second config counter before between after finish makes steps first_takes second_takes kept =
    let from = steps_after role (fresh_node config counter) before (first ∷ (between ++ (second ∷ after))) finish steps in
    let until = steps_until role first.effect.node between second after finish from.2.2 in
    acts_once role request message first second (record {
      makes = makes;
      config = config;
      counter = counter;
      before = before;
      between = between;
      start = from.0;
      finish = until.0;
      reached = from.1;
      steps = (from.2.0, from.2.1, until.1);
      first_takes = first_takes;
      second_takes = second_takes;
      kept = kept;
    })

pub acts_once_in_time : ActsOnceInTime
acts_once_in_time role request message first second t =
    let never = t.in_time (t.before ++ (first ∷ t.between)) t.after second message t.makes (sym (append_assoc t.before (first ∷ t.between) (second ∷ t.after))) t.second_takes in
    acts_once_from role request message first second t.config t.counter t.before t.between t.after t.finish t.makes t.steps t.first_takes
    t.second_takes (λ done among. never done (Among-right done t.before (first ∷ t.between) (inr among)))

pub held_until_forgotten : HeldUntilForgotten
held_until_forgotten role old input e r = (step_held role old input e r).stays
