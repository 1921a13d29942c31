-- A pair that was taken, as two steps of the machine.
use Rattle.std.proofs.Common.{◌≡◌, ◌⊎◌, inl, inr, ℕ, true, List, Option, Some, None, option_map, refl, sym, ◌∙◌, ap, subst, map}
use Rattle.gtp_values.specs.Counter.{age_of}
use Rattle.gtp_values.specs.declared.address.Endpoint.{Endpoint}
use Rattle.gtp_values.specs.declared.counter.Age.{Age}
use Rattle.gtp_values.specs.declared.counter.Age.TheVariants as ages
use Rattle.gtp_values.specs.declared.counter.Counter.{Counter}
use Rattle.gtp_machine.specs.declared.role.Role.{Role}
use Rattle.gtp_machine.specs.declared.role.Role.TheVariants.{Serving}
use Rattle.gtp_machine.specs.declared.outcome.DropReason.TheVariants.{OldCounter}
use Rattle.gtp_machine.specs.declared.outcome.Outcome.TheVariants.{Dropped, Opened}
use Rattle.gtp_machine.specs.Answer.{IsNew}
use Rattle.gtp_machine.specs.Input.{Came_to, Control_message, Control_came, Moves_on, Resend, nothing, dropped, Effect}
use Rattle.gtp_machine.specs.Message.{CreateSessionResponse, Message, Create_session_response, recovery_of, CreateBearerRequest, Create_bearer_request}
use Rattle.gtp_machine.specs.Node.{Arrival, Node}
use Rattle.gtp_machine.specs.Recovery.{Judges, Weighs, Hears, peer_restarted}
use Rattle.gtp_machine.specs.Serving.{CreateSessionAnswered}
use Rattle.gtp_machine.specs.Step.{Step as MachineStep, TakesBy}
use Rattle.gtp_machine.proofs.Basics.Finishing.{on_session_answered}
use Rattle.gtp_machine.proofs.Changes.Shrinking.{Shrunk-finished}
use Rattle.gtp_machine.proofs.Determined.Responses.{create_session_answered}
use Rattle.gtp_gateway.specs.declared.receive.restart_counter.Heard.{Heard}
use Rattle.gtp_gateway.specs.declared.receive.restart_counter.Heard.TheVariants as heards
use Rattle.gtp_machine.specs.declared.message_type.MessageType.TheVariants as types
use Rattle.gtp_gateway.specs.declared.receive.create_session_response.SessionResponse.{SessionResponse}
use Rattle.gtp_gateway.specs.declared.tables.opening.ResponseVerdict.{ResponseVerdict}
use Rattle.gtp_gateway.specs.receive.RestartCounter.{weighed_by, node_heard, IsEarlier, told_in, later_in, report_heard}
use Rattle.gtp_gateway.specs.receive.Allocations.{StepSendsOrOpens}
use Rattle.gtp_gateway.specs.receive.Piggybacked.{node_after_first, state_after_first, IsSecondTaken, EitherMayRunOut}
use Rattle.gtp_gateway.specs.Parts.{arrival_of, held_of}
use Rattle.gtp_machine.specs.MessageType.{takes_type, takes_message}
use Rattle.gtp_gateway.specs.receive.CreateSessionResponse.{SaysCreateSessionResponse, JudgesAnswer}
use Rattle.gtp_gateway.specs.tables.Opening.{outcome_by, effect_by}
use Rattle.gtp_gateway.specs.GatewayState.{GatewayState}
use Rattle.gtp_gateway.proofs.Allocations.{needs_by, message_needs}
use Rattle.gtp_gateway.proofs.Allocations as needing
use Rattle.gtp_gateway.proofs.Rows.{told, hears, hears_early, message_taken, told_node}
use Rattle.gtp_gateway.proofs.RestartCounters.{told_is, later_is}
use Rattle.gtp_reliable.specs.Held.{HeldPair}
use Rattle.gtp_v2.specs.Pair.{Announces}
use Rattle.gtp_machine.specs.Config.{Config}
use Rattle.gtp_gateway.specs.declared.step.ControlStep.{ControlStep}
use Rattle.gtp_gateway.specs.declared.receive.create_bearer_request.BearerRequest.{BearerRequest}
use Rattle.gtp_gateway.specs.receive.CreateBearerRequest.{SaysCreateBearer}
use Rattle.gtp_gateway.specs.receive.TwoMessages.{first_part}
use Rattle.gtp_gateway.specs.receive.Received.{second_comes, AreReceived, EitherSendsOrOpens, of_control}
use Rattle.gtp_gateway.specs.messages.Sent.{AreSent}
use Rattle.gtp_gateway.specs.messages.Spelled.{AreAnswered}
use Rattle.gtp_gateway.specs.receive.Taken.{plain_report, datagrams, made_for, followed_by}
use Rattle.gtp_gateway.proofs.BeforeSecond.{settled_config}
use Rattle.gtp_gateway.proofs.TwoMessages.{parts_of, announcing_new}

-- ---- what is told of the first message

pub record FirstTells (heard : Heard) (v : ResponseVerdict) (e : Effect) : Type 0 where
  pub outcome : Came_to (outcome_by v) ≡ e.outcome
  pub heard_is : option_map (λ (c : Counter). c.0) (told_in heard) ≡ e.out.heard
  pub later : option_map (λ (c : Counter). c.0) (later_in heard) ≡ e.out.learned
  pub all : e.out ≡ record nothing { heard = e.out.heard; learned = e.out.learned }

first_told : (recovery : Option Counter) (known : Option ℕ) (v : ResponseVerdict) (number : ℕ) (n : Node) → FirstTells (weighed_by recovery known) v (told recovery known (effect_by v number n))
first_told None known v number n = record { outcome = refl; heard_is = refl; later = refl; all = refl }
first_told (Some counter) known v number n = record { outcome = refl; heard_is = told_is known counter; later = later_is known counter; all = refl }

-- ---- whether its counter is of an earlier start

earlier_or_not : (h : Heard) → IsEarlier h ⊎ (IsEarlier h → ⊥)
earlier_or_not (heards.Earlier counter) = inl tt
earlier_or_not heard = inr (λ early. early)

earlier_changes_none : (h : Heard) (n : Node) → IsEarlier h → node_heard h n ≡ n
earlier_changes_none (heards.Earlier counter) n early = refl
earlier_changes_none heard n early = absurd early

-- ---- a response chooses nothing

answered_drawn : (a : CreateSessionResponse) (old : Node) (e : Effect) → CreateSessionAnswered a old e → e.node.drawn ≡ old.drawn
answered_drawn a old e =
    on_session_answered old e (λ outcome is. ap (λ (x : Effect). x.node.drawn) is) a
    (λ at outcome is. ap (λ (x : Effect). x.node.drawn) is ∙ (Shrunk-finished old a.number at.pending.session at.pending.bearer).drawn)
    (λ at fits accepts new both r. ap (λ (x : Effect). x.node.drawn) r.gives)

one_answered : (a : CreateSessionResponse) (old : Node) (e f : Effect) → CreateSessionAnswered a old e → CreateSessionAnswered a old f → e.node ≡ f.node
one_answered a old e f first second =
    ap (λ (x : Effect). x.node) ((create_session_answered {role = Serving} {first = old} {input = Moves_on (Resend 0)} old a e f first second).one (record {
      drawn = answered_drawn a old e first ∙ sym (answered_drawn a old f second);
      addresses = λ request reading is. absurd (cc is);
      identities = λ request reading is. absurd (cc is);
      numbers = λ command is. absurd (cc is);
      wanted = λ request reading is. absurd (cc is);
    }))

-- so none is chosen once its counter is heard
module _ (Takes : Node → Effect → Type 0) (one : (n : Node) (e f : Effect) → Takes n e → Takes n f → e.node ≡ f.node) (old : Node) (counter : ℕ) where
  one_judged : (age : Age) (e f : Effect) → Judges Takes old counter age e → Judges Takes old counter age f → e.node ≡ f.node
  one_judged ages.Same e f r s = one old e f r s
  one_judged ages.Later e f r s = one (peer_restarted old counter) e f r s
  one_judged ages.Earlier e f r s = ap (λ (x : Effect). x.node) (r ∙ sym s)

  one_weighed : (known : Option ℕ) (e f : Effect) → Weighs Takes old counter known e → Weighs Takes old counter known f → e.node ≡ f.node
  one_weighed None e f r s = one (record old { known = Some counter }) e f r s
  one_weighed (Some known) e f r s = one_judged (age_of known counter) e f r s

one_heard : (Takes : Node → Effect → Type 0) → ((n : Node) (e f : Effect) → Takes n e → Takes n f → e.node ≡ f.node)
    → (old : Node) (recovery : Option ℕ) (e f : Effect) → Hears Takes old recovery e → Hears Takes old recovery f → e.node ≡ f.node
one_heard Takes one old None e f r s = one old e f r s
one_heard Takes one old (Some counter) e f (x, weighs_x, is_x) (y, weighs_y, is_y) =
    ap (λ (k : Effect). k.node) is_x ∙ (one_weighed Takes one old counter old.known x y weighs_x weighs_y ∙ sym (ap (λ (k : Effect). k.node) is_y))

-- ---- its step

module _ (arrival : Arrival) (old : GatewayState) (serving : old.role ≡ Serving) (peer : arrival.source.ip ≡ old.node.config.peer.control)
    (fresh : IsNew old.node arrival) (a : CreateSessionResponse) (recovery : Option Counter)
    (counted : option_map (λ (c : Counter). c.0) recovery ≡ a.recovery)
    (r : SessionResponse) (v : ResponseVerdict) (j : JudgesAnswer r (weighed_by recovery old.node.known) old.node v) (says : SaysCreateSessionResponse r a) where
  abbrev message : Message
  message = Create_session_response a

  abbrev heard : Heard
  heard = weighed_by recovery old.node.known

  abbrev left : Node
  left = node_heard heard old.node

  abbrev pub first_effect : Effect
  first_effect = told recovery old.node.known (effect_by v a.number left)

  takes_it : takes_message old.role message ≡ true
  takes_it = ap (λ (k : Role). takes_message k message) serving

  has_it : takes_type old.role types.CreateSessionResponse ≡ true
  has_it = ap (λ (k : Role). takes_type k types.CreateSessionResponse) serving

  by_counter : IsEarlier heard ⊎ (IsEarlier heard → ⊥) → Hears (CreateSessionAnswered a) old.node (option_map (λ (c : Counter). c.0) recovery) first_effect
  by_counter (inr on) = hears (CreateSessionAnswered a) old.node recovery (effect_by v a.number left) on (j.judged on a says)
  by_counter (inl early) =
      let is : effect_by v a.number left ≡ dropped old.node OldCounter =
      ap (λ (w : ResponseVerdict). effect_by w a.number left) (j.early early)
      ∙ (λ i. record { out = nothing; outcome = Came_to (Dropped OldCounter); node = earlier_changes_none heard old.node early i }) in
      subst (λ (e : Effect). Hears (CreateSessionAnswered a) old.node (option_map (λ (c : Counter). c.0) recovery) (told recovery old.node.known e))
      (sym is) (hears_early (CreateSessionAnswered a) old.node recovery early)

  heard_first : Hears (TakesBy old.role arrival message) old.node (recovery_of message) first_effect
  heard_first =
      subst (λ (k : Role). Hears (TakesBy k arrival message) old.node (recovery_of message) first_effect) (sym serving)
      (subst (λ (o : Option ℕ). Hears (CreateSessionAnswered a) old.node o first_effect) counted (by_counter (earlier_or_not heard)))

  pub first_step : MachineStep old.role old.node (Control_came arrival (Control_message message)) first_effect
  first_step = message_taken old.role old.node arrival message first_effect peer fresh takes_it heard_first

  pub first_node : first_effect.node ≡ node_after_first heard v a.number old.node
  first_node = told_node recovery old.node.known (effect_by v a.number left)

  pub first_tells : FirstTells heard v first_effect
  first_tells = first_told recovery old.node.known v a.number left

  -- whatever step there is leaves this node
  pub one_first : (e : Effect) → MachineStep old.role old.node (Control_came arrival (Control_message message)) e → e.node ≡ first_effect.node
  one_first e step = by (subst (λ (k : Role). MachineStep k old.node (Control_came arrival (Control_message message)) e) serving step)
    where
      by : MachineStep Serving old.node (Control_came arrival (Control_message message)) e → e.node ≡ first_effect.node
      by (inl f) = absurd (f.0 peer)
      by (inr (from, inl repeats)) = absurd (fresh repeats.held repeats.stands repeats.same)
      by (inr (from, inr (none, inl f))) = absurd (f.0 refl)
      by (inr (from, inr (none, inr (takes, hears)))) =
          one_heard (CreateSessionAnswered a) (λ n x y. one_answered a n x y) old.node a.recovery e first_effect hears
          (subst (λ (o : Option ℕ). Hears (CreateSessionAnswered a) old.node o first_effect) counted (by_counter (earlier_or_not heard)))

  -- where a session is opened, it is so by whatever step
  pub first_needs : outcome_by v ≡ Opened → StepSendsOrOpens arrival (Control_message message) old
  first_needs opened =
      let on = λ (early : IsEarlier heard). (let is : Dropped OldCounter ≡ Opened = sym (ap outcome_by (j.early early)) ∙ opened in let never : ⊥ = cc is in never) in
      message_needs arrival old message recovery peer takes_it counted heard refl on
      (needs_by old.role arrival message left types.CreateSessionResponse types.CreateSessionResponse message has_it refl refl
      (needing.create_session_answered a left (effect_by v a.number left) (ap (λ o. Came_to o) opened) (j.judged on a says)))

-- ---- the step of both

module _ (source : Endpoint) (octets front back : List ℕ) (announced : Announces octets front back) (old : GatewayState)
    (serving : old.role ≡ Serving) (peer : source.ip ≡ old.node.config.peer.control) (pairs : List HeldPair)
    (held : old.node.held ≡ map held_of pairs) (kept : AreAnswered pairs)
    (a : CreateSessionResponse) (q : CreateBearerRequest) (recovery : Option Counter)
    (counted : option_map (λ (c : Counter). c.0) recovery ≡ a.recovery) (r : SessionResponse) (says : SaysCreateSessionResponse r a)
    (request : BearerRequest) (asks : SaysCreateBearer request q) (v : ResponseVerdict)
    (j : JudgesAnswer r (weighed_by recovery old.node.known) old.node v) where
  abbrev settled : GatewayState
  settled = state_after_first (weighed_by recovery old.node.known) v r.response.seq old

  fresh : IsNew old.node (arrival_of source (first_part octets))
  fresh = announcing_new (arrival_of source (first_part octets)) pairs old.node held kept (parts_of octets front back announced).told_in_first

  abbrev first : Effect
  first = first_effect (arrival_of source (first_part octets)) old serving peer fresh a recovery counted r v j says

  node_is : first.node ≡ settled.node
  node_is =
      first_node (arrival_of source (first_part octets)) old serving peer fresh a recovery counted r v j says
      ∙ (λ i. node_after_first (weighed_by recovery old.node.known) v (says.number i) old.node)

  -- the second message, at the node that the first leaves
  second_there : (n : Node) (e : Effect) → n ≡ settled.node
      → MachineStep old.role settled.node (Control_came (arrival_of source back) (Control_message (Create_bearer_request q))) e
      → MachineStep old.role n (second_comes (arrival_of source octets) q) e
  second_there n e same step =
      subst (λ (k : Node). MachineStep old.role k (second_comes (arrival_of source octets) q) e) (sym same)
      (subst (λ (o : List ℕ). MachineStep old.role settled.node (Control_came (arrival_of source o) (Control_message (Create_bearer_request q))) e)
      (sym (parts_of octets front back announced).second) step)

  pub pair_received : (given second : ControlStep) (new : GatewayState)
      → given ≡ followed_by (record { out = None; report = report_heard (weighed_by recovery old.node.known) (plain_report (outcome_by v)) }) second
      → (second.report.heard ≡ None) × (second.report.restart ≡ None)
      → IsSecondTaken (arrival_of source back) request settled second new → AreReceived (arrival_of source octets) a q old (of_control given) new
  pair_received given second new is unheard takes =
      let taken = takes q asks in
      let e = taken.effect in
      let t = taken.tells in
      let tells = first_tells (arrival_of source (first_part octets)) old serving peer fresh a recovery counted r v j says in
      let none : e.out.heard ≡ None = sym t.heard ∙ ap (option_map (λ (c : Counter). c.0)) unheard.0 in
      let unlearned : e.out.learned ≡ None = sym t.restart ∙ ap (option_map (λ (c : Counter). c.0)) unheard.1 in
      subst (λ (s : ControlStep). AreReceived (arrival_of source octets) a q old (of_control s) new) (sym is)
      (record {
        first = first;
        takes = first_step (arrival_of source (first_part octets)) old serving peer fresh a recovery counted r v j says;
        second = e;
        follows = second_there first.node e node_is taken.takes;
        tells = record {
          sent = subst (λ (c : Config). AreSent c (datagrams second.out) e.out.sent) (settled_config (weighed_by recovery old.node.known) v r.response.seq old.node) t.sent;
          outcome = tells.outcome;
          next = ap (λ o. Some o) t.outcome;
          heard = tells.heard_is;
          restart = tells.later;
          made = ap (λ (o : List ℕ). made_for (arrival_of source o) second.report.made) (parts_of octets front back announced).second ∙ t.made;
          accepted = refl;
          all_first = tells.all;
          all_second = t.all ∙ (λ i. record nothing { sent = e.out.sent; heard = none i; learned = unlearned i; made = e.out.made });
        };
        becomes = taken.becomes;
        role = taken.role;
      })

  pub pair_needs : EitherMayRunOut v (arrival_of source back) request settled → EitherSendsOrOpens (arrival_of source octets) a q old
  pair_needs (inl opened) one two first_is second_is = inl (first_needs (arrival_of source (first_part octets)) old serving peer fresh a recovery counted r v j says opened one first_is)
  pair_needs (inr needs) one two first_is second_is =
      let same : one.node ≡ settled.node = one_first (arrival_of source (first_part octets)) old serving peer fresh a recovery counted r v j says one first_is ∙ node_is in
      inr (needs q asks two (back_there one.node same second_is))
    where
      back_there : (n : Node) → n ≡ settled.node → MachineStep old.role n (second_comes (arrival_of source octets) q) two
          → MachineStep old.role settled.node (Control_came (arrival_of source back) (Control_message (Create_bearer_request q))) two
      back_there n same step =
          subst (λ (o : List ℕ). MachineStep old.role settled.node (Control_came (arrival_of source o) (Control_message (Create_bearer_request q))) two) (parts_of octets front back announced).second
          (subst (λ (k : Node). MachineStep old.role k (second_comes (arrival_of source octets) q) two) same step)
