-- What a command or a datagram comes to at a gateway, as it is kept.
use Rattle.std.proofs.Common.{◌≡◌, inl, inr, ℕ, Bool, true, false, List, [], ◌∷◌, ◌++◌, map, Option, Some, None, option_map, option_to_list, refl, sym, ◌∙◌, ap, subst, append-nil}
use Rattle.std.specs.Prelude.{IsSome}
use Rattle.std.proofs.lemmas.List.{map-append}
use Rattle.gtp_values.specs.declared.counter.Counter.{Counter}
use Rattle.gtp_values.specs.declared.address.Endpoint.{Endpoint}
use Rattle.gtp_machine.specs.declared.role.Role.{Role}
use Rattle.gtp_machine.specs.Command.{CommandStep}
use Rattle.gtp_machine.specs.Input.{Command, Create_session, Delete_session, Create_bearer, Delete_bearer, Release_session, Mark_end, Send_echo}
use Rattle.gtp_machine.specs.Input.{Send_user, Commanded, Effect, Entry, Out, nothing, refused}
use Rattle.gtp_machine.specs.Message.{CreateSessionResponse, CreateBearerRequest, Plane, Control, User}
use Rattle.gtp_machine.specs.Node.{Arrival, Node}
use Rattle.gtp_machine.specs.Spelling.{Datagram, datagram_of}
use Rattle.gtp_machine.specs.World.{By, EventOutcome, Came_to, signed, outcome_in}
use Rattle.gtp_machine.specs.declared.outcome.Outcome.{Outcome}
use Rattle.gtp_machine.specs.declared.outcome.Outcome.TheVariants.{Begun as Asked, Refused, GoneOut}
use Rattle.gtp_machine.specs.declared.outcome.Refusal.{Refusal}
use Rattle.gtp_gateway.specs.command.Command.{IsCarriedOut, SendsRequestNext, IsTimed, outcome_by}
use Rattle.gtp_gateway.specs.receive.Choosing.{ChoosesLowest}
use Rattle.gtp_gateway.specs.receive.Queues.{QueuesAfterMessage}
use Rattle.gtp_gateway.specs.receive.TwoMessages.{second_arrival}
use Rattle.gtp_gateway.specs.Parts.{arrival_of}
use Rattle.gtp_gateway.specs.receive.Received.{IsReceivedOnce, AreReceived, IsReceived, QueuesAfterReceive, coming}
use Rattle.gtp_gateway.specs.messages.Sent.{datagram_by}
use Rattle.gtp_gateway.specs.GatewayState.{GatewayState}
use Rattle.gtp_gateway.specs.receive.Taken.{made_for}
use Rattle.gtp_gateway.specs.user.Receive.{AreEntries}
use Rattle.gtp_gateway.specs.declared.sent.Begun.{Begun}
use Rattle.gtp_gateway.specs.declared.step.Step.{Step}
use Rattle.gtp_gateway.specs.user.Accepted.{Accepted}
use Rattle.gtp_gateway.proofs.SentBack.{none_sent}
use Rattle.gtp_world.specs.Record.{oldest_first, GatewayRecord}
use Rattle.gtp_world.specs.Last.{last_octets}
use Rattle.gtp_world.specs.Inputs.{entries, IsHanded, IsAccepted, IsInput, AreInputs, IsBrought}
use Rattle.gtp_world.specs.Stepped.{AsksFor, KeepsOn, TakesLowest, sent_at}
use Rattle.gtp_world.specs.declared.log.Entry.{Entry as LoggedEntry}
use Rattle.gtp_world.specs.declared.simulated_gateway.StepRecord.{StepRecord}
use Rattle.gtp_world.proofs.Making.{made_last}
use Rattle.gtp_world.proofs.Pairs.{last_two}
use Rattle.gtp_world.proofs.Quiet.{IsQuiet, Handing, handing, plainly}

none_handed : (role : Role) (entry : Option (By Entry)) (e : Effect) → entry ≡ None → IsQuiet e → option_to_list entry ≡ signed role e.out.handed
none_handed role entry e none quiet = ap option_to_list none ∙ ap (λ (o : Out). signed role o.handed) (sym quiet)

-- the entry that is kept is that of the packet which the command hands in
told : (node role : Role) (command : Command) (old : Node) (teid : Option ℕ) (entry : Option (By Entry)) (e : Effect) → Handing role old command e
    → e.outcome ≡ Came_to (outcome_by command teid) → IsHanded node old command entry → option_to_list entry ≡ signed node e.out.handed
told node role (Create_session spec) old teid entry e quiet outcome none = none_handed node entry e none quiet
told node role (Delete_session session) old teid entry e quiet outcome none = none_handed node entry e none quiet
told node role (Create_bearer session tft qos) old teid entry e quiet outcome none = none_handed node entry e none quiet
told node role (Delete_bearer session identity) old teid entry e quiet outcome none = none_handed node entry e none quiet
told node role (Release_session session) old teid entry e quiet outcome none = none_handed node entry e none quiet
told node role (Mark_end bearer) old teid entry e quiet outcome none = none_handed node entry e none quiet
told node role Send_echo old teid entry e quiet outcome none = none_handed node entry e none quiet
told node role (Send_user bearer payload) old teid entry e (inl refusal) outcome is =
    let apart : Came_to (Refused refusal.why) ≡ Came_to GoneOut = ap (λ (k : Effect). k.outcome) (sym refusal.is) ∙ outcome in absurd (cc apart)
told node role (Send_user bearer payload) old teid entry e (inr hands) outcome is = is hands.at hands.sends.of ∙ ap (λ (k : Effect). signed node k.out.handed) (sym hands.sends.gives)

-- nothing was heard, forgotten or made
as_before : (old : GatewayRecord) (state : GatewayState) (out : Out) → out.heard ≡ None → out.forgot ≡ [] → out.made ≡ []
    → record old { state = state } ≡ record old
    { state = state; seen = old.seen ++ option_to_list out.heard; forgotten = old.forgotten ++ out.forgot; made = old.made ++ oldest_first out.made }
as_before old state out heard forgot made =
    let seen = sym (append-nil old.seen) ∙ ap (λ h. old.seen ++ option_to_list h) (sym heard) in
    let forgotten = sym (append-nil old.forgotten) ∙ ap (λ l. old.forgotten ++ l) (sym forgot) in
    let makes = sym (append-nil old.made) ∙ ap (λ l. old.made ++ oldest_first l) (sym made) in
    λ i. record old { state = state; seen = seen i; forgotten = forgotten i; made = makes i }

-- a request was begun, and waits
asked : (old new : GatewayState) (begun : Begun) (teid : Option ℕ) (sent : List Datagram) (outcome : EventOutcome) → outcome ≡ Came_to (Asked teid)
    → (datagram_by begun.out ∷ []) ≡ sent → SendsRequestNext old begun new → AsksFor sent outcome old new
asked old new begun teid sent outcome is out next =
    record {
      asks = λ other same. (datagram_by begun.out, sym out, record { number = next.number; free = next.free; purpose = next.purpose; queues = next.queues; tied = next.tied });
      none = λ never. absurd (never teid is);
    }

-- none was
unasked : (old new : GatewayState) (sent : List Datagram) (outcome : EventOutcome) → ((teid : Option ℕ) → outcome ≡ Came_to (Asked teid) → ⊥) → new.queues ≡ old.queues → AsksFor sent outcome old new
unasked old new sent outcome never same = record { asks = λ teid is. absurd (never teid is); none = λ other. same }

gone_out : (outcome : EventOutcome) → outcome ≡ Came_to GoneOut → (teid : Option ℕ) → outcome ≡ Came_to (Asked teid) → ⊥
gone_out outcome is teid asks = let apart : Came_to GoneOut ≡ Came_to (Asked teid) = sym is ∙ asks in cc apart

-- what ticks go by, after a command
asks_for : (command : Command) (old new : GatewayState) (begun : Begun) (teid : Option ℕ) (sent : List Datagram) (outcome : EventOutcome)
    → outcome ≡ Came_to (outcome_by command teid) → (datagram_by begun.out ∷ []) ≡ sent → IsTimed command old begun new → AsksFor sent outcome old new
asks_for (Create_session spec) old new begun teid sent outcome is out next = asked old new begun teid sent outcome is out next
asks_for (Delete_session session) old new begun teid sent outcome is out next = asked old new begun teid sent outcome is out next
asks_for (Create_bearer session tft qos) old new begun teid sent outcome is out next = asked old new begun teid sent outcome is out next
asks_for (Delete_bearer session identity) old new begun teid sent outcome is out next = asked old new begun teid sent outcome is out next
asks_for (Release_session session) old new begun teid sent outcome is out next = asked old new begun teid sent outcome is out next
asks_for Send_echo old new begun teid sent outcome is out next = asked old new begun teid sent outcome is out next
asks_for (Mark_end bearer) old new begun teid sent outcome is out same = unasked old new sent outcome (gone_out outcome is) same
asks_for (Send_user bearer payload) old new begun teid sent outcome is out same = unasked old new sent outcome (gone_out outcome is) same

-- what a command that was carried out came to
abbrev pub came_of_begun : Command → Begun → Option (By Entry) → StepRecord
came_of_begun command begun handed = record { outcome = outcome_by command begun.teid; second = None; restart = None; out = Some begun.out; handed = handed; accepted = None }

pub done : (node : Role) (command : Command) (old : GatewayRecord) (begun : Begun) (state : GatewayState) (handed : Option (By Entry))
    → IsCarriedOut command old.state begun state → IsTimed command old.state begun state → IsHanded node old.state.node command handed
    → IsInput node (Commanded command) AsksFor old (came_of_begun command begun handed) (record old { state = state })
done node command old begun state handed d times is =
    let plain = plainly old.state.role command old.state.node d.effect d.step in
    record {
      effect = d.effect;
      step = d.step;
      readable = d.sent.read;
      node = d.becomes;
      role_stays = d.role;
      lowest = λ makes. absurd (makes (ap (λ (o : Out). o.made) plain));
      timed = asks_for command old.state state begun begun.teid (sent_at old d.effect.out) d.effect.outcome d.outcome d.sent.octets times;
      becomes = as_before old state d.effect.out (ap (λ (o : Out). o.heard) plain) (ap (λ (o : Out). o.forgot) plain) (ap (λ (o : Out). o.made) plain);
      tells = record {
        sent = d.sent.octets;
        outcome = sym d.outcome;
        alone = refl;
        learned = sym (ap (λ (o : Out). o.learned) plain);
        handed = told node old.state.role command old.state.node begun.teid handed d.effect (handing old.state.role command old.state.node d.effect d.step) d.outcome is;
        accepted = ap (λ (o : Out). signed node o.accepted) (sym plain);
        gave_up = ap (λ (o : Out). o.gave_up) plain;
        forgot = ap (λ (o : Out). o.forgot) plain;
      };
    }

-- what a command that was refused came to
abbrev pub came_of_refused : Refusal → StepRecord
came_of_refused why = record { outcome = Refused why; second = None; restart = None; out = None; handed = None; accepted = None }

pub turned_down : (node : Role) (command : Command) (old : GatewayRecord) (why : Refusal)
    → CommandStep old.state.role command old.state.node (refused old.state.node why)
    → IsInput node (Commanded command) AsksFor old (came_of_refused why) old
turned_down node command old why step =
    record {
      effect = refused old.state.node why;
      step = step;
      readable = (none_sent old.state.node.config).read;
      node = refl;
      role_stays = refl;
      lowest = λ makes. absurd (makes refl);
      timed = unasked old.state old.state [] (Came_to (Refused why)) (λ teid is. cc is) refl;
      becomes = as_before old old.state nothing refl refl refl;
      tells = record { sent = refl; outcome = refl; alone = refl; learned = refl; handed = refl; accepted = refl; gave_up = refl; forgot = refl };
    }

-- a packet that was accepted left the node as it was, so its entry is read from what is there now
entries_now : (old new : Node) (accepted : Option Accepted) (list : List Entry) → (IsSome accepted → new ≡ old) → AreEntries old accepted list → AreEntries new accepted list
entries_now old new None list same are = are
entries_now old new (Some a) list same are = subst (λ n. AreEntries n (Some a) list) (sym (same refl)) are

one_made : (request : Arrival) (made : Bool) → oldest_first (made_for request made) ≡ made_for request made
one_made request true = refl
one_made request false = refl

pub heard_kept : (seen : List Counter) (heard : Option Counter) → map (λ (c : Counter). c.0) (seen ++ option_to_list heard)
    ≡ map (λ (c : Counter). c.0) seen ++ option_to_list (option_map (λ (c : Counter). c.0) heard)
heard_kept seen None = map-append (λ (c : Counter). c.0) seen []
heard_kept seen (Some c) = map-append (λ (k : Counter). k.0) seen (c ∷ [])

-- of what is free the lowest was taken, if anything was made
lowest_made : (request : Arrival) (made : Bool) (role : Role) (out : Out) (old new : Node) → made_for request made ≡ out.made → ChoosesLowest made role old new → TakesLowest role out old new
lowest_made request true role out old new is lowest = λ makes. lowest refl
lowest_made request false role out old new is lowest = λ makes. absurd (makes (sym is))

-- what a datagram came to
abbrev pub came_of_step : Step → Option LoggedEntry → StepRecord
came_of_step step accepted = record { outcome = step.report.outcome; second = step.report.second; restart = step.report.restart; out = step.out; handed = None; accepted = accepted }

-- a gateway, after a datagram of which this was told
abbrev pub gateway_told : GatewayRecord → GatewayState → Step → Arrival → GatewayRecord
gateway_told old state step request =
    record old {
      state = state;
      seen = old.seen ++ option_to_list (option_map (λ (c : Counter). c.0) step.report.heard);
      made = old.made ++ made_for request step.report.made;
    }

-- a datagram was taken as a whole
taken_whole : (node : Role) (plane : Plane) (source : Endpoint) (octets : List ℕ) (old : GatewayRecord) (step : Step) (state : GatewayState)
    (entry : Option LoggedEntry) (request : Arrival) (r : IsReceivedOnce plane source octets old.state step state)
    → made_for request step.report.made ≡ r.effect.out.made → KeepsOn plane source octets (sent_at old r.effect.out) r.effect.outcome old.state state
    → ChoosesLowest step.report.made old.state.role old.state.node state.node → (IsSome step.accepted → state ≡ old.state)
    → IsAccepted node state.node step.accepted entry
    → IsInput node (coming plane source octets) (KeepsOn plane source octets) old (came_of_step step entry) (gateway_told old state step request)
taken_whole node plane source octets old step state entry request r told keeps lowest stays is =
    let out = r.effect.out in
    let forgot = ap (λ (o : Out). o.forgot) r.tells.all in
    let seen = ap (λ h. old.seen ++ option_to_list h) r.tells.heard in
    let forgotten = sym (append-nil old.forgotten) ∙ ap (λ l. old.forgotten ++ l) (sym forgot) in
    let made = ap (λ l. old.made ++ l) (sym (one_made request step.report.made) ∙ ap oldest_first told) in
    record {
      effect = r.effect;
      step = r.takes;
      readable = r.tells.sent.read;
      node = r.becomes;
      role_stays = r.role;
      lowest = lowest_made request step.report.made state.role out old.state.node state.node told (subst (λ role. ChoosesLowest step.report.made role old.state.node state.node) (sym r.role) lowest);
      timed = keeps;
      becomes = λ i. record old { state = state; seen = seen i; forgotten = forgotten i; made = made i };
      tells = record {
        sent = r.tells.sent.octets;
        outcome = r.tells.outcome;
        alone = r.tells.alone;
        learned = r.tells.restart;
        handed = ap (λ (o : Out). signed node o.handed) (sym r.tells.all);
        accepted = is out.accepted (entries_now old.state.node state.node step.accepted out.accepted (λ some. ap (λ (s : GatewayState). s.node) (stays some)) r.tells.accepted);
        gave_up = ap (λ (o : Out). o.gave_up) r.tells.all;
        forgot = forgot;
      };
    }

-- the outcome of a second message, as it is told
second_told : (o : Option Outcome) (e : EventOutcome) → option_map Came_to o ≡ Some e → o ≡ outcome_in e
second_told None e is = absurd (cc is)
second_told (Some o) e is = let same : Came_to o ≡ e = cc is in ap outcome_in same

-- no packet was accepted
none_accepted : (node : Role) (at : Node) (accepted : Option Accepted) (entry : Option LoggedEntry) → accepted ≡ None → IsAccepted node at accepted entry → entries entry ≡ []
none_accepted node at accepted entry none is = is [] (subst (λ a. AreEntries at a []) (sym none) refl)

-- its two messages were taken, one after the other
taken_both : (node : Role) (arrival : Arrival) (answer : CreateSessionResponse) (asked : CreateBearerRequest) (old : GatewayRecord) (step : Step)
    (state : GatewayState) (entry : Option LoggedEntry) (request : Arrival) → AreReceived arrival answer asked old.state step state
    → request ≡ second_arrival arrival → QueuesAfterMessage (second_arrival arrival) old.state state
    → ChoosesLowest step.report.made old.state.role old.state.node state.node → IsAccepted node state.node step.accepted entry
    → AreInputs node arrival answer asked old (came_of_step step entry) (gateway_told old state step request)
taken_both node arrival answer asked old step state entry request r same keeps lowest is =
    let first = r.first.out in
    let second = r.second.out in
    let t = r.tells in
    let told = ap (λ k. made_for k step.report.made) same ∙ t.made in
    let none_heard = ap (λ (o : Out). o.heard) t.all_second in
    let none_made = ap (λ (o : Out). o.made) t.all_first in
    let seen =
    ap (λ h. old.seen ++ option_to_list h) t.heard ∙ sym (append-nil (old.seen ++ option_to_list first.heard))
    ∙ ap (λ h. (old.seen ++ option_to_list first.heard) ++ option_to_list h) (sym none_heard) in
    let forgotten = sym (append-nil old.forgotten) ∙ sym (append-nil (old.forgotten ++ [])) ∙ (λ i. (old.forgotten ++ (sym t.all_first i).forgot) ++ (sym t.all_second i).forgot) in
    let made =
    ap (λ l. old.made ++ l) (sym (one_made request step.report.made) ∙ ap oldest_first told)
    ∙ ap (λ l. l ++ oldest_first second.made) (sym (append-nil old.made) ∙ ap (λ l. old.made ++ oldest_first l) (sym none_made)) in
    let silent = ap (λ (o : Out). o.sent) t.all_first in
    record {
      first = r.first;
      step = r.takes;
      silent = silent;
      second = r.second;
      follows = r.follows;
      readable = t.sent.read;
      node = r.becomes;
      role_stays = r.role;
      lowest =
          lowest_made request step.report.made state.role second old.state.node state.node told
          (subst (λ role. ChoosesLowest step.report.made role old.state.node state.node) (sym r.role) lowest);
      timed = keeps;
      becomes = λ i. record old { state = state; seen = seen i; forgotten = forgotten i; made = made i };
      tells = record {
        sent = t.sent.octets ∙ ap (λ l. map (datagram_of old.state.node.config) l ++ sent_at old second) (sym silent);
        outcome = t.outcome;
        next = second_told step.report.second r.second.outcome t.next;
        learned = t.restart;
        handed = λ i. signed node (sym t.all_first i).handed ++ signed node (sym t.all_second i).handed;
        accepted = none_accepted node state.node step.accepted entry t.accepted is ∙ (λ i. signed node (sym t.all_first i).accepted ++ signed node (sym t.all_second i).accepted);
        gave_up = ap (λ (o : Out). o.gave_up) t.all_first;
        forgot = ap (λ (o : Out). o.forgot) t.all_first;
      };
    }

-- a datagram was taken
pub taken : (node : Role) (plane : Plane) (source : Endpoint) (octets : List ℕ) (old : GatewayRecord) (step : Step) (state : GatewayState)
    (entry : Option LoggedEntry) → IsReceived plane source octets old.state step state → QueuesAfterReceive plane source octets step old.state state
    → ChoosesLowest step.report.made old.state.role old.state.node state.node → (IsSome step.accepted → state ≡ old.state)
    → IsAccepted node state.node step.accepted entry
    → IsBrought node plane source octets old (came_of_step step entry) (gateway_told old state step (arrival_of source (last_octets octets)))
taken node Control source octets old step state entry (inl (none, r)) (inl (alone, keeps)) lowest stays is =
    inl (
      none,
      taken_whole node Control source octets old step state entry (arrival_of source (last_octets octets)) r
          (made_last Control source octets old.state step state r) keeps lowest stays is,
    )
taken node Control source octets old step state entry (inl (none, r)) (inr (pair, keeps)) lowest stays is = absurd (none pair)
taken node Control source octets old step state entry (inr (pair, r)) (inl (none, keeps)) lowest stays is = absurd (none pair)
taken node Control source octets old step state entry (inr (pair, r)) (inr (too, keeps)) lowest stays is =
    inr (
      pair,
      taken_both node (arrival_of source octets) pair.answer pair.asked old step state entry (arrival_of source (last_octets octets)) r
          (ap (λ o. arrival_of source o) (last_two octets _ _ pair.is)) keeps lowest is,
    )
taken node User source octets old step state entry r keeps lowest stays is =
    taken_whole node User source octets old step state entry (arrival_of source (last_octets octets)) r (made_last User source octets old.state step state r)
    ((λ apart. keeps.0 (λ broken. apart (sym r.tells.outcome ∙ ap (λ o. Came_to o) broken))), keeps.1, keeps.2) lowest stays is
