use Rattle.std.proofs.Common.{◌≡◌, ℕ, List, Option, Some, None, Result, Ok, Err, true, false, inl, inr, refl, sym, ap, ◌∙◌, subst}
use Rattle.std.specs.Prelude.{OnOk}
use Rattle.std.proofs.lemmas.Result.{IfOk-weaker, on_err_weaker}
use Rattle.gtp_v2.specs.Pair.{LiesIn, LieIn}
use Rattle.gtp_v2.specs.Viewed.{Viewed}
use Rattle.gtp_machine.specs.Decoded.{message_of}
use Rattle.gtp_machine.specs.Input.{ControlReading, Control_came, Effect, dropped}
use Rattle.gtp_machine.specs.Message.{Other_control}
use Rattle.gtp_machine.specs.Reading.{Both, datagram_reading, taken_as}
use Rattle.gtp_machine.specs.Step.{Step as MachineStep, TakesPair}
use Rattle.gtp_machine.specs.declared.role.Role.{Role}
use Rattle.gtp_machine.specs.declared.role.Role.TheVariants.{Serving, Packet}
use Rattle.gtp_machine.specs.declared.outcome.DropReason.TheVariants.{Unexpected}
use Rattle.gtp_reliable.specs.Held.{HeldPair}
use Rattle.gtp_gateway.specs.declared.receive.BeforeReading.{BeforeReading}
use Rattle.gtp_gateway.specs.declared.receive.BeforeReading.TheVariants.{New}
use Rattle.gtp_gateway.specs.declared.step.ControlStep.{ControlStep}
use Rattle.gtp_machine.specs.declared.message_type.MessageType.TheVariants as types
use Rattle.gtp_gateway.specs.receive.Queues.{QueuesAfterMessage}
use Rattle.gtp_gateway.specs.receive.InvalidRequest.{reading_of}
use Rattle.gtp_gateway.specs.receive.Allocations.{StepSendsOrOpens}
use Rattle.gtp_gateway.specs.Parts.{arrival_of}
use Rattle.gtp_machine.specs.MessageType.{type_at, takes_some, takes_message}
use Rattle.gtp_gateway.specs.GatewayState.{GatewayState, state_of}
use Rattle.gtp_gateway.specs.receive.Taken.{IsEntered, IsTaken, IsNoPair}
use Rattle.gtp_gateway.proofs.Columns.{yes, no}
use Rattle.gtp_gateway.proofs.QueuesAfter.{on_ok, tied_of, same_goes}
use Rattle.gtp_gateway.proofs.InvalidRequests.{fault_received}
use Rattle.gtp_gateway.proofs.ByType.{answer_kind, request_kind, answer_of, request_of}
use Rattle.gtp_gateway.proofs.TwoMessages.{reads_message, reads_fault, alone_no_pair, one_reads, fault_reads, two_read, pair_viewed, parts_of}
use Rattle.gtp_gateway.proofs.TakenTypes.{not_taken}
use Rattle.gtp_gateway.proofs.Rows.{message_left}
use Rattle.gtp_gateway.proofs.SentBack.{none_sent}
use Rattle.gtp_gateway.proofs.parts.Parts.receive_control.Goals as goal
use Rattle.gtp_machine.specs.Node.{Arrival}

-- no gateway takes a message of a type that is none
none_takes : (role : Role) → takes_message role (Other_control 0) ≡ true → ⊥
none_takes Serving taken = let never : true ≡ false = sym taken in cc
none_takes Packet taken = let never : true ≡ false = sym taken in cc

-- where the second message is what it is
lies_two : (octets : List ℕ) (first : Viewed) (given : Option Viewed) (second : Viewed) (back : List ℕ) → given ≡ Some second → LieIn octets first given back → LieIn octets first (Some second) back
lies_two octets first given second back is lie = subst (λ (o : Option Viewed). LieIn octets first o back) is lie

lies_one : (octets : List ℕ) (first : Viewed) (given : Option Viewed) (back : List ℕ) → given ≡ None → LieIn octets first given back → LiesIn octets first
lies_one octets first given back is lie = (subst (λ (o : Option Viewed). LieIn octets first o back) is lie).0

-- what holds anyway holds where a call succeeded
on_any : {T E P : Type 0} (r : Result T E) → P → OnOk r P
on_any (Ok x) holds = holds
on_any (Err e) holds = tt

pub flaw_of-requires : goal.flaw_of-requires
flaw_of-requires c = c.in-Err.ensures.instance

pub returns-in-Err-clause-taken : goal.returns-in-Err-clause-taken
returns-in-Err-clause-taken c =
    let old = state_of c.args.self.now in
    let fresh = subst (IsEntered (arrival_of c.args.source c.args.octets.now) old c.args.self.now.held.pairs) c.in-New.is c.in_ok-step.ensures.entered in
    IfOk-weaker c.take_flaw.result _ _ (λ step taken. inl (
      alone_no_pair (arrival_of c.args.source c.args.octets.now) old _ (fault_reads c.args.octets.now c.in-Err.fault c.in-Err.ensures.fault),
      fault_received (arrival_of c.args.source c.args.octets.now) old c.in-Err.fault (reading_of c.flaw_of.result) step fresh.peer fresh.new c.in-Err.ensures.fault c.flaw_of.ensures taken,
    )) c.take_flaw.ensures.taken

pub returns-in-Err-clause-goes : goal.returns-in-Err-clause-goes
returns-in-Err-clause-goes c =
    let old = state_of c.args.self.now in
    on_any c.take_flaw.result
    (inl (
      alone_no_pair (arrival_of c.args.source c.args.octets.now) old _ (fault_reads c.args.octets.now c.in-Err.fault c.in-Err.ensures.fault),
      same_goes (arrival_of c.args.source c.args.octets.now) old old refl (tied_of c.args.self.now),
    ))

pub returns-in-Err-clause-memory : goal.returns-in-Err-clause-memory
returns-in-Err-clause-memory c =
    let old = state_of c.args.self.now in
    let arrival = arrival_of c.args.source c.args.octets.now in
    let fresh = subst (IsEntered arrival old c.args.self.now.held.pairs) c.in-New.is c.in_ok-step.ensures.entered in
    on_err_weaker c.take_flaw.result (λ needs. inl (
      alone_no_pair arrival old _ (fault_reads arrival.octets c.in-Err.fault c.in-Err.ensures.fault),
      subst (λ (r : ControlReading). StepSendsOrOpens arrival r old) (c.flaw_of.ensures ∙ reads_fault arrival.octets c.in-Err.fault c.in-Err.ensures.fault) (needs fresh.peer),
    )) c.take_flaw.ensures.memory

-- two messages that are no pair
no_such_pair : (arrival : Arrival) (old : GatewayState) (first second : Viewed) (back : List ℕ) → LieIn arrival.octets first (Some second) back
    → ((old.role ≡ Serving) × (type_at first.message.kind ≡ Some types.CreateSessionResponse)
    × (type_at second.message.kind ≡ Some types.CreateBearerRequest) → ⊥) → IsNoPair arrival old
no_such_pair arrival old first second back lie not pair =
    let are = pair_viewed arrival old first second back lie pair in
    not (pair.by, answer_kind pair.answer first.message are.answer, request_kind pair.asked second.message are.asked)

-- the pair that the gateway takes
the_pair : (arrival : Arrival) (old : GatewayState) (first second : Viewed) (back : List ℕ) → LieIn arrival.octets first (Some second) back
    → old.role ≡ Serving → arrival.source.ip ≡ old.node.config.peer.control → type_at first.message.kind ≡ Some types.CreateSessionResponse
    → type_at second.message.kind ≡ Some types.CreateBearerRequest
    → TakesPair old.role old.node.config arrival (datagram_reading arrival.octets)
the_pair arrival old first second back (front, announced, in_front, in_back) serving peer is_answer is_request =
    let a = answer_of front first.message in_front.spelled is_answer in
    let q = request_of back second.message in_back.spelled is_request in
    record {
      by = serving;
      peer = peer;
      answer = a.0;
      asked = q.0;
      is = two_read arrival.octets first second back (front, announced, in_front, in_back) ∙ (λ i. Both (a.1 i) (q.1 i));
    }

-- where the two lie, as they were handed on
lies_so : (octets : List ℕ) (first given : Viewed) (second : Option Viewed) (other : Viewed) (back held : List ℕ) → given ≡ first → second ≡ Some other
    → held ≡ back → LieIn octets first second back → LieIn octets given (Some other) held
lies_so octets first given second other back held same is all lie =
    subst (λ (v : Viewed). LieIn octets v (Some other) held) (sym same)
    (subst (λ (b : List ℕ). LieIn octets first (Some other) b) (sym all) (lies_two octets first second other back is lie))

pub returns-then-not-takes_pair-clause-taken : goal.returns-then-not-takes_pair-clause-taken
returns-then-not-takes_pair-clause-taken c =
    let old = state_of c.args.self.now in
    let arrival = arrival_of c.args.source c.args.octets.now in
    let view = c.in-Ok.view in
    let first = c.message-message.result.now in
    let second = c.in-Some.second in
    let lie = lies_so arrival.octets view.message first view.second second view.back view.back c.message-message.ensures (sym c.second.ensures ∙ c.in-Some.is) refl c.in-Ok.ensures.lie in
    let fresh = subst (IsEntered arrival old c.args.self.now.held.pairs) c.in-New.is c.in_ok-step.ensures.entered in
    let effect : Effect = dropped old.node Unexpected in
    inl (
      no_such_pair arrival old first second view.back lie (no c.takes_pair.ensures c.if-not-takes_pair.true),
      subst (λ (s : ControlStep). IsTaken arrival old s old) (sym c.dropped.ensures)
          (record {
            effect = effect;
            takes =
                subst (λ (r : ControlReading). MachineStep old.role old.node (Control_came arrival r) effect)
                (sym (ap taken_as (two_read arrival.octets first second view.back lie)))
                (message_left old.role old.node arrival (Other_control 0) fresh.peer fresh.new (none_takes old.role));
            tells = record { sent = none_sent old.node.config; outcome = refl; alone = refl; heard = refl; restart = refl; made = refl; all = refl };
            becomes = refl;
            role = refl;
          }),
    )

pub returns-then-not-takes_pair-clause-goes : goal.returns-then-not-takes_pair-clause-goes
returns-then-not-takes_pair-clause-goes c =
    let old = state_of c.args.self.now in
    let arrival = arrival_of c.args.source c.args.octets.now in
    let view = c.in-Ok.view in
    let lie =
    lies_so arrival.octets view.message c.message-message.result.now view.second c.in-Some.second view.back view.back c.message-message.ensures
    (sym c.second.ensures ∙ c.in-Some.is) refl c.in-Ok.ensures.lie in
    inl (
      no_such_pair arrival old c.message-message.result.now c.in-Some.second view.back lie (no c.takes_pair.ensures c.if-not-takes_pair.true),
      same_goes arrival old old refl (tied_of c.args.self.now),
    )

pub take_pair-requires-clause-lie : goal.take_pair-requires-clause-lie
take_pair-requires-clause-lie c =
    let arrival = arrival_of c.args.source c.args.octets.now in
    let view = c.in-Ok.view in (
      arrival.octets,
      lies_so arrival.octets view.message c.message-message.result.now view.second c.in-Some.second view.back c.back.result.now
          c.message-message.ensures (sym c.second.ensures ∙ c.in-Some.is) c.back.ensures c.in-Ok.ensures.lie,
    )

-- the pair, where the two are one and come from the peer
found : (arrival : Arrival) (old : GatewayState) (first second : Viewed) (back : List ℕ) (pairs : List HeldPair) (before : BeforeReading)
    → LieIn arrival.octets first (Some second) back → IsEntered arrival old pairs before → before ≡ New
    → (old.role ≡ Serving) × (type_at first.message.kind ≡ Some types.CreateSessionResponse)
    × (type_at second.message.kind ≡ Some types.CreateBearerRequest) → TakesPair old.role old.node.config arrival (datagram_reading arrival.octets)
found arrival old first second back pairs before lie entered new are = the_pair arrival old first second back lie are.0 (subst (IsEntered arrival old pairs) new entered).peer are.1 are.2

pub returns-in-Some-clause-taken : goal.returns-in-Some-clause-taken
returns-in-Some-clause-taken c =
    let old = state_of c.args.self.now in
    let arrival = arrival_of c.args.source c.args.octets.now in
    let view = c.in-Ok.view in
    let lie =
    lies_so arrival.octets view.message c.message-message.result.now view.second c.in-Some.second view.back c.back.result.now
    c.message-message.ensures (sym c.second.ensures ∙ c.in-Some.is) c.back.ensures c.in-Ok.ensures.lie in
    let pair =
    found arrival old c.message-message.result.now c.in-Some.second c.back.result.now c.args.self.now.held.pairs _ lie c.in_ok-step.ensures.entered
    c.in-New.is (yes c.takes_pair.ensures c.if-not-takes_pair.false) in
    IfOk-weaker c.take_pair.result _ _ (λ step taken. inr (
      pair,
      taken arrival.octets lie pair.answer pair.asked
          (pair_viewed arrival old c.message-message.result.now c.in-Some.second c.back.result.now lie pair),
    )) c.take_pair.ensures.taken

pub returns-in-Some-clause-goes : goal.returns-in-Some-clause-goes
returns-in-Some-clause-goes c =
    let old = state_of c.args.self.now in
    let arrival = arrival_of c.args.source c.args.octets.now in
    let view = c.in-Ok.view in
    let lie =
    lies_so arrival.octets view.message c.message-message.result.now view.second c.in-Some.second view.back c.back.result.now
    c.message-message.ensures (sym c.second.ensures ∙ c.in-Some.is) c.back.ensures c.in-Ok.ensures.lie in
    let pair =
    found arrival old c.message-message.result.now c.in-Some.second c.back.result.now c.args.self.now.held.pairs _ lie c.in_ok-step.ensures.entered
    c.in-New.is (yes c.takes_pair.ensures c.if-not-takes_pair.false) in
    on_ok c.take_pair.result
    (λ goes. inr (
      pair,
      subst (λ (o : List ℕ). QueuesAfterMessage (arrival_of arrival.source o) old (state_of c.take_pair.new.self))
          (sym (parts_of arrival.octets lie.0 c.back.result.now lie.1).second) goes,
    )) c.take_pair.ensures.goes

pub returns-in-Some-clause-memory : goal.returns-in-Some-clause-memory
returns-in-Some-clause-memory c =
    let old = state_of c.args.self.now in
    let arrival = arrival_of c.args.source c.args.octets.now in
    let view = c.in-Ok.view in
    let lie =
    lies_so arrival.octets view.message c.message-message.result.now view.second c.in-Some.second view.back c.back.result.now
    c.message-message.ensures (sym c.second.ensures ∙ c.in-Some.is) c.back.ensures c.in-Ok.ensures.lie in
    let pair =
    found arrival old c.message-message.result.now c.in-Some.second c.back.result.now c.args.self.now.held.pairs _ lie c.in_ok-step.ensures.entered
    c.in-New.is (yes c.takes_pair.ensures c.if-not-takes_pair.false) in
    on_err_weaker c.take_pair.result (λ needs. inr (
      pair,
      needs arrival.octets lie pair.answer pair.asked
          (pair_viewed arrival old c.message-message.result.now c.in-Some.second c.back.result.now lie pair),
    )) c.take_pair.ensures.memory

pub returns-in-Some-type_for-clause-taken : goal.returns-in-Some-type_for-clause-taken
returns-in-Some-type_for-clause-taken c =
    let old = state_of c.args.self.now in
    let arrival = arrival_of c.args.source c.args.octets.now in
    let view = c.in-Ok.view in
    let alone = lies_one arrival.octets view.message view.second view.back (sym c.second.ensures ∙ c.in_default.is) c.in-Ok.ensures.lie in
    IfOk-weaker c.take_message.result _ _ (λ step taken. inl (alone_no_pair arrival old _ (one_reads arrival.octets view.message.message alone.spelled), taken)) c.take_message.ensures.taken

pub returns-in-None-clause-taken : goal.returns-in-None-clause-taken
returns-in-None-clause-taken c =
    let old = state_of c.args.self.now in
    let arrival = arrival_of c.args.source c.args.octets.now in
    let view = c.in-Ok.view in
    let m = view.message.message in
    let alone = lies_one arrival.octets view.message view.second view.back (sym c.second.ensures ∙ c.in_default.is) c.in-Ok.ensures.lie in
    let fresh = subst (IsEntered arrival old c.args.self.now.held.pairs) c.in-New.is c.in_ok-step.ensures.entered in
    let none : takes_message old.role (message_of m) ≡ false =
    not_taken old.role m
    (subst (λ (k : ℕ). takes_some old.role (type_at k) ≡ false) (c.kind.ensures ∙ ap (λ (v : Viewed). v.message.kind) c.message-message.ensures)
    c.in-None.ensures.none) in
    let effect : Effect = dropped old.node Unexpected in
    inl (
      alone_no_pair arrival old _ (one_reads arrival.octets m alone.spelled),
      subst (λ (s : ControlStep). IsTaken arrival old s old) (sym c.dropped-in-None.ensures)
          (record {
            effect = effect;
            takes =
                subst (λ (r : ControlReading). MachineStep old.role old.node (Control_came arrival r) effect)
                (reads_message arrival.octets m alone.spelled) (message_left old.role old.node arrival (message_of m) fresh.peer fresh.new
                (λ taken. let both : true ≡ false = sym taken ∙ none in cc));
            tells = record { sent = none_sent old.node.config; outcome = refl; alone = refl; heard = refl; restart = refl; made = refl; all = refl };
            becomes = refl;
            role = refl;
          }),
    )

pub returns-in-None-clause-goes : goal.returns-in-None-clause-goes
returns-in-None-clause-goes c =
    let old = state_of c.args.self.now in
    let arrival = arrival_of c.args.source c.args.octets.now in
    let view = c.in-Ok.view in
    let alone = lies_one arrival.octets view.message view.second view.back (sym c.second.ensures ∙ c.in_default.is) c.in-Ok.ensures.lie in
    inl (alone_no_pair arrival old _ (one_reads arrival.octets view.message.message alone.spelled), same_goes arrival old old refl (tied_of c.args.self.now))
