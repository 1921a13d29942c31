-- A context that is made on a datagram is made for its last message.
use Rattle.std.proofs.Common.{◌≡◌, inl, inr, ℕ, Bool, true, false, cond, List, [], Option, Some, None, Result, Ok, Err, refl, sym, ◌∙◌, ap}
use Rattle.gtp_values.specs.declared.address.Endpoint.{Endpoint}
use Rattle.gtp_v2.specs.Message.{MessageValue}
use Rattle.gtp_v2.specs.Pair.{DatagramValue}
use Rattle.gtp_v2.specs.declared.fault.V2Fault.{V2Fault}
use Rattle.gtp_v2.specs.reading.Pair.{datagram_at}
use Rattle.gtp_machine.specs.Input.{Control_message, Faulty, Control_fault, FaultyRequest, UserReading, User_message, Extension_needed, User_fault, User_came, Control_came, Effect}
use Rattle.gtp_machine.specs.Message.{Message, Packet_data, End_marker, Error_indication, User_echo_request, Plane, Control, User}
use Rattle.gtp_machine.specs.Node.{Arrival, Bearer, Node}
use Rattle.gtp_machine.specs.Ordered.{Unless}
use Rattle.gtp_machine.specs.Reading.{DatagramReading, Alone, Both, announces, messages_read, pair_reading_of, control_reading, datagram_reading, taken_as, user_reading}
use Rattle.gtp_machine.specs.Step.{Step as MachineStep}
use Rattle.gtp_machine.specs.User.{Accepts, EndCame, UserTaken, UserRead}
use Rattle.gtp_machine.specs.declared.role.Role.{Role}
use Rattle.gtp_machine.specs.declared.role.Role.TheVariants.{Serving, Packet}
use Rattle.gtp_machine.proofs.Basics.Versions.{undecoded_makes}
use Rattle.gtp_machine.proofs.Requests.Opening.{foreign, none_made}
use Rattle.gtp_gateway.specs.Parts.{arrival_of}
use Rattle.gtp_gateway.specs.receive.Received.{IsReceivedOnce}
use Rattle.gtp_gateway.specs.GatewayState.{GatewayState}
use Rattle.gtp_gateway.specs.receive.Taken.{made_for}
use Rattle.gtp_gateway.specs.declared.step.Step.{Step}
use Rattle.gtp_world.specs.Last.{last_octets}
use Rattle.gtp_world.proofs.Pairs.{one_announces_none, last_of}

-- ---- nothing is made on a datagram of the user plane

abbrev MakesNone : (Effect → Type 0) → Type 0
MakesNone Rule = (e : Effect) → Rule e → e.out.made ≡ []

module _ {P : Type 0} {Fails : Effect → Type 0} where
  unless : {Next : P → Effect → Type 0} → MakesNone Fails → ((p : P) → MakesNone (Next p)) → MakesNone (λ e. Unless P (Fails e) (λ p. Next p e))
  unless fails next e (inl f) = fails e f.1
  unless fails next e (inr n) = next n.0 e n.1

says : {f : Effect} → f.out.made ≡ [] → MakesNone (λ e. e ≡ f)
says none e is = ap (λ (k : Effect). k.out.made) is ∙ none

module _ (old : Node) where
  accepts : (target : ℕ) (payload : List ℕ) (at : Bearer) → MakesNone (Accepts old target payload at)
  accepts target payload at e r = says refl e r.gives

  end_came : (role : Role) (target : ℕ) → MakesNone (EndCame role target old)
  end_came Serving target = unless (says refl) (λ at. unless (says refl) (λ active. says refl))
  end_came Packet target = says refl

  user_taken : (role : Role) (source : Endpoint) (m : Message) → MakesNone (UserTaken role source m old)
  user_taken role source (Packet_data target payload) = unless (says refl) (λ at. unless (says refl) (λ active. unless (says refl) (λ comes. accepts target payload at.bearer)))
  user_taken role source (End_marker target) = end_came role target
  user_taken role source (Error_indication remote address) = unless (says refl) (λ named. says refl)
  user_taken role source (User_echo_request number) = says refl
  user_taken role source m = says refl

  user_read : (role : Role) (source : Endpoint) (reading : UserReading) → MakesNone (UserRead role source reading old)
  user_read role source (User_message m) = user_taken role source m
  user_read role source Extension_needed = says refl
  user_read role source (User_fault fault) = says refl

  user_step : (role : Role) (source : Endpoint) (reading : UserReading) → MakesNone (MachineStep role old (User_came source reading))
  user_step Serving source reading = unless (says refl) (λ peer. user_read Serving source reading)
  user_step Packet source reading = unless (says refl) (λ peer. user_read Packet source reading)

-- ---- and what is made on one of the control plane is made for its octets, and those are its last message's: nothing is made on two messages as a whole

any_request : (a b : Arrival) (made : Bool) (list : List Arrival) → made_for a made ≡ list → list ≡ [] → made_for b made ≡ list
any_request a b true list is none = absurd (cc (is ∙ none))
any_request a b false list is none = is

-- nothing is made on octets that are no message
no_message : (role : Role) (request : Arrival) (fault : ℕ) (old : Node) (e : Effect) → MachineStep role old (Control_came request (Control_fault fault)) e → e.out.made ≡ []
no_message Serving request fault old e (inl f) = ap (λ (k : Effect). k.out.made) f.1
no_message Serving request fault old e (inr (peer, inl r)) = ap (λ (k : Effect). k.out.made) r.gives
no_message Serving request fault old e (inr (peer, inr (new, f))) = ap (λ (k : Effect). k.out.made) f ∙ undecoded_makes fault request old
no_message Packet request fault old e (inl f) = ap (λ (k : Effect). k.out.made) f.1
no_message Packet request fault old e (inr (peer, inl r)) = ap (λ (k : Effect). k.out.made) r.gives
no_message Packet request fault old e (inr (peer, inr (new, f))) = ap (λ (k : Effect). k.out.made) f ∙ undecoded_makes fault request old

-- nor on octets that announce a second message, taken as a whole: a fault of theirs is not answered
never_faulty : (r : Result DatagramValue V2Fault) (f : FaultyRequest) → Alone (Faulty f) ≡ pair_reading_of r → ⊥
never_faulty (Ok d) f is = by d.second is
  where
    by : (second : Option MessageValue) → Alone (Faulty f) ≡ messages_read d.first second → ⊥
    by None e = cc
    by (Some k) e = cc
never_faulty (Err fault) f is = cc

announced_none : (role : Role) (request : Arrival) (octets : List ℕ) (old : Node) (e : Effect) → announces octets ≡ true
    → MachineStep role old (Control_came request (taken_as (datagram_reading octets))) e → e.out.made ≡ []
announced_none role request octets old e h takes = by (datagram_reading octets) refl takes
  where
    by : (r : DatagramReading) → r ≡ datagram_reading octets → MachineStep role old (Control_came request (taken_as r)) e → e.out.made ≡ []
    by (Both a b) is step = none_made old request e (foreign role request 0 old e step)
    by (Alone (Control_fault fault)) is step = no_message role request fault old e step
    by (Alone (Control_message m)) is step = (let both : false ≡ true = sym (one_announces_none octets m is) ∙ h in absurd cc)
    by (Alone (Faulty f)) is step = absurd (never_faulty (datagram_at octets) f (is ∙ ap (λ (b : Bool). cond b (pair_reading_of (datagram_at octets)) (Alone (control_reading octets))) h))

pub made_last : (plane : Plane) (source : Endpoint) (octets : List ℕ) (old : GatewayState) (step : Step) (new : GatewayState)
    (r : IsReceivedOnce plane source octets old step new) → made_for (arrival_of source (last_octets octets)) step.report.made ≡ r.effect.out.made
made_last User source octets old step new r =
    any_request (arrival_of source octets) _ step.report.made r.effect.out.made r.tells.made
    (user_step old.node old.role source (user_reading octets) r.effect r.takes)
made_last Control source octets old step new r = by (announces octets) refl
  where
    by : (b : Bool) → announces octets ≡ b → made_for (arrival_of source (last_octets octets)) step.report.made ≡ r.effect.out.made
    by false h = ap (λ (o : List ℕ). made_for (arrival_of source o) step.report.made) (last_of octets false h) ∙ r.tells.made
    by true h = any_request (arrival_of source octets) _ step.report.made r.effect.out.made r.tells.made (announced_none old.role (arrival_of source octets) octets old.node r.effect h r.takes)
