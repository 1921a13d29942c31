-- A step, whatever comes.
use Rattle.std.proofs.Common.{◌≡◌, ◌⊎◌, inl, inr, ⊎_elim, ℕ, List, Option, Some, None, sym, ◌∙◌, ap, subst, refl}
use Rattle.std.specs.FinMap.{get}
use Rattle.gtp_values.specs.FiniteMap.{FiniteMap, Among}
use Rattle.gtp_values.proofs.Outcomes.{none_some}
use Rattle.gtp_values.specs.Counter.{age_of}
use Rattle.gtp_values.specs.declared.address.Endpoint.{Endpoint}
use Rattle.gtp_values.specs.declared.counter.Age.{Age}
use Rattle.gtp_values.specs.declared.counter.Age.TheVariants.{Same, Later, Earlier}
use Rattle.gtp_machine.specs.Message.{CreateBearerRequest, Message, Echo_request, Echo_response, Create_session_request, Create_session_response}
use Rattle.gtp_machine.specs.Message.{Delete_session_request, Delete_session_response, Create_bearer_request, Create_bearer_response}
use Rattle.gtp_machine.specs.Message.{Delete_bearer_request, Delete_bearer_response, Packet_data, End_marker, Error_indication, User_echo_request}
use Rattle.gtp_machine.specs.Message.{recovery_of}
use Rattle.gtp_machine.specs.Node.{Role, Serving, Packet, Bearer, PendingRequest, Arrival, Node}
use Rattle.gtp_machine.specs.Input.{ControlReading, Control_message, Faulty, Control_fault, UserReading, User_message, Extension_needed, User_fault}
use Rattle.gtp_machine.specs.Input.{Input, Commanded, Control_came, User_came, Moves_on, Out, Effect}
use Rattle.gtp_machine.specs.MessageType.{answers_type}
use Rattle.gtp_machine.specs.Recovery.{Judges, Weighs, Hears, peer_restarted}
use Rattle.gtp_machine.specs.User.{Accepts, EndCame, UserTaken, UserRead, UserStep}
use Rattle.gtp_machine.specs.Answer.{Repeats, IsNew, TakesReading, ControlStep}
use Rattle.gtp_machine.specs.Serving.{ServingTakes}
use Rattle.gtp_machine.specs.Packet.{PacketTakes}
use Rattle.gtp_machine.specs.Step.{Step}
use Rattle.gtp_machine.specs.Sound.{IsSound}
use Rattle.gtp_machine.specs.Determined.{OneAnswerPerRequest, StepsTwice, OneIsTold, OneIsDone, OneAnswer}
use Rattle.gtp_machine.proofs.Requests.Opening.{IsMute, opening, same_drawn, none_made}
use Rattle.gtp_machine.proofs.Sound.Changes.{is_bearer}
use Rattle.gtp_machine.proofs.Basics.Facts.{one_value}
use Rattle.gtp_machine.proofs.Basics.FiniteMaps.{get-insert_same}
use Rattle.gtp_machine.proofs.Determined.Alike.{Fits, sound_fits, Alike, Determines, is_one, the_same, says_it, by_effects, unless_plain, unless_one}
use Rattle.gtp_machine.proofs.Determined.Chosen.{new_number, comes_there}
use Rattle.gtp_machine.proofs.Determined.Witnesses.{IsLeft, apart_left, one_bearer}
use Rattle.gtp_machine.proofs.Changes.Shrinking.{Shrinks-itself, Shrinks-restart}
use Rattle.gtp_machine.proofs.Determined.Commands.{command_done}
use Rattle.gtp_machine.proofs.Determined.Answers.{create_session_asked, delete_session_asked, create_bearer_asked, delete_bearer_asked, faulted_once}
use Rattle.gtp_machine.proofs.Determined.Responses.{response_finishes, create_session_answered, create_bearer_answered}
use Rattle.gtp_machine.proofs.Determined.Ticks.{move_made}

-- ---- the peer's counter

-- what a step tells, with what was heard
abbrev with_heard : Option ℕ → Option ℕ → Out → Out
with_heard heard learned out = record out { heard = heard; learned = learned }

abbrev as_heard : Option ℕ → Option ℕ → Effect → Effect
as_heard heard learned e = record e { out = with_heard heard learned e.out }

still_alike : (role : Role) (first : Node) (input : Input) (heard learned : Option ℕ) (e f : Effect) → Alike role first input e f
    → Alike role first input (as_heard heard learned e) (as_heard heard learned f)
still_alike role first input heard learned e f alike = record {
  tell = record {
    outcome = alike.tell.outcome;
    told = ap (with_heard heard learned) alike.tell.told;
    places = alike.tell.places;
    known = alike.tell.known;
    counter = alike.tell.counter;
    draws = alike.tell.draws;
  };
  one =
      λ picked. ap (as_heard heard learned) (alike.one (record
      { drawn = picked.drawn; addresses = picked.addresses; identities = picked.identities; numbers = picked.numbers; wanted = picked.wanted }));
}

module _ {role : Role} {input : Input} (Takes : Node → Effect → Type 0) (old : Node) (takes : (node : Node) → IsLeft old node → Determines (Alike role old input) (Takes node)) where
  judges : (counter : ℕ) (age : Age) → Determines (Alike role old input) (Judges Takes old counter age)
  judges counter Same = takes old (record { shrinks = Shrinks-itself old; drawn = refl })
  judges counter Later = takes (peer_restarted old counter) (record { shrinks = Shrinks-restart old counter; drawn = refl })
  judges counter Earlier = says_it

  weighs : (counter : ℕ) (known : Option ℕ) → Determines (Alike role old input) (Weighs Takes old counter known)
  weighs counter None = takes (record old { known = Some counter }) (record { shrinks = Shrinks-itself old; drawn = refl })
  weighs counter (Some known) = judges counter (age_of known counter)

  hears : (told : Option ℕ) → Determines (Alike role old input) (Hears Takes old told)
  hears None e f r s = takes old (record { shrinks = Shrinks-itself old; drawn = refl }) e f r s
  hears (Some counter) e f (x, takes_x, is_e) (y, takes_y, is_f) = by_effects _ _ e f is_e is_f (still_alike role old input _ _ x y (weighs counter old.known x y takes_x takes_y))

-- ---- the control plane

module _ {reading : ControlReading} (request : Arrival) (old : Node) (fits : Fits old) where
  serving_takes : (m : Message) (node : Node) → IsLeft old node → Determines (Alike Serving old (Control_came request reading)) (ServingTakes request m node)
  serving_takes (Echo_request q) node left = says_it
  serving_takes (Echo_response a) node left = response_finishes node a.number
  serving_takes (Create_session_response a) node left = create_session_answered node a
  serving_takes (Delete_session_response d) node left = response_finishes node d.number
  serving_takes (Create_bearer_request q) node left = create_bearer_asked request node fits left q
  serving_takes (Delete_bearer_request d) node left = delete_bearer_asked request node (apart_left old node left.shrinks fits.apart) d
  serving_takes m node left = says_it

  packet_takes : (m : Message) (node : Node) → IsLeft old node → Determines (Alike Packet old (Control_came request reading)) (PacketTakes request m node)
  packet_takes (Echo_request q) node left = says_it
  packet_takes (Echo_response a) node left = response_finishes node a.number
  packet_takes (Create_session_request q) node left = create_session_asked request node fits left q
  packet_takes (Delete_session_request d) node left = delete_session_asked request node d
  packet_takes (Create_bearer_response x) node left = create_bearer_answered node x
  packet_takes (Delete_bearer_response d) node left = response_finishes node d.number
  packet_takes m node left = says_it

module _ (role : Role) (Takes : Arrival → Message → Node → Effect → Type 0) (input : Input) (request : Arrival) (old : Node)
    (rows : (m : Message) (node : Node) → IsLeft old node → Determines (Alike role old input) (Takes request m node)) (once : OneAnswerPerRequest old) where
  reads : (reading : ControlReading) → Determines (Alike role old input) (TakesReading role Takes reading request old)
  reads (Control_message m) = unless_plain says_it (hears (Takes request m) old (rows m) (recovery_of m))
  reads (Faulty q) = faulted_once request old q (answers_type role q.kind)
  reads (Control_fault fault) = says_it

  control_came : (reading : ControlReading) → Determines (Alike role old input) (ControlStep (TakesReading role Takes reading) request old)
  control_came reading = unless_plain says_it from_peer
    where
      from_peer : Determines (Alike role old input) (λ e. Repeats old request e ⊎ (IsNew old request × TakesReading role Takes reading request old e))
      from_peer e f (inl r) (inl s) =
          let answer : r.held.answer ≡ s.held.answer = once.once r.held s.held r.stands s.stands (r.same ∙ sym s.same) in
          the_same e f cc
      from_peer e f (inl r) (inr s) = absurd (s.0 r.held r.stands r.same)
      from_peer e f (inr r) (inl s) = absurd (r.0 s.held s.stands s.same)
      from_peer e f (inr r) (inr s) = reads reading e f r.1 s.1

-- ---- the user plane, where nothing is chosen

accepts : (old : Node) (target : ℕ) (payload : List ℕ) (at : Bearer) → Determines ◌≡◌ (Accepts old target payload at)
accepts old target payload at e f r s = let session : r.of.session ≡ s.of.session = one_value _ _ _ r.of.stands s.of.stands in cc

module _ (role : Role) (source : Endpoint) (old : Node) where
  end_came : (by : Role) (target : ℕ) → Determines ◌≡◌ (EndCame by target old)
  end_came Serving target = unless_one (one_bearer old target) is_one (λ at. unless_plain is_one is_one)
  end_came Packet target = is_one

  user_taken : (m : Message) → Determines ◌≡◌ (UserTaken role source m old)
  user_taken (Packet_data target payload) = unless_one (one_bearer old target) is_one (λ at. unless_plain is_one (unless_plain is_one (accepts old target payload at.bearer)))
  user_taken (End_marker target) = end_came role target
  user_taken (Error_indication remote address) = unless_plain is_one is_one
  user_taken (User_echo_request number) = is_one
  user_taken m = is_one

  user_read : (reading : UserReading) → Determines ◌≡◌ (UserRead role source reading old)
  user_read (User_message m) = user_taken m
  user_read Extension_needed = is_one
  user_read (User_fault fault) = is_one

  pub user_came : (reading : UserReading) → Determines ◌≡◌ (UserStep role source reading old)
  user_came reading = unless_plain is_one (user_read reading)

-- ---- all together

pub step_done : (role : Role) (old : Node) (input : Input) → Fits old → OneAnswerPerRequest old → Determines (Alike role old input) (Step role old input)
step_done role old (Commanded command) fits once = command_done role command old fits.apart
step_done Serving old (Control_came request reading) fits once = control_came Serving ServingTakes _ request old (serving_takes request old fits) once reading
step_done Packet old (Control_came request reading) fits once = control_came Packet PacketTakes _ request old (packet_takes request old fits) once reading
step_done role old (User_came source reading) fits once = λ e f r s. the_same e f (user_came role source old reading e f r s)
step_done role old (Moves_on move) fits once = λ e f r s. the_same e f (move_made old move e f r s)

-- the TEID in a request for a bearer that waits was drawn
pub drawn_before : (role : Role) (old : Node) → IsSound role old → (number : ℕ) (p : PendingRequest) (r : CreateBearerRequest) → get old.pending number ≡ Some p
    → p.request ≡ Create_bearer_request r → Among r.context.user.teid old.drawn
drawn_before role old sound number p r stands asked =
    let ask = is_bearer role old sound number p r stands asked in
    let own : Among ask.0.request.context.user.teid old.drawn = ⊎_elim (λ w. (sound.contexts.each_bearer _ w.0 w.1).own) (λ w. (sound.contexts.each_bearer _ w.0.0 w.0.1).own) ask.0.wanted in
    subst (λ (k : CreateBearerRequest). Among k.context.user.teid old.drawn) ask.1 own

both_steps : (role : Role) (old : Node) (input : Input) (e f : Effect) → StepsTwice role old input e f → Alike role old input e f
both_steps role old input e f twice = step_done role old input (sound_fits role old twice.sound) twice.once e f twice.first twice.second

pub one_is_told : OneIsTold
one_is_told role old input e f twice = (both_steps role old input e f twice).tell

pub one_is_done : OneIsDone
one_is_done role old input e f twice alike = (both_steps role old input e f twice).one (record {
  drawn = alike.drawn;
  addresses = λ request reading is packet made others t a b x y. alike.addresses t a b x.absent (comes_there _ _ others t a x) (comes_there _ _ others t b y);
  identities = λ request reading is serving made others t a b x y same. alike.identities t a b x.absent (comes_there _ _ others t a x) (comes_there _ _ others t b y);
  numbers = λ command is number none has. alike.numbers number has.pending has.waits (λ was. none_some has.pending (sym none ∙ was));
  wanted = λ request reading is packet made others m n p q waits also.
      new_number f.node others m n q also.is waits.absent
      (alike.numbers m p (ap (λ (k : FiniteMap PendingRequest). get k m) waits.is ∙ get-insert_same others m p)
      (λ was. waits.undrawn (drawn_before role old twice.sound m p waits.request was waits.asked)));
})

pub one_answer : OneAnswer
one_answer old request a e f twice = (both_steps Serving old (Control_came request (Control_message (Create_session_response a))) e f twice).one (record {
  drawn = same_drawn old request e first ∙ sym (same_drawn old request f (opening request a old f twice.second));
  addresses = λ x reading is packet. absurd (cc packet);
  identities = λ x reading is serving made. absurd (made (none_made old request e first));
  numbers = λ command is. absurd (cc is);
  wanted = λ x reading is packet. absurd (cc packet);
})
  where
    first : IsMute old e ⊎ Repeats old request e
    first = opening request a old e twice.first
