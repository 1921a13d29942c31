-- Steps of either gateway on a datagram of the control plane.
use Rattle.std.proofs.Common.{◌≡◌, inl, inr, ℕ, List, [], ◌∷◌, sym, ap, subst, refl}
use Rattle.std.specs.List.{AllByRecursion}
use Rattle.std.proofs.lemmas.List.Elements.{recursion_from_All}
use Rattle.gtp_values.specs.declared.address.Endpoint.{Endpoint}
use Rattle.gtp_reliable.specs.Held.{HeldPair, HasAnswer}
use Rattle.gtp_machine.specs.declared.role.Role.{Role}
use Rattle.gtp_machine.specs.Node.{Arrival, Node}
use Rattle.gtp_machine.specs.Answer.{ControlStep, TakesReading}
use Rattle.gtp_machine.specs.Input.{ControlReading, Control_message, Control_came, Effect}
use Rattle.gtp_machine.specs.Message.{Message, Plane, Control, plane_of}
use Rattle.gtp_machine.specs.Reading.{Alone, DatagramReads, reading_of}
use Rattle.gtp_machine.specs.Spelling.{datagram_plane, spelled_all}
use Rattle.gtp_machine.specs.Step.{Step, TakesBy}
use Rattle.gtp_machine.proofs.Octets.Datagrams.{message_reads_alone}
use Rattle.gtp_gateway.specs.messages.Sent.{ReadsBackOn, ReadsBack}
use Rattle.gtp_gateway.specs.messages.Spelled.{message_in, those_read, messages_in, LieApart, AreSpelled, AreSpelledAll, IsKept, AreAnswered}

-- before a datagram is read, both gateways take the same steps
pub by_role : (role : Role) (old : Node) (request : Arrival) (reading : ControlReading) (e : Effect)
    → ((Reads : Arrival → Node → Effect → Type 0) → ControlStep Reads request old e) → Step role old (Control_came request reading) e
by_role role old request reading e step = step (TakesReading role (TakesBy role) reading)

answered_there : (ps : List HeldPair) (source : Endpoint) (request answer : List ℕ) → AllByRecursion IsKept ps → HasAnswer source request answer ps → AreSpelledAll answer
answered_there [] source request answer each has = absurd has
answered_there (p ∷ ps) source request answer each (inl here) = subst AreSpelledAll here.1 each.0.answer
answered_there (p ∷ ps) source request answer each (inr there) = answered_there ps source request answer each.1 there

-- octets that read as one message by themselves are a datagram of it
pub alone_in : (octets : List ℕ) → AreSpelled octets → messages_in octets ≡ message_in octets ∷ []
unfolding messages_in
alone_in octets kept = ap those_read (sym (message_reads_alone octets (message_in octets) kept.read))

pub alone_kept : (octets : List ℕ) → AreSpelled octets → AreSpelledAll octets
alone_kept octets kept =
    subst (λ (datagram : List Message). (octets ≡ spelled_all datagram) × DatagramReads octets (reading_of datagram) × LieApart datagram → AreSpelledAll octets) (alone_in octets kept)
    (λ all. record { is = all.0; read = all.1; apart = all.2 })
    (kept.is, message_reads_alone octets (message_in octets) kept.read, refl)

-- the messages of octets that are kept read back
pub all_back : (octets : List ℕ) → datagram_plane (messages_in octets) ≡ Control → AreSpelledAll octets → ReadsBack (messages_in octets)
all_back octets control kept =
    subst (λ (p : Plane). ReadsBackOn p (messages_in octets)) (sym control)
    (subst (λ (o : List ℕ). DatagramReads o (reading_of (messages_in octets))) kept.is kept.read, kept.apart)

pub kept_back : (octets : List ℕ) → plane_of (message_in octets) ≡ Control → AreSpelled octets → ReadsBack (message_in octets ∷ [])
kept_back octets control kept =
    subst (λ (p : Plane). ReadsBackOn p (message_in octets ∷ [])) (sym control)
    (subst (λ (o : List ℕ). DatagramReads o (Alone (Control_message (message_in octets)))) kept.is (message_reads_alone octets (message_in octets) kept.read), refl)

-- an answer that is held is kept as it is spelled
pub spelled_answer : (ps : List HeldPair) (source : Endpoint) (request answer : List ℕ) → AreAnswered ps → HasAnswer source request answer ps → AreSpelledAll answer
spelled_answer ps source request answer each has = answered_there ps source request answer (recursion_from_All IsKept ps each) has
