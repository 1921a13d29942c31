-- What came on the control plane: what a gateway knows stays so, where what it does with the messages that it takes leaves it.
use Rattle.std.proofs.Common.{◌≡◌, ◌≢◌, ◌⊎◌, ℕ, true, List, Some, refl, sym, ◌∙◌, ap, ⊎_elim, subst}
use Rattle.gtp_machine.specs.Message.{Message, Other_control, recovery_of}
use Rattle.gtp_machine.specs.Node.{Role, Serving, Packet, Arrival, Node}
use Rattle.gtp_machine.specs.Input.{ControlReading, Control_message, Faulty, Control_fault, Effect}
use Rattle.gtp_machine.specs.MessageType.{takes_message}
use Rattle.gtp_machine.specs.Answer.{IsNew, TakesReading, ControlStep, version_number}
use Rattle.gtp_machine.specs.World.{other, Sent, HasSent}
use Rattle.gtp_machine.proofs.Origins.Entries.{Once}
use Rattle.gtp_machine.proofs.Changes.Steps.{IsHeardFrom}
use Rattle.gtp_machine.proofs.Changes.After.{Knows, After}
use Rattle.gtp_machine.proofs.Rows.Common.{unchanged, repeats, SameIs, hears}
use Rattle.gtp_machine.proofs.Basics.Finishing.{on_control, on_read}
use Rattle.gtp_machine.proofs.Basics.Versions.{told_of}
use Rattle.gtp_machine.proofs.Rows.Taking.{Took}

-- a message of a type that no gateway takes
pub record IsOther (m : Message) : Type 0 where
  pub kind : ℕ
  pub is : m ≡ Other_control kind

-- what was read was sent by the other gateway, or it is of a type that none takes; no fault is answered, since what it sent reads, and is of version 2
abbrev pub ControlCarried : Role → List Sent → Node → ControlReading → Type 0
ControlCarried role history old (Control_message m) = (HasSent history (other role) m × SameIs old m) ⊎ IsOther m
ControlCarried role history old (Faulty f) = ⊥
ControlCarried role history old (Control_fault fault) = fault ≢ version_number

module _ (role : Role) (history : List Sent) (taken : Arrival → Message → Type 0) (serving_once : Once history Serving)
    (packet_once : Once history Packet) (old : Node) (knows : Knows role history old)
    (Takes : Arrival → Message → Node → Effect → Type 0) (request : Arrival)
    (rows : (m : Message) → HasSent history (other role) m → taken request m → (mid : Node) → IsHeardFrom old mid → Knows role history mid
    → ((c : ℕ) → recovery_of m ≡ Some c → mid.known ≡ Some c) → (e : Effect) → Takes request m mid e → Took role history taken mid e) where
  pub control_came : (reading : ControlReading) (e : Effect) → ControlCarried role history old reading
      → (IsNew old request → (m : Message) → reading ≡ Control_message m → taken request m)
      → ControlStep (TakesReading role Takes reading) request old e → After role history taken old e
  control_came reading e came is =
      on_control old e (λ outcome. unchanged role history taken serving_once packet_once old knows outcome e) request (repeats role history taken serving_once packet_once old knows request e) (λ new.
      on_read old e (λ outcome. unchanged role history taken serving_once packet_once old knows outcome e) role Takes request reading
      (λ m read kind. ⊎_elim
      (λ sent. hears role history taken serving_once packet_once m sent.0 (Takes request m) old (rows m sent.0 (is new m read)) knows (recovery_of m) e refl sent.1)
      (λ o. absurd (let other : takes_message role (Other_control o.kind) ≡ true = ap (takes_message role) (sym o.is) ∙ kind in cc))
      (subst (ControlCarried role history old) read came))
      (λ f read. absurd (subst (ControlCarried role history old) read came))
      (λ fault read tells. absurd (subst (ControlCarried role history old) read came (told_of old.config request.octets fault tells))))
