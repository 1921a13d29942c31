-- A step of a gateway, whatever it takes, leaves what both know.
use Rattle.std.proofs.Common.{◌≡◌, ℕ, List, Some, ap}
use Rattle.gtp_values.specs.declared.qos.Qos.{Qos}
use Rattle.gtp_machine.specs.Step.{Step}
use Rattle.gtp_machine.specs.Message.{Message, Owns, recovery_of}
use Rattle.gtp_machine.specs.Node.{Role, Serving, Packet, Arrival, Node}
use Rattle.gtp_machine.specs.Input.{Specification, ControlReading, Control_message, Input, Commanded, Control_came, User_came, Moves_on, Effect}
use Rattle.gtp_machine.specs.Choice.{counter_of}
use Rattle.gtp_machine.specs.Answer.{IsNew, TakesReading, ControlStep}
use Rattle.gtp_machine.specs.Serving.{ServingTakes}
use Rattle.gtp_machine.specs.Packet.{PacketTakes}
use Rattle.gtp_machine.specs.Command.{SessionBegun, BearerBegun}
use Rattle.gtp_machine.specs.World.{other, Sent, HasSent}
use Rattle.gtp_machine.proofs.Origins.Drawing.{TellsStart, IsProper}
use Rattle.gtp_machine.proofs.Origins.Entries.{Once}
use Rattle.gtp_machine.proofs.Changes.Steps.{NothingOwns, NothingOwns-from}
use Rattle.gtp_machine.proofs.Changes.After.{Knows, After}
use Rattle.gtp_machine.proofs.Rows.Common.{unchanged, commanded, moves, UserCarried, user_step}
use Rattle.gtp_machine.proofs.Rows.Serving.{session_begun_here, serving_taken}
use Rattle.gtp_machine.proofs.Rows.Packet.{bearer_begun_here, packet_taken}
use Rattle.gtp_machine.proofs.Rows.Control.{ControlCarried, control_came}
use Rattle.gtp_machine.proofs.Rows.Taking.{Took}

-- what a gateway takes was sent by the other
abbrev pub Carried : Role → List Sent → Node → Input → Type 0
Carried role history old (Commanded command) = Unit {0}
Carried role history old (Control_came request reading) = ControlCarried role history old reading
Carried role history old (User_came source reading) = UserCarried role history reading
Carried role history old (Moves_on move) = Unit {0}

-- the request came so, and no answer was held for it
abbrev pub Taken : Node → Input → Arrival → Message → Type 0
Taken old input a m = (input ≡ Control_came a (Control_message m)) × IsNew old a

module _ (history : List Sent) (serving_once : Once history Serving) (packet_once : Once history Packet) (old : Node) where
  -- the two commands that one gateway has and the other has not
  session_begun_by : (role : Role) → NothingOwns history role old → Knows role history old → (taken : Arrival → Message → Type 0) (e : Effect) (spec : Specification)
      → SessionBegun role spec old e → After role history taken old e
  session_begun_by Serving unowned knows taken e spec r = session_begun_here history taken serving_once packet_once old knows unowned spec e r
  session_begun_by Packet unowned knows taken e spec r = unchanged Packet history taken serving_once packet_once old knows _ e r

  bearer_begun_by : (role : Role) → NothingOwns history role old → Knows role history old
      → (taken : Arrival → Message → Type 0) (e : Effect) (session : ℕ) (tft : List ℕ) (qos : Qos) → BearerBegun role session tft qos old e
      → After role history taken old e
  bearer_begun_by Serving unowned knows taken e session tft qos r = unchanged Serving history taken serving_once packet_once old knows _ e r
  bearer_begun_by Packet unowned knows taken e session tft qos r = bearer_begun_here history taken serving_once packet_once old knows unowned session tft qos e r

  -- a datagram of the control plane
  module _ (role : Role) (unowned : NothingOwns history role old) (knows : Knows role history old) (Takes : Arrival → Message → Node → Effect → Type 0) (request : Arrival) (reading : ControlReading)
      (rows : (mid : Node) → Knows role history mid → NothingOwns history role mid → (m : Message) (e : Effect) → HasSent history (other role) m
      → Taken old (Control_came request reading) request m → ((c : ℕ) → recovery_of m ≡ Some c → mid.known ≡ Some c) → Takes request m mid e
      → Took role history (Taken old (Control_came request reading)) mid e) where
    reading_came : (e : Effect) → ControlCarried role history old reading → ControlStep (TakesReading role Takes reading) request old e
        → After role history (Taken old (Control_came request reading)) old e
    reading_came e came r =
        control_came role history (Taken old (Control_came request reading)) serving_once packet_once old knows Takes request
        (λ m came is mid from mid_knows told e r. rows mid mid_knows (NothingOwns-from history role old mid from unowned) m e came is told r) reading
        e came (λ new m is. (ap (λ k. Control_came request k) is, new)) r

  control_taken : (role : Role) → NothingOwns history role old
      → ((m : Message) (t : ℕ) → HasSent history (other role) m → TellsStart m → Owns m t → recovery_of m ≡ Some (counter_of t))
      → ((m : Message) → HasSent history (other role) m → IsProper (other role) m) → Knows role history old
      → (request : Arrival) (reading : ControlReading) (e : Effect) → ControlCarried role history old reading
      → Step role old (Control_came request reading) e → After role history (Taken old (Control_came request reading)) old e
  control_taken Serving unowned dated proper knows request reading e came r =
      reading_came Serving unowned knows ServingTakes request reading (λ mid mid_knows mid_unowned.
      serving_taken history (Taken old (Control_came request reading)) serving_once packet_once mid mid_knows dated proper mid_unowned request) e came
      r
  control_taken Packet unowned dated proper knows request reading e came r =
      reading_came Packet unowned knows PacketTakes request reading (λ mid mid_knows mid_unowned.
      packet_taken history (Taken old (Control_came request reading)) serving_once packet_once mid mid_knows dated proper mid_unowned request) e came
      r

  module _ (role : Role) (unowned : NothingOwns history role old)
      (dated : (m : Message) (t : ℕ) → HasSent history (other role) m → TellsStart m → Owns m t → recovery_of m ≡ Some (counter_of t))
      (proper : (m : Message) → HasSent history (other role) m → IsProper (other role) m) (knows : Knows role history old) where
    pub step_after : (input : Input) (e : Effect) → Carried role history old input → Step role old input e → After role history (Taken old input) old e
    step_after (Commanded command) e came r =
        commanded role history (Taken old (Commanded command)) serving_once packet_once old knows role command e
        (session_begun_by role unowned knows (Taken old (Commanded command)) e) (bearer_begun_by role unowned knows (Taken old (Commanded command)) e)
        r
    step_after (Control_came request reading) e came r = control_taken role unowned dated proper knows request reading e came r
    step_after (User_came source reading) e came r = user_step role history (Taken old (User_came source reading)) serving_once packet_once old knows role source reading e came r
    step_after (Moves_on move) e came r = moves role history (Taken old (Moves_on move)) serving_once packet_once old knows move e r
