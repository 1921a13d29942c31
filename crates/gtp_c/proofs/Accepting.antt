-- A packet that a gateway accepts is the last octets of its datagram.
use Rattle.std.proofs.Common.{◌≡◌, ℕ, Bool, true, false, List, refl, ap, subst, sym, ◌∙◌, inl, inr, true≢false}
use Rattle.std.specs.List.{AllByRecursion}
use Rattle.std.specs.Prelude.{Option, Some, None}
use Rattle.gtp_values.specs.declared.address.Endpoint.{Endpoint}
use Rattle.gtp_user.specs.Message.{Content, EchoRequest, EchoResponse, ErrorIndication, Notification, EndMarker, Packet as G_pdu, Other}
use Rattle.gtp_user.specs.declared.fault.UserFault.{UserFault}
use Rattle.gtp_user.specs.declared.fault.UserFault.TheVariants as faults
use Rattle.gtp_machine.specs.declared.role.Role.{Role}
use Rattle.gtp_machine.specs.declared.role.Role.TheVariants.{Serving, Packet}
use Rattle.gtp_machine.specs.Input.{Entry, UserReading, User_message, Extension_needed, User_fault, Effect}
use Rattle.gtp_machine.specs.Message.{Message, Plane, Control, User}
use Rattle.gtp_machine.specs.Node.{Node}
use Rattle.gtp_machine.specs.Reading.{user_reading, user_content_message, user_fault, IsUserReadOf}
use Rattle.gtp_machine.specs.User.{PacketCame, EndCame, ErrorCame, UserTaken, UserRead, UserStep}
use Rattle.gtp_machine.proofs.Octets.ByGrammar.{user_by_grammar}
use Rattle.gtp_gateway.specs.GatewayState.{GatewayState}
use Rattle.gtp_gateway.specs.user.Accepted.{Accepted}
use Rattle.gtp_gateway.specs.declared.step.Step.{Step}
use Rattle.gtp_gateway.specs.receive.Received.{IsReceived}
use Rattle.gtp_gateway.specs.user.Receive.{AreEntries}
use Rattle.gtp_c.specs.Common.{AreLast}
use Rattle.gtp_c.specs.Reading.{LiesAtEnd}
use Rattle.gtp_c.specs.Steps.{IsPayload, IsPayloadOf}
use Rattle.gtp_c.proofs.Carrying.{lies_at_end}

-- a fault reads as no message
no_message : (m : Message) (f : UserFault) → User_message m ≡ user_fault f → ⊥
no_message m f is = true≢false (ap is_message is ∙ fault_is_none f) where
  is_message : UserReading → Bool
  is_message (User_message m) = true
  is_message Extension_needed = false
  is_message (User_fault n) = false

  fault_is_none : (f : UserFault) → is_message (user_fault f) ≡ false
  fault_is_none (faults.ExtensionNeeded kind at) = refl
  fault_is_none (faults.Short held) = refl
  fault_is_none (faults.Version version) = refl
  fault_is_none faults.Protocol = refl
  fault_is_none (faults.Length stated held) = refl
  fault_is_none (faults.ExtensionZero at) = refl
  fault_is_none (faults.ExtensionPast at) = refl
  fault_is_none (faults.Missing kind) = refl
  fault_is_none (faults.Element at) = refl
  fault_is_none faults.Memory = refl
  fault_is_none faults.TooLong = refl

module _ (octets : List ℕ) (old : Node) (role : Role) (source : Endpoint) where
  -- each packet that is accepted is the last octets
  abbrev AllLast : Effect → Type 0
  AllLast e = AllByRecursion (λ (entry : Entry). AreLast entry.payload octets) e.out.accepted

  by : (e k : Effect) → e ≡ k → AllLast k → AllLast e
  by e k is last = subst AllLast (sym is) last

  packet : (target : ℕ) (payload : List ℕ) (e : Effect) → AreLast payload octets → PacketCame role target payload old e → AllLast e
  packet target payload e last (inl (not_so, is)) = by e _ is tt
  packet target payload e last (inr (at, inl (not_so, is))) = by e _ is tt
  packet target payload e last (inr (at, inr (active, inl (not_so, is)))) = by e _ is tt
  packet target payload e last (inr (at, inr (active, inr (comes, a)))) = by e _ a.gives (last, tt)

  end : (role : Role) (target : ℕ) (e : Effect) → EndCame role target old e → AllLast e
  end Packet target e is = by e _ is tt
  end Serving target e (inl (not_so, is)) = by e _ is tt
  end Serving target e (inr (at, inl (not_so, is))) = by e _ is tt
  end Serving target e (inr (at, inr (active, is))) = by e _ is tt

  error : (remote : ℕ) (e : Effect) → ErrorCame remote old e → AllLast e
  error remote e (inl (not_so, is)) = by e _ is tt
  error remote e (inr (named, is)) = by e _ is tt

  message : (seq : Option ℕ) (content : Content) (e : Effect) → LiesAtEnd content octets → UserTaken role source (user_content_message seq content) old e → AllLast e
  message seq (G_pdu target payload) e lies r = packet target payload e lies r
  message seq (EndMarker target) e lies r = end role target e r
  message seq (ErrorIndication remote address) e lies r = error remote e r
  message seq EchoRequest e lies is = by e _ is tt
  message seq EchoResponse e lies is = by e _ is tt
  message seq (Notification types) e lies is = by e _ is tt
  message seq (Other kind teid payload) e lies is = by e _ is tt

  fault : (reading : UserReading) (f : UserFault) (e : Effect) → reading ≡ user_fault f → UserRead role source reading old e → AllLast e
  fault (User_message m) f e is r = absurd (no_message m f is)
  fault Extension_needed f e same is = by e _ is tt
  fault (User_fault n) f e same is = by e _ is tt

  read : (reading : UserReading) (e : Effect) → IsUserReadOf octets reading → UserRead role source reading old e → AllLast e
  read reading e (inl (m, spelled, is)) r = message m.seq m.content e (lies_at_end octets m spelled) (subst (λ (x : UserReading). UserRead role source x old e) is r)
  read reading e (inr (f, is_fault, is)) r = fault reading f e is r

  step : (e : Effect) → UserStep role source (user_reading octets) old e → AllLast e
  step e (inl (not_so, is)) = by e _ is tt
  step e (inr (peer, r)) = read (user_reading octets) e ((user_by_grammar octets (user_reading octets)).0 refl) r

  payload : (accepted : Option Accepted) (e : Effect) → AreEntries old accepted e.out.accepted → AllLast e → IsPayload accepted octets
  payload None e entries last = tt
  payload (Some a) e (entry, of, same) last =
      let each = subst (λ (es : List Entry). AllByRecursion (λ (entry : Entry). AreLast entry.payload octets) es) same last in
      subst (λ (it : Entry). AreLast it.payload octets) of.is each.0

-- what was accepted is the last octets of the datagram
pub is_payload : (plane : Plane) (source : Endpoint) (octets : List ℕ) (old : GatewayState) (s : Step) (new : GatewayState)
    → IsReceived plane source octets old s new → IsPayloadOf plane s.accepted octets
is_payload Control source octets old s new received = tt
is_payload User source octets old s new received =
    payload octets old.node old.role source s.accepted received.effect received.tells.accepted (step octets old.node old.role source received.effect received.takes)
