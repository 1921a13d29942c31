-- Requests that a tick sends again, as the machine's moves.
use Rattle.std.proofs.Common.{◌≡◌, inl, inr, ℕ, true, List, [], ◌∷◌, ◌++◌, map, Some, refl, sym, ◌∙◌, ap, subst}
use Rattle.std.specs.Prelude.{All}
use Rattle.std.specs.List.{filter_map, cons_option}
use Rattle.std.proofs.lemmas.List.Elements.{recursion_from_All, All-nil, All-cons}
use Rattle.std.specs.FinMap.{get}
use Rattle.gtp_values.specs.declared.address.Ip.{Ip}
use Rattle.gtp_values.specs.FiniteMap.{Among}
use Rattle.gtp_reliable.specs.declared.waiting.NextTick.{NextTick}
use Rattle.gtp_reliable.specs.declared.waiting.NextTick.TheVariants.{SentAgain}
use Rattle.gtp_reliable.specs.Waiting.{Waiting, next_tick, sent_again, sent_again_by}
use Rattle.gtp_reliable.specs.Waiting as reliable
use Rattle.gtp_reliable.specs.Pending.{AreDistinct}
use Rattle.gtp_machine.specs.Config.{Config, control_end, own_end}
use Rattle.gtp_machine.specs.Input.{Ticked, Move, Resend, Out, Sending, says}
use Rattle.gtp_machine.specs.Message.{Message, Plane, Control, plane_of, Echo_request, Create_session_request, Delete_session_request, Create_bearer_request, Delete_bearer_request}
use Rattle.gtp_machine.specs.Node.{PendingRequest, Node}
use Rattle.gtp_machine.specs.Spelling.{datagram_of, spelled}
use Rattle.gtp_machine.specs.Tick.{TickStep, joined}
use Rattle.gtp_gateway.specs.declared.command.purpose.Purpose.{Purpose}
use Rattle.gtp_gateway.specs.declared.command.purpose.Asked.{Asked}
use Rattle.gtp_gateway.specs.declared.command.purpose.Asked.TheVariants.{Echo, CreateSession, DeleteSession, CreateBearer, DeleteBearer}
use Rattle.gtp_gateway.specs.Parts.{pending_of, pending_in}
use Rattle.gtp_gateway.specs.messages.Sent.{ReadsBack, SendingReads}
use Rattle.gtp_gateway.specs.messages.Spelled.{message_in, is_asked, is_for, IsAsked, AreAsked}
use Rattle.gtp_gateway.specs.Tick.{datagram_again}
use Rattle.gtp_gateway.proofs.Requests.{of_among, stands_there}
use Rattle.gtp_gateway.proofs.Taking.{kept_back}

-- the requests that are sent again
abbrev pub again_in : ℕ → ℕ → List (Waiting Purpose) → List reliable.Message
again_in t3 n3 ws = filter_map (sent_again t3 n3) ws

-- what the machine sends for one
abbrev pub sending_again : Config → reliable.Message → Sending
sending_again config m = record { destination = control_end config.peer.control; messages = message_in m.octets ∷ [] }

-- a request is one of those that wait
record IsOf (ws : List (Waiting Purpose)) (m : reliable.Message) : Type 0 where
  pub waiting : Waiting Purpose
  pub among : Among waiting ws
  pub is : m ≡ record { seq = waiting.seq; to = waiting.to; octets = waiting.octets }

of_more : (w : Waiting Purpose) (ws : List (Waiting Purpose)) (m : reliable.Message) → IsOf ws m → IsOf (w ∷ ws) m
of_more w ws m of = record { waiting = of.waiting; among = inr of.among; is = of.is }

of_waiting : (t3 n3 : ℕ) (ws : List (Waiting Purpose)) (m : reliable.Message) → Among m (again_in t3 n3 ws) → IsOf ws m
of_waiting t3 n3 [] m among = absurd among
of_waiting t3 n3 (w ∷ ws) m among = by (next_tick t3 n3 w) (of_waiting t3 n3 ws m) among
  where
    by : (t : NextTick) → (Among m (again_in t3 n3 ws) → IsOf ws m) → Among m (cons_option (sent_again_by t w) (again_in t3 n3 ws)) → IsOf (w ∷ ws) m
    by SentAgain later (inl is) = record { waiting = w; among = inl refl; is = is }
    by SentAgain later (inr there) = of_more w ws m (later there)
    by t later among = of_more w ws m (later among)

-- a request waits under the number, with these octets
record Stands (node : Node) (m : reliable.Message) : Type 0 where
  pub pending : PendingRequest
  pub waits : get node.pending m.seq ≡ Some pending
  pub says : pending.request ≡ message_in m.octets

stands : (node : Node) (ws : List (Waiting Purpose)) → node.pending ≡ pending_in ws → AreDistinct ws → (m : reliable.Message) → IsOf ws m → Stands node m
stands node ws pending distinct m of =
    record {
      pending = (pending_of of.waiting).1;
      waits = (λ i. get (pending i) (of.is i).seq) ∙ stands_there ws of.waiting distinct of.among;
      says = ap (λ (x : reliable.Message). message_in x.octets) (sym of.is);
    }

moves_each : (node : Node) (ms : List reliable.Message) (moves : List Move) (rest : Out) (new : Node) → ((m : reliable.Message) → Among m ms → Stands node m) → TickStep node moves rest new
    → TickStep node (map Resend (map (λ (m : reliable.Message). m.seq) ms) ++ moves) (record rest { sent = map (sending_again node.config) ms ++ rest.sent }) new
moves_each node [] moves rest new each tick = tick
moves_each node (m ∷ ms) moves rest new each tick =
    let here = each m (inl refl) in (
      record { out = says (control_end node.config.peer.control) here.pending.request; outcome = Ticked; node = node },
      record rest { sent = map (sending_again node.config) ms ++ rest.sent },
      record { at = record { pending = here.pending; waits = here.waits }; gives = refl },
      moves_each node ms moves rest new (λ k among. each k (inr among)) tick,
      ap (λ (r : Message). joined (says (control_end node.config.peer.control) r) (record rest { sent = map (sending_again node.config) ms ++ rest.sent })) (sym here.says),
    )

-- the moves that send again, in order of beginning
pub resending : (node : Node) (t3 n3 : ℕ) (ws : List (Waiting Purpose)) (moves : List Move) (rest : Out) (new : Node) → node.pending ≡ pending_in ws → AreDistinct ws → TickStep node moves rest new
    → TickStep node (map Resend (map (λ (m : reliable.Message). m.seq) (again_in t3 n3 ws)) ++ moves) (record rest { sent = map (sending_again node.config) (again_in t3 n3 ws) ++ rest.sent }) new
resending node t3 n3 ws moves rest new pending distinct tick = moves_each node (again_in t3 n3 ws) moves rest new (λ m among. stands node ws pending distinct m (of_waiting t3 n3 ws m among)) tick

-- requests are messages of the control plane
on_control : (purpose : Purpose) (m : Message) → is_for purpose m ≡ true → plane_of m ≡ Control
on_control purpose m is = by purpose.asked m is
  where
    by : (a : Asked) (m : Message) → is_asked a purpose m ≡ true → plane_of m ≡ Control
    by Echo (Echo_request q) is = refl
    by (CreateSession default) (Create_session_request q) is = refl
    by DeleteSession (Delete_session_request d) is = refl
    by CreateBearer (Create_bearer_request r) is = refl
    by DeleteBearer (Delete_bearer_request d) is = refl
    by a m is = absurd cc

-- the octets that are kept are the machine's datagram
same_datagram : (config : Config) (ws : List (Waiting Purpose)) (m : reliable.Message) → AreAsked config.peer.control ws → IsOf ws m
    → datagram_again config m ≡ datagram_of config (sending_again config m)
same_datagram config ws m each of =
    let w = of.waiting in
    let asked = of_among (IsAsked config.peer.control) ws w (recursion_from_All (IsAsked config.peer.control) ws each) of.among in
    let plane = on_control w.purpose (message_in w.octets) asked.purpose in
    let kept : datagram_again config (record { seq = w.seq; to = w.to; octets = w.octets }) ≡ record
    { plane = Control; from = control_end config.own.control; to = control_end config.peer.control; octets = spelled (message_in w.octets) } = λ i.
    record { plane = Control; from = control_end config.own.control; to = asked.to i; octets = asked.octets.is i } in
    let made : datagram_of config (sending_again config (record { seq = w.seq; to = w.to; octets = w.octets })) ≡ record
    { plane = Control; from = control_end config.own.control; to = control_end config.peer.control; octets = spelled (message_in w.octets) } =
    ap (λ (p : Plane). record { plane = p; from = own_end config p; to = control_end config.peer.control; octets = spelled (message_in w.octets) }) plane in
    ap (datagram_again config) of.is ∙ (kept ∙ (sym made ∙ ap (λ (x : reliable.Message). datagram_of config (sending_again config x)) (sym of.is)))

same_each : {X Y : Type 0} (f g : X → Y) (xs : List X) → ((x : X) → Among x xs → f x ≡ g x) → map f xs ≡ map g xs
same_each f g [] same = refl
same_each f g (x ∷ xs) same = λ i. same x (inl refl) i ∷ same_each f g xs (λ y among. same y (inr among)) i

-- what is sent again is what the machine sends
pub resent : (config : Config) (t3 n3 : ℕ) (ws : List (Waiting Purpose)) → AreAsked config.peer.control ws
    → map (datagram_again config) (again_in t3 n3 ws) ≡ map (datagram_of config) (map (sending_again config) (again_in t3 n3 ws))
resent config t3 n3 ws each =
    same_each (datagram_again config) (λ m. datagram_of config (sending_again config m)) (again_in t3 n3 ws)
    (λ m among. same_datagram config ws m each (of_waiting t3 n3 ws m among)) ∙ twice (again_in t3 n3 ws)
  where
    twice : (ms : List reliable.Message) → map (λ m. datagram_of config (sending_again config m)) ms ≡ map (datagram_of config) (map (sending_again config) ms)
    twice [] = refl
    twice (m ∷ ms) = λ i. datagram_of config (sending_again config m) ∷ twice ms i

-- a request that waits reads back
asked_back : (peer : Ip) (ws : List (Waiting Purpose)) (m : reliable.Message) → AreAsked peer ws → IsOf ws m → ReadsBack (message_in m.octets ∷ [])
asked_back peer ws m each of =
    let w = of.waiting in
    let asked = of_among (IsAsked peer) ws w (recursion_from_All (IsAsked peer) ws each) of.among in
    subst (λ (x : reliable.Message). ReadsBack (message_in x.octets ∷ [])) (sym of.is) (kept_back w.octets (on_control w.purpose (message_in w.octets) asked.purpose) asked.octets)

all_back : (config : Config) (ms : List reliable.Message) → ((m : reliable.Message) → Among m ms → ReadsBack (message_in m.octets ∷ [])) → All SendingReads (map (sending_again config) ms)
all_back config [] each = All-nil SendingReads
all_back config (m ∷ ms) each = All-cons SendingReads (sending_again config m) (map (sending_again config) ms) (each m (inl refl)) (all_back config ms (λ k among. each k (inr among)))

-- each that is sent again reads back
pub resent_back : (config : Config) (t3 n3 : ℕ) (ws : List (Waiting Purpose)) → AreAsked config.peer.control ws → All SendingReads (map (sending_again config) (again_in t3 n3 ws))
resent_back config t3 n3 ws each = all_back config (again_in t3 n3 ws) (λ m among. asked_back config.peer.control ws m each (of_waiting t3 n3 ws m among))
