-- Two moves of a gateway, one after the other, are one step of the world.
use Rattle.std.proofs.Common.{◌≡◌, List, [], ◌++◌, None, sym, ◌∙◌, ap, append_assoc, append-nil}
use Rattle.gtp_machine.specs.Node.{Role, Serving, Packet, Node}
use Rattle.gtp_machine.specs.Input.{Move, Resend, Give_up, Forget, Sending, Out, Effect, nothing, messages, datagrams}
use Rattle.gtp_machine.specs.Move.{MoveStep}
use Rattle.gtp_machine.specs.Tick.{joined, ticked}
use Rattle.gtp_machine.specs.World.{World, Side, By, Sent, SentDatagram, signed, side_of, with_heard, stepped, moved}
use Rattle.gtp_machine.proofs.Basics.Datagrams.{both_signed, both_messages, both_datagrams}

-- a move hears and makes nothing
pub record IsQuietOut (out : Out) : Type 0 where
  pub heard : out.heard ≡ None
  pub made : out.made ≡ []

pub move_quiet : (old : Node) (move : Move) (e : Effect) → MoveStep old move e → IsQuietOut e.out
move_quiet old (Resend number) e r = record { heard = ap (λ (f : Effect). f.out.heard) r.gives; made = ap (λ (f : Effect). f.out.made) r.gives }
move_quiet old (Give_up number) e r = record { heard = ap (λ (f : Effect). f.out.heard) r.gives; made = ap (λ (f : Effect). f.out.made) r.gives }
move_quiet old (Forget request) e r = record { heard = ap (λ (f : Effect). f.out.heard) r.gives; made = ap (λ (f : Effect). f.out.made) r.gives }

-- a log that grows twice by what one gateway did
log_twice : {X : Type 0} (role : Role) (log : List (By X)) (first rest : List X) → (log ++ signed role first) ++ signed role rest ≡ log ++ signed role (first ++ rest)
log_twice role log first rest = append_assoc log (signed role first) (signed role rest) ∙ ap (λ k. log ++ k) (sym (both_signed role first rest))

history_twice : (role : Role) (history : List Sent) (first rest : List Sending)
    → (history ++ signed role (messages first)) ++ signed role (messages rest) ≡ history ++ signed role (messages (first ++ rest))
history_twice role history first rest = log_twice role history (messages first) (messages rest) ∙ ap (λ k. history ++ signed role k) (sym (both_messages first rest))

datagrams_twice : (role : Role) (sent_before : List SentDatagram) (first rest : List Sending)
    → (sent_before ++ signed role (datagrams first)) ++ signed role (datagrams rest) ≡ sent_before ++ signed role (datagrams (first ++ rest))
datagrams_twice role sent_before first rest = log_twice role sent_before (datagrams first) (datagrams rest) ∙ ap (λ k. sent_before ++ signed role k) (sym (both_datagrams first rest))

-- a list to which nothing is put first
put_twice : {X : Type 0} (first rest xs : List X) → first ≡ [] → rest ++ (first ++ xs) ≡ first ++ rest ++ xs
put_twice first rest xs none = ap (λ k. rest ++ (k ++ xs)) none ∙ ap (λ k. k ++ rest ++ xs) (sym none)

pub side_twice : (side : Side) (e : Effect) (rest : Out) (after : Node) → IsQuietOut e.out → stepped (stepped side e) (ticked rest after) ≡ stepped side (ticked (joined e.out rest) after)
side_twice side e rest after quiet =
    λ i. record side {
      node = after;
      seen = with_heard rest.heard (with_heard (quiet.heard i) side.seen);
      forgotten = append_assoc side.forgotten e.out.forgot rest.forgot i;
      made = put_twice e.out.made rest.made side.made quiet.made i;
    }

pub moved_twice : (w : World) (role : Role) (e : Effect) (rest : Out) (after : Node) → IsQuietOut e.out
    → moved (moved w role e) role (ticked rest after) ≡ moved w role (ticked (joined e.out rest) after)
moved_twice w Serving e rest after quiet =
    λ i. record w {
      serving = side_twice w.serving e rest after quiet i;
      datagrams = datagrams_twice Serving w.datagrams e.out.sent rest.sent i;
      history = history_twice Serving w.history e.out.sent rest.sent i;
      handed = log_twice Serving w.handed e.out.handed rest.handed i;
      accepted = log_twice Serving w.accepted e.out.accepted rest.accepted i;
    }
moved_twice w Packet e rest after quiet =
    λ i. record w {
      packet = side_twice w.packet e rest after quiet i;
      datagrams = datagrams_twice Packet w.datagrams e.out.sent rest.sent i;
      history = history_twice Packet w.history e.out.sent rest.sent i;
      handed = log_twice Packet w.handed e.out.handed rest.handed i;
      accepted = log_twice Packet w.accepted e.out.accepted rest.accepted i;
    }

-- where nothing is sent or told, and the gateway stays, the world does
pub side_nothing : (side : Side) → stepped side (ticked nothing side.node) ≡ side
side_nothing side = λ i. record side { forgotten = append-nil side.forgotten i }

world_nothing : (w : World) (role : Role) → moved w role (ticked nothing (side_of w role).node) ≡ w
world_nothing w Serving =
    λ i. record w {
      serving = side_nothing w.serving i;
      datagrams = append-nil w.datagrams i;
      history = append-nil w.history i;
      handed = append-nil w.handed i;
      accepted = append-nil w.accepted i;
    }
world_nothing w Packet =
    λ i. record w {
      packet = side_nothing w.packet i;
      datagrams = append-nil w.datagrams i;
      history = append-nil w.history i;
      handed = append-nil w.handed i;
      accepted = append-nil w.accepted i;
    }

pub moved_nothing : (w : World) (role : Role) (out : Out) (after : Node) → out ≡ nothing → after ≡ (side_of w role).node → moved w role (ticked out after) ≡ w
moved_nothing w role out after quiet same = (λ i. moved w role (ticked (quiet i) (same i))) ∙ world_nothing w role
