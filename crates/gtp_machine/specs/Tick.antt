-- A tick of one gateway (TS 29.274, 7.6): a list of moves, one after the other.
use Rattle.std.specs.Prelude.{◌≡◌, ℕ, List, [], ◌∷◌, ◌++◌, map}
use Rattle.gtp_machine.specs.Ordered.{Unless}
use Rattle.gtp_machine.specs.Node.{Arrival, Node}
use Rattle.gtp_machine.specs.Input.{Move, Resend, Give_up, Forget, Out, Effect, Ticked, nothing}
use Rattle.gtp_machine.specs.Choice.{HasPending}
use Rattle.gtp_machine.specs.Removal.{finished}
use Rattle.gtp_machine.specs.Move.{MoveStep}

-- what two steps give, one after the other
abbrev pub joined : Out → Out → Out
joined first rest =
    record {
      sent = first.sent ++ rest.sent;
      heard = rest.heard;
      learned = rest.learned;
      gave_up = first.gave_up ++ rest.gave_up;
      forgot = first.forgot ++ rest.forgot;
      made = first.made ++ rest.made;
      handed = first.handed ++ rest.handed;
      accepted = first.accepted ++ rest.accepted;
    }

-- A gateway makes these moves, one after the other: what they send and tell together, and the gateway after them.
abbrev pub TickStep : Node → List Move → Out → Node → Type 0
TickStep old [] out new = (out ≡ nothing) × (new ≡ old)
TickStep old (move ∷ moves) out new =
    (effect : Effect) × (rest : Out) × MoveStep old move effect × TickStep effect.node moves rest new × (out ≡ joined effect.out rest)

-- what a tick gives
abbrev pub ticked : Out → Node → Effect
ticked out new = record { out = out; outcome = Ticked; node = new }

-- what is due in a tick: requests to send again and requests to give up, each in the order in which they were begun, and requests
-- whose answers are to be forgotten, in the order in which those came to be held
pub record Due : Type 0 where
  pub resends : List ℕ
  pub give_ups : List ℕ
  pub forgets : List Arrival

-- Of the requests that are due to be given up, each in turn that still waits is given up. A request that an earlier one of them
-- took with it, since they were about one session or one bearer, waits no more: it is not given up, and nothing is told of it.
abbrev pub AreGiveUps : Node → List ℕ → List Move → Type 0
AreGiveUps old [] moves = moves ≡ []
AreGiveUps old (number ∷ numbers) moves =
    Unless (HasPending old number) (AreGiveUps old numbers moves) (λ at.
    (others : List Move) × AreGiveUps (finished old number at.pending) numbers others × (moves ≡ Give_up number ∷ others))

-- The moves of a tick in which this is due: requests are sent again, which changes nothing; then requests are given up; then answers are forgotten.
pub record AreMovesOf (old : Node) (due : Due) (moves : List Move) : Type 0 where
  pub given_up : List Move
  pub gives_up : AreGiveUps old due.give_ups given_up
  pub all : moves ≡ map Resend due.resends ++ given_up ++ map Forget due.forgets

-- A gateway ticks, where this is due.
pub record Ticks (old : Node) (due : Due) (out : Out) (new : Node) : Type 0 where
  pub moves : List Move
  pub are : AreMovesOf old due moves
  pub step : TickStep old moves out new
