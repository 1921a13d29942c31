-- What a gateway does by itself as time goes by (TS 29.274, 7.6).
use Rattle.std.specs.Prelude.{◌≡◌, ◌≢◌, ◌⊎◌, ℕ, List, [], ◌∷◌}
use Rattle.gtp_values.specs.FiniteMap.{Among}
use Rattle.gtp_machine.specs.Config.{control_end}
use Rattle.gtp_machine.specs.Node.{Arrival, Held, Node}
use Rattle.gtp_machine.specs.Input.{Move, Resend, Give_up, Forget, Effect, Ticked, nothing, says}
use Rattle.gtp_machine.specs.Choice.{HasPending}
use Rattle.gtp_machine.specs.Removal.{finished}

-- A pending request is sent again, the same octets to the same place.
pub record Resends (old : Node) (number : ℕ) (e : Effect) : Type 0 where
  pub at : HasPending old number
  pub gives : e ≡ record { out = says (control_end old.config.peer.control) at.pending.request; outcome = Ticked; node = old }

-- A pending request is given up, as if a rejecting answer came: a pending or closing context goes.
pub record GivesUp (old : Node) (number : ℕ) (e : Effect) : Type 0 where
  pub at : HasPending old number
  pub gives : e ≡ record { out = record nothing { gave_up = number ∷ [] }; outcome = Ticked; node = finished old number at.pending }

-- what is left of held answers without those to the request, in order
abbrev pub AreLeft : Arrival → List Held → List Held → Type 0
AreLeft request [] left = left ≡ []
AreLeft request (h ∷ held) left =
    ((h.request ≡ request) × AreLeft request held left)
    ⊎ ((h.request ≢ request) × ((rest : List Held) × AreLeft request held rest × (left ≡ h ∷ rest)))

-- A held answer is given up: it goes, and the others stay in order.
pub record Forgets (old : Node) (request : Arrival) (e : Effect) : Type 0 where
  pub held : Held
  pub stood : Among held old.held
  pub same : held.request ≡ request
  pub rest : List Held
  pub left : AreLeft request old.held rest
  pub gives : e ≡ record { out = record nothing { forgot = request ∷ [] }; outcome = Ticked; node = record old { held = rest } }

-- the moves of a tick
abbrev pub MoveStep : Node → Move → Effect → Type 0
MoveStep old (Resend number) e = Resends old number e
MoveStep old (Give_up number) e = GivesUp old number e
MoveStep old (Forget request) e = Forgets old request e
