-- Commands leave a gateway sound.
use Rattle.std.proofs.Common.{◌≡◌, ℕ, Option, ◌∙◌, Result, Ok, Err, sym, ap, subst}
use Rattle.std.specs.Prelude.{IfOk, OnErr}
use Rattle.std.proofs.lemmas.Grind.{merely}
use mathlib.Core.Logic.{∥∥₁_elim, ∥∥₁_prop}
use Rattle.gtp_machine.specs.Input.{Came_to, Command, Commanded, Effect}
use Rattle.gtp_machine.specs.Sound.{IsSound, IsWellFormed}
use Rattle.gtp_machine.proofs.Sound.Rows.{stays_sound}
use Rattle.gtp_gateway.specs.declared.fault.CommandFault.{CommandFault}
use Rattle.gtp_gateway.specs.declared.sent.Begun.{Begun}
use Rattle.gtp_gateway.specs.command.Command.{outcome_by, IsCarriedOut}
use Rattle.gtp_gateway.specs.command.Request.{Request, AsksFor, IsAskedFor}
use Rattle.gtp_machine.specs.declared.outcome.Outcome.TheVariants as outcomes
use Rattle.gtp_machine.specs.Choice.{HasPendingRoom}
use Rattle.gtp_machine.specs.Step.{Step}
use Rattle.gtp_gateway.specs.GatewayState.{GatewayState, IsSoundState}

-- what a command leaves is sound: it was a step, or changed nothing
pub command_sound : (command : Command) (r : Result Begun CommandFault) (old new : GatewayState) → IsWellFormed (Commanded command)
    → IfOk r (λ begun. IsCarriedOut command old begun new) → OnErr r (new ≡ old) → IsSoundState old → IsSoundState new
command_sound command (Ok begun) old new formed done same whole =
    ∥∥₁_elim whole ∥∥₁_prop (λ before. merely (subst (λ r. IsSound r new.node) (sym done.role)
    (subst (IsSound old.role) (sym done.becomes) (stays_sound old.role old.node (Commanded command) done.effect before formed done.step))))
command_sound command (Err fault) old new formed done same whole = subst IsSoundState (sym same) whole

-- a request that was sent by the last rule of its command was sent by the command
pub done_by : (command : Command) (number : ℕ) (p q : Request) (r : Result Begun CommandFault) (old new : GatewayState) → p ≡ q → ((teid : Option ℕ) → outcomes.Begun teid ≡ outcome_by command teid)
    → ((e : Effect) → HasPendingRoom old.node → AsksFor number q old.node e → Step old.role old.node (Commanded command) e)
    → IfOk r (λ begun. IsAskedFor number p old begun new) → IfOk r (λ begun. IsCarriedOut command old begun new)
done_by command number p q (Ok begun) old new is comes step done =
    let asked = subst (λ x. IsAskedFor number x old begun new) is done in
    record {
      effect = asked.effect;
      step = step asked.effect asked.room asked.asks;
      sent = asked.sent;
      outcome = asked.outcome ∙ ap (λ o. Came_to o) (comes _);
      becomes = asked.becomes;
      role = asked.role;
    }
done_by command number p q (Err fault) old new is comes step done = tt
