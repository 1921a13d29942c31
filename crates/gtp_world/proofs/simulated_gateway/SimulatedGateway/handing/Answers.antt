use Rattle.std.proofs.Common.{List, ℕ, Option, None, sym, ◌∙◌, subst}
use Rattle.std.proofs.lemmas.Result.{IfOk-weaker}
use Rattle.gtp_machine.specs.Input.{Entry}
use Rattle.gtp_machine.specs.World.{By}
use Rattle.gtp_world.specs.Commands.{command_of}
use Rattle.gtp_world.specs.Inputs.{IsEntryAt, IsHanded}
use Rattle.gtp_world.specs.declared.event.Event.{Event}
use Rattle.gtp_world.proofs.simulated_gateway.SimulatedGateway.handing.Goals as goal

pub returns : goal.returns
returns c =
    let role = c.args.node in
    let node = c.args.self.now.gateway.node in
    let bearer = c.in-SendUser.bearer in
    IfOk-weaker c.of_any.result _ _ (λ handed is.
    subst (λ (e : Event). IsHanded role node (command_of e) handed) (sym c.in-SendUser.is)
    (subst (λ (k : List ℕ). IsEntryAt role node bearer None k handed) (c.in_ok-payload.ensures.items ∙ c.as_slice.ensures.value)
    (subst (λ (p : Option (By Entry)). IsEntryAt role node bearer None c.in_ok-payload.payload.items p) (sym is) c.entry.ensures)))
    c.of_any.ensures
