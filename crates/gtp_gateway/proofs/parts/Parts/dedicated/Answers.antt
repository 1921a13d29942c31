use Rattle.std.proofs.Common.{◌≡◌, sym, ◌∙◌, ap}
use Rattle.gtp_machine.specs.Node.{Bearer}
use Rattle.gtp_machine.proofs.Basics.Facts.{one_value}
use Rattle.gtp_gateway.specs.GatewayState.{state_of}
use Rattle.gtp_gateway.proofs.Columns.{no}
use Rattle.gtp_gateway.proofs.DedicatedBearers.{not_named}
use Rattle.gtp_gateway.proofs.parts.Parts.dedicated.Goals as goal

pub returns-then-not-is_dedicated-clause-none : goal.returns-then-not-is_dedicated-clause-none
returns-then-not-is_dedicated-clause-none c =
    let with = c.in_ok-teid.ensures.found in
    let one : with.bearer ≡ c.in_ok-bearer.bearer = one_value _ with.bearer c.in_ok-bearer.bearer with.stands (sym c.get.ensures ∙ c.in_ok-bearer.was) in
    not_named (state_of c.args.self.now) c.requires.whole c.args.session c.args.identity c.in_ok-teid.teid with.bearer with.stands with.of with.has
    (λ is. no c.is_dedicated.ensures c.if-not-is_dedicated.true (ap (λ (b : Bearer). b.kind) (sym one) ∙ is))
