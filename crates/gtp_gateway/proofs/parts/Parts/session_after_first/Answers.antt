use Rattle.std.proofs.Common.{◌∙◌, ap}
use Rattle.std.specs.FinMap.{get}
use Rattle.gtp_values.specs.FiniteMap.{FiniteMap}
use Rattle.gtp_machine.specs.Node.{Session}
use Rattle.gtp_gateway.specs.Parts.{node_of}
use Rattle.gtp_gateway.proofs.BeforeSecond.{left_settled}
use Rattle.gtp_gateway.proofs.parts.Parts.session_after_first.Goals as goal

pub returns : goal.returns
returns c = λ number.
    let t = c.args.teid in
    left_settled c.args.heard c.args.verdict.now number (node_of c.args.self.now) t c.session-before.result c.session_left.result c.requires
    (c.session-before.ensures ∙ ap (λ (m : FiniteMap Session). get m t) c.view_after.ensures.sessions) c.session_left.ensures
