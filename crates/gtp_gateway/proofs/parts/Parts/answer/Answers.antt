use Rattle.std.proofs.Common.{◌∙◌, ap, [], ◌∷◌}
use Rattle.gtp_gateway.proofs.QueuesAfter.{readied_goes}
use Rattle.gtp_machine.specs.Node.{holding}
use Rattle.gtp_machine.specs.Reading.{control_message}
use Rattle.gtp_gateway.specs.tables.Change.{changed_by}
use Rattle.gtp_gateway.specs.Parts.{node_of}
use Rattle.gtp_gateway.specs.GatewayState.{GatewayState, state_of}
use Rattle.gtp_gateway.proofs.parts.Parts.answer.Goals as goal

pub returns-clause-node : goal.returns-clause-node
returns-clause-node c =
    let ready = c.in_ok-ready.ensures in
    c.send_answer.ensures.node
    ∙ (λ i. holding c.args.arrival.now (ready.read i) (node_of c.apply.new.self))
    ∙ ap (holding c.args.arrival.now (control_message c.args.message.now ∷ [])) (c.in_ok-apply.ensures.node ∙ ap (λ (s : GatewayState). changed_by c.args.change s.node) c.ready_answer.ensures.same)

pub returns-clause-goes : goal.returns-clause-goes
returns-clause-goes c =
    readied_goes c.args.arrival.now (state_of c.args.self.now) _ (state_of c.apply.new.self) c.send_answer.new.self c.in_ok-ready.ready.answer.items
    c.ready_answer.ensures.same c.apply.ensures.waits c.send_answer.ensures.queues
