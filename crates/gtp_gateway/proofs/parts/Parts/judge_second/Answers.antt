use Rattle.gtp_gateway.specs.Parts.{node_of}
use Rattle.gtp_gateway.proofs.SecondGranted.{settled_stands}
use Rattle.gtp_gateway.proofs.parts.Parts.judge_second.Goals as goal

pub returns-clause-judged : goal.returns-clause-judged
returns-clause-judged c = λ number.
    c.judge_create_bearer.ensures.judged _
    (settled_stands c.args.heard c.args.verdict.now number (node_of c.args.self.now) c.args.request.now.header c.session_after_first-found.result
    c.view_after-view.result.bearers c.requires.of c.requires.can (c.session_after_first-found.ensures number) c.view_after-view.ensures.bearers)
