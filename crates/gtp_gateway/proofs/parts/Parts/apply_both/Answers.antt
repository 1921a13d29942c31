use Rattle.std.proofs.Common.{sym, subst}
use Rattle.std.specs.FinMap.{get}
use Rattle.gtp_machine.specs.Node.{Bearer}
use Rattle.gtp_gateway.specs.declared.receive.create_bearer_request.judge.CreateBearerAnswer.{CreateBearerAnswer}
use Rattle.gtp_gateway.specs.receive.CreateBearerRequest.{CanGive, granted_to}
use Rattle.gtp_gateway.specs.receive.Piggybacked.{node_after_first, MayStand}
use Rattle.gtp_gateway.specs.Parts.{node_of}
use Rattle.gtp_gateway.proofs.SecondGranted.{may_stand}
use Rattle.gtp_gateway.proofs.parts.Parts.apply_both.Goals as goal

pub apply_and_make-requires-clause-stands : goal.apply_and_make-requires-clause-stands
apply_and_make-requires-clause-stands c =
    let n = node_of c.args.self.now in
    let g = c.in-Granted.grant in
    let r = c.args.request.now in
    let t = g.drawn.teid in
    let can = subst (λ (a : CreateBearerAnswer). CanGive (get (node_after_first c.args.heard c.args.verdict c.args.seq n).sessions r.header) a n) c.in-Granted.is c.requires.given in
    subst (λ (b : Bearer). MayStand c.args.heard c.args.verdict t b n) (sym c.granted_bearer-bearer.ensures)
    (may_stand c.args.heard c.args.verdict c.args.seq n t (granted_to r g.identity) can.0 c.requires.of c.requires.can can.3.above can.1)
