use Rattle.std.proofs.Common.{◌∙◌, sym}
use Rattle.gtp_gateway.specs.receive.RestartCounter.{node_heard}
use Rattle.gtp_gateway.specs.Parts.{node_of}
use Rattle.gtp_gateway.proofs.Opened.{bearer_stood, heard_opened, succeeded}
use Rattle.gtp_gateway.proofs.parts.Parts.open_bearer.Goals as goal

pub open-requires : goal.open-requires
open-requires c =
    let at = c.requires.can in
    let stands = bearer_stood c.args.heard (node_of c.args.self.now) c.args.teid at.bearer at.stands in
    record {
      unopened = record { bearer = at.bearer; stands = stands; blank = at.blank };
      session = record { bearer = at.bearer; stands = stands; of = sym at.of };
    }

pub returns-clause-node : goal.returns-clause-node
returns-clause-node c =
    let old = node_of c.args.self.now in
    let opened = succeeded c.open.result c.in_ok-map_err.ensures.variant c.open.ensures.ok in
    c.hear.ensures.node
    ∙ ((λ i. node_heard c.args.heard (record old { bearers = opened i }))
    ∙ heard_opened c.args.heard old c.args.teid c.args.bearer c.requires.can)
