use Rattle.std.proofs.Common.{◌≡◌, Some, None, sym, ◌∙◌, ap, subst}
use Rattle.std.specs.FinMap.{get}
use Rattle.gtp_values.specs.FiniteMap.{FiniteMap}
use Rattle.gtp_machine.specs.Node.{Session, Bearer}
use Rattle.gtp_gateway.specs.receive.CreateBearerResponse.{JudgesCreateBearerResponse}
use Rattle.gtp_gateway.specs.receive.RestartCounter.{node_heard}
use Rattle.gtp_gateway.specs.Parts.{node_of}
use Rattle.gtp_gateway.proofs.CreateBearerResponses.{bearer_does_not_fit, bearer_is_refused, not_one, bearer_refused, not_returned, clashes, bearer_opens, bearer_stands, bearer_blank}
use Rattle.gtp_gateway.proofs.Columns.{yes, no}
use Rattle.gtp_gateway.proofs.parts.Parts.judge_create_bearer_response.Goals as goal

pub returns-in_default-fits_create_bearer : goal.returns-in_default-fits_create_bearer
returns-in_default-fits_create_bearer c =
    let n = node_heard c.args.heard (node_of c.args.self.now) in
    record { judged = λ x says. bearer_does_not_fit n c.args.answer.now x says c.in-Some.purpose c.in-Some.ensures.some c.in_default-fits_create_bearer.ensures.none; can = tt }

pub returns-then-not-accepts : goal.returns-then-not-accepts
returns-then-not-accepts c =
    let n = node_heard c.args.heard (node_of c.args.self.now) in
    let k = c.in-Some-fits_create_bearer in
    subst (JudgesCreateBearerResponse c.args.answer.now n) (sym c.rejects.ensures)
    (record { judged = λ x says. bearer_is_refused n c.args.answer.now x says c.in-Some.purpose c.in-Some.ensures.some k.asked k.ensures.some (no c.accepts.ensures c.if-not-accepts.true); can = tt })

pub returns-in_default-context : goal.returns-in_default-context
returns-in_default-context c =
    let n = node_heard c.args.heard (node_of c.args.self.now) in
    let k = c.in-Some-fits_create_bearer in
    record {
      judged = λ x says.
          not_one n c.args.answer.now x says c.in-Some.purpose c.in-Some.ensures.some k.asked k.ensures.some (yes c.accepts.ensures c.if-not-accepts.false)
          c.in_default-context.is;
      can = tt;
    }

pub returns-then-not-accepts-2 : goal.returns-then-not-accepts-2
returns-then-not-accepts-2 c =
    let n = node_heard c.args.heard (node_of c.args.self.now) in
    let k = c.in-Some-fits_create_bearer in
    subst (JudgesCreateBearerResponse c.args.answer.now n) (sym c.rejects-then-not-accepts-2.ensures)
    (record {
      judged =
          λ x says. bearer_refused n c.args.answer.now x says c.in-Some.purpose c.in-Some.ensures.some k.asked k.ensures.some
          (yes c.accepts.ensures c.if-not-accepts.false) c.in-Some-context.context c.in-Some-context.is
          (no c.accepts-2.ensures c.if-not-accepts-2.true);
      can = tt;
    })

pub returns-then-not-returns_bearer : goal.returns-then-not-returns_bearer
returns-then-not-returns_bearer c =
    let n = node_heard c.args.heard (node_of c.args.self.now) in
    let k = c.in-Some-fits_create_bearer in
    record {
      judged =
          λ x says. not_returned n c.args.answer.now x says c.in-Some.purpose c.in-Some.ensures.some k.asked k.ensures.some
          (yes c.accepts.ensures c.if-not-accepts.false) c.in-Some-context.context c.in-Some-context.is
          (yes c.accepts-2.ensures c.if-not-accepts-2.false) (no c.returns_bearer.ensures c.if-not-returns_bearer.true);
      can = tt;
    }

pub returns-in_default-openable : goal.returns-in_default-openable
returns-in_default-openable c =
    let n = node_heard c.args.heard (node_of c.args.self.now) in
    let k = c.in-Some-fits_create_bearer in
    let view = c.view_after-view in
    record {
      judged =
          λ x says. clashes n c.args.answer.now x says c.in-Some.purpose c.in-Some.ensures.some k.asked k.ensures.some
          (yes c.accepts.ensures c.if-not-accepts.false) c.in-Some-context.context c.in-Some-context.is
          (yes c.accepts-2.ensures c.if-not-accepts-2.false) (yes c.returns_bearer.ensures c.if-not-returns_bearer.false) view.result.sessions
          view.result.bearers view.ensures.sessions view.ensures.bearers c.in_default-openable.ensures.none;
      can = tt;
    }

-- the bearer that was asked for stands
pub unreachable-requires : goal.unreachable-requires
unreachable-requires c =
    let old = node_of c.args.self.now in
    let n = node_heard c.args.heard old in
    let k = c.in-Some-fits_create_bearer in
    let none : get n.bearers k.asked.bearer ≡ None = ap (λ (bs : FiniteMap Bearer). get bs k.asked.bearer) (sym c.view_after-view.ensures.bearers) ∙ (sym c.bearer.ensures ∙ c.in_default-bearer.is) in
    bearer_stands c.args.self.now.role c.args.heard old c.requires.whole c.args.answer.now.response.seq c.in-Some.purpose c.in-Some.ensures.some c.args.answer.now.response k.asked k.ensures.some none

pub returns : goal.returns
returns c =
    let old = node_of c.args.self.now in
    let n = node_heard c.args.heard old in
    let r = c.args.answer.now in
    let k = c.in-Some-fits_create_bearer in
    let view = c.view_after-view in
    let b = c.in-Some-bearer.bearer in
    let e = c.in-Some-openable in
    let can = e.ensures.some.1 in
    let there : get n.bearers k.asked.bearer ≡ Some b = ap (λ (bs : FiniteMap Bearer). get bs k.asked.bearer) (sym view.ensures.bearers) ∙ (sym c.bearer.ensures ∙ c.in-Some-bearer.is) in
    let of : get n.sessions k.asked.session ≡ Some can.at = ap (λ (ss : FiniteMap Session). get ss k.asked.session) (sym view.ensures.sessions) ∙ can.stands in
    record {
      judged =
          λ x says.
          bearer_opens n r x says c.in-Some.purpose c.in-Some.ensures.some k.asked k.ensures.some (yes c.accepts.ensures c.if-not-accepts.false)
          c.in-Some-context.context c.in-Some-context.is (yes c.accepts-2.ensures c.if-not-accepts-2.false)
          (yes c.returns_bearer.ensures c.if-not-returns_bearer.false) view.result.sessions view.result.bearers view.ensures.sessions
          view.ensures.bearers can b there e.identity e.ensures.some.0 c.opened_dedicated.result c.opened_dedicated.ensures;
      can = record {
        bearer = b;
        stands = there;
        blank =
            bearer_blank c.args.self.now.role c.args.heard old c.requires.whole r.response.seq c.in-Some.purpose c.in-Some.ensures.some r.response
            k.asked k.ensures.some can.at of can.not_closing b there;
        of = ap (λ (y : Bearer). y.session) c.opened_dedicated.ensures;
      };
    }
