use Rattle.std.proofs.Common.{◌≡◌, Option, Some, None, sym, ◌∙◌, ap, subst}
use Rattle.std.specs.Prelude.{is_some}
use Rattle.std.specs.FinMap.{get}
use Rattle.gtp_values.specs.FiniteMap.{FiniteMap}
use Rattle.gtp_machine.specs.Node.{Session, Bearer}
use Rattle.gtp_gateway.specs.receive.RestartCounter.{node_heard}
use Rattle.gtp_machine.proofs.Basics.Facts.{one_value}
use Rattle.gtp_gateway.specs.Parts.{node_of}
use Rattle.gtp_gateway.specs.receive.CreateSessionResponse.{JudgesCreateSessionResponse}
use Rattle.gtp_gateway.proofs.Columns.{yes, no}
use Rattle.gtp_gateway.proofs.CreateSessionResponses.{of_session, does_not_fit, is_refused, not_described, default_refused, opens, default_stands, default_blank}
use Rattle.gtp_gateway.proofs.parts.Parts.judge_create_session_response.Goals as goal

pub returns-in_default-fits_create_session : goal.returns-in_default-fits_create_session
returns-in_default-fits_create_session c =
    let n = node_heard c.args.heard (node_of c.args.self.now) in
    record { judged = λ a says. does_not_fit n c.args.answer.now a says c.in-Some.purpose c.in-Some.ensures.some c.in_default-fits_create_session.ensures.none; can = tt; of = tt }

pub returns-then-not-accepts : goal.returns-then-not-accepts
returns-then-not-accepts c =
    let n = node_heard c.args.heard (node_of c.args.self.now) in
    let k = c.in-Some-fits_create_session in
    subst (JudgesCreateSessionResponse c.args.answer.now n) (sym c.rejects.ensures)
    (record {
      judged = λ a says. is_refused n c.args.answer.now a says c.in-Some.purpose c.in-Some.ensures.some k.asked k.ensures.some
          (no c.accepts.ensures c.if-not-accepts.true);
      can = tt;
      of = of_session n c.args.answer.now.response.seq c.in-Some.purpose c.in-Some.ensures.some c.args.answer.now.response k.asked k.ensures.some;
    })

pub returns-in_default-described : goal.returns-in_default-described
returns-in_default-described c =
    let n = node_heard c.args.heard (node_of c.args.self.now) in
    let k = c.in-Some-fits_create_session in
    let view = c.view_after-view in
    record {
      judged =
          λ a says. not_described n c.args.answer.now a says c.in-Some.purpose c.in-Some.ensures.some k.asked k.ensures.some
          (yes c.accepts.ensures c.if-not-accepts.false) view.result.sessions view.ensures.sessions c.in_default-described.ensures.none;
      can = tt;
      of = tt;
    }

pub returns-then-not-accepts-2 : goal.returns-then-not-accepts-2
returns-then-not-accepts-2 c =
    let n = node_heard c.args.heard (node_of c.args.self.now) in
    let k = c.in-Some-fits_create_session in
    let view = c.view_after-view in
    let d = c.in-Some-described in
    subst (JudgesCreateSessionResponse c.args.answer.now n) (sym c.rejects-then-not-accepts-2.ensures)
    (record {
      judged =
          λ a says. default_refused n c.args.answer.now a says c.in-Some.purpose c.in-Some.ensures.some k.asked k.ensures.some
          (yes c.accepts.ensures c.if-not-accepts.false) view.result.sessions view.ensures.sessions d.described d.ensures.some
          (no c.accepts-2.ensures c.if-not-accepts-2.true);
      can = tt;
      of = of_session n c.args.answer.now.response.seq c.in-Some.purpose c.in-Some.ensures.some c.args.answer.now.response k.asked k.ensures.some;
    })

-- the default bearer of the session stands
pub unreachable-requires : goal.unreachable-requires
unreachable-requires c =
    let old = node_of c.args.self.now in
    let n = node_heard c.args.heard old in
    let k = c.in-Some-fits_create_session in
    let none : get n.bearers k.asked.bearer ≡ None = ap (λ (bs : FiniteMap Bearer). get bs k.asked.bearer) (sym c.view_after-view.ensures.bearers) ∙ (sym c.bearer.ensures ∙ c.in_default-bearer.is) in
    default_stands c.args.self.now.role c.args.heard old c.requires.whole c.args.answer.now.response.seq c.in-Some.purpose c.in-Some.ensures.some c.args.answer.now.response k.asked k.ensures.some none

pub returns : goal.returns
returns c =
    let old = node_of c.args.self.now in
    let n = node_heard c.args.heard old in
    let r = c.args.answer.now in
    let k = c.in-Some-fits_create_session in
    let view = c.view_after-view in
    let d = c.in-Some-described in
    let b = c.in-Some-bearer.bearer in
    let there : get n.bearers k.asked.bearer ≡ Some b = ap (λ (bs : FiniteMap Bearer). get bs k.asked.bearer) (sym view.ensures.bearers) ∙ (sym c.bearer.ensures ∙ c.in-Some-bearer.is) in
    let stands : get n.sessions k.asked.session ≡ Some d.described.session = ap (λ (ss : FiniteMap Session). get ss k.asked.session) (sym view.ensures.sessions) ∙ d.ensures.some.stands in
    record {
      judged =
          λ a says. opens n r a says c.in-Some.purpose c.in-Some.ensures.some k.asked k.ensures.some (yes c.accepts.ensures c.if-not-accepts.false)
          view.result.sessions view.ensures.sessions d.described d.ensures.some (yes c.accepts-2.ensures c.if-not-accepts-2.false) b there
          c.opened_session.result c.opened_session.ensures c.opened_default.result c.opened_default.ensures;
      can = (
        ap (λ (o : Option Session). is_some o) stands,
        record {
          bearer = b;
          stands = there;
          blank = default_blank c.args.self.now.role c.args.heard old c.requires.whole r.response.seq c.in-Some.purpose c.in-Some.ensures.some r.response k.asked k.ensures.some b there;
          of = ap (λ (x : Bearer). x.session) c.opened_default.ensures;
        },
      );
      of = λ other stands_too. ap (λ (x : Bearer). x.identity) c.opened_default.ensures ∙ ap (λ (x : Bearer). x.identity) (one_value (get n.bearers k.asked.bearer) b other there stands_too);
    }
