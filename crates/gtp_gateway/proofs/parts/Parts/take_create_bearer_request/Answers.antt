use Rattle.std.proofs.Common.{◌≡◌, true, Option, inl, inr, refl, sym, ◌∙◌, ap, subst, [], ◌∷◌}
use Rattle.gtp_machine.specs.Node.{Node}
use Rattle.gtp_machine.specs.Reading.{control_message}
use Rattle.gtp_machine.specs.Serving.{BearerJudged, CreateBearerAsked}
use Rattle.gtp_machine.specs.declared.outcome.DropReason.TheVariants.{HeldFull, ContextNotActive}
use Rattle.gtp_gateway.specs.declared.tables.change.Change.{Change}
use Rattle.gtp_gateway.specs.declared.receive.create_bearer_request.judge.CreateBearerVerdict.{CreateBearerVerdict}
use Rattle.gtp_gateway.specs.receive.Answer.{answering}
use Rattle.gtp_gateway.specs.tables.Change.{changed_by}
use Rattle.gtp_gateway.specs.receive.CreateBearerRequest.{bearer_answer, create_bearer_effect, is_granted, ChoosesBearer}
use Rattle.gtp_gateway.specs.Parts.{node_of}
use Rattle.gtp_gateway.specs.GatewayState.{state_of}
use Rattle.gtp_gateway.proofs.Answers.{held_few, held_many}
use Rattle.gtp_tables.specs.Contexts.{Contexts}
use Rattle.gtp_gateway.proofs.Columns.{yes, no}
use Rattle.gtp_gateway.proofs.SecondGranted.{stands_itself}
use Rattle.gtp_gateway.proofs.Rows.{drops, answers_made}
use Rattle.gtp_gateway.proofs.Allocations.{on_err, create_bearer_asked}
use Rattle.gtp_gateway.proofs.Choosings.{lowest_bearer}
use Rattle.gtp_gateway.specs.declared.step.ControlStep.{ControlStep}
use Rattle.gtp_gateway.proofs.parts.Parts.take_create_bearer_request.Goals as goal

pub returns-then-is_full-clause-taken : goal.returns-then-is_full-clause-taken
returns-then-is_full-clause-taken c = λ q says.
    let old = c.args.self.now in
    let arrival = c.args.arrival.now in
    drops (CreateBearerAsked arrival q) arrival (state_of old) c.dropped.result HeldFull c.dropped.ensures
    (inl (λ room. held_many old.held.pairs (yes c.is_full.ensures.full c.if-is_full.true) room.few, refl))

pub returns-in_default-clause-taken : goal.returns-in_default-clause-taken
returns-in_default-clause-taken c = λ q says.
    let old = c.args.self.now in
    let node = node_of old in
    let arrival = c.args.arrival.now in
    drops (CreateBearerAsked arrival q) arrival (state_of old) c.dropped-in_default.result ContextNotActive c.dropped-in_default.ensures
    (inr (
      record { few = held_few old.held.pairs (no c.is_full.ensures.full c.if-is_full.false) },
      subst (λ (v : Option CreateBearerVerdict). BearerJudged arrival q node (create_bearer_effect arrival c.args.request.now q v node))
          c.in_default.is ((c.judge_create_bearer.ensures.judged node
          (stands_itself node c.args.request.now.header c.get-found.result c.new-view.result.bearers c.get-found.ensures
          (ap (λ (x : Contexts). x.bearers) c.new-view.ensures))).judged arrival q says),
    ))

pub returns-clause-taken : goal.returns-clause-taken
returns-clause-taken c = λ q says.
    let old = c.args.self.now in
    let node = node_of old in
    let arrival = c.args.arrival.now in
    let r = c.args.request.now in
    let v = c.in-Some.verdict in
    let judged =
    subst (λ (o : Option CreateBearerVerdict). BearerJudged arrival q node (create_bearer_effect arrival r q o node)) c.in-Some.is
    ((c.judge_create_bearer.ensures.judged node
    (stands_itself node c.args.request.now.header c.get-found.result c.new-view.result.bearers c.get-found.ensures
    (ap (λ (x : Contexts). x.bearers) c.new-view.ensures))).judged arrival q says) in
    let said : control_message c.in_ok-message.message ≡ bearer_answer v.answer v.header q node = c.in_ok-message.ensures.says q says in
    answers_made (CreateBearerAsked arrival q) arrival (state_of old) (state_of c.answer.new.self) c.answered.result c.in_ok-out.out
    (control_message c.in_ok-message.message ∷ []) c.cause.result c.is_granted.result (changed_by c.change.result node) c.answered.ensures
    c.in_ok-out.ensures.sent c.in_ok-out.ensures.back c.in_ok-out.ensures.node c.in_ok-out.ensures.role
    (inr (
      record { few = held_few old.held.pairs (no c.is_full.ensures.full c.if-is_full.false) },
      subst (λ e. BearerJudged arrival q node e) (λ i. answering (sym c.is_granted.ensures i) arrival (sym said i ∷ []) (sym c.cause.ensures i) (changed_by (sym c.change.ensures i) node)) judged,
    ))

pub returns-in_err-message-clause-memory : goal.returns-in_err-message-clause-memory
returns-in_err-message-clause-memory c = on_err c.from_residual.result (λ q says.
    let old = c.args.self.now in
    let node = node_of old in
    let judged =
    subst
    (λ (o : Option CreateBearerVerdict). BearerJudged c.args.arrival.now q node (create_bearer_effect c.args.arrival.now c.args.request.now q o node))
    c.in-Some.is ((c.judge_create_bearer.ensures.judged node
    (stands_itself node c.args.request.now.header c.get-found.result c.new-view.result.bearers c.get-found.ensures
    (ap (λ (x : Contexts). x.bearers) c.new-view.ensures))).judged c.args.arrival.now q says) in
    create_bearer_asked c.args.arrival.now q node _ _ _ _ (record { few = held_few old.held.pairs (no c.is_full.ensures.full c.if-is_full.false) }) judged)

pub returns-in_err-out-clause-memory : goal.returns-in_err-out-clause-memory
returns-in_err-out-clause-memory c = on_err c.from_residual-in_err-out.result (λ q says.
    let old = c.args.self.now in
    let node = node_of old in
    let judged =
    subst
    (λ (o : Option CreateBearerVerdict). BearerJudged c.args.arrival.now q node (create_bearer_effect c.args.arrival.now c.args.request.now q o node))
    c.in-Some.is ((c.judge_create_bearer.ensures.judged node
    (stands_itself node c.args.request.now.header c.get-found.result c.new-view.result.bearers c.get-found.ensures
    (ap (λ (x : Contexts). x.bearers) c.new-view.ensures))).judged c.args.arrival.now q says) in
    create_bearer_asked c.args.arrival.now q node _ _ _ _ (record { few = held_few old.held.pairs (no c.is_full.ensures.full c.if-is_full.false) }) judged)

pub returns-clause-choices : goal.returns-clause-choices
returns-clause-choices c = λ made.
    let old = node_of c.args.self.now in
    let r = c.args.request.now in
    let v = c.in-Some.verdict in
    let granted : is_granted v.answer ≡ true = sym c.is_granted.ensures ∙ (sym (ap (λ (s : ControlStep). s.report.made) c.answered.ensures) ∙ made) in
    lowest_bearer r v.answer old (node_of c.answer.new.self)
    (subst (λ (o : Option CreateBearerVerdict). ChoosesBearer r.header o old) c.in-Some.is (c.judge_create_bearer.ensures.judged old
    (stands_itself old c.args.request.now.header c.get-found.result c.new-view.result.bearers c.get-found.ensures
    (ap (λ (x : Contexts). x.bearers) c.new-view.ensures))).chosen)
    (ap (λ (n : Node). n.bearers) c.in_ok-out.ensures.node ∙ ap (λ (k : Change). (changed_by k old).bearers) c.change.ensures) granted
