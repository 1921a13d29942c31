use Rattle.std.proofs.Common.{◌≡◌, inl, inr, refl, sym, subst}
use Rattle.std.specs.FinMap.{get}
use Rattle.std.proofs.lemmas.Result.{IfOk-weaker}
use Rattle.gtp_machine.specs.Choice.{HasHeldRoom}
use Rattle.gtp_machine.specs.Input.{Effect}
use Rattle.gtp_machine.specs.Node.{Pending, Session}
use Rattle.gtp_machine.specs.Serving.{DeleteBearerJudged, DeleteBearerAsked}
use Rattle.gtp_machine.specs.declared.outcome.DropReason.TheVariants.{HeldFull, ContextNotActive}
use Rattle.gtp_machine.proofs.Basics.Facts.{one_value}
use Rattle.gtp_gateway.specs.receive.DeleteBearerRequest.{delete_bearer_by, identities_of, delete_bearer_effect}
use Rattle.gtp_gateway.specs.Parts.{node_of}
use Rattle.gtp_gateway.specs.GatewayState.{state_of}
use Rattle.gtp_gateway.proofs.Answers.{held_few, held_many}
use Rattle.gtp_gateway.proofs.Columns.{yes, no}
use Rattle.gtp_gateway.proofs.DeleteBearerRequests.{row_as, delete_bearer_opened, delete_bearer_asked}
use Rattle.gtp_gateway.proofs.Rows.{drops}
use Rattle.gtp_gateway.proofs.Allocations.{on_err}
use Rattle.gtp_gateway.proofs.parts.Parts.take_delete_bearer_request.Goals as goal

pub returns-then-is_full-clause-taken : goal.returns-then-is_full-clause-taken
returns-then-is_full-clause-taken c =
    let old = c.args.self.now in
    let arrival = c.args.arrival.now in
    drops (DeleteBearerAsked arrival (delete_bearer_by c.args.request.now (identities_of c.args.view.now.message))) arrival (state_of old)
    c.dropped.result HeldFull c.dropped.ensures (inl (λ room. held_many old.held.pairs (yes c.is_full.ensures.full c.if-is_full.true) room.few, refl))

pub returns-in-NotOpened-clause-taken : goal.returns-in-NotOpened-clause-taken
returns-in-NotOpened-clause-taken c =
    let old = c.args.self.now in
    let arrival = c.args.arrival.now in
    let ids = identities_of c.args.view.now.message in
    drops (DeleteBearerAsked arrival (delete_bearer_by c.args.request.now ids)) arrival (state_of old) c.dropped-in-NotOpened.result ContextNotActive c.dropped-in-NotOpened.ensures
    (inr (record { few = held_few old.held.pairs (no c.is_full.ensures.full c.if-is_full.false) }, c.in-NotOpened.ensures arrival ids))

pub returns-in-Answered-clause-taken : goal.returns-in-Answered-clause-taken
returns-in-Answered-clause-taken c =
    let old = state_of c.args.self.now in
    let arrival = c.args.arrival.now in
    let r = c.args.request.now in
    let ids = identities_of c.args.view.now.message in
    let room : HasHeldRoom old.node = record { few = held_few c.args.self.now.held.pairs (no c.is_full.ensures.full c.if-is_full.false) } in
    IfOk-weaker c.answer_delete_bearer.result _ _
    (λ step taken.
    row_as (λ n e. e ≡ delete_bearer_effect arrival r.seq c.in-Answered.answer n) (DeleteBearerAsked arrival (delete_bearer_by r ids)) arrival
    old.role old.node step (state_of c.answer_delete_bearer.new.self)
    (λ e is. inr (room, subst (λ (x : Effect). DeleteBearerJudged arrival (delete_bearer_by r ids) old.node x) (sym is) (c.in-Answered.ensures.judged arrival ids)))
    taken)
    c.answer_delete_bearer.ensures.taken

pub returns-in-Answered-clause-memory : goal.returns-in-Answered-clause-memory
returns-in-Answered-clause-memory c = on_err c.answer_delete_bearer.result (λ ids.
    let node = node_of c.args.self.now in
    let d = delete_bearer_by c.args.request.now ids in
    delete_bearer_asked c.args.arrival.now d node (record
    { few = held_few c.args.self.now.held.pairs (no c.is_full.ensures.full c.if-is_full.false) })
    (delete_bearer_opened c.args.arrival.now d node _ _ _ (c.in-Answered.ensures.judged c.args.arrival.now ids)))

pub returns-in-Bearers-clause-memory : goal.returns-in-Bearers-clause-memory
returns-in-Bearers-clause-memory c = on_err c.end_listed.result (λ ids.
    let node = node_of c.args.self.now in
    let asked = c.in-Bearers.ensures in
    delete_bearer_asked c.args.arrival.now (delete_bearer_by c.args.request.now ids) node (record { few = held_few c.args.self.now.held.pairs (no c.is_full.ensures.full c.if-is_full.false) })
    (λ at. subst (λ (s : Session). s.state ≡ Pending → ⊥) (one_value (get node.sessions c.args.request.now.header) asked.session at.session asked.stands at.stands) asked.opened))
