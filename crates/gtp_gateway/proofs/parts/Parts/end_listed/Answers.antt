use Rattle.std.proofs.Common.{◌≡◌, ◌<◌, ℕ, List, length, map, None, inr, sym, ◌∙◌, ap, subst, arith}
use Rattle.std.proofs.lemmas.List.{length-map}
use Rattle.std.proofs.lemmas.Result.{IfOk-weaker}
use Rattle.gtp_ie.specs.declared.value.ebi.EbiValue.{EbiValue}
use Rattle.gtp_machine.specs.Choice.{HasHeldRoom}
use Rattle.gtp_machine.specs.Input.{Effect}
use Rattle.gtp_machine.specs.Serving.{DeleteBearerJudged, DeleteBearerAsked}
use Rattle.gtp_gateway.specs.declared.tables.change.Change.TheVariants.{Stays}
use Rattle.gtp_gateway.specs.declared.receive.delete_bearer_request.DeleteBearerAnswer.{DeleteBearerAnswer}
use Rattle.gtp_gateway.specs.receive.DeleteBearerRequest.{delete_bearer_by, identities_of, number_in, delete_bearer_effect}
use Rattle.gtp_gateway.specs.GatewayState.{state_of}
use Rattle.gtp_gateway.proofs.Answers.{held_few}
use Rattle.gtp_gateway.proofs.Columns.{yes, no}
use Rattle.gtp_gateway.proofs.DeleteBearerRequests.{row_as, many_judged}
use Rattle.gtp_gateway.proofs.parts.Parts.end_listed.Goals as goal

pub returns-then-has_too_many-clause-taken : goal.returns-then-has_too_many-clause-taken
returns-then-has_too_many-clause-taken c =
    let old = state_of c.args.self.now in
    let arrival = c.args.arrival.now in
    let r = c.args.request.now in
    let ids : List ℕ = identities_of c.args.view.now.message in
    let a : DeleteBearerAnswer = record { header = c.args.header; cause = 94; linked = None; change = Stays } in
    let room : HasHeldRoom old.node = record { few = held_few c.args.self.now.held.pairs (λ many. omega (arith, many, c.requires.few)) } in
    let many : 11 < length ids = yes (c.has_too_many.ensures c.requires.kind) c.if-has_too_many.true in
    IfOk-weaker c.answer_delete_bearer.result _ _
    (λ step taken.
    row_as (λ n e. e ≡ delete_bearer_effect arrival r.seq a n) (DeleteBearerAsked arrival (delete_bearer_by r ids)) arrival old.role old.node step (state_of c.answer_delete_bearer.new.self)
    (λ e is. inr (room, subst (λ (x : Effect). DeleteBearerJudged arrival (delete_bearer_by r ids) old.node x) (sym is) (many_judged arrival r old.node c.args.header ids c.requires.asked many)))
    taken)
    c.answer_delete_bearer.ensures.taken

pub returns-clause-taken : goal.returns-clause-taken
returns-clause-taken c =
    let old = state_of c.args.self.now in
    let arrival = c.args.arrival.now in
    let r = c.args.request.now in
    let ids : List ℕ = map number_in c.as_slice.result.now in
    let read : ids ≡ identities_of c.args.view.now.message = ap (map number_in) c.as_slice.ensures.value ∙ c.in_ok-identities.ensures in
    let room : HasHeldRoom old.node = record { few = held_few c.args.self.now.held.pairs (λ many. omega (arith, many, c.requires.few)) } in
    IfOk-weaker c.end_named.result _ _
    (λ step ends.
    row_as (DeleteBearerJudged arrival (delete_bearer_by r ids))
    (DeleteBearerAsked arrival (delete_bearer_by r (identities_of c.args.view.now.message))) arrival old.role old.node step
    (state_of c.end_named.new.self)
    (λ e judged. inr (room, subst (λ (l : List ℕ). DeleteBearerJudged arrival (delete_bearer_by r l) old.node e) read judged))
    ends)
    c.end_named.ensures.taken

-- the list that was counted is the one that was read
pub end_named-requires-clause-short : goal.end_named-requires-clause-short
end_named-requires-clause-short c =
    let ids : List EbiValue = c.as_slice.result.now in
    let read : map number_in ids ≡ identities_of c.args.view.now.message = ap (map number_in) c.as_slice.ensures.value ∙ c.in_ok-identities.ensures in
    omega (arith, no (c.has_too_many.ensures c.requires.kind) c.if-has_too_many.false, ap length read, length-map ids number_in)
