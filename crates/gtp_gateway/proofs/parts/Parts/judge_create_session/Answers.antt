use Rattle.std.proofs.Common.{◌≡◌, ℕ, true, false, List, Some, refl, sym, ◌∙◌, ap, subst}
use Rattle.std.specs.Prelude.{is_some, IsSome}
use Rattle.gtp_values.specs.Ebi.{IsEbi}
use Rattle.gtp_machine.specs.Choice.{IsServed, IsIdentity}
use Rattle.gtp_machine.specs.Config.{Config, access_point_for}
use Rattle.gtp_machine.specs.Message.{CreateSessionRequest, RequestedBearer}
use Rattle.gtp_machine.specs.Node.{Node}
use Rattle.gtp_gateway.specs.declared.receive.restart_counter.Heard.{Heard}
use Rattle.gtp_gateway.specs.declared.receive.create_session_request.judge.CreateSessionVerdict.{CreateSessionVerdict}
use Rattle.gtp_gateway.specs.declared.receive.create_session_request.read.SessionRequest.{SessionRequest}
use Rattle.gtp_gateway.specs.receive.CreateSessionRequest.{JudgesCreateSession, IsVerdict, SaysCreateSession}
use Rattle.gtp_gateway.specs.receive.RestartCounter.{node_heard}
use Rattle.gtp_gateway.specs.Parts.{node_of}
use Rattle.gtp_gateway.specs.GatewayState.{state_of}
use Rattle.gtp_gateway.proofs.Rules.{meets, breaks}
use Rattle.gtp_gateway.proofs.Columns.{yes, no}
use Rattle.gtp_gateway.proofs.parts.Parts.judge_create_session.Goals as goal
use Rattle.gtp_gateway.proofs.RestartCounters.{config_stays}

is_identity : (n : ℕ) → IsEbi n → IsIdentity n
is_identity n ebi = record { low = ebi.least; high = ebi.most }

module _ (r : SessionRequest) (q : CreateSessionRequest) (says : SaysCreateSession r q) where
  identity : (n : ℕ) → n ≡ r.default.identity → IsEbi n → IsIdentity q.context.identity
  identity n is ebi = subst IsIdentity (is ∙ ap (λ (c : RequestedBearer). c.identity) (sym says.context)) (is_identity n ebi)

  module _ (heard : Heard) (node : Node) where
    heard_is : access_point_for (node_heard heard node).config q.access_point ≡ access_point_for node.config r.access_point
    heard_is = ap (λ (k : Config). access_point_for k q.access_point) (config_stays heard node) ∙ ap (access_point_for node.config) says.access_point

    configured : (name : List ℕ) → Some name ≡ access_point_for node.config r.access_point → IsSome (access_point_for (node_heard heard node).config q.access_point)
    configured name is = ap is_some (heard_is ∙ sym is)

    serves_type : IsServed node.config r.pdn.0 → IsServed (node_heard heard node).config q.pdn
    serves_type is = subst (λ (k : Config). IsServed k q.pdn) (sym (config_stays heard node)) (subst (λ (k : ℕ). IsServed node.config k) (sym says.pdn) is)

    type_served : IsServed (node_heard heard node).config q.pdn → IsServed node.config r.pdn.0
    type_served is = subst (λ (k : ℕ). IsServed node.config k) says.pdn (subst (λ (k : Config). IsServed k q.pdn) (config_stays heard node) is)

pub returns-then-not-serves_type : goal.returns-then-not-serves_type
returns-then-not-serves_type c =
    let r = c.args.request.now in
    let node = node_of c.args.self.now in
    subst (λ (v : CreateSessionVerdict). JudgesCreateSession r c.args.heard (state_of c.args.self.now) v) (sym c.refused-then-not-serves_type.ensures)
    (record {
      judged = λ request q says. meets (says.alone.0 c.if-not-request.false)
          (meets (identity r q says _ c.number.ensures.value (c.in-Ok.ensures.ok.0 refl))
          (meets (configured r q says c.args.heard node c.in-Some.access_point (sym c.in-Some.is ∙ c.access_point_for.ensures))
          (breaks (λ is. no c.serves_type.ensures c.if-not-serves_type.true (type_served r q says c.args.heard node is)) refl)));
      is = refl;
    })

pub returns : goal.returns
returns c =
    let r = c.args.request.now in
    let node = node_of c.args.self.now in
    record {
      judged = λ request q says. meets (says.alone.0 c.if-not-request.false)
          (meets (identity r q says _ c.number.ensures.value (c.in-Ok.ensures.ok.0 refl))
          (meets (configured r q says c.args.heard node c.in-Some.access_point (sym c.in-Some.is ∙ c.access_point_for.ensures))
          (meets (serves_type r q says c.args.heard node (yes c.serves_type.ensures c.if-not-serves_type.false))
          (c.judge_room.ensures.judged request q says.pdn (ap (access_point_for node.config) says.access_point ∙ sym (sym c.in-Some.is ∙ c.access_point_for.ensures))))));
      is = subst (λ (n : ℕ). IsVerdict n r.pdn.0 c.judge_room.result c.args.heard (state_of c.args.self.now)) (c.in-Ok.ensures.value ∙ c.number.ensures.value) c.judge_room.ensures.is;
    }
