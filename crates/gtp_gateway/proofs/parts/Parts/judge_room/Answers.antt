use Rattle.std.proofs.Common.{◌≡◌, ◌<◌, ◌≤◌, ℕ, refl, sym, ◌∙◌, ap, subst, arith}
use Rattle.std.specs.FinMap.{len}
use Rattle.gtp_values.specs.FiniteMap.{FiniteMap}
use Rattle.gtp_values.specs.PdnAddress.{PdnAddress}
use Rattle.gtp_tables.specs.declared.pool.Asked.{Asked}
use Rattle.gtp_tables.specs.declared.pool.Pools.{Pools}
use Rattle.gtp_tables.specs.Free.{IsLowestGiven, AreUsedUp}
use Rattle.gtp_machine.specs.Choice.{asked_by, IsGiven, CanGive}
use Rattle.gtp_machine.specs.Config.{Config}
use Rattle.gtp_machine.specs.Node.{Session, Node}
use Rattle.gtp_machine.proofs.Exchange.Nodes.{can_be_had}
use Rattle.gtp_gateway.specs.declared.receive.create_session_request.judge.CreateSessionVerdict.{CreateSessionVerdict}
use Rattle.gtp_gateway.specs.receive.CreateSessionRequest.{JudgesRoom}
use Rattle.gtp_gateway.specs.receive.RestartCounter.{node_heard}
use Rattle.gtp_gateway.specs.Parts.{node_of}
use Rattle.gtp_gateway.specs.GatewayState.{state_of}
use Rattle.gtp_gateway.proofs.Rules.{meets, breaks}
use Rattle.gtp_gateway.proofs.Columns.{no}
use Rattle.gtp_gateway.proofs.CreateSessionRequests.{draws_left, still_free, lowest_given, none_given}
use Rattle.gtp_gateway.proofs.parts.Parts.judge_room.Goals as goal
use Rattle.gtp_gateway.proofs.RestartCounters.{config_stays}

has_room : (a b : ℕ) → a ≡ b → (1000 ≤ a → ⊥) → b < 1000
has_room a b same few = omega (arith, same, few)

-- what the pools have for this type, as the tables say it and as the machine does
module _ (n : Node) (pdn : ℕ) (sessions : FiniteMap Session) (pools : Pools) (asked : Asked) (same : sessions ≡ n.sessions) (of : pools ≡ n.config.pools) (by : asked ≡ asked_by pdn) where
  may_give : (address : PdnAddress) → IsLowestGiven sessions pools asked address → (other : ℕ) → other ≡ pdn → IsGiven n other address
  may_give address lowest other is =
      subst (λ (k : ℕ). IsGiven n k address) (sym is)
      (lowest_given n sessions pools same of pdn address (subst (λ (k : Asked). IsLowestGiven sessions pools k address) by lowest))

  may_not_give : AreUsedUp sessions pools asked → (other : ℕ) → other ≡ pdn → CanGive n other → ⊥
  may_not_give used other is can = none_given n sessions pools same of pdn (subst (λ (k : Asked). AreUsedUp sessions pools k) by used) (subst (λ (k : ℕ). CanGive n k) is can)

pub returns-in-Ok : goal.returns-in-Ok
returns-in-Ok c =
    let node = node_of c.args.self.now in
    let left = node_heard c.args.heard node in
    let drawn = c.in-Some.ensures.some in
    let same = c.view_after-view.ensures.sessions in
    let pools : c.pools.result ≡ left.config.pools = c.pools.ensures ∙ ap (λ (x : Config). x.pools) (sym (config_stays c.args.heard node)) in
    let address = c.in-Ok.address in
    let lowest = c.in-Ok.ensures.free in
    let given = may_give left c.args.pdn.0 _ _ _ same pools c.asked_by.ensures address lowest in
    record {
      judged =
          λ request q is of.
          meets (
            record { few = has_room _ _ (ap (λ (m : FiniteMap Session). len m) same) (no c.is_full.ensures c.if-is_full.false) },
            draws_left c.args.heard node 2 drawn.left,
          )
          (meets (can_be_had left q.pdn address (given q.pdn is))
          (record {
            control = c.in-Some.drawn.control;
            user = c.in-Some.drawn.user;
            address = address;
            control_free = still_free c.args.heard node _ drawn.control_free;
            user_free = still_free c.args.heard node _ drawn.user_free;
            apart = drawn.apart;
            given = given q.pdn is;
            gives = c.judge_added.ensures.judged request q of;
          }));
      is = c.judge_added.ensures.is c.args.identity c.args.pdn.0 (record {
        can = drawn;
        lowest = subst (λ (m : FiniteMap Session). IsLowestGiven m node.config.pools (asked_by c.args.pdn.0) address) same
            (subst (λ (p : Pools). IsLowestGiven c.view_after-view.result.sessions p (asked_by c.args.pdn.0) address) c.pools.ensures
            (subst (λ (k : Asked). IsLowestGiven c.view_after-view.result.sessions c.pools.result k address) c.asked_by.ensures lowest));
        identity_is = refl;
      });
    }

pub returns-in-Err : goal.returns-in-Err
returns-in-Err c =
    let node = node_of c.args.self.now in
    let left = node_heard c.args.heard node in
    let drawn = c.in-Some.ensures.some in
    let same = c.view_after-view.ensures.sessions in
    let pools : c.pools.result ≡ left.config.pools = c.pools.ensures ∙ ap (λ (x : Config). x.pools) (sym (config_stays c.args.heard node)) in
    let none = may_not_give left c.args.pdn.0 _ _ _ same pools c.asked_by.ensures c.in-Err.ensures.none in
    subst (λ (v : CreateSessionVerdict). JudgesRoom c.args.identity c.args.pdn.0 c.args.access_point.now c.args.heard (state_of c.args.self.now) v) (sym c.refused-in-Err.ensures)
    (record {
      judged =
          λ request q is of.
          meets (
            record { few = has_room _ _ (ap (λ (m : FiniteMap Session). len m) same) (no c.is_full.ensures c.if-is_full.false) },
            draws_left c.args.heard node 2 drawn.left,
          )
          (breaks (none q.pdn is) refl);
      is = refl;
    })
