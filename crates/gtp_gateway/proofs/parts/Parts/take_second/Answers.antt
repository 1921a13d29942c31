use Rattle.std.proofs.Common.{◌≡◌, ◌<◌, ℕ, List, length, Option, inl, inr, refl, sym, ◌∙◌, subst}
use Rattle.std.specs.Prelude.{IfSome, IfNone}
use Rattle.gtp_values.specs.FiniteMap.{Among}
use Rattle.gtp_reliable.specs.Held.{IsHeld}
use Rattle.gtp_machine.specs.Answer.{IsNew}
use Rattle.gtp_machine.specs.Input.{Control_message}
use Rattle.gtp_machine.specs.Message.{Create_bearer_request}
use Rattle.gtp_machine.specs.Node.{Arrival, Held}
use Rattle.gtp_machine.specs.Serving.{BearerJudged}
use Rattle.gtp_machine.specs.declared.outcome.DropReason.TheVariants.{HeldFull, ContextNotActive}
use Rattle.gtp_machine.specs.declared.outcome.Outcome.TheVariants.{Dropped}
use Rattle.gtp_gateway.specs.declared.receive.create_bearer_request.judge.CreateBearerVerdict.{CreateBearerVerdict}
use Rattle.gtp_gateway.specs.declared.receive.restart_counter.Heard.{Heard}
use Rattle.gtp_gateway.specs.declared.parts.Parts.{Parts}
use Rattle.gtp_gateway.specs.declared.sent.Sent.{Sent}
use Rattle.gtp_gateway.specs.declared.tables.opening.ResponseVerdict.{ResponseVerdict}
use Rattle.gtp_gateway.specs.receive.CreateBearerRequest.{create_bearer_effect}
use Rattle.gtp_gateway.specs.receive.Piggybacked.{state_after_first}
use Rattle.gtp_gateway.specs.Parts.{node_of}
use Rattle.gtp_gateway.specs.GatewayState.{GatewayState, state_of}
use Rattle.gtp_gateway.specs.receive.Taken.{IsSentAgain}
use Rattle.gtp_gateway.proofs.Answers.{none_held, held_few, held_many}
use Rattle.gtp_gateway.proofs.Columns.{yes, no}
use Rattle.gtp_gateway.proofs.Allocations.{on_err}
use Rattle.gtp_gateway.proofs.BeforeSecond.{settled_config, settled_held}
use Rattle.gtp_gateway.proofs.SecondsTaken.{again_there, repeated_taken, drop_is_taken, again_needs, answer_needs}
use Rattle.gtp_gateway.proofs.parts.Parts.take_second.Goals as goal

module _ (g : Parts) (arrival : Arrival) (heard : Heard) (v : ResponseVerdict) (number : ℕ) where
  abbrev settled : GatewayState
  settled = state_after_first heard v number (state_of g)

  peer_there : arrival.source.ip ≡ g.config.config.peer.control → arrival.source.ip ≡ settled.node.config.peer.control
  peer_there peer = peer ∙ (λ i. (sym (settled_config heard v number (node_of g)) i).peer.control)

  new_there : (IsHeld arrival.source arrival.octets g.held.pairs → ⊥) → IsNew settled.node arrival
  new_there none h among = none_held g.held.pairs arrival.source arrival.octets none h (subst (Among h) (settled_held heard v number (node_of g)) among)

  few_there : length (node_of g).held < 4096 → length settled.node.held < 4096
  few_there few = subst (λ (h : List Held). length h < 4096) (sym (settled_held heard v number (node_of g))) few

pub returns-in_err-out-clause-memory : goal.returns-in_err-out-clause-memory
returns-in_err-out-clause-memory c =
    let g = c.args.self.now in
    let s = state_after_first c.args.heard c.args.verdict c.args.seq (state_of g) in
    on_err c.from_residual.result (inr (λ q says.
    again_needs c.args.arrival.now q s c.requires.serving (peer_there g c.args.arrival.now c.args.heard c.args.verdict c.args.seq c.requires.peer)
    g.held.pairs (settled_held c.args.heard c.args.verdict c.args.seq (node_of g)) c.in_err-out.ensures.memory))

pub returns-in-Some-clause-taken : goal.returns-in-Some-clause-taken
returns-in-Some-clause-taken c = λ q says.
    let g = c.args.self.now in
    let n = node_of g in
    let s = state_after_first c.args.heard c.args.verdict c.args.seq (state_of g) in
    let again = subst (λ (o : Option Sent). IfSome o (λ sent. IsSentAgain c.args.arrival.now n sent)) c.in-Some.is c.in_ok-out.ensures.some in
    repeated_taken (Control_message (Create_bearer_request q)) c.args.arrival.now s (state_of c.apply_verdict.new.self) c.in-Some.out c.sent.result
    (peer_there g c.args.arrival.now c.args.heard c.args.verdict c.args.seq c.requires.peer)
    (again_there c.args.arrival.now n s.node c.in-Some.out (settled_held c.args.heard c.args.verdict c.args.seq n) (settled_config c.args.heard c.args.verdict c.args.seq n) again)
    c.sent.ensures c.in_ok-_settled.ensures.node c.apply_verdict.ensures.only.role

pub returns-then-is_full-clause-taken : goal.returns-then-is_full-clause-taken
returns-then-is_full-clause-taken c = λ q says.
    let g = c.args.self.now in
    let n = node_of g in
    let s = state_after_first c.args.heard c.args.verdict c.args.seq (state_of g) in
    let none = subst (λ (o : Option Sent). IfNone o (IsHeld c.args.arrival.now.source c.args.arrival.now.octets g.held.pairs → ⊥)) c.in_default.is c.in_ok-out.ensures.none in
    drop_is_taken c.args.arrival.now q s c.requires.serving (peer_there g c.args.arrival.now c.args.heard c.args.verdict c.args.seq c.requires.peer)
    (new_there g c.args.arrival.now c.args.heard c.args.verdict c.args.seq none)
    c.dropped.result (state_of c.apply_verdict-then-is_full.new.self) (Dropped HeldFull) c.dropped.ensures c.in_ok-_settled-2.ensures.node c.apply_verdict-then-is_full.ensures.only.role
    (inl (
      λ room. held_many g.held.pairs (yes c.is_full.ensures.full c.if-is_full.true)
          (subst (λ (h : List Held). length h < 4096) (settled_held c.args.heard c.args.verdict c.args.seq n) room.few),
      refl,
    ))

pub returns-in_default-judge_second-clause-taken : goal.returns-in_default-judge_second-clause-taken
returns-in_default-judge_second-clause-taken c = λ q says.
    let g = c.args.self.now in
    let s = state_after_first c.args.heard c.args.verdict c.args.seq (state_of g) in
    let arrival = c.args.arrival.now in
    let none = subst (λ (o : Option Sent). IfNone o (IsHeld arrival.source arrival.octets g.held.pairs → ⊥)) c.in_default.is c.in_ok-out.ensures.none in
    let judged =
    subst (λ (o : Option CreateBearerVerdict). BearerJudged arrival q s.node (create_bearer_effect arrival c.args.request.now q o s.node))
    c.in_default-judge_second.is ((c.judge_second.ensures.judged c.args.seq).judged arrival q says) in
    drop_is_taken arrival q s c.requires.serving (peer_there g arrival c.args.heard c.args.verdict c.args.seq c.requires.peer) (new_there g arrival c.args.heard c.args.verdict c.args.seq none)
    c.dropped-in_default-judge_second.result (state_of c.apply_verdict-in_default-judge_second.new.self) (Dropped ContextNotActive)
    c.dropped-in_default-judge_second.ensures c.in_ok-_settled-3.ensures.node c.apply_verdict-in_default-judge_second.ensures.only.role
    (inr (record { few = few_there g arrival c.args.heard c.args.verdict c.args.seq (held_few g.held.pairs (no c.is_full.ensures.full c.if-is_full.false)) }, judged))

pub answer_second-requires-clause-fresh : goal.answer_second-requires-clause-fresh
answer_second-requires-clause-fresh c =
    let g = c.args.self.now in
    let none = subst (λ (o : Option Sent). IfNone o (IsHeld c.args.arrival.now.source c.args.arrival.now.octets g.held.pairs → ⊥)) c.in_default.is c.in_ok-out.ensures.none in
    record { peer = c.requires.peer; new = none_held g.held.pairs c.args.arrival.now.source c.args.arrival.now.octets none; none = none; alone = c.requires.alone }

pub returns-clause-memory : goal.returns-clause-memory
returns-clause-memory c =
    let g = c.args.self.now in
    let s = state_after_first c.args.heard c.args.verdict c.args.seq (state_of g) in
    let arrival = c.args.arrival.now in
    on_err c.answer_second.result (inr (λ q says.
    let judged =
    subst (λ (o : Option CreateBearerVerdict). BearerJudged arrival q s.node (create_bearer_effect arrival c.args.request.now q o s.node))
    c.in-Some-judge_second.is ((c.judge_second.ensures.judged c.args.seq).judged arrival q says) in
    answer_needs arrival q s c.requires.serving (peer_there g arrival c.args.heard c.args.verdict c.args.seq c.requires.peer) _ _ _ _
    (record { few = few_there g arrival c.args.heard c.args.verdict c.args.seq (held_few g.held.pairs (no c.is_full.ensures.full c.if-is_full.false)) }) judged))
