use Rattle.std.proofs.Common.{◌≡◌, refl, sym, ◌∙◌, ap, subst, [], ◌∷◌}
use Rattle.gtp_v2.specs.VersionNotSupported.{version_not_supported}
use Rattle.gtp_machine.specs.Answer.{tells_version, version_told}
use Rattle.gtp_machine.specs.Input.{Control_fault}
use Rattle.gtp_machine.specs.Message.{Message, Other_control}
use Rattle.gtp_machine.specs.Node.{Arrival}
use Rattle.gtp_machine.specs.Reading.{control_message}
use Rattle.gtp_machine.specs.Spelling.{datagram_of}
use Rattle.gtp_gateway.specs.declared.step.ControlStep.{ControlStep}
use Rattle.gtp_gateway.specs.receive.InvalidRequest.{IsFaultEffect}
use Rattle.gtp_gateway.specs.Parts.{node_of}
use Rattle.gtp_gateway.specs.messages.Sent.{ReadsBack}
use Rattle.gtp_gateway.specs.GatewayState.{state_of}
use Rattle.gtp_gateway.proofs.InvalidRequests.{drops_for, fault_dropped, version_answered}
use Rattle.gtp_gateway.proofs.Allocations.{on_err, version_needs}
use Rattle.gtp_gateway.proofs.SentBack.{one_sent}
use Rattle.gtp_gateway.proofs.parts.Parts.take_undecodable.Goals as goal

pub returns-then-not-tells_version-clause-taken : goal.returns-then-not-tells_version-clause-taken
returns-then-not-tells_version-clause-taken c = λ peer new.
    let old = state_of c.args.self.now in
    let same = ap (λ (a : Arrival). tells_version old.node.config a.octets c.args.number) (sym c.arrival.view_is) in
    subst (λ (s : ControlStep). IsFaultEffect c.args.arrival.now (Control_fault c.args.number) old s) (sym c.undecodable.ensures)
    (drops_for c.args.arrival.now _ old c.args.number
    (fault_dropped old.role old.node c.args.arrival.now c.args.number (same ∙ (sym c.tells_version.ensures ∙ c.if-not-tells_version.true)) peer new))

pub returns-clause-taken : goal.returns-clause-taken
returns-clause-taken c = λ peer new.
    let old = state_of c.args.self.now in
    let node = node_of c.args.self.now in
    let same = ap (λ (a : Arrival). tells_version old.node.config a.octets c.args.number) (sym c.arrival.view_is) in
    let m : Message = Other_control version_not_supported.kind in
    let said : control_message c.version_not_supported.result ≡ m = c.version_not_supported.ensures.says in
    let sent = c.in_ok-out.ensures.sent ∙ (λ i. datagram_of node.config (record { destination = c.args.arrival.now.source; messages = said i ∷ [] })) in
    subst (λ (s : ControlStep). IsFaultEffect c.args.arrival.now (Control_fault c.args.number) old s) (sym c.sent.ensures)
    (record {
      effect = version_told c.args.arrival.now node;
      takes = version_answered old.role old.node c.args.arrival.now c.args.number (same ∙ (sym c.tells_version.ensures ∙ c.if-not-tells_version.false)) peer new;
      tells =
          record {
            sent = one_sent node.config _ _ sent (subst (λ m. ReadsBack (m ∷ [])) said c.in_ok-out.ensures.back);
            outcome = refl;
            alone = refl;
            heard = refl;
            restart = refl;
            made = refl;
            all = refl;
          };
      stays = refl;
    })

pub returns-in_err-out-clause-memory : goal.returns-in_err-out-clause-memory
returns-in_err-out-clause-memory c = on_err c.from_residual.result (λ peer.
    let old = state_of c.args.self.now in
    let same = ap (λ (a : Arrival). tells_version old.node.config a.octets c.args.number) (sym c.arrival.view_is) in
    version_needs c.args.arrival.now c.args.number old peer (same ∙ (sym c.tells_version.ensures ∙ c.if-not-tells_version.false)))
