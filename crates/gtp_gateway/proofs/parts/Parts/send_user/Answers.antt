use Rattle.std.proofs.Common.{◌≡◌, ◌≤◌, Some, length, inr, [], ◌∷◌, refl, sym, ap, ◌∙◌, subst, arith}
use Rattle.std.specs.FinMap.{get}
use Rattle.gtp_machine.specs.Config.{user_end}
use Rattle.gtp_machine.specs.Message.{Message, Packet_data}
use Rattle.gtp_machine.specs.Node.{written}
use Rattle.gtp_machine.specs.Choice.{HasSession}
use Rattle.gtp_machine.specs.Input.{Came_to, says, refused, entry_for}
use Rattle.gtp_machine.specs.Spelling.{datagram_of}
use Rattle.gtp_machine.specs.declared.outcome.Refusal.TheVariants.{NoSuchContext, NotActive, BearerEnded, PacketTooLong}
use Rattle.gtp_machine.specs.declared.outcome.Outcome.TheVariants.{GoneOut}
use Rattle.gtp_gateway.specs.Parts.{node_of}
use Rattle.gtp_gateway.specs.messages.Sent.{ReadsBack}
use Rattle.gtp_gateway.specs.GatewayState.{state_of}
use Rattle.gtp_gateway.proofs.Columns.{yes, no, sends_on, stops, goes, goes_bearer, session_stands}
use Rattle.gtp_gateway.proofs.SentBack.{one_sent}
use Rattle.gtp_gateway.proofs.parts.Parts.send_user.Goals as goal

pub returns-then-not-is_active-clause-refused : goal.returns-then-not-is_active-clause-refused
returns-then-not-is_active-clause-refused c = λ why.
    let node = node_of c.args.self.now in
    goes_bearer node _ (sends_on c.args.self.now.role c.args.payload.now node (refused node why)) c.args.bearer c.in-Some.at NoSuchContext why (sym c.get.ensures ∙ c.in-Some.is)
    (stops node _ NotActive refl (no c.is_active.ensures c.if-not-is_active.true) why)

pub returns-then-not-may_go-clause-refused : goal.returns-then-not-may_go-clause-refused
returns-then-not-may_go-clause-refused c = λ why.
    let node = node_of c.args.self.now in
    goes_bearer node _ (sends_on c.args.self.now.role c.args.payload.now node (refused node why)) c.args.bearer c.in-Some.at NoSuchContext why (sym c.get.ensures ∙ c.in-Some.is)
    (goes node _ NotActive why (yes c.is_active.ensures c.if-not-is_active.false) (λ active.
    stops node _ BearerEnded refl (no c.may_go.ensures c.if-not-may_go.true) why))

pub returns-then-payload-gt-LONGEST_PAYLOAD-clause-refused : goal.returns-then-payload-gt-LONGEST_PAYLOAD-clause-refused
returns-then-payload-gt-LONGEST_PAYLOAD-clause-refused c = λ why.
    let node = node_of c.args.self.now in
    goes_bearer node _ (sends_on c.args.self.now.role c.args.payload.now node (refused node why)) c.args.bearer c.in-Some.at NoSuchContext why (sym c.get.ensures ∙ c.in-Some.is)
    (goes node _ NotActive why (yes c.is_active.ensures c.if-not-is_active.false) (λ active.
    goes node _ BearerEnded why (yes c.may_go.ensures c.if-not-may_go.false) (λ may.
    stops node _ PacketTooLong refl (λ few. let many = c.if-payload-gt-LONGEST_PAYLOAD.true in omega (arith, few, many)) why)))

pub returns-clause-done : goal.returns-clause-done
returns-clause-done c =
    let old = c.args.self.now in
    let node = node_of old in
    let at = c.in-Some.at in
    let payload = c.args.payload.now in
    let stands : get node.bearers c.args.bearer ≡ Some at = sym c.get.ensures ∙ c.in-Some.is in
    let of : HasSession node at.session = session_stands (state_of old) c.args.bearer at c.requires.whole stands in
    let few : length payload ≤ 65000 = c.if-payload-gt-LONGEST_PAYLOAD.false in
    let said = c.packet-message.ensures.says ∙ ap (λ t. Packet_data t payload) c.written_teid.ensures in
    record {
      effect =
          record {
            out = record (says (user_end node.config.peer.user) (Packet_data (written at.remote) payload))
                { handed = entry_for (written at.remote) payload of.session.subscriber at.identity ∷ [] };
            outcome = Came_to GoneOut;
            node = node;
          };
      step =
          inr (
            record { bearer = at; stands = stands },
            inr (
              yes c.is_active.ensures c.if-not-is_active.false,
              inr (yes c.may_go.ensures c.if-not-may_go.false, inr (few, record { of = of; gives = refl })),
            ),
          );
      sent = one_sent node.config _ _ (c.in_ok-out.ensures.sent ∙ (λ i. datagram_of node.config (record { destination = user_end node.config.peer.user; messages = said i ∷ [] })))
          (subst (λ (m : Message). ReadsBack (m ∷ [])) said c.in_ok-out.ensures.back);
      outcome = refl;
      becomes = refl;
      role = refl;
    }
