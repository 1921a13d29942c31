use Rattle.std.proofs.Common.{rules, ◌≡◌, ◌↔◌, Some, inr, refl, sym, ap, ◌∙◌, subst, [], ◌∷◌}
use Rattle.std.specs.FinMap.{get, insert}
use Rattle.gtp_machine.specs.Config.{user_end}
use Rattle.gtp_machine.specs.Command.{EndMarked}
use Rattle.gtp_machine.specs.Message.{Message, End_marker}
use Rattle.gtp_machine.specs.Node.{written}
use Rattle.gtp_machine.specs.User.{ended_bearer}
use Rattle.gtp_machine.specs.Input.{Came_to, Effect, says, refused}
use Rattle.gtp_machine.specs.Spelling.{datagram_of}
use Rattle.gtp_machine.specs.declared.role.Role.{Role}
use Rattle.gtp_machine.specs.declared.role.Role.TheVariants.{Packet}
use Rattle.gtp_machine.specs.declared.outcome.Refusal.TheVariants.{NoSuchContext, NotActive, BearerEnded}
use Rattle.gtp_machine.specs.declared.outcome.Outcome.TheVariants.{GoneOut}
use Rattle.gtp_gateway.specs.Parts.{node_of}
use Rattle.gtp_gateway.specs.GatewayState.{state_of}
use Rattle.gtp_gateway.specs.messages.Sent.{ReadsBack}
use Rattle.gtp_gateway.proofs.Columns.{Told, yes, no, ends_on, stops, goes, goes_bearer}
use Rattle.gtp_gateway.proofs.SentBack.{one_sent}
use Rattle.gtp_gateway.proofs.parts.Parts.end_marker.Goals as goal

pub returns-then-not-is_active-clause-refused : goal.returns-then-not-is_active-clause-refused
returns-then-not-is_active-clause-refused c = λ why.
    let role : (state_of c.args.self.now).role ≡ Packet = search rules in
    let node = node_of c.args.self.now in
    let bearer = c.args.bearer in
    subst (λ (role : Role). Told _ why ↔ EndMarked role bearer node (refused node why)) (sym role)
    (goes_bearer node _ (ends_on bearer node (refused node why)) bearer c.in-Some.at NoSuchContext why (sym c.get.ensures ∙ c.in-Some.is)
    (stops node _ NotActive refl (no c.is_active.ensures c.if-not-is_active.true) why))

pub returns-then-at-clause-refused : goal.returns-then-at-clause-refused
returns-then-at-clause-refused c = λ why.
    let role : (state_of c.args.self.now).role ≡ Packet = search rules in
    let node = node_of c.args.self.now in
    let bearer = c.args.bearer in
    subst (λ (role : Role). Told _ why ↔ EndMarked role bearer node (refused node why)) (sym role)
    (goes_bearer node _ (ends_on bearer node (refused node why)) bearer c.in-Some.at NoSuchContext why (sym c.get.ensures ∙ c.in-Some.is)
    (goes node _ NotActive why (yes c.is_active.ensures c.if-not-is_active.false) (λ active.
    stops node _ BearerEnded refl (λ before. let is = c.if-at.true in cc) why)))

pub returns-clause-done : goal.returns-clause-done
returns-clause-done c =
    let role : (state_of c.args.self.now).role ≡ Packet = search rules in
    let node = node_of c.args.self.now in
    let at = c.in-Some.at in
    let bearer = c.args.bearer in
    let stands : get node.bearers bearer ≡ Some at = sym c.get.ensures ∙ c.in-Some.is in
    let said = c.end_marker-message.ensures.says ∙ ap (λ t. End_marker t) c.written_teid.ensures in
    let effect : Effect =
    record {
      out = says (user_end node.config.peer.user) (End_marker (written at.remote));
      outcome = Came_to GoneOut;
      node = record node { bearers = insert node.bearers bearer (ended_bearer at) };
    } in
    record {
      effect = effect;
      step =
          subst (λ (role : Role). EndMarked role bearer node effect) (sym role)
          (inr (record { bearer = at; stands = stands }, inr (yes c.is_active.ensures c.if-not-is_active.false, inr (c.if-at.false, refl))));
      sent = one_sent node.config _ _ (c.in_ok-out.ensures.sent ∙ (λ i. datagram_of node.config (record { destination = user_end node.config.peer.user; messages = said i ∷ [] })))
          (subst (λ (m : Message). ReadsBack (m ∷ [])) said c.in_ok-out.ensures.back);
      outcome = refl;
      becomes = c.replace_bearer.ensures.node;
      role = c.replace_bearer.ensures.only.role;
    }
