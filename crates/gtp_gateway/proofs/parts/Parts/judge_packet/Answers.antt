use Rattle.std.proofs.Common.{◌≡◌, Some, [], ◌∷◌, inl, inr, refl, sym, ◌∙◌, subst}
use Rattle.std.specs.FinMap.{get}
use Rattle.gtp_machine.specs.Choice.{HasBearer, HasSession}
use Rattle.gtp_machine.specs.User.{PacketCame}
use Rattle.gtp_machine.specs.Input.{Came_to, nothing, Entry, entry_for}
use Rattle.gtp_machine.specs.declared.outcome.DropReason.TheVariants.{ContextNotActive, AfterEnd}
use Rattle.gtp_machine.specs.declared.outcome.Outcome.TheVariants.{Accepted}
use Rattle.gtp_gateway.specs.declared.user.receive.Judged.{Judged}
use Rattle.gtp_gateway.specs.GatewayState.{state_of}
use Rattle.gtp_gateway.specs.user.Receive.{IsJudgedBy}
use Rattle.gtp_gateway.proofs.Columns.{yes, no, session_stands}
use Rattle.gtp_gateway.proofs.SentBack.{none_sent}
use Rattle.gtp_gateway.proofs.UserRows.{all_wait, drops}
use Rattle.gtp_gateway.proofs.parts.Parts.judge_packet.Goals as goal

pub returns-then-not-is_active : goal.returns-then-not-is_active
returns-then-not-is_active c =
    let old = state_of c.args.self.now in
    let target = c.args.target in
    let at : HasBearer old.node target = record { bearer = c.in-Some.at; stands = sym c.get.ensures ∙ c.in-Some.is } in
    subst (λ (j : Judged). IsJudgedBy (PacketCame old.role target c.args.payload.now) old j old) (sym c.dropped.ensures)
    (drops (PacketCame old.role target c.args.payload.now) old refl ContextNotActive (inr (at, inl (no c.is_active.ensures c.if-not-is_active.true, refl))))

pub returns-then-not-may_come : goal.returns-then-not-may_come
returns-then-not-may_come c =
    let old = state_of c.args.self.now in
    let target = c.args.target in
    let at : HasBearer old.node target = record { bearer = c.in-Some.at; stands = sym c.get.ensures ∙ c.in-Some.is } in
    subst (λ (j : Judged). IsJudgedBy (PacketCame old.role target c.args.payload.now) old j old) (sym c.dropped-then-not-may_come.ensures)
    (drops (PacketCame old.role target c.args.payload.now) old refl AfterEnd
    (inr (at, inr (yes c.is_active.ensures c.if-not-is_active.false, inl (no c.may_come.ensures c.if-not-may_come.true, refl)))))

pub returns : goal.returns
returns c =
    let old = state_of c.args.self.now in
    let target = c.args.target in
    let b = c.in-Some.at in
    let stands : get old.node.bearers target ≡ Some b = sym c.get.ensures ∙ c.in-Some.is in
    let at : HasBearer old.node target = record { bearer = b; stands = stands } in
    let of : HasSession old.node b.session = session_stands old target b c.requires.whole stands in
    let entry : Entry = entry_for target c.args.payload.now of.session.subscriber b.identity in
    record {
      effect = record { out = record nothing { accepted = entry ∷ [] }; outcome = Came_to Accepted; node = old.node };
      takes = inr (at, inr (yes c.is_active.ensures c.if-not-is_active.false, inr (yes c.may_come.ensures c.if-not-may_come.false, record { of = of; gives = refl })));
      tells =
          record {
            sent = none_sent old.node.config;
            outcome = refl;
            report = refl;
            accepted = (entry, record { at = at; of = of; is = refl }, refl);
            packet = (λ is. refl, λ some. refl);
            all = refl;
          };
      becomes = refl;
      role = refl;
      same = λ _. refl;
      waits = all_wait old old refl refl;
    }
