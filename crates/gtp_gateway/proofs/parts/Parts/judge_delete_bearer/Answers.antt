use Rattle.std.proofs.Common.{ℕ, [], Option, Some, None, inl, inr, refl, sym, ◌∙◌, subst}
use Rattle.gtp_machine.specs.Answer.{answered}
use Rattle.gtp_machine.specs.Element.{cause_of}
use Rattle.gtp_machine.specs.Message.{Delete_bearer_response}
use Rattle.gtp_machine.specs.Removal.{without_session}
use Rattle.gtp_machine.specs.Serving.{DeleteBearerTaken}
use Rattle.gtp_gateway.specs.declared.tables.change.Change.TheVariants.{Stays, RemovesSession}
use Rattle.gtp_gateway.specs.receive.DeleteBearerRequest.{delete_bearer_by, delete_bearer_effect}
use Rattle.gtp_gateway.specs.Parts.{node_of}
use Rattle.gtp_gateway.proofs.Rules.{meets, breaks}
use Rattle.gtp_gateway.proofs.Columns.{yes, no}
use Rattle.gtp_gateway.proofs.parts.Parts.judge_delete_bearer.Goals as goal

pub returns-then-is_pending : goal.returns-then-is_pending
returns-then-is_pending c = λ request ids.
    meets (record { session = c.in-Some.session; stands = sym c.get.ensures ∙ c.in-Some.is })
    (breaks (λ opened. opened (yes c.is_pending.ensures c.if-is_pending.true)) refl)

pub returns-then-not-is_default : goal.returns-then-not-is_default
returns-then-not-is_default c = record {
  judged = λ request ids.
      let old = node_of c.args.self.now in
      meets (record { session = c.in-Some.session; stands = sym c.get.ensures ∙ c.in-Some.is })
      (meets (no c.is_pending.ensures c.if-is_pending.false)
      (subst (λ (o : Option ℕ). DeleteBearerTaken request (delete_bearer_by c.args.request.now ids) o old c.in-Some.session
      (delete_bearer_effect request c.args.request.now.seq
      (record { header = c.written_teid-header.result; cause = 64; linked = None; change = Stays }) old)) (sym c.in-Some-linked.is)
      (inl (
        no c.is_default.ensures c.if-not-is_default.true,
        λ i. answered request (Delete_bearer_response
            (record {
              header = c.written_teid-header.ensures i;
              number = c.args.request.now.seq;
              cause = cause_of 64;
              linked = None;
              contexts = [];
              recovery = Some old.counter;
            })) 64 old,
      ))));
  can = tt;
}

pub returns : goal.returns
returns c = record {
  judged = λ request ids.
      let old = node_of c.args.self.now in
      meets (record { session = c.in-Some.session; stands = sym c.get.ensures ∙ c.in-Some.is })
      (meets (no c.is_pending.ensures c.if-is_pending.false)
      (subst (λ (o : Option ℕ). DeleteBearerTaken request (delete_bearer_by c.args.request.now ids) o old c.in-Some.session
      (delete_bearer_effect request c.args.request.now.seq
      (record {
        header = c.written_teid-header.result;
        cause = 16;
        linked = Some c.in-Some-linked.linked;
        change = RemovesSession
            c.args.request.now.header;
      }) old)) (sym c.in-Some-linked.is)
      (inr (
        yes c.is_default.ensures c.if-not-is_default.false,
        λ i. answered request (Delete_bearer_response (record {
          header = c.written_teid-header.ensures i;
          number = c.args.request.now.seq;
          cause = cause_of 16;
          linked = Some c.in-Some-linked.linked;
          contexts = [];
          recovery = Some old.counter;
        })) 16 (without_session old c.args.request.now.header),
      ))));
  can = tt;
}
