use Rattle.std.proofs.Common.{Some, sym, ◌∙◌}
use Rattle.gtp_machine.specs.Answer.{answered}
use Rattle.gtp_machine.specs.Element.{cause_of}
use Rattle.gtp_machine.specs.Message.{Delete_session_response}
use Rattle.gtp_machine.specs.Removal.{without_session}
use Rattle.gtp_gateway.specs.Parts.{node_of}
use Rattle.gtp_gateway.proofs.Rules.{meets, breaks}
use Rattle.gtp_gateway.proofs.Columns.{yes, no}
use Rattle.gtp_gateway.proofs.parts.Parts.judge_delete_session.Goals as goal

pub returns-then-not-is_linked_to : goal.returns-then-not-is_linked_to
returns-then-not-is_linked_to c = record {
  judged = λ request.
      let old = node_of c.args.self.now in
      meets (record { session = c.in-Some.session; stands = sym c.get.ensures ∙ c.in-Some.is })
      (breaks (λ linked. no c.is_linked_to.ensures c.if-not-is_linked_to.true linked) (λ i. answered request (Delete_session_response
      (record { header = c.written_teid-header.ensures i; number = c.args.request.now.seq; cause = cause_of 64; recovery = Some old.counter })) 64
      old));
  can = tt;
}

pub returns : goal.returns
returns c = record {
  judged = λ request.
      let old = node_of c.args.self.now in
      meets (record { session = c.in-Some.session; stands = sym c.get.ensures ∙ c.in-Some.is })
      (meets (yes c.is_linked_to.ensures c.if-not-is_linked_to.false)
      (λ i. answered request (Delete_session_response (record
      { header = c.written_teid-header.ensures i; number = c.args.request.now.seq; cause = cause_of 16; recovery = Some old.counter })) 16
      (without_session old c.args.request.now.header)));
  can = tt;
}
