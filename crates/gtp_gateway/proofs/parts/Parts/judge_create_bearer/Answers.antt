use Rattle.gtp_machine.specs.declared.message_type.MessageType.TheVariants as types
use Rattle.std.proofs.Common.{◌≡◌, ℕ, ◌∷◌, [], Option, Some, true, false, refl, sym, ◌∙◌, ap, subst}
use Rattle.std.specs.FinMap.{get, insert}
use Rattle.gtp_machine.specs.Answer.{refusing}
use Rattle.gtp_machine.specs.Choice.{HasFreeIdentity, IsFreeIdentity}
use Rattle.gtp_machine.specs.Element.{cause_of, tunnel_end}
use Rattle.gtp_machine.specs.Message.{Create_bearer_response}
use Rattle.std.specs.Prelude.{is_some}
use Rattle.gtp_machine.specs.Node.{Session, Bearer, Dedicated, Active}
use Rattle.gtp_machine.specs.Serving.{no_resources}
use Rattle.gtp_gateway.specs.receive.Answer.{answering}
use Rattle.gtp_gateway.specs.Parts.{node_of}
use Rattle.gtp_gateway.proofs.Rules.{meets, breaks}
use Rattle.gtp_gateway.proofs.Columns.{yes, no}
use Rattle.gtp_gateway.proofs.CreateBearerRequests.{none_free}
use Rattle.gtp_gateway.proofs.SecondGranted.{draws_there, all_there, granted_there}
use Rattle.gtp_gateway.proofs.parts.Parts.judge_create_bearer.Goals as goal

pub returns-then-not-is_active-clause-judged : goal.returns-then-not-is_active-clause-judged
returns-then-not-is_active-clause-judged c = λ node stands. record {
  judged = λ request q says.
      meets (record { session = c.in-Some.session; stands = ap (get node.sessions) says.header ∙ (stands.session ∙ c.in-Some.is) })
      (breaks (no c.is_active.ensures c.if-not-is_active.true) refl);
  chosen = tt;
}

pub returns-then-not-request-clause-judged : goal.returns-then-not-request-clause-judged
returns-then-not-request-clause-judged c = λ node stands. record {
  judged = λ request q says.
      let old = node in
      meets (record { session = c.in-Some.session; stands = ap (get old.sessions) says.header ∙ (stands.session ∙ c.in-Some.is) })
      (meets (yes c.is_active.ensures c.if-not-is_active.false)
      (breaks (no says.alone c.if-not-request.true) (λ i. answering false request
      (refusing types.CreateBearerRequest (c.written_teid-header.ensures i) q.number (cause_of 94) old.counter ∷ []) 94 old)));
  chosen = refl;
}

pub returns-then-not-is_default-clause-judged : goal.returns-then-not-is_default-clause-judged
returns-then-not-is_default-clause-judged c = λ node stands. record {
  judged = λ request q says.
      let old = node in
      meets (record { session = c.in-Some.session; stands = ap (get old.sessions) says.header ∙ (stands.session ∙ c.in-Some.is) })
      (meets (yes c.is_active.ensures c.if-not-is_active.false)
      (meets (yes says.alone c.if-not-request.false)
      (breaks (λ linked. no c.is_default.ensures c.if-not-is_default.true (sym says.linked ∙ linked))
      (λ i. answering false request (refusing types.CreateBearerRequest (c.written_teid-header.ensures i) q.number (cause_of 64) old.counter ∷ []) 64
      old))));
  chosen = refl;
}

pub returns-in_default-choose-clause-judged : goal.returns-in_default-choose-clause-judged
returns-in_default-choose-clause-judged c = λ node stands. record {
  judged = λ request q says.
      let old = node in
      meets (record { session = c.in-Some.session; stands = ap (get old.sessions) says.header ∙ (stands.session ∙ c.in-Some.is) })
      (meets (yes c.is_active.ensures c.if-not-is_active.false)
      (meets (yes says.alone c.if-not-request.false)
      (meets (says.linked ∙ yes c.is_default.ensures c.if-not-is_default.false)
      (breaks (λ free. none_free old c.args.request.now.header
      (all_there c.args.request.now.header c.args.view.now.bearers old.bearers
      (stands.identities (ap (λ (o : Option Session). is_some o) c.in-Some.is))
      (c.in_default-choose.ensures.none (draws_there c.args.request.now.header c.args.found c.args.view.now.bearers (node_of c.args.self.now) old
      stands free.1))) (subst (λ (t : ℕ). HasFreeIdentity old t) says.header free.0))
      (λ i. answering false request (Create_bearer_response (no_resources old q (c.written_teid-header.ensures i)) ∷ []) 73 old)))));
  chosen = tt;
}

pub returns-clause-judged : goal.returns-clause-judged
returns-clause-judged c = λ node stands. record {
  judged = λ request q says.
      let old = node in
      let grant = c.in-Some-choose.grant in
      let chosen =
      granted_there c.args.request.now.header c.args.found c.args.view.now.bearers (node_of c.args.self.now) old grant stands
      (ap (λ (o : Option Session). is_some o) c.in-Some.is) c.in-Some-choose.ensures.identity c.in-Some-choose.ensures.drawn in
      let teid = grant.drawn.teid in
      let free : IsFreeIdentity old q.header grant.identity =
      record {
        range = record { low = chosen.identity.range.least; high = chosen.identity.range.most };
        unused =
            subst (λ (t : ℕ). (k : ℕ) (b : Bearer) → get old.bearers k ≡ Some b → b.session ≡ t → b.identity ≡ Some grant.identity → ⊥) (sym says.header)
            chosen.identity.unused;
      } in
      meets (record { session = c.in-Some.session; stands = ap (get old.sessions) says.header ∙ (stands.session ∙ c.in-Some.is) })
      (meets (yes c.is_active.ensures c.if-not-is_active.false)
      (meets (yes says.alone c.if-not-request.false)
      (meets (says.linked ∙ yes c.is_default.ensures c.if-not-is_default.false)
      (meets (record { identity = grant.identity; free = free }, chosen.drawn.left)
      (record {
        user = teid;
        identity = grant.identity;
        user_free = chosen.drawn.free;
        identity_free = free;
        gives = λ i. answering true request
            (Create_bearer_response (record {
              header = c.written_teid-header.ensures i;
              number = q.number;
              cause = cause_of 16;
              contexts = record { identity = grant.identity; cause = cause_of 16; serving_user = Some (tunnel_end 4 teid old.config.own.user); packet_user = Some q.context.user } ∷ [];
              recovery = Some old.counter;
            }) ∷ [])
            16
            (record old {
              drawn = teid ∷ old.drawn;
              bearers = insert old.bearers teid (record {
                remote = Some (sym says.user i).teid;
                session = sym says.header i;
                identity = Some grant.identity;
                kind = Dedicated;
                state = Active;
                ended = false;
              });
            });
      })))));
  chosen =
      granted_there c.args.request.now.header c.args.found c.args.view.now.bearers (node_of c.args.self.now) node c.in-Some-choose.grant stands
      (ap (λ (o : Option Session). is_some o) c.in-Some.is) c.in-Some-choose.ensures.identity c.in-Some-choose.ensures.drawn;
}
