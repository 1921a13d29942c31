use Rattle.std.proofs.Common.{◌≡◌, true, [], ◌∷◌, map, ◌∙◌, ap}
use Rattle.std.specs.Prelude.{is_some, option_to_list}
use Rattle.gtp_v2.specs.Viewed.{optional_at, values_in, has_contexts, context_rows, context_always_has}
use Rattle.gtp_gateway.proofs.ContextsRead.{first_has, first_read, none_left}
use Rattle.gtp_gateway.proofs.receive.create_session_request.read.requested_default.Goals as goal

pub needed-identity-requires : goal.needed-identity-requires
needed-identity-requires c =
    first_has (λ es. is_some (optional_at 73 0 es) ≡ true) c.contexts-contexts.result c.in-Some.first c.next.new.self
    (c.contexts-contexts.ensures.needed 73 0 (ap (λ k. context_always_has k 73 0) c.requires)) c.in-Some.ensures.steps

pub needed-requires : goal.needed-requires
needed-requires c =
    first_has (λ es. is_some (optional_at 80 0 es) ≡ true) c.contexts-contexts.result c.in-Some.first c.next.new.self
    (c.contexts-contexts.ensures.needed 80 0 (ap (λ k. context_always_has k 80 0) c.requires)) c.in-Some.ensures.steps

pub needed-requires-2 : goal.needed-requires-2
needed-requires-2 c =
    first_has (λ es. is_some (optional_at 87 2 es) ≡ true) c.contexts-contexts.result c.in-Some.first c.next.new.self
    (c.contexts-contexts.ensures.needed 87 2 (ap (λ k. context_always_has k 87 2) c.requires)) c.in-Some.ensures.steps

pub returns : goal.returns
returns c =
    let rest = c.next.new.self in
    let others = map (values_in (context_rows 32)) rest in
    let left = none_left (values_in (context_rows 32)) rest in
    record {
      further = others;
      contexts =
          first_read 32 c.args.view.now.message c.contexts-contexts.result c.in-Some.first rest c.requires
          (c.contexts-contexts.ensures.rows (ap has_contexts c.requires)) c.in-Some.ensures.steps
          ∙ (λ i. (option_to_list (c.needed-identity.ensures i) ∷ option_to_list (c.needed.ensures i) ∷ option_to_list (c.needed-2.ensures i) ∷ []) ∷ others);
      alone = (λ is. left.0 (c.none_is_left.ensures.0 is), λ none. c.none_is_left.ensures.1 (left.1 none));
    }
