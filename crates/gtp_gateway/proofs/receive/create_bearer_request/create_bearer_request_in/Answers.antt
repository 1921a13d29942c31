use Rattle.std.proofs.Common.{◌≡◌, true, map, ap, rules}
use Rattle.std.specs.Prelude.{is_some, option_to_list}
use Rattle.gtp_v2.specs.Viewed.{optional_at, values_in, has_contexts, context_rows, context_always_has}
use Rattle.gtp_machine.specs.declared.message_type.MessageType.TheVariants as types
use Rattle.gtp_machine.proofs.Basics.Types.{type_kind}
use Rattle.gtp_gateway.proofs.ContextsRead.{first_has, first_read, none_left}
use Rattle.gtp_gateway.proofs.CreateBearerRequests.{none_further}
use Rattle.gtp_gateway.proofs.receive.create_bearer_request.create_bearer_request_in.Goals as goal

pub needed-requires-2 : goal.needed-requires-2
needed-requires-2 c =
    let of = type_kind c.args.view.now.message.kind types.CreateBearerRequest c.requires in
    first_has (λ es. is_some (optional_at 87 1 es) ≡ true) c.contexts-contexts.result c.in-Some.first c.next.new.self
    (c.contexts-contexts.ensures.needed 87 1 (ap (λ k. context_always_has k 87 1) of)) c.in-Some.ensures.steps

pub returns : goal.returns
returns c =
    let of = type_kind c.args.view.now.message.kind types.CreateBearerRequest c.requires in
    let left = none_left (values_in (context_rows 95)) c.next.new.self in
    let further = none_further c.next-2.result c.next.new.self c.next-2.new.self c.is_none.result c.is_none.ensures c.next-2.ensures.steps in
    record {
      number = search rules;
      header = search rules;
      linked = c.needed.ensures.row;
      first = values_in (context_rows 95) c.in-Some.first;
      further = map (values_in (context_rows 95)) c.next.new.self;
      contexts = first_read 95 c.args.view.now.message c.contexts-contexts.result c.in-Some.first c.next.new.self of (c.contexts-contexts.ensures.rows (ap has_contexts of)) c.in-Some.ensures.steps;
      user = ap option_to_list c.needed-2.ensures;
      alone = (λ yes. left.0 (further.0 yes), λ none. further.1 (left.1 none));
    }
