use Rattle.std.proofs.Common.{◌≡◌, true}
use Rattle.std.specs.Prelude.{is_some}
use Rattle.gtp_v2.specs.Viewed.{optional_at}
use Rattle.gtp_gateway.proofs.ContextsRead.{first_has}
use Rattle.gtp_gateway.proofs.receive.response_context.only_context_in.Goals as goal

pub context_in-requires-clause-identity : goal.context_in-requires-clause-identity
context_in-requires-clause-identity c =
    first_has (λ es. is_some (optional_at 73 0 es) ≡ true) c.contexts-contexts.result c.in_ok-first.first _
    (c.contexts-contexts.ensures.needed 73 0 c.requires.identity) c.in_ok-first.ensures.steps

pub context_in-requires-clause-cause : goal.context_in-requires-clause-cause
context_in-requires-clause-cause c =
    first_has (λ es. is_some (optional_at 2 0 es) ≡ true) c.contexts-contexts.result c.in_ok-first.first _
    (c.contexts-contexts.ensures.needed 2 0 c.requires.cause) c.in_ok-first.ensures.steps
