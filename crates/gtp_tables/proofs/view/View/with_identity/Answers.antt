use Rattle.std.proofs.Common.{◌∙◌, Option, Some, None, IfNone, sym, subst}
use Rattle.std.proofs.lemmas.Option.{IfSome_then}
use Rattle.gtp_tables.specs.Contexts.{Contexts}
use Rattle.gtp_tables.specs.Identity.{IsUnused, IsBearerWith}
use Rattle.gtp_tables.proofs.Seen.{bearer_seen, unused_seen, unused_unseen}
use Rattle.gtp_tables.proofs.view.View.with_identity.Goals as goal

none_then : {X P Q : Type 0} (o : Option X) → IfNone o P → (P → Q) → IfNone o Q
none_then None h f = f h
none_then (Some x) h f = tt

pub returns-then-are_seen-clause-found : goal.returns-then-are_seen-clause-found
returns-then-are_seen-clause-found c =
    let all : Contexts = record { sessions = c.self.inside.sessions.now.table; bearers = c.self.inside.bearers.now } in
    IfSome_then c.with_identity.result c.with_identity.ensures.found (λ teid h.
    subst (λ (k : Contexts). IsBearerWith k.bearers c.args.session c.args.identity teid) c.self.view_is
    (bearer_seen c.self.inside.restarted all c.args.session c.args.identity teid (sym c.are_seen.ensures ∙ c.if-are_seen.true) h))

pub returns-then-are_seen-clause-none : goal.returns-then-are_seen-clause-none
returns-then-are_seen-clause-none c =
    let all : Contexts = record { sessions = c.self.inside.sessions.now.table; bearers = c.self.inside.bearers.now } in
    none_then c.with_identity.result c.with_identity.ensures.none (λ h.
    subst (λ (k : Contexts). IsUnused k.bearers c.args.session c.args.identity) c.self.view_is
    (unused_seen c.self.inside.restarted all c.args.session c.args.identity h))

pub returns-else-are_seen-clause-none : goal.returns-else-are_seen-clause-none
returns-else-are_seen-clause-none c =
    let all : Contexts = record { sessions = c.self.inside.sessions.now.table; bearers = c.self.inside.bearers.now } in
    subst (λ (k : Contexts). IsUnused k.bearers c.args.session c.args.identity) c.self.view_is
    (unused_unseen c.self.inside.restarted all c.args.session c.args.identity (sym c.are_seen.ensures ∙ c.if-are_seen.false))
