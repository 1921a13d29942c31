use Rattle.std.proofs.Common.{◌≡◌, ◌∙◌, ◌&&◌, sym, ap, cond, true, None, nat_eq, rules}
use Rattle.std.specs.FinMap.{get, insert}
use Rattle.gtp_tables.specs.declared.context.Bearer.{Bearer}
use Rattle.gtp_values.specs.FiniteMap.{FiniteMap}
use Rattle.gtp_values.specs.Number.{is_number}
use Rattle.gtp_tables.specs.Index.{names, remote_at}
use Rattle.gtp_tables.specs.BySession.{is_of}
use Rattle.gtp_values.proofs.Tests.{same_number}
use Rattle.gtp_tables.proofs.Named.{named, get_inserted, none_above}
use Rattle.gtp_tables.proofs.BySession.{joined}
use Rattle.gtp_tables.proofs.bearers.Bearers.add.Goals as goal

pub invariant_of-self-in-Ok : goal.invariant_of-self-in-Ok
invariant_of-self-in-Ok c =
    let table : FiniteMap Bearer = c.self.inside.table.table in
    let free : get table c.args.teid ≡ None = none_above table c.args.teid (λ k x found. c.requires.rises k x (ap (λ (m : FiniteMap Bearer). get m k) (sym c.self.view_is) ∙ found)) in
    let added : insert table c.args.teid c.args.bearer ≡ c.add.new.self.table = search rules in
    record {
      indexed = λ r o. c.in-Ok.ensures.ok r o
          ∙ (ap (cond (is_number r c.args.bearer.remote && nat_eq c.args.teid o) true) (c.self.invariant.indexed r o)
          ∙ (named c.args.teid r o c.args.bearer (get table o) (λ e. ap remote_at (ap (get table) (sym (same_number c.args.teid o e)) ∙ free))
          ∙ (ap (names r) (sym (get_inserted table c.args.teid c.args.bearer o)) ∙ ap (λ (m : FiniteMap Bearer). names r (get m o)) added)));
      sessions = λ s o. c.in_ok-name.ensures.ok s o
          ∙ (ap (cond (nat_eq c.args.bearer.session s && nat_eq c.args.teid o) true) (c.self.invariant.sessions s o)
          ∙ (joined c.args.teid s o c.args.bearer (get table o) (λ e. ap (get table) (sym (same_number c.args.teid o e)) ∙ free)
          ∙ (ap (is_of s) (sym (get_inserted table c.args.teid c.args.bearer o)) ∙ ap (λ (m : FiniteMap Bearer). is_of s (get m o)) added)));
    }
