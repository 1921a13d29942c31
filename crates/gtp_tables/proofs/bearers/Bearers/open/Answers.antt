use Rattle.std.proofs.Common.{◌≡◌, ◌∙◌, ◌&&◌, ℕ, sym, ap, subst, cond, true, nat_eq, IsSome, refl}
use Rattle.std.specs.FinMap.{get, insert}
use Rattle.gtp_tables.specs.declared.context.Bearer.{Bearer}
use Rattle.gtp_values.specs.FiniteMap.{FiniteMap}
use Rattle.gtp_values.specs.Number.{is_number}
use Rattle.gtp_tables.specs.Index.{names, remote_at, IsUnopened}
use Rattle.gtp_tables.specs.BySession.{is_of, IsOfSession}
use Rattle.gtp_tables.specs.Rows.{Rows}
use Rattle.gtp_values.proofs.Tests.{same_number}
use Rattle.gtp_tables.proofs.Named.{named, get_inserted}
use Rattle.gtp_tables.proofs.BySession.{rejoined}
use Rattle.gtp_tables.proofs.bearers.Bearers.open.Goals as goal

pub replace-requires : goal.replace-requires
replace-requires c =
    let old : IsUnopened c.self.inside.table.table c.args.teid = subst (λ (m : FiniteMap Bearer). IsUnopened m c.args.teid) (sym c.self.view_is) c.requires.unopened in
    record { stands = subst IsSome (sym old.stands) refl }

pub invariant_of-self-2 : goal.invariant_of-self-2
invariant_of-self-2 c =
    let table : FiniteMap Bearer = c.self.inside.table.table in
    let old : IsUnopened table c.args.teid = subst (λ (m : FiniteMap Bearer). IsUnopened m c.args.teid) (sym c.self.view_is) c.requires.unopened in
    let of : IsOfSession table c.args.teid c.args.bearer.session = subst (λ (m : FiniteMap Bearer). IsOfSession m c.args.teid c.args.bearer.session) (sym c.self.view_is) c.requires.session in
    let opened : insert table c.args.teid c.args.bearer ≡ c.replace.new.self.table = ap (λ (t : Rows Bearer). t.table) (sym c.replace.ensures) in
    record {
      indexed = λ r o. c.in_ok-name_if.ensures.ok r o
          ∙ (ap (cond (is_number r c.args.bearer.remote && nat_eq c.args.teid o) true) (c.self.invariant.indexed r o)
          ∙ (named c.args.teid r o c.args.bearer (get table o) (λ e. ap (λ (k : ℕ). remote_at (get table k)) (sym (same_number c.args.teid o e)) ∙ ap remote_at old.stands ∙ old.blank)
          ∙ (ap (names r) (sym (get_inserted table c.args.teid c.args.bearer o))
          ∙ ap (λ (m : FiniteMap Bearer). names r (get m o)) opened)));
      sessions = λ s o. c.self.invariant.sessions s o
          ∙ (rejoined c.args.teid s o c.args.bearer (get table o)
          (λ e. ap (λ (k : ℕ). is_of s (get table k)) (sym (same_number c.args.teid o e)) ∙
          (ap (is_of s) of.stands ∙ ap (λ (n : ℕ). nat_eq n s) of.of))
          ∙ (ap (is_of s) (sym (get_inserted table c.args.teid c.args.bearer o))
          ∙ ap (λ (m : FiniteMap Bearer). is_of s (get m o)) opened));
    }
