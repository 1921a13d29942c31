use Rattle.std.proofs.Common.{◌≡◌, ◌∙◌, ℕ, sym, ap, subst, IsSome, refl, nat_eq}
use Rattle.std.specs.FinMap.{get}
use Rattle.gtp_tables.specs.declared.context.Bearer.{Bearer}
use Rattle.gtp_values.specs.FiniteMap.{FiniteMap}
use Rattle.gtp_values.specs.Number.{is_number}
use Rattle.gtp_tables.specs.Index.{names}
use Rattle.gtp_tables.specs.BySession.{is_of, IsInPlace}
use Rattle.gtp_tables.specs.Rows.{Rows}
use Rattle.gtp_values.proofs.Tests.{same_number}
use Rattle.gtp_tables.proofs.Named.{renamed, get_inserted}
use Rattle.gtp_tables.proofs.BySession.{rejoined}
use Rattle.gtp_tables.proofs.bearers.Bearers.replace.Goals as goal

pub replace-requires : goal.replace-requires
replace-requires c =
    let old : IsInPlace c.self.inside.table.table c.args.teid c.args.bearer = subst (λ (m : FiniteMap Bearer). IsInPlace m c.args.teid c.args.bearer) (sym c.self.view_is) c.requires.same in
    record { stands = subst IsSome (sym old.stands) refl }

pub invariant_of-self : goal.invariant_of-self
invariant_of-self c =
    let table : FiniteMap Bearer = c.self.inside.table.table in
    let old : IsInPlace table c.args.teid c.args.bearer = subst (λ (m : FiniteMap Bearer). IsInPlace m c.args.teid c.args.bearer) (sym c.self.view_is) c.requires.same in
    let same : (r o : ℕ) → names r (get table o) ≡ names r (get c.replace.new.self.table o) = λ r o.
    renamed c.args.teid r o c.args.bearer (get table o) (λ e. ap (λ (k : ℕ). names r (get table k)) (sym (same_number c.args.teid o e)) ∙ (ap (names r) old.stands ∙ ap (is_number r) old.same))
    ∙ (ap (names r) (sym (get_inserted table c.args.teid c.args.bearer o))
    ∙ ap (λ (t : Rows Bearer). names r (get t.table o)) (sym c.replace.ensures)) in
    record {
      indexed = λ r o. c.self.invariant.indexed r o ∙ same r o;
      sessions = λ s o. c.self.invariant.sessions s o
          ∙ (rejoined c.args.teid s o c.args.bearer (get table o)
          (λ e. ap (λ (k : ℕ). is_of s (get table k)) (sym (same_number c.args.teid o e)) ∙
          (ap (is_of s) old.stands ∙ ap (λ (n : ℕ). nat_eq n s) old.of))
          ∙ (ap (is_of s) (sym (get_inserted table c.args.teid c.args.bearer o))
          ∙ ap (λ (t : Rows Bearer). is_of s (get t.table o)) (sym c.replace.ensures)));
    }
