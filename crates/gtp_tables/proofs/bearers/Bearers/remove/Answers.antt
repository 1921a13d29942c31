use Rattle.std.proofs.Common.{◌≡◌, ◌∙◌, ◌&&◌, ℕ, sym, ap, cond, false, None, Option, nat_eq}
use Rattle.std.specs.FinMap.{get}
use Rattle.std.specs.BTreeSet.{contains}
use Rattle.gtp_tables.specs.declared.context.Bearer.{Bearer}
use Rattle.gtp_values.specs.FiniteMap.{FiniteMap}
use Rattle.gtp_values.specs.Number.{is_number}
use Rattle.gtp_tables.specs.Index.{pair_cmp, names}
use Rattle.gtp_tables.specs.BySession.{is_of}
use Rattle.gtp_tables.specs.Rows.{Rows}
use Rattle.gtp_values.proofs.Tests.{same_number}
use Rattle.gtp_tables.proofs.Named.{unnamed, get_removed}
use Rattle.gtp_tables.proofs.BySession.{parted}
use Rattle.gtp_tables.proofs.bearers.Bearers.remove.Goals as goal

pub invariant_of-self : goal.invariant_of-self
invariant_of-self c =
    let table : FiniteMap Bearer = c.self.inside.table.table in
    let removed : (o : ℕ) → get c.remove.new.self.table o ≡ cond (nat_eq c.args.teid o) None (get table o) =
    λ o. ap (λ (t : Rows Bearer). get t.table o) c.remove.ensures ∙ get_removed table c.args.teid o in
    let indexed : (r o : ℕ) → contains pair_cmp c.unname_if.new.index (r, o) ≡ names r (get c.remove.new.self.table o) = λ r o. c.unname_if.ensures r o
    ∙ (ap (cond (is_number r c.remote_of-remote.result && nat_eq c.args.teid o) false) (c.self.invariant.indexed r o)
    ∙ (ap (λ (x : Option ℕ). cond (is_number r x && nat_eq c.args.teid o) false (names r (get table o))) c.remote_of-remote.ensures
    ∙ (unnamed c.args.teid r o (get table c.args.teid) (get table o) (λ e. ap (get table) (sym (same_number c.args.teid o e)))
    ∙ ap (names r) (sym (removed o))))) in
    record {
      indexed = indexed;
      sessions = λ s o. c.unname_of.ensures s o
          ∙ (ap (cond (is_of s c.get.result && nat_eq c.args.teid o) false) (c.self.invariant.sessions s o)
          ∙ (ap (λ (x : Option Bearer). cond (is_of s x && nat_eq c.args.teid o) false (is_of s (get table o))) c.get.ensures
          ∙ (parted c.args.teid s o (get table c.args.teid) (get table o) (λ e. ap (get table) (sym (same_number c.args.teid o e)))
          ∙ ap (is_of s) (sym (removed o)))));
    }
