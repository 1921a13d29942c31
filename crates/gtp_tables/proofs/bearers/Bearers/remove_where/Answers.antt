use Rattle.std.specs.Prelude.{not, is_some}
use Rattle.std.proofs.Common.{◌≡◌, ◌∙◌, ◌&&◌, ℕ, Bool, ap, sym}
use Rattle.std.specs.FinMap.{get}
use Rattle.gtp_tables.specs.declared.context.Bearer.{Bearer}
use Rattle.std.specs.BTreeSet.{contains}
use Rattle.gtp_values.specs.FiniteMap.{FiniteMap, kept}
use Rattle.gtp_tables.specs.Index.{pair_cmp, names}
use Rattle.gtp_tables.specs.BySession.{is_of}
use Rattle.gtp_tables.specs.Rows.{Rows}
use Rattle.gtp_tables.proofs.Named.{kept_named}
use Rattle.gtp_tables.proofs.BySession.{kept_of}
use Rattle.gtp_tables.proofs.bearers.Bearers.remove_where.Goals as goal

pub invariant_of-self : goal.invariant_of-self
invariant_of-self g c =
    let table : FiniteMap Bearer = c.self.inside.table.table in
    let test : ℕ → Bearer → Bool = λ _ b. not (c.requires.decides.0 b) in
    let left : c.remove_where.new.self.table ≡ kept test table = ap (λ (t : Rows Bearer). t.table) (c.remove_where.ensures c.requires.decides.0 c.requires.decides.1) in
    let indexed : (r o : ℕ) → contains pair_cmp c.keep_named.new.index (r, o) ≡ names r (get c.remove_where.new.self.table o) = λ r o. c.keep_named.ensures r o
    ∙ (ap (λ (x : Bool). is_some (get c.remove_where.new.self.table o) && x) (c.self.invariant.indexed r o)
    ∙ (ap (λ (m : FiniteMap Bearer). is_some (get m o) && names r (get table o)) left
    ∙ (kept_named test table r o
    ∙ ap (λ (m : FiniteMap Bearer). names r (get m o)) (sym left)))) in
    record {
      indexed = indexed;
      sessions = λ s o. c.keep_named-2.ensures s o
          ∙ (ap (λ (x : Bool). is_some (get c.remove_where.new.self.table o) && x) (c.self.invariant.sessions s o)
          ∙ (ap (λ (m : FiniteMap Bearer). is_some (get m o) && is_of s (get table o)) left
          ∙ (kept_of test table s o
          ∙ ap (λ (m : FiniteMap Bearer). is_of s (get m o)) (sym left))));
    }
