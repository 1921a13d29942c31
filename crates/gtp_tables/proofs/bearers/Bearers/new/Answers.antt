use Rattle.std.proofs.Common.{◌≡◌, ◌∙◌, ℕ, sym, ap, false, rules}
use Rattle.std.specs.FinMap.{get, get-empty}
use Rattle.std.specs.Ordering.{nat_cmp}
use Rattle.std.specs.BTreeSet.{contains}
use Rattle.gtp_tables.specs.declared.context.Bearer.{Bearer}
use Rattle.gtp_tables.specs.Index.{pair_cmp, names}
use Rattle.gtp_tables.specs.BySession.{is_of}
use Rattle.gtp_tables.specs.Rows.{Rows}
use Rattle.gtp_tables.proofs.bearers.Bearers.new.Goals as goal

pub invariant_of-result : goal.invariant_of-result
invariant_of-result c =
    let empty : (r o : ℕ) → names r (get c.new.result.table o) ≡ false = λ r o. ap (λ (t : Rows Bearer). names r (get t.table o)) c.new.ensures ∙ ap (names r) (get-empty nat_cmp o) in
    let alone : (s o : ℕ) → is_of s (get c.new.result.table o) ≡ false = λ s o. ap (λ (t : Rows Bearer). is_of s (get t.table o)) c.new.ensures ∙ ap (is_of s) (get-empty nat_cmp o) in
    record {
      indexed = λ r o. let none : contains pair_cmp c.new-2.result (r, o) ≡ false = search (rules, c.new-2.ensures.empty) in none ∙ sym (empty r o);
      sessions = λ s o. let none : contains pair_cmp c.new-3.result (s, o) ≡ false = search (rules, c.new-3.ensures.empty) in none ∙ sym (alone s o);
    }
