use Rattle.std.proofs.Common.{◌≡◌, ◌∙◌, ℕ, Bool, List, filter, ap, sym, rules}
use Rattle.std.specs.Prelude.{is_some}
use Rattle.std.specs.List.{list_any}
use Rattle.std.specs.FinMap.{get}
use Rattle.std.specs.Ordering.{is_eq}
use Rattle.std.proofs.lemmas.Fn.{filter_same}
use Rattle.std.proofs.lemmas.Map.Views.{any-filter_same}
use Rattle.gtp_tables.specs.Index.{pair_cmp}
use Rattle.gtp_tables.proofs.Named.{pair_of}
use Rattle.gtp_tables.proofs.index.keep_named.Goals as goal

pub returns : goal.returns
returns c = λ r o.
    let stays : ℕ × ℕ → Bool = λ p. is_some (get c.args.table.now.table p.1) in
    let left : c.retain.new.self.keys ≡ filter stays c.args.index.now.keys = filter_same _ stays _ (λ x b f' k. search rules) _ _ c.retain.ensures.filtered in
    ap (λ (ks : List (ℕ × ℕ)). list_any (λ k. is_eq (pair_cmp (r, o) k)) ks) left
    ∙ any-filter_same (λ k. is_eq (pair_cmp (r, o) k)) stays (is_some (get c.args.table.now.table o))
    (λ k e. ap (λ (own : ℕ). is_some (get c.args.table.now.table own)) (sym (pair_of r o k e))) c.args.index.now.keys
