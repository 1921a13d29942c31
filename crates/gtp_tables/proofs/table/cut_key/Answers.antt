use Rattle.std.proofs.Common.{◌≡◌, ◌∙◌, ◌<◌, ℕ, List, length, get_or, subst, remove, sym, rules}
use Rattle.std.specs.Ordering.{nat_cmp}
use Rattle.std.specs.List.Sorted.{IsBinarySearchResult}
use Rattle.gtp_tables.proofs.Ordered.{key_cut, key_not_found}
use Rattle.gtp_tables.proofs.table.cut_key.Goals as goal

pub returns-in-Ok-clause-keys : goal.returns-in-Ok-clause-keys
returns-in-Ok-clause-keys c =
    let ks = c.args.keys.now.items in
    let at : (c.in-Ok.at < length ks) × (get_or ks c.in-Ok.at 0 ≡ c.args.key) = search rules in
    let cut : c.remove.new.self.items ≡ remove ks c.in-Ok.at = search rules in
    cut ∙ key_cut ks c.args.key c.in-Ok.at c.requires.rising at.0 at.1

pub returns-in_default-clause-keys : goal.returns-in_default-clause-keys
returns-in_default-clause-keys c =
    let ks = c.args.keys.now.items in
    let position = subst (λ (l : List ℕ). IsBinarySearchResult (λ y. nat_cmp y c.args.key) l c.binary_search.result) c.deref.ensures.value c.binary_search.ensures.position in
    sym (key_not_found ks c.args.key c.binary_search.result position c.requires.rising c.in_default.field-0 c.in_default.is)
