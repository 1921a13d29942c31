use Rattle.std.proofs.Common.{◌≡◌, ◌∙◌, ap, length, rules}
use Rattle.std.specs.FinMap as map
use Rattle.std.specs.Ordering.{nat_cmp}
use Rattle.gtp_tables.specs.Rows.{Rows}
use Rattle.gtp_tables.proofs.Ordered.{length_keys}
use Rattle.gtp_tables.proofs.table.Table.len.Goals as goal

pub returns : goal.returns
returns g c =
    let count : c.len.result ≡ length c.self.inside.keys.items = search (rules, c.len.ensures) in
    count ∙ ap length c.self.invariant.keys
    ∙ length_keys (map.from_entries {R = nat_cmp} c.self.inside.rows.entries)
    ∙ ap (λ (r : Rows _). map.len r.table) c.self.view_is
