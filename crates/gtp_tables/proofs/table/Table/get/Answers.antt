use Rattle.std.proofs.Common.{◌≡◌, ◌∙◌, ap, sym, option_copied, rules}
use Rattle.std.specs.FinMap as map
use Rattle.gtp_tables.specs.Rows.{Rows}
use Rattle.gtp_tables.proofs.Rows.{get_row}
use Rattle.gtp_tables.proofs.table.Table.get.Goals as goal

pub returns : goal.returns
returns g c =
    let copy : c.copied.result ≡ option_copied c.get.result = search rules in
    copy ∙ c.get.ensures.value
    ∙ sym (get_row c.self.inside.rows.entries c.args.teid)
    ∙ ap (λ (r : Rows _). map.get r.table c.args.teid) c.self.view_is
