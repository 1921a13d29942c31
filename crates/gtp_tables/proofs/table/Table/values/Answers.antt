use Rattle.std.proofs.Common.{◌≡◌, ◌∙◌, ap, List, length, map, rules}
use Rattle.std.specs.Prelude.{filter}
use Rattle.std.specs.List.{list_any}
use Rattle.std.specs.FinMap as finmap
use Rattle.gtp_values.specs.FiniteMap.{kept}
use Rattle.gtp_tables.specs.Rows.{Rows}
use Rattle.gtp_tables.proofs.Ordered.{count_rows, any_of_rows}
use Rattle.gtp_tables.proofs.table.Table.values.Goals as goal

pub returns : goal.returns
returns g c =
    let rows = c.self.inside.rows.entries in
    let is : c.as_slice.result.now ≡ map (λ e. e.1) rows = search rules in
    record {
      any = λ p. ap (list_any p) is ∙ any_of_rows p rows c.self.invariant.distinct ∙ ap (λ (r : Rows _). list_any p (finmap.values r.table)) c.self.view_is;
      count = λ p. ap (λ (l : List _). length (filter p l)) is ∙ count_rows p rows c.self.invariant.distinct ∙ ap (λ (r : Rows _). finmap.len (kept (λ _ x. p x) r.table)) c.self.view_is;
    }
