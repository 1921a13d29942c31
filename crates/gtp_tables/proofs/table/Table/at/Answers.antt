use Rattle.std.proofs.Common.{◌≡◌, ◌∙◌, ap, sym, Some, ℕ, List, slice_get}
use Rattle.std.specs.FinMap as map
use Rattle.gtp_tables.specs.Rows.{Rows}
use Rattle.gtp_tables.proofs.Ordered.{entry_at, key_stands}
use Rattle.gtp_tables.proofs.table.Table.at.Goals as goal

pub unreachable-requires : goal.unreachable-requires
unreachable-requires g c =
    let table = c.args.self.now.table in
    let keys : c.as_slice.result.now ≡ map.keys table = c.as_slice.ensures.value ∙ c.self.invariant.keys ∙ ap (λ (r : Rows _). map.keys r.table) c.self.view_is in
    let at : slice_get (map.keys table) c.args.index ≡ Some c.in_ok-teid.teid = ap (λ (ks : List ℕ). slice_get ks c.args.index) (sym keys) ∙ sym c.in_ok-teid.ensures in
    key_stands table c.args.index c.in_ok-teid.teid at (sym c.in-None.ensures)

pub returns : goal.returns
returns g c =
    let table = c.args.self.now.table in
    let keys : c.as_slice.result.now ≡ map.keys table = c.as_slice.ensures.value ∙ c.self.invariant.keys ∙ ap (λ (r : Rows _). map.keys r.table) c.self.view_is in
    let at : slice_get (map.keys table) c.args.index ≡ Some c.in_ok-teid.teid = ap (λ (ks : List ℕ). slice_get ks c.args.index) (sym keys) ∙ sym c.in_ok-teid.ensures in
    sym (entry_at table c.args.index c.in_ok-teid.teid c.in-Some.value at (sym c.in-Some.ensures))
