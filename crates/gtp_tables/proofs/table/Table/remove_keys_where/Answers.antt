use Rattle.std.specs.Prelude.{not}
use Rattle.std.proofs.Common.{◌≡◌, ◌∙◌, ap, arith}
use Rattle.std.specs.FinMap as map
use Rattle.std.specs.Ordering.{nat_cmp}
use Rattle.gtp_values.specs.FiniteMap.{kept}
use Rattle.gtp_tables.specs.Rows.{Rows}
use Rattle.gtp_tables.proofs.Ordered.{rows_kept_by_key, keys_left}
use Rattle.gtp_tables.proofs.table.Table.remove_keys_where.Goals as goal

pub invariant_of-self : goal.invariant_of-self
invariant_of-self g c =
    let rows = c.self.inside.rows.entries in
    let left = c.drop_keys_where.new.rows.entries in
    let is : map.from_entries {R = nat_cmp} left ≡ kept (λ t _. not (c.requires.decides.0 t)) (map.from_entries rows) =
    ap (map.from_entries {R = nat_cmp}) (c.drop_keys_where.ensures.entries c.requires.decides.0 c.requires.decides.1)
    ∙ rows_kept_by_key (λ x. not (c.requires.decides.0 x)) rows in
    record {
      keys = keys_left (λ t _. not (c.requires.decides.0 t)) rows left _ _ is c.self.invariant.keys c.keep_keys.ensures.keys;
      distinct = c.drop_keys_where.ensures.distinct;
      room = λ h. let was = c.self.invariant.room h in (omega (arith, was.0, c.drop_keys_where.ensures.room), c.keep_keys.ensures.room was.1);
    }

pub returns : goal.returns
returns g c = λ goes right.
    ap (λ (t : _). record { table = t; has_room = c.self.inside.ready })
    (ap (map.from_entries {R = nat_cmp}) (c.drop_keys_where.ensures.entries goes right)
    ∙ rows_kept_by_key (λ x. not (goes x)) c.self.inside.rows.entries)
    ∙ ap (λ (r : Rows _). record r { table = kept (λ t _. not (goes t)) r.table }) c.self.view_is
