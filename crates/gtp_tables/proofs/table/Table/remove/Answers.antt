use Rattle.std.proofs.Common.{◌∙◌, ap, sym, subst, nat_eq, filter, arith}
use Rattle.std.specs.Prelude.{not}
use Rattle.std.specs.FinMap as map
use Rattle.std.specs.Ordering.{nat_cmp}
use Rattle.gtp_tables.specs.Rows.{Rows, AreRising}
use Rattle.gtp_tables.proofs.Rows.{table_remove}
use Rattle.gtp_tables.proofs.Ordered.{keys_rise, keys_removed}
use Rattle.gtp_tables.proofs.table.Table.remove.Goals as goal

pub cut_key-requires : goal.cut_key-requires
cut_key-requires g c = record { rising = subst AreRising (sym c.self.invariant.keys) (keys_rise (map.from_entries {R = nat_cmp} c.self.inside.rows.entries)) }

pub invariant_of-self : goal.invariant_of-self
invariant_of-self g c = record {
  keys =
      c.cut_key.ensures.keys
      ∙ ap (filter (λ k. not (nat_eq c.args.teid k))) c.self.invariant.keys
      ∙ sym (ap map.keys (table_remove c.self.inside.rows.entries c.take_out.new.rows.entries c.args.teid c.take_out.ensures.rows)
      ∙ keys_removed (map.from_entries {R = nat_cmp} c.self.inside.rows.entries) c.args.teid);
  distinct = c.take_out.ensures.distinct;
  room = λ h. let was = c.self.invariant.room h in (omega (arith, was.0, c.take_out.ensures.room), c.cut_key.ensures.room was.1);
}

pub returns : goal.returns
returns g c =
    ap (λ (t : _). record { table = t; has_room = c.self.inside.ready }) (table_remove c.self.inside.rows.entries c.take_out.new.rows.entries c.args.teid c.take_out.ensures.rows)
    ∙ ap (λ (r : Rows _). record r { table = map.remove r.table c.args.teid }) c.self.view_is
