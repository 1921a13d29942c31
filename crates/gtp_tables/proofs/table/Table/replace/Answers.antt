use Rattle.std.proofs.Common.{◌≡◌, ◌∙◌, ap, sym, subst, nat_eq, ℕ, List, arith, IsSome}
use Rattle.std.specs.FinMap as map
use Rattle.std.specs.Map.{lookup, set_value}
use Rattle.std.specs.Ordering.{nat_cmp}
use Rattle.gtp_tables.specs.Rows.{Rows}
use Rattle.gtp_tables.proofs.Rows.{find_row, get_row, lookup_set, table_insert}
use Rattle.gtp_tables.proofs.Ordered.{keys_insert_there}
use Rattle.gtp_tables.proofs.table.Table.replace.Goals as goal

pub put_there-requires : goal.put_there-requires
put_there-requires g c = record { stands = subst IsSome (ap (λ (r : Rows _). map.get r.table c.args.teid) (sym c.self.view_is) ∙ get_row c.self.inside.rows.entries c.args.teid) c.requires.stands }

pub invariant_of-self : goal.invariant_of-self
invariant_of-self g c =
    let m = map.from_entries {R = nat_cmp} c.self.inside.rows.entries in
    let stands : IsSome (lookup (nat_eq c.args.teid) c.self.inside.rows.entries) =
    subst IsSome (ap (λ (r : Rows _). map.get r.table c.args.teid) (sym c.self.view_is) ∙ get_row c.self.inside.rows.entries c.args.teid)
    c.requires.stands in
    let there : IsSome (lookup (nat_eq c.args.teid) (map.entries m)) =
    subst IsSome (sym (get_row c.self.inside.rows.entries c.args.teid) ∙ map.get-entries m c.args.teid ∙ find_row (map.entries m) c.args.teid) stands in
    record {
      keys =
          c.self.invariant.keys
          ∙ sym (ap (λ (es : List (ℕ × _)). map.keys (map.from_entries {R = nat_cmp} es)) c.put_there.ensures.entries
          ∙ ap map.keys
          (table_insert c.self.inside.rows.entries (set_value (nat_eq c.args.teid) c.self.inside.rows.entries c.args.value) c.args.teid c.args.value
          (λ q. lookup_set c.self.inside.rows.entries c.args.teid c.args.value q stands))
          ∙ keys_insert_there m c.args.teid c.args.value there);
      distinct = c.put_there.ensures.distinct;
      room = λ h. let was = c.self.invariant.room h in (omega (arith, was.0, c.put_there.ensures.room), was.1);
    }

pub returns : goal.returns
returns g c =
    let rows = c.self.inside.rows.entries in
    let stands : IsSome (lookup (nat_eq c.args.teid) rows) = subst IsSome (ap (λ (r : Rows _). map.get r.table c.args.teid) (sym c.self.view_is) ∙ get_row rows c.args.teid) c.requires.stands in
    let after : map.from_entries {R = nat_cmp} c.put_there.new.rows.entries ≡ map.insert (map.from_entries rows) c.args.teid c.args.value =
    ap (map.from_entries {R = nat_cmp}) c.put_there.ensures.entries
    ∙ table_insert rows (set_value (nat_eq c.args.teid) rows c.args.value) c.args.teid c.args.value (λ q. lookup_set rows c.args.teid c.args.value q stands) in
    ap (λ (t : _). record { table = t; has_room = c.self.inside.ready }) after
    ∙ ap (λ (r : Rows _). record r { table = map.insert r.table c.args.teid c.args.value }) c.self.view_is
