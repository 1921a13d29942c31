use Rattle.std.proofs.Common.{rules, ◌≡◌, ◌∙◌, ap, sym, ℕ, List, [], ◌∷◌, ◌++◌}
use Rattle.std.specs.FinMap as map
use Rattle.std.specs.Ordering.{nat_cmp}
use Rattle.gtp_tables.specs.Rows.{Rows}
use Rattle.gtp_tables.proofs.Rows.{find_row, get_row, KeysBelow, keys_below, none_above, table_push}
use Rattle.gtp_tables.proofs.Ordered.{keys_insert_last}
use Rattle.gtp_tables.proofs.table.Table.add.Goals as goal

pub put_last-requires-clause-new : goal.put_last-requires-clause-new
put_last-requires-clause-new g c =
    let rows = c.self.inside.rows.entries in
    let below : KeysBelow c.args.teid rows = keys_below c.args.teid rows (λ k x found. c.requires.rises k x (ap (λ (r : Rows _). map.get r.table k) (sym c.self.view_is) ∙ get_row rows k ∙ found)) in
    none_above c.args.teid rows below

pub invariant_of-self : goal.invariant_of-self
invariant_of-self g c =
    let rows = c.self.inside.rows.entries in
    let m = map.from_entries {R = nat_cmp} rows in
    let below : KeysBelow c.args.teid rows = keys_below c.args.teid rows (λ k x found. c.requires.rises k x (ap (λ (r : Rows _). map.get r.table k) (sym c.self.view_is) ∙ get_row rows k ∙ found)) in
    let last : KeysBelow c.args.teid (map.entries m) =
    keys_below c.args.teid (map.entries m) (λ k x found.
    c.requires.rises k x (ap (λ (r : Rows _). map.get r.table k) (sym c.self.view_is) ∙ map.get-entries m k ∙ find_row (map.entries m) k ∙ found)) in
    let pushed : c.push.new.self.items ≡ c.self.inside.keys.items ++ c.args.teid ∷ [] = search rules in
    record {
      keys =
          pushed
          ∙ ap (λ (ks : List ℕ). ks ++ c.args.teid ∷ []) c.self.invariant.keys
          ∙ sym (ap (λ (es : List (ℕ × _)). map.keys (map.from_entries {R = nat_cmp} es)) c.put_last.ensures.entries
          ∙ ap map.keys (table_push rows c.args.teid c.args.value (none_above c.args.teid rows below))
          ∙ keys_insert_last m c.args.teid c.args.value last);
      distinct = c.put_last.ensures.distinct;
      room = λ h. absurd cc;
    }

pub returns : goal.returns
returns g c =
    let rows = c.self.inside.rows.entries in
    let below : KeysBelow c.args.teid rows = keys_below c.args.teid rows (λ k x found. c.requires.rises k x (ap (λ (r : Rows _). map.get r.table k) (sym c.self.view_is) ∙ get_row rows k ∙ found)) in
    record {
      table =
          ap (map.from_entries {R = nat_cmp}) c.put_last.ensures.entries
          ∙ table_push rows c.args.teid c.args.value (none_above c.args.teid rows below)
          ∙ ap (λ (r : Rows _). map.insert r.table c.args.teid c.args.value) c.self.view_is;
    }
