use Rattle.std.proofs.Common.{rules, ◌≡◌, ◌∙◌, ℕ, Some, None, cond, nat_eq, length, get_or, set, sym, ap, subst, arith}
use Rattle.std.specs.Map.{lookup}
use Rattle.gtp_reliable.specs.Rows.{Queued, rows_of, slot_of, without, AreApart}
use Rattle.gtp_reliable.proofs.Slots.{IsAt, slot_at, row_none, without_none, cut_names, cut_apart, gap_rows, gap_count}
use Rattle.gtp_reliable.proofs.rows.Rows.finish.Goals as goal

pub index_mut-requires : goal.index_mut-requires
index_mut-requires g c =
    let slots = c.self.inside.slots.items in
    let found : lookup (nat_eq c.args.number) c.self.inside.names.entries ≡ Some c.in-Some.slot = search rules in
    let at : IsAt c.args.number c.self.inside.first c.in-Some.slot slots =
    slot_at c.args.number c.self.inside.first c.in-Some.slot slots (omega arith) (omega arith) (sym (c.self.invariant.names c.args.number) ∙ found) in
    omega (arith, c.place_of-at.ensures, at.within)

pub invariant_of-self : goal.invariant_of-self
invariant_of-self g c =
    let slots = c.self.inside.slots.items in
    let first = c.self.inside.first in
    let i = c.place_of-at.result in
    let found : lookup (nat_eq c.args.number) c.self.inside.names.entries ≡ Some c.in-Some.slot = search rules in
    let at : IsAt c.args.number first c.in-Some.slot slots = slot_at c.args.number first c.in-Some.slot slots (omega arith) (omega arith) (sym (c.self.invariant.names c.args.number) ∙ found) in
    let is : get_or slots i None ≡ Some at.request = ap (λ (k : ℕ). get_or slots k None) c.place_of-at.ensures ∙ at.is in
    let rows : rows_of c.drop_gaps.new.slots.items ≡ rows_of (set slots i None) = search rules in
    let taken : (n : ℕ) → lookup (nat_eq n) c.take_out.new.names.entries ≡ cond (nat_eq at.request.seq n) None (lookup (nat_eq n) c.self.inside.names.entries) =
    λ n. c.take_out.ensures.names n ∙ ap (λ (k : ℕ). cond (nat_eq k n) None (lookup (nat_eq n) c.self.inside.names.entries)) (sym at.number) in
    let places : (n : ℕ) → slot_of n c.drop_gaps.new.first c.drop_gaps.new.slots.items ≡ slot_of n first (set slots i None) = c.drop_gaps.ensures.names in
    record {
      names = λ n. cut_names c.self.inside.names.entries c.take_out.new.names.entries first slots i at.request c.self.invariant.names c.self.invariant.apart is taken n ∙ sym (places n);
      apart = subst AreApart (sym rows) (cut_apart slots i at.request c.self.invariant.apart is);
      front = c.drop_gaps.ensures.front;
      count = omega (arith, c.in-Some.ensures.count, c.self.invariant.count, ap length rows, gap_count slots i at.request is);
      room = λ e. let had = c.self.invariant.room e in (omega (arith, had.0, c.drop_gaps.ensures.len, c.drop_gaps.ensures.capacity), omega (arith, had.1, c.in-Some.ensures.room));
    }

pub returns-in-Some-clause-rows : goal.returns-in-Some-clause-rows
returns-in-Some-clause-rows g c =
    let slots = c.self.inside.slots.items in
    let first = c.self.inside.first in
    let i = c.place_of-at.result in
    let found : lookup (nat_eq c.args.number) c.self.inside.names.entries ≡ Some c.in-Some.slot = search rules in
    let at : IsAt c.args.number first c.in-Some.slot slots = slot_at c.args.number first c.in-Some.slot slots (omega arith) (omega arith) (sym (c.self.invariant.names c.args.number) ∙ found) in
    let is : get_or slots i None ≡ Some at.request = ap (λ (k : ℕ). get_or slots k None) c.place_of-at.ensures ∙ at.is in
    let rows : rows_of c.drop_gaps.new.slots.items ≡ rows_of (set slots i None) = search rules in
    rows ∙ (gap_rows slots i at.request c.self.invariant.apart is
    ∙ (ap (λ (k : ℕ). without k (rows_of slots)) at.number ∙ ap (λ (q : Queued _). without c.args.number q.rows) c.self.view_is))

pub returns-in_default-clause-rows : goal.returns-in_default-clause-rows
returns-in_default-clause-rows g c =
    let slots = c.self.inside.slots.items in
    let none : lookup (nat_eq c.args.number) c.self.inside.names.entries ≡ None = search rules in
    sym (without_none c.args.number (rows_of slots) (row_none c.args.number c.self.inside.first slots (sym (c.self.invariant.names c.args.number) ∙ none)))
    ∙ ap (λ (q : Queued _). without c.args.number q.rows) c.self.view_is
