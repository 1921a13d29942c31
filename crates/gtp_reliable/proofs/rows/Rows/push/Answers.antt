use Rattle.std.proofs.Common.{rules, ◌≡◌, ◌+◌, ◌%◌, ◌^◌, ◌++◌, ◌∷◌, [], ◌∙◌, ℕ, sym, ap, subst, Some, None, Option, cond, length, nat_eq, arith}
use Rattle.std.specs.Map.{lookup}
use Rattle.gtp_reliable.specs.Rows.{Queued, row_of, rows_of, slot_of, AreApart, has_gap}
use Rattle.gtp_reliable.proofs.Slots.{no_slot, slot_push, rows_push, apart_push, gap_push, back_count}
use Rattle.gtp_reliable.proofs.rows.Rows.push.Goals as goal

pub put_in-requires-clause-free : goal.put_in-requires-clause-free
put_in-requires-clause-free g c =
    let slots = c.self.inside.slots.items in
    let free : row_of c.args.row.seq (rows_of slots) ≡ None = ap (λ (q : Queued _). row_of c.args.row.seq q.rows) c.self.view_is ∙ c.requires.free in
    let same : c.number.result ≡ c.args.row.seq = search rules in
    ap (λ (n : ℕ). lookup (nat_eq n) c.self.inside.names.entries) same ∙ (c.self.invariant.names c.args.row.seq ∙ no_slot c.args.row.seq c.self.inside.first slots free)

pub invariant_of-self : goal.invariant_of-self
invariant_of-self g c =
    let slots = c.self.inside.slots.items in
    let first = c.self.inside.first in
    let row = c.args.row in
    let free : row_of row.seq (rows_of slots) ≡ None = ap (λ (q : Queued _). row_of row.seq q.rows) c.self.view_is ∙ c.requires.free in
    let pushed : c.push_back_reserved.new.self.items ≡ slots ++ Some row ∷ [] = search rules in
    let same : c.number.result ≡ row.seq = search rules in
    let len : c.len.result ≡ length slots = search rules in
    let put : (n : ℕ) → lookup (nat_eq n) c.put_in.new.names.entries ≡ cond (nat_eq row.seq n) (Some ((first + length slots) % 2 ^ 64)) (lookup (nat_eq n) c.self.inside.names.entries) =
    λ n. c.put_in.ensures.names n
    ∙ (ap (λ (k : ℕ). cond (nat_eq k n) (Some ((first + c.len.result) % 2 ^ 64)) (lookup (nat_eq n) c.self.inside.names.entries)) same
    ∙ ap (λ (k : ℕ). cond (nat_eq row.seq n) (Some ((first + k) % 2 ^ 64)) (lookup (nat_eq n) c.self.inside.names.entries)) len) in
    record {
      names = λ n.
          put n
          ∙ (ap (λ (o : Option ℕ). cond (nat_eq row.seq n) (Some ((first + length slots) % 2 ^ 64)) o) (c.self.invariant.names n)
          ∙ (sym (slot_push n first slots row (omega arith) free) ∙ ap (slot_of n first) (sym pushed)));
      apart = subst (λ l. AreApart (rows_of l)) (sym pushed) (subst AreApart (sym (rows_push slots row)) (apart_push (rows_of slots) row c.self.invariant.apart free));
      front = ap has_gap pushed ∙ gap_push slots row c.self.invariant.front;
      count = omega (arith, c.put_in.ensures.count, c.self.invariant.count, ap (λ l. length (rows_of l)) pushed, back_count slots row);
      room = λ e. absurd cc;
    }

pub returns : goal.returns
returns g c =
    let slots = c.self.inside.slots.items in
    let pushed : c.push_back_reserved.new.self.items ≡ slots ++ Some c.args.row ∷ [] = search rules in
    ap rows_of pushed ∙ (rows_push slots c.args.row ∙ ap (λ (q : Queued _). q.rows ++ c.args.row ∷ []) c.self.view_is)
