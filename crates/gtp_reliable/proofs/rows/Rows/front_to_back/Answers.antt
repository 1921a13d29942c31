use Rattle.std.proofs.Common.{rules, ◌≡◌, ◌+◌, ◌%◌, ◌^◌, ◌++◌, ◌∷◌, [], ◌∙◌, ℕ, sym, ap, subst, Some, Option, cond, length, nat_eq, refl, arith}
use Rattle.std.specs.Map.{lookup}
use Rattle.gtp_reliable.specs.Rows.{Sent, Queued, moved, rows_of, slot_of, AreApart}
use Rattle.gtp_reliable.proofs.Slots.{front_slot, back_slot, back_apart, back_count, rows_push}
use Rattle.gtp_reliable.proofs.rows.Rows.front_to_back.Goals as goal

pub move_to-requires : goal.move_to-requires
move_to-requires g c =
    let rest = c.pop_front.new.self.items in
    let first = c.self.inside.first in
    let r = c.in-Some-Some.row in
    let front : c.self.inside.slots.items ≡ Some r ∷ rest = search rules in
    let same : c.number.result ≡ r.seq = search rules in
    let found : lookup (nat_eq c.number.result) c.self.inside.names.entries ≡ Some first =
    ap (λ (k : ℕ). lookup (nat_eq k) c.self.inside.names.entries) same ∙ (c.self.invariant.names r.seq ∙ (ap (slot_of r.seq first) front ∙ front_slot first r rest)) in
    rw found (record { stands = search rules })

pub invariant_of-self : goal.invariant_of-self
invariant_of-self g c =
    let rest = c.pop_front.new.self.items in
    let first = c.self.inside.first in
    let r = c.in-Some-Some.row in
    let b : Sent _ = record r { sent = c.args.sent; resent = c.args.resent } in
    let front : c.self.inside.slots.items ≡ Some r ∷ rest = search rules in
    let pushed : c.push_back_reserved.new.self.items ≡ rest ++ Some b ∷ [] = search rules in
    let apart : AreApart (rows_of (Some r ∷ rest)) = subst (λ l. AreApart (rows_of l)) front c.self.invariant.apart in
    let same : c.number.result ≡ r.seq = search rules in
    let len : c.len.result ≡ length rest = search rules in
    let named : (n : ℕ) → lookup (nat_eq n) c.move_to.new.names.entries ≡ cond (nat_eq r.seq n) (Some (((first + 1) % 2 ^ 64 + length rest) % 2 ^ 64)) (lookup (nat_eq n) c.self.inside.names.entries) =
    λ n. c.move_to.ensures.names n
    ∙ (ap (λ (k : ℕ). cond (nat_eq k n) (Some (((first + 1) % 2 ^ 64 + c.len.result) % 2 ^ 64)) (lookup (nat_eq n) c.self.inside.names.entries)) same
    ∙ ap (λ (k : ℕ). cond (nat_eq r.seq n) (Some (((first + 1) % 2 ^ 64 + k) % 2 ^ 64)) (lookup (nat_eq n) c.self.inside.names.entries)) len) in
    record {
      names = λ n.
          named n
          ∙ (ap (λ (o : Option ℕ). cond (nat_eq r.seq n) (Some (((first + 1) % 2 ^ 64 + length rest) % 2 ^ 64)) o) (c.self.invariant.names n ∙ ap (slot_of n first) front)
          ∙ (back_slot n first rest r b apart refl
          ∙ (ap (slot_of n ((first + 1) % 2 ^ 64)) (sym pushed) ∙ sym (c.drop_gaps.ensures.names n))));
      apart = subst AreApart (sym (c.drop_gaps.ensures.rows ∙ ap rows_of pushed)) (back_apart rest r b apart refl);
      front = c.drop_gaps.ensures.front;
      count =
          omega (
            arith,
            c.move_to.ensures.count,
            c.self.invariant.count,
            ap (λ l. length (rows_of l)) front,
            ap length c.drop_gaps.ensures.rows,
            ap (λ l. length (rows_of l)) pushed,
            back_count rest b,
          );
      room = λ e.
          let had = c.self.invariant.room e in (
            omega (
              arith,
              had.0,
              ap length front,
              c.push_back_reserved.ensures.len,
              c.push_back_reserved.ensures.capacity,
              c.pop_front.ensures.capacity,
              c.drop_gaps.ensures.len,
              c.drop_gaps.ensures.capacity,
            ),
            omega (arith, had.1, c.move_to.ensures.room),
          );
    }

pub returns-clause-rows : goal.returns-clause-rows
returns-clause-rows g c =
    let rest = c.pop_front.new.self.items in
    let r = c.in-Some-Some.row in
    let b : Sent _ = record r { sent = c.args.sent; resent = c.args.resent } in
    let front : c.self.inside.slots.items ≡ Some r ∷ rest = search rules in
    let pushed : c.push_back_reserved.new.self.items ≡ rest ++ Some b ∷ [] = search rules in
    c.drop_gaps.ensures.rows
    ∙ (ap rows_of pushed
    ∙ (rows_push rest b
    ∙ (ap (λ l. moved c.args.sent c.args.resent (rows_of l)) (sym front) ∙ ap (λ (q : Queued _). moved c.args.sent c.args.resent q.rows) c.self.view_is)))
