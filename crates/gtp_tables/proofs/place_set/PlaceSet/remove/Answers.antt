use Rattle.std.proofs.Common.{◌∙◌, ◌/◌, length, drop, List, ℕ, false, cond, nat_eq, ap, sym, subst, rules}
use Rattle.gtp_tables.specs.PlaceSet.{IsWritten, has_place, is_empty}
use Rattle.gtp_tables.proofs.PlaceBits.{written_back, removed_last, removed_one}
use Rattle.gtp_tables.proofs.place_set.PlaceSet.remove.Goals as goal

pub invariant_of-self : goal.invariant_of-self
invariant_of-self c =
    let words = c.self.inside.words.items in
    let summary = c.self.inside.summary.items in
    let now = c.clear_bit.new.words in
    let summed = c.clear_bit-then-is_empty.new.words in
    let place = c.args.place in
    let back = written_back now (drop (length now) words) c.self.inside.words.len (search rules) in
    rw (back, written_back summed _ c.self.inside.summary.len (search rules))
    (removed_last words summary now summed place c.self.invariant
    (subst (λ (ws : List ℕ). IsWritten ws place false now) c.deref_mut.ensures.value c.clear_bit.ensures)
    (ap (λ (ws : List ℕ). is_empty ws (place / 64)) (sym (c.deref.ensures.value ∙ back)) ∙ (sym c.is_empty.ensures ∙ c.if-is_empty.true))
    (subst (λ (ws : List ℕ). IsWritten ws (place / 64) false summed) c.deref_mut-then-is_empty.ensures.value c.clear_bit-then-is_empty.ensures))

pub invariant_of-self-else-is_empty : goal.invariant_of-self-else-is_empty
invariant_of-self-else-is_empty c =
    let words = c.self.inside.words.items in
    let now = c.clear_bit.new.words in
    let place = c.args.place in
    let back = written_back now (drop (length now) words) c.self.inside.words.len (search rules) in
    rw back
    (removed_one words c.self.inside.summary.items now place c.self.invariant
    (ap (λ (ws : List ℕ). has_place ws place) c.self.view_is ∙ c.requires.has)
    (subst (λ (ws : List ℕ). IsWritten ws place false now) c.deref_mut.ensures.value c.clear_bit.ensures)
    (ap (λ (ws : List ℕ). is_empty ws (place / 64)) (sym (c.deref.ensures.value ∙ back)) ∙ (sym c.is_empty.ensures ∙ c.if-is_empty.false)))

pub returns-then-is_empty-clause-places : goal.returns-then-is_empty-clause-places
returns-then-is_empty-clause-places c = λ p.
    let now = c.clear_bit.new.words in
    ap (λ (ws : List ℕ). has_place ws p) (written_back now _ c.self.inside.words.len (search rules)) ∙ (c.clear_bit.ensures.places p
    ∙ ap (λ (ws : List ℕ). cond (nat_eq p c.args.place) false (has_place ws p)) (c.deref_mut.ensures.value ∙ c.self.view_is))

pub returns-else-is_empty-clause-places : goal.returns-else-is_empty-clause-places
returns-else-is_empty-clause-places c = λ p.
    let now = c.clear_bit.new.words in
    ap (λ (ws : List ℕ). has_place ws p) (written_back now _ c.self.inside.words.len (search rules)) ∙ (c.clear_bit.ensures.places p
    ∙ ap (λ (ws : List ℕ). cond (nat_eq p c.args.place) false (has_place ws p)) (c.deref_mut.ensures.value ∙ c.self.view_is))
