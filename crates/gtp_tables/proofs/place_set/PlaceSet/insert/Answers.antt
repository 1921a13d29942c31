use Rattle.std.proofs.Common.{◌/◌, List, ℕ, true, subst, rules}
use Rattle.gtp_tables.specs.PlaceSet.{IsWritten}
use Rattle.gtp_tables.proofs.PlaceBits.{written_back, inserted}
use Rattle.gtp_tables.proofs.place_set.PlaceSet.insert.Goals as goal

pub invariant_of-self : goal.invariant_of-self
invariant_of-self c =
    let words = c.self.inside.words.items in
    let summary = c.self.inside.summary.items in
    let now = c.set_bit.new.words in
    let summed = c.set_bit-2.new.words in
    let place = c.args.place in
    rw (written_back now _ c.self.inside.words.len (search rules), written_back summed _ c.self.inside.summary.len (search rules))
    (inserted words summary now summed place c.self.invariant
    (subst (λ (ws : List ℕ). IsWritten ws place true now) c.deref_mut.ensures.value c.set_bit.ensures)
    (subst (λ (ws : List ℕ). IsWritten ws (place / 64) true summed) c.deref_mut-2.ensures.value c.set_bit-2.ensures))
