use Rattle.std.proofs.Common.{◌≡◌, ◌∙◌, ℕ, List, nat_lt, true, cond, nat_eq, ap, sym, subst, arith, rules}
use Rattle.gtp_tables.specs.PlaceCounts.{AreFree}
use Rattle.gtp_tables.proofs.PlaceBits.{one_more, all_free}
use Rattle.gtp_tables.proofs.place_counts.PlaceCounts.new.Goals as goal

pub loop-place-preserved : goal.loop-place-preserved
loop-place-preserved c = record {
  room = search rules;
  places = λ p. c.insert.ensures.places p ∙ (ap (cond (nat_eq p c.loop-place.place) true) (c.loop-place.invariant.places p) ∙ one_more p c.loop-place.place);
}

pub invariant_of-result : goal.invariant_of-result
invariant_of-result c =
    let all : c.loop-place.place ≡ c.args.count = omega (arith, c.loop-place-test.false, c.loop-place.auto.place-end) in
    subst (λ (counts : List ℕ). AreFree counts c.loop-place.free) (sym (c.in_ok-vec.ensures.items_if_clones_equal (λ y is. is)))
    (all_free c.args.count c.loop-place.free c.requires c.loop-place.invariant.room (λ p. c.loop-place.invariant.places p ∙ ap (nat_lt p) all))
