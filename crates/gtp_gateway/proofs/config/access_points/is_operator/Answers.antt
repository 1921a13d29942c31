use Rattle.std.proofs.Common.{◌≡◌, ◌<◌, ◌+◌, ℕ, Bool, true, false, nat_eq, List, ◌∷◌, length, map, drop, slice_index_or, sym, ◌∙◌, ap, arith}
use Rattle.std.specs.Prelude.{◌&&◌}
use Rattle.std.proofs.lemmas.Bool.Decides.{nat_tests}
use Rattle.std.proofs.lemmas.List.{drop_more}
use Rattle.std.specs.Cmp.Lexicographic.{pointwise}
use Rattle.gtp_values.proofs.Tests.{itself}
use Rattle.gtp_machine.specs.AccessPoints.{plain, plain_operator}
use Rattle.gtp_gateway.proofs.config.access_points.is_operator.Goals as goal

-- the tests of an octet and of those behind it
module _ (labels : List ℕ) (place : ℕ) (d : ℕ) (more : place < length labels) (all : length labels ≡ 19) where
  inside : place < length plain_operator
  inside = omega (arith, more, all)

  one_more : pointwise nat_eq (map plain (drop place labels)) (drop place plain_operator)
      ≡ (nat_eq (plain (slice_index_or labels place d)) (slice_index_or plain_operator place d) && pointwise nat_eq (map plain (drop (place + 1) labels)) (drop (place + 1) plain_operator))
  one_more =
      ap (λ (ls : List ℕ). pointwise nat_eq (map plain ls) (drop place plain_operator)) (drop_more labels place d more)
      ∙ ap (λ (os : List ℕ). pointwise nat_eq (plain (slice_index_or labels place d) ∷ map plain (drop (place + 1) labels)) os) (drop_more plain_operator place d inside)

apart_tests : (x y : ℕ) → (x ≡ y → ⊥) → nat_eq x y ≡ false
apart_tests x y apart = grind (arith, nat_tests)

pub returns-then-plain-place : goal.returns-then-plain-place
returns-then-plain-place c =
    let labels = c.args.labels.now in
    let place = c.loop-place.place in
    let test : nat_eq (plain (slice_index_or labels place 0)) (slice_index_or plain_operator place 0) ≡ false =
    apart_tests _ _ (λ same. c.if-plain-place.true (c.plain.ensures ∙ same)) in
    sym (c.loop-place.invariant.1 ∙ one_more labels place 0 c.loop-place-test.true c.loop-place.invariant.0
    ∙ ap (λ (b : Bool). b && pointwise nat_eq (map plain (drop (place + 1) labels)) (drop (place + 1) plain_operator)) test)

pub loop-place-preserved : goal.loop-place-preserved
loop-place-preserved c =
    let labels = c.args.labels.now in
    let place = c.loop-place.place in
    let same : plain (slice_index_or labels place 0) ≡ slice_index_or plain_operator place 0 = sym c.plain.ensures ∙ c.if-plain-place.false in
    let test : nat_eq (plain (slice_index_or labels place 0)) (slice_index_or plain_operator place 0) ≡ true =
    ap (λ (x : ℕ). nat_eq x (slice_index_or plain_operator place 0)) same ∙ itself (slice_index_or plain_operator place 0) in (
      c.loop-place.invariant.0,
      c.loop-place.invariant.1 ∙ one_more labels place 0 c.loop-place-test.true c.loop-place.invariant.0
          ∙ ap (λ (b : Bool). b && pointwise nat_eq (map plain (drop (place + 1) labels)) (drop (place + 1) plain_operator)) test,
    )
