use Rattle.std.proofs.Common.{◌≡◌, ◌<◌, ◌+◌, ℕ, Bool, true, false, cond, List, Some, length, drop, slice_index_or, sym, ◌∙◌, ap}
use Rattle.std.proofs.lemmas.List.{drop_more}
use Rattle.gtp_machine.specs.AccessPoints.{is_meant}
use Rattle.gtp_machine.specs.Config.{meant_among}
use Rattle.gtp_gateway.proofs.config.access_points.meant_among.Goals as goal

-- the first, and those behind it
module _ (by_network : Bool) (points : List (List ℕ)) (name : List ℕ) (place : ℕ) (d : List ℕ) (more : place < length points) where
  one_more : meant_among by_network (drop place points) name
      ≡ cond (is_meant by_network (slice_index_or points place d) name) (Some (slice_index_or points place d)) (meant_among by_network (drop (place + 1) points) name)
  one_more = ap (λ (ps : List (List ℕ)). meant_among by_network ps name) (drop_more points place d more)

  one_test : (b : Bool) → is_meant by_network (slice_index_or points place d) name ≡ b
      → meant_among by_network (drop place points) name ≡ cond b (Some (slice_index_or points place d)) (meant_among by_network (drop (place + 1) points) name)
  one_test b is = one_more ∙ ap (λ (t : Bool). cond t (Some (slice_index_or points place d)) (meant_among by_network (drop (place + 1) points) name)) is

pub returns-then-is_meant : goal.returns-then-is_meant
returns-then-is_meant c =
    let by_network = c.args.by_network in
    let points = c.args.access_points.now in
    let name = c.args.name.now in
    let place = c.loop-place.place in
    let d = c.index-access_points-place.result in
    let test : is_meant by_network (slice_index_or points place d) name ≡ true =
    ap (λ (own : List ℕ). is_meant by_network own name) (sym c.index-access_points-place.is) ∙ sym c.is_meant.ensures ∙ c.if-is_meant.true in
    sym (c.loop-place.invariant ∙ one_test by_network points name place d c.loop-place-test.true true test
    ∙ ap (λ (own : List ℕ). Some own) (sym c.index-access_points-place.is))

pub loop-place-preserved : goal.loop-place-preserved
loop-place-preserved c =
    let by_network = c.args.by_network in
    let points = c.args.access_points.now in
    let name = c.args.name.now in
    let place = c.loop-place.place in
    let d = c.index-access_points-place.result in
    let test : is_meant by_network (slice_index_or points place d) name ≡ false =
    ap (λ (own : List ℕ). is_meant by_network own name) (sym c.index-access_points-place.is) ∙ sym c.is_meant.ensures ∙ c.if-is_meant.false in
    c.loop-place.invariant ∙ one_test by_network points name place d c.loop-place-test.true false test
