use Rattle.std.proofs.Common.{rules, ◌≡◌, ◌≢◌, ◌<◌, ℕ, Some, sym, subst}
use Rattle.std.specs.Prelude.{IfSome, IfNone}
use Rattle.gtp_tables.specs.Free.{IpVersion, V4, V6, count_of, address_at, IsPlaceOf}
use Rattle.gtp_tables.specs.Part.{part_in}
use Rattle.gtp_tables.proofs.Places.{apart_v4, apart_v6, placed, unplaced}
use Rattle.gtp_tables.proofs.pool.Pools.place_of.Goals as goal

pub returns-in_ok-v4-in-V4-clause-some : goal.returns-in_ok-v4-in-V4-clause-some
returns-in_ok-v4-in-V4-clause-some c =
    let pools = c.args.self.now in
    let is : part_in V4 c.args.address.now ≡ Some c.in_ok-v4-in-V4.field-0 = search rules in
    subst (λ (v : IpVersion). IfSome c.place_of.result (IsPlaceOf pools v (part_in v c.args.address.now))) (sym c.in-V4.is)
    (placed pools V4 (apart_v4 pools c.place_of.ensures.range) (part_in V4 c.args.address.now) c.in_ok-v4-in-V4.field-0 is c.place_of.result
    c.place_of.ensures.some)

pub returns-in_ok-v6-in-V6-clause-some : goal.returns-in_ok-v6-in-V6-clause-some
returns-in_ok-v6-in-V6-clause-some c =
    let pools = c.args.self.now in
    let is : part_in V6 c.args.address.now ≡ Some c.in_ok-v6-in-V6.field-0 = search rules in
    subst (λ (v : IpVersion). IfSome c.place_of-in-V6.result (IsPlaceOf pools v (part_in v c.args.address.now))) (sym c.in-V6.is)
    (placed pools V6 (apart_v6 pools c.place_of-in-V6.ensures.range) (part_in V6 c.args.address.now) c.in_ok-v6-in-V6.field-0 is
    c.place_of-in-V6.result c.place_of-in-V6.ensures.some)

pub returns-in_ok-v6-in-V6-clause-none : goal.returns-in_ok-v6-in-V6-clause-none
returns-in_ok-v6-in-V6-clause-none c =
    let pools = c.args.self.now in
    let is : part_in V6 c.args.address.now ≡ Some c.in_ok-v6-in-V6.field-0 = search rules in
    subst
    (λ (v : IpVersion). IfNone c.place_of-in-V6.result ((p : ℕ) → p < count_of pools v → part_in v c.args.address.now ≢ Some (address_at pools v p)))
    (sym c.in-V6.is)
    (unplaced pools V6 (part_in V6 c.args.address.now) c.in_ok-v6-in-V6.field-0 is c.place_of-in-V6.result c.place_of-in-V6.ensures.none)
