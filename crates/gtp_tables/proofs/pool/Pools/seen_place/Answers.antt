use Rattle.std.proofs.Common.{rules, ◌≡◌, ◌≢◌, ◌<◌, true, ℕ, Some, Option, sym, subst}
use Rattle.std.specs.Prelude.{IfSome, IfNone}
use Rattle.gtp_values.specs.PdnAddress.{PdnAddress}
use Rattle.gtp_tables.specs.Contexts.{is_seen}
use Rattle.gtp_tables.specs.Free.{IsPlaceOf, count_of, address_at}
use Rattle.gtp_tables.specs.Part.{part_in, part_of}
use Rattle.gtp_tables.proofs.Seen.{seen_at, seen_nowhere, seen_within}
use Rattle.gtp_tables.proofs.pool.Pools.seen_place.Goals as goal

pub returns-in-Some : goal.returns-in-Some
returns-in-Some c =
    let pools = c.args.self.now in
    let version = c.args.version in
    let s = c.args.session.now in
    let seen : is_seen c.args.restarted s ≡ true = search rules in
    record {
      within = seen_within pools version (part_in version c.in-Some.address) c.place_of.result c.place_of.ensures.some;
      some =
          seen_at pools c.args.restarted version s seen c.place_of.result
          (subst (λ (a : Option PdnAddress). IfSome c.place_of.result (IsPlaceOf pools version (part_of version a))) (sym c.in-Some.is)
          c.place_of.ensures.some);
      none =
          seen_nowhere pools c.args.restarted version s c.place_of.result (subst (λ (a : Option PdnAddress).
          IfNone c.place_of.result ((p : ℕ) → p < count_of pools version → part_of version a ≢ Some (address_at pools version p))) (sym c.in-Some.is)
          c.place_of.ensures.none);
    }
