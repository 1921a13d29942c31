use Rattle.std.proofs.Common.{Bool, false, sym, subst}
use Rattle.std.specs.FinMap.{values}
use Rattle.gtp_tables.specs.declared.context.Session.{Session}
use Rattle.gtp_tables.specs.declared.pool.Pools.{Pools}
use Rattle.gtp_tables.specs.Rows.{Rows}
use Rattle.gtp_tables.specs.Lowest.{IsLowestPlace, place_in}
use Rattle.gtp_tables.specs.PoolPlaces.{AreCounted, AreCountedIn}
use Rattle.gtp_tables.proofs.Counted.{lowest_counted}
use Rattle.gtp_tables.proofs.sessions.Sessions.lowest_places.Goals as goal

pub returns-in-Some-clause-lowest : goal.returns-in-Some-clause-lowest
returns-in-Some-clause-lowest c = λ version asks.
    let m = c.self.inside.table.table in
    let found = place_in c.lowest.result version in
    let counted : AreCounted (values m) c.in-Some.places = subst (AreCountedIn (values m)) c.in-Some.is c.self.invariant in
    subst (λ (r : Rows Session). IsLowestPlace c.args.restarted version c.args.pools.now (values r.table) found) c.self.view_is
    (subst (λ (b : Bool). IsLowestPlace b version c.args.pools.now (values m) found) (sym c.if-not-restarted.true)
    (subst (λ (p : Pools). IsLowestPlace false version p (values m) found) (c.are_of.ensures c.if-are_of.true)
    (lowest_counted version c.in-Some.places (values m) counted found (c.lowest.ensures.lowest version asks))))
