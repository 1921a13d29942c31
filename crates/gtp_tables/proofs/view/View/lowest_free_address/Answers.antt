use Rattle.std.proofs.Common.{Option, List, ℕ, subst}
use Rattle.gtp_tables.specs.Free.{IsLowestPart, V4, V6}
use Rattle.gtp_tables.proofs.Places.{both_used}
use Rattle.gtp_tables.proofs.view.View.lowest_free_address.Goals as goal

pub returns-in-None-None-clause-none : goal.returns-in-None-None-clause-none
returns-in-None-None-clause-none c = both_used c.args.self.now.sessions c.args.pools.now c.args.asked
    (subst (λ (o : Option (List ℕ)). IsLowestPart c.args.self.now.sessions c.args.pools.now c.args.asked V4 o) c.in-None-None.is-0 c.lowest_parts.ensures.v4)
    (subst (λ (o : Option (List ℕ)). IsLowestPart c.args.self.now.sessions c.args.pools.now c.args.asked V6 o) c.in-None-None.is-1 c.lowest_parts.ensures.v6)
