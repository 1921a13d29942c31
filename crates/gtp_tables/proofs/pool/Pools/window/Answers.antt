use Rattle.std.proofs.Common.{◌≡◌, ◌+◌, ◌<◌, ℕ, sym, subst}
use Rattle.gtp_tables.specs.Free.{Pools, IpVersion, count_of, address_at}
use Rattle.gtp_tables.proofs.pool.Pools.window.Goals as goal

pub returns-in-V6-clause-places : goal.returns-in-V6-clause-places
returns-in-V6-clause-places c =
    let window : Pools = record { v4 = c.args.self.now.v4; v6 = c.window-in-V6.result } in
    subst (λ (v : IpVersion). (p : ℕ) → p < count_of window v → address_at window v p ≡ address_at c.args.self.now v (c.args.first + p)) (sym c.in-V6.is) c.window-in-V6.ensures.places
