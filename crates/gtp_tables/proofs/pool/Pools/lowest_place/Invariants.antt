use Rattle.std.proofs.Common.{◌≡◌, ◌*◌, ◌<◌, ℕ, true}
use Rattle.std.specs.List.{list_any}
use Rattle.gtp_tables.specs.Contexts.{takes}
use Rattle.gtp_tables.specs.Free.{count_of, address_at}
use Rattle.gtp_tables.proofs.pool.Pools.lowest_place.Given as goal

abbrev pub invariant-loop-turn : goal.invariant-loop-turn
invariant-loop-turn l = (p : ℕ) → p < 1024 * l.turn → p < count_of l.fn.self l.version → list_any (takes l.restarted l.version (address_at l.fn.self l.version p)) l.sessions ≡ true
