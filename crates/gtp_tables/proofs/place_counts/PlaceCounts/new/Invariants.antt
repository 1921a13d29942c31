use Rattle.std.proofs.Common.{◌≡◌, ◌+◌, ◌/◌, ℕ, length, nat_lt}
use Rattle.gtp_tables.specs.PlaceSet.{has_place}
use Rattle.gtp_tables.proofs.place_counts.PlaceCounts.new.Given as goal

abbrev pub invariant-loop-place : goal.invariant-loop-place
invariant-loop-place l = record { room : length l.free ≡ l.count / 64 + 1; places : (p : ℕ) → has_place l.free p ≡ nat_lt p l.place }
