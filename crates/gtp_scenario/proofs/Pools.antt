-- Pools of addresses.
use Rattle.std.proofs.Common.{◌≡◌, ◌≤◌, ◌+◌, ◌^◌, ◌↔◌, ℕ, List, Bool, true, false, cond, Some, None, Result, Ok, Err, IsOk, IfOk, refl, ap, arith}
use Rattle.std.specs.Prelude.{nat_le}
use Rattle.std.specs.Result.{result_ok}
use Rattle.std.proofs.lemmas.Bool.Decides.{nat_tests}
use Rattle.gtp_values.specs.declared.fault.ValueFault.{ValueFault}
use Rattle.gtp_tables.specs.Pool.{Range, IsPool, Prefixes, prefix_of}
use Rattle.gtp_scenario.specs.Heads.{pool_from, prefixes_from}

pub pool_made : (start count : ℕ) (r : Result Range ValueFault) → (IsOk r ↔ IsPool (record { start = start; count = count }))
    → IfOk r (λ pool. pool ≡ record { start = start; count = count }) → count ≤ 65536 → result_ok r ≡ pool_from start count
pool_made start count (Ok pool) is value few = by_test (nat_le (start + count) (2 ^ 32)) refl where
  by_test : (b : Bool) → nat_le (start + count) (2 ^ 32) ≡ b → Some pool ≡ cond b (Some (record { start = start; count = count })) None
  by_test true h = ap Some value
  by_test false h = let within = (is.0 refl).within in absurd (grind (arith, nat_tests))
pool_made start count (Err fault) is value few = by_test (nat_le (start + count) (2 ^ 32)) refl where
  by_test : (b : Bool) → nat_le (start + count) (2 ^ 32) ≡ b → result_ok {T = Range} {E = ValueFault} (Err fault) ≡ cond b (Some (record { start = start; count = count })) None
  by_test true h = absurd cc (is.1 (record { few = few; within = grind (arith, nat_tests) }))
  by_test false h = refl

pub prefixes_made : (start : List ℕ) (count : ℕ) (r : Result Prefixes ValueFault) → (IsOk r ↔ ((count ≤ 65536) × (prefix_of start + count ≤ 2 ^ 64)))
    → IfOk r (λ pool. pool ≡ record { start = start; count = count }) → count ≤ 65536 → result_ok r ≡ prefixes_from start count
prefixes_made start count (Ok pool) is value few = by_test (nat_le (prefix_of start + count) (2 ^ 64)) refl where
  by_test : (b : Bool) → nat_le (prefix_of start + count) (2 ^ 64) ≡ b → Some pool ≡ cond b (Some (record { start = start; count = count })) None
  by_test true h = ap Some value
  by_test false h = let within = (is.0 refl).1 in absurd (grind (arith, nat_tests))
prefixes_made start count (Err fault) is value few = by_test (nat_le (prefix_of start + count) (2 ^ 64)) refl where
  by_test : (b : Bool) → nat_le (prefix_of start + count) (2 ^ 64) ≡ b → result_ok {T = Prefixes} {E = ValueFault} (Err fault) ≡ cond b (Some (record { start = start; count = count })) None
  by_test true h = absurd cc (is.1 (few, grind (arith, nat_tests)))
  by_test false h = refl
