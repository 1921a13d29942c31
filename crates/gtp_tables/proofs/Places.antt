-- Addresses of the pools, and their places.
use Rattle.std.proofs.Common.{◌≡◌, ◌≢◌, ◌∙◌, ℕ, ◌+◌, ◌<◌, ◌≤◌, ◌^◌, List, ◌++◌, drop, Option, Some, None, ap, sym, arith}
use Rattle.std.specs.Int.{w32, w64, to_be_bytes, from_be_bytes}
use Rattle.std.specs.Prelude.{IfSome, IfNone}
use Rattle.std.proofs.lemmas.Nat.{from_be_bytes-to_be_bytes_4, from_be_bytes-to_be_bytes_8}
use Rattle.std.proofs.lemmas.Option.{same_Some}
use Rattle.gtp_values.specs.FiniteMap.{FiniteMap}
use Rattle.gtp_tables.specs.declared.context.Session.{Session}
use Rattle.gtp_tables.specs.Free.{Asked, Pools, IpVersion, V4, V6, count_of, address_at, IsPlaceOf, IsLowestPart, AreUsedUp}
use Rattle.gtp_tables.specs.Pool.{IsPool, ArePrefixes, prefix_of}
use Rattle.std.proofs.lemmas.Bool.{eqb-true}
use Rattle.std.specs.Prelude.{◌&&◌, nat_eq, true}
use Rattle.std.specs.Cmp.Lexicographic.{pointwise, bytes_decides}
use Rattle.gtp_values.proofs.Tests.{both}

-- octets are those of one number
one_number : (a b : ℕ) → a < 2 ^ 32 → b < 2 ^ 32 → to_be_bytes w32 a ≡ to_be_bytes w32 b → a ≡ b
one_number a b a_fits b_fits same = sym (from_be_bytes-to_be_bytes_4 a a_fits) ∙ (ap (from_be_bytes w32) same ∙ from_be_bytes-to_be_bytes_4 b b_fits)

-- the prefix of an address that is made for it
prefix_back : (n : ℕ) (rest : List ℕ) → n < 2 ^ 64 → prefix_of (to_be_bytes w64 n ++ rest) ≡ n
prefix_back n rest fits = from_be_bytes-to_be_bytes_8 n fits

one_prefix : (a b : ℕ) (rest : List ℕ) → a < 2 ^ 64 → b < 2 ^ 64 → to_be_bytes w64 a ++ rest ≡ to_be_bytes w64 b ++ rest → a ≡ b
one_prefix a b rest a_fits b_fits same = sym (prefix_back a rest a_fits) ∙ (ap prefix_of same ∙ prefix_back b rest b_fits)

-- two places have two addresses
abbrev AreApart : Pools → IpVersion → Type 0
AreApart pools version = (p q : ℕ) → p < count_of pools version → q < count_of pools version → address_at pools version p ≡ address_at pools version q → p ≡ q

pub apart_v4 : (pools : Pools) → IsPool pools.v4 → AreApart pools V4
apart_v4 pools is p q p_in q_in same =
    let sum = one_number (pools.v4.start + p) (pools.v4.start + q) (omega (arith, p_in, is.within)) (omega (arith, q_in, is.within)) same in
    omega (arith, sum)

pub apart_v6 : (pools : Pools) → ArePrefixes pools.v6 → AreApart pools V6
apart_v6 pools are p q p_in q_in same =
    same_sum (prefix_of pools.v6.start) (one_prefix (prefix_of pools.v6.start + p) (prefix_of pools.v6.start + q) (drop 8 pools.v6.start)
    (fits (prefix_of pools.v6.start) p pools.v6.count p_in are.within) (fits (prefix_of pools.v6.start) q pools.v6.count q_in are.within) same)
  where
    fits : (first k count : ℕ) → k < count → first + count ≤ 2 ^ 64 → first + k < 2 ^ 64
    fits first k count lt within = omega (arith, lt, within)

    same_sum : (first : ℕ) → first + p ≡ first + q → p ≡ q
    same_sum first sum = omega (arith, sum)

-- what is found to be the address with a place has that place
pub placed : (pools : Pools) (version : IpVersion) → AreApart pools version → (part : Option (List ℕ)) (octets : List ℕ) → part ≡ Some octets → (o : Option ℕ)
    → IfSome o (λ place. (place < count_of pools version) × (octets ≡ address_at pools version place)) → IfSome o (IsPlaceOf pools version part)
placed pools version apart part octets is None none = tt
placed pools version apart part octets is (Some place) (lt, at) =
    let has : part ≡ Some (address_at pools version place) = is ∙ ap (λ k. Some k) at in
    record { in_pool = lt; has = has; one = λ p p_in p_has. apart p place p_in lt (same_Some _ _ (sym p_has ∙ has)) }

pub unplaced : (pools : Pools) (version : IpVersion) (part : Option (List ℕ)) (octets : List ℕ) → part ≡ Some octets → (o : Option ℕ)
    → IfNone o ((p : ℕ) → p < count_of pools version → octets ≢ address_at pools version p)
    → IfNone o ((p : ℕ) → p < count_of pools version → part ≢ Some (address_at pools version p))
unplaced pools version part octets is None none = λ p lt has. none p lt (same_Some _ _ (sym is ∙ has))
unplaced pools version part octets is (Some place) some = tt

-- where none is left of either version, all are used up that are asked for
pub both_used : (sessions : FiniteMap Session) (pools : Pools) (asked : Asked) → IsLowestPart sessions pools asked V4 None → IsLowestPart sessions pools asked V6 None → AreUsedUp sessions pools asked
both_used sessions pools asked v4 v6 V4 = v4
both_used sessions pools asked v4 v6 V6 = v6

-- pools with the same first addresses and as many
pub same_pools : (a b : Pools) → ((nat_eq a.v4.start b.v4.start && nat_eq a.v4.count b.v4.count) && (pointwise nat_eq a.v6.start b.v6.start && nat_eq a.v6.count b.v6.count)) ≡ true → a ≡ b
same_pools a b is =
    let versions = both (nat_eq a.v4.start b.v4.start && nat_eq a.v4.count b.v4.count) (pointwise nat_eq a.v6.start b.v6.start && nat_eq a.v6.count b.v6.count) is in
    let v4 = both (nat_eq a.v4.start b.v4.start) (nat_eq a.v4.count b.v4.count) versions.left in
    let v6 = both (pointwise nat_eq a.v6.start b.v6.start) (nat_eq a.v6.count b.v6.count) versions.right in
    let start_v4 : a.v4.start ≡ b.v4.start = eqb-true a.v4.start b.v4.start v4.left in
    let count_v4 : a.v4.count ≡ b.v4.count = eqb-true a.v4.count b.v4.count v4.right in
    let start_v6 : a.v6.start ≡ b.v6.start = (bytes_decides a.v6.start b.v6.start).0 v6.left in
    let count_v6 : a.v6.count ≡ b.v6.count = eqb-true a.v6.count b.v6.count v6.right in
    λ i. record { v4 = record { start = start_v4 i; count = count_v4 i }; v6 = record { start = start_v6 i; count = count_v6 i } }
