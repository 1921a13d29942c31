-- Networks (TS 29.274 8.18).
use Rattle.std.specs.Prelude.{◌≡◌, ℕ, ◌≤◌, ◌<◌, ◌⊎◌, List, length, All}

-- a network, without how it is kept: the digits of its country code and of its network code
pub record Network : Type 0 where
  pub mcc : List ℕ
  pub mnc : List ℕ

-- the digits of a network
pub record IsNetwork (n : Network) : Type 0 where
  pub country : length n.mcc ≡ 3
  pub least : 2 ≤ length n.mnc
  pub most : length n.mnc ≤ 3
  pub country_digits : All (λ digit. digit < 10) n.mcc
  pub network_digits : All (λ digit. digit < 10) n.mnc

-- fewer than three digits of a country, or than two of a network
abbrev pub IsShortNetwork : List ℕ → List ℕ → Type 0
IsShortNetwork mcc mnc = (length mcc < 3) ⊎ (length mnc < 2)

-- more than three digits of a country or of a network
abbrev pub IsLongNetwork : List ℕ → List ℕ → Type 0
IsLongNetwork mcc mnc = (3 < length mcc) ⊎ (3 < length mnc)

-- three digits of a country, and two or three of a network
pub record HasNetworkLengths (mcc mnc : List ℕ) : Type 0 where
  pub country : length mcc ≡ 3
  pub least : 2 ≤ length mnc
  pub most : length mnc ≤ 3
