-- Which of C's values is out of its range, by its number.
use Rattle.std.specs.Prelude.{◌≡◌, ℕ, ◌<◌, ◌≤◌, List, length, IsSome}
use Rattle.gtp_values.specs.Apn.{IsApnText}
use Rattle.gtp_values.specs.Ebi.{IsEbi}
use Rattle.gtp_values.specs.Plmn.{IsNetwork}
use Rattle.gtp_tables.specs.Pool.{IsPool, ArePrefixes}
use Rattle.gtp_c.specs.Bodies.{IsGoodIdentity}
use Rattle.gtp_c.specs.Ends.{ip_at}
use Rattle.gtp_c.specs.Names.{AreFewNames, names_in}
use Rattle.gtp_c.specs.Sessions.{network_in, IsGoodQuality, IsGoodSession}
use Rattle.gtp_c.specs.Setups.{pools_at, templates_in, IsGoodSetup}
use Rattle.gtp_c.specs.Templates.{AreGoodTemplates}
use Rattle.gtp_c.specs.declared.session.Session.{Session}
use Rattle.gtp_c.specs.declared.setup.Setup.{Setup}
use Rattle.gtp_c.specs.declared.values.Identity.{Identity}

-- the number 0 says that a gateway can be set up so, and any other one names a value for which it can't
pub data NamesBadSetup (s : Setup) (text : List ℕ) (number : ℕ) : Type 0 where
  good : number ≡ 0 → IsGoodSetup s text → NamesBadSetup s text number
  role : number ≡ 1 → (s.role ≤ 1 → ⊥) → NamesBadSetup s text number
  own_control : number ≡ 2 → (IsSome (ip_at s.own_control) → ⊥) → NamesBadSetup s text number
  own_user : number ≡ 3 → (IsSome (ip_at s.own_user) → ⊥) → NamesBadSetup s text number
  peer_control : number ≡ 4 → (IsSome (ip_at s.peer_control) → ⊥) → NamesBadSetup s text number
  peer_user : number ≡ 5 → (IsSome (ip_at s.peer_user) → ⊥) → NamesBadSetup s text number
  access_points : number ≡ 6 → (AreFewNames text → ⊥) → NamesBadSetup s text number
  t3 : number ≡ 7 → ((1 ≤ s.t3) × (s.t3 ≤ 1000) → ⊥) → NamesBadSetup s text number
  n3 : number ≡ 8 → (s.n3 ≤ 100 → ⊥) → NamesBadSetup s text number
  hold : number ≡ 9 → ((1 ≤ s.hold) × (s.hold ≤ 100000) → ⊥) → NamesBadSetup s text number
  pool : number ≡ 10 → (IsPool (pools_at s).v4 → ⊥) → NamesBadSetup s text number
  pool6 : number ≡ 11 → (ArePrefixes (pools_at s).v6 → ⊥) → NamesBadSetup s text number
  template_count : number ≡ 12 → (s.template_count ≤ 16 → ⊥) → NamesBadSetup s text number
  templates : number ≡ 13 → (AreGoodTemplates (length (names_in text)) (templates_in s) → ⊥) → NamesBadSetup s text number
  switches : number ≡ 14 → (s.switches ≤ 3 → ⊥) → NamesBadSetup s text number

-- the same of a session that is asked for
pub data NamesBadSession (c : Session) (subscriber : Identity) (name : List ℕ) (number : ℕ) : Type 0 where
  good : number ≡ 0 → IsGoodSession c subscriber name → NamesBadSession c subscriber name number
  imsi : number ≡ 1 → (IsGoodIdentity subscriber → ⊥) → NamesBadSession c subscriber name number
  access_point : number ≡ 2 → (IsApnText name → ⊥) → NamesBadSession c subscriber name number
  identity : number ≡ 3 → (IsEbi c.identity → ⊥) → NamesBadSession c subscriber name number
  network : number ≡ 4 → (IsNetwork (network_in c.network) → ⊥) → NamesBadSession c subscriber name number
  quality : number ≡ 5 → (IsGoodQuality c.quality → ⊥) → NamesBadSession c subscriber name number
  selection : number ≡ 6 → (c.selection < 4 → ⊥) → NamesBadSession c subscriber name number
  pdn : number ≡ 7 → (c.pdn < 8 → ⊥) → NamesBadSession c subscriber name number
