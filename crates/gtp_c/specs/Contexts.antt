-- What C is told of sessions and bearers.
use Rattle.std.specs.Prelude.{◌≡◌, ◌≢◌, ◌↔◌, ℕ, List, [], ◌∷◌, slice_get, Option, Some, None, unwrap_or, is_some, IsSomeAnd}
use Rattle.std.specs.FinMap as map
use Rattle.gtp_tables.specs.declared.context.Bearer.{Bearer}
use Rattle.gtp_tables.specs.declared.context.Kind.{Kind}
use Rattle.gtp_tables.specs.declared.context.Kind.TheVariants.{Default, Dedicated}
use Rattle.gtp_tables.specs.declared.context.Session.{Session}
use Rattle.gtp_tables.specs.declared.context.State.{State}
use Rattle.gtp_tables.specs.declared.context.State.TheVariants.{Pending, Active, Closing}
use Rattle.gtp_values.specs.PdnAddress.{PdnAddress}
use Rattle.gtp_c.specs.Common.{flag, IsOneOf}
use Rattle.gtp_c.specs.Values.{AddressIs, IdentityIs, NameIs}
use Rattle.gtp_c.specs.declared.gateway_with_queue.GatewayWithQueue.{GatewayWithQueue}
use Rattle.gtp_c.specs.declared.rows.BearerRow.{BearerRow}
use Rattle.gtp_c.specs.declared.rows.SessionRow.{SessionRow}

abbrev pub state_number : State → ℕ
state_number Pending = 0
state_number Active = 1
state_number Closing = 2

abbrev pub v4_in : Option PdnAddress → Option (List ℕ)
v4_in None = None
v4_in (Some a) = a.v4

abbrev pub v6_in : Option PdnAddress → Option (List ℕ)
v6_in None = None
v6_in (Some a) = a.v6

-- the row says what the session is, under its TEID
pub record IsSession (teid : ℕ) (s : Session) (row : SessionRow) : Type 0 where
  pub teid_is : row.teid ≡ teid
  pub remote : row.remote ≡ unwrap_or s.remote 0
  pub has_remote : row.has_remote ≡ flag (is_some s.remote)
  pub state : row.state ≡ state_number s.state
  pub identity : row.identity ≡ s.subscriber.identity
  pub v4 : AddressIs (v4_in s.address) row.has_v4 row.v4
  pub v6 : AddressIs (v6_in s.address) row.has_v6 row.v6
  pub imsi : IdentityIs s.subscriber.imsi row.imsi
  pub access_point : NameIs s.subscriber.access_point row.access_point

abbrev pub kind_number : Kind → ℕ
kind_number Default = 0
kind_number Dedicated = 1

-- the row says what the bearer is, under its TEID
pub record IsBearer (teid : ℕ) (b : Bearer) (row : BearerRow) : Type 0 where
  pub teid_is : row.teid ≡ teid
  pub remote : row.remote ≡ unwrap_or b.remote 0
  pub has_remote : row.has_remote ≡ flag (is_some b.remote)
  pub session : row.session ≡ b.session
  pub state : row.state ≡ state_number b.state
  pub identity : row.identity ≡ unwrap_or b.identity 0
  pub dedicated : row.dedicated ≡ kind_number b.kind
  pub ended : row.ended ≡ flag b.ended

-- ---- of the gateway behind a handle

-- the session under this TEID is what the row says
pub record IsSessionOf (teid : ℕ) (row : SessionRow) (d : GatewayWithQueue) : Type 0 where
  pub session : Session
  pub found : map.get d.gateway.node.sessions teid ≡ Some session
  pub is : IsSession teid session row

pub record IsBearerOf (teid : ℕ) (row : BearerRow) (d : GatewayWithQueue) : Type 0 where
  pub bearer : Bearer
  pub found : map.get d.gateway.node.bearers teid ≡ Some bearer
  pub is : IsBearer teid bearer row

abbrev pub HasSession : ℕ → SessionRow → Option GatewayWithQueue → Type 0
HasSession teid row v = IsSomeAnd v (IsSessionOf teid row)

abbrev pub HasBearer : ℕ → BearerRow → Option GatewayWithQueue → Type 0
HasBearer teid row v = IsSomeAnd v (IsBearerOf teid row)

abbrev pub NoSession : ℕ → Option GatewayWithQueue → Type 0
NoSession teid v = IsSomeAnd v (λ d. map.get d.gateway.node.sessions teid ≡ None)

abbrev pub NoBearer : ℕ → Option GatewayWithQueue → Type 0
NoBearer teid v = IsSomeAnd v (λ d. map.get d.gateway.node.bearers teid ≡ None)

-- the session at a place, in the order of TEIDs, is what the row says
pub record IsSessionAt (place : ℕ) (row : SessionRow) (d : GatewayWithQueue) : Type 0 where
  pub teid : ℕ
  pub session : Session
  pub found : slice_get (map.entries d.gateway.node.sessions) place ≡ Some (teid, session)
  pub is : IsSession teid session row

pub record IsBearerAt (place : ℕ) (row : BearerRow) (d : GatewayWithQueue) : Type 0 where
  pub teid : ℕ
  pub bearer : Bearer
  pub found : slice_get (map.entries d.gateway.node.bearers) place ≡ Some (teid, bearer)
  pub is : IsBearer teid bearer row

abbrev pub SessionAt : ℕ → SessionRow → Option GatewayWithQueue → Type 0
SessionAt place row v = IsSomeAnd v (IsSessionAt place row)

abbrev pub BearerAt : ℕ → BearerRow → Option GatewayWithQueue → Type 0
BearerAt place row v = IsSomeAnd v (IsBearerAt place row)

-- no session has this place
abbrev pub SessionsEnd : ℕ → Option GatewayWithQueue → Type 0
SessionsEnd place v = IsSomeAnd v (λ d. slice_get (map.entries d.gateway.node.sessions) place ≡ None)

abbrev pub BearersEnd : ℕ → Option GatewayWithQueue → Type 0
BearersEnd place v = IsSomeAnd v (λ d. slice_get (map.entries d.gateway.node.bearers) place ≡ None)

-- A look-up by the gateway behind a handle, which changes nothing: 0 where what there is is told, 4 where there is none, and 7 exactly where there is no gateway;
-- and no other status. After any but 0 C's row is as it was.
pub record IsLookedUp {Row : Type 0} (Has : Row → Option GatewayWithQueue → Type 0) (Lacks : Option GatewayWithQueue → Type 0) (before row : Row) (old new : Option GatewayWithQueue) (status : ℕ) : Type 0 where
  pub found : status ≡ 0 → Has row old
  pub none : status ≡ 4 → Lacks old
  pub untold : status ≢ 0 → row ≡ before
  pub kept : new ≡ old
  pub empty : (status ≡ 7) ↔ (old ≡ None)
  pub known : IsOneOf (0 ∷ 4 ∷ 7 ∷ []) status
