-- What a gateway chooses for what it makes: of what is free, the lowest.
use Rattle.std.proofs.Common.{◌≡◌, ℕ, Bool, true, false, List, Option, Some, None, refl, sym, ◌∙◌, subst}
use Rattle.std.specs.FinMap.{insert}
use Rattle.gtp_values.specs.FiniteMap.{FiniteMap}
use Rattle.gtp_values.specs.PdnAddress.{PdnAddress}
use Rattle.gtp_tables.specs.declared.pool.Asked.{Asked}
use Rattle.gtp_tables.specs.declared.pool.Pools.{Pools}
use Rattle.gtp_tables.specs.declared.pool.IpVersion.{IpVersion}
use Rattle.gtp_tables.specs.declared.pool.IpVersion.TheVariants.{V4, V6}
use Rattle.gtp_tables.specs.Free.{IsLowestFree, IsLowestPart, IsLowestGiven}
use Rattle.gtp_tables.specs.Part.{part_in}
use Rattle.gtp_machine.specs.Choice.{asked_by}
use Rattle.gtp_machine.specs.Node.{Session, Node}
use Rattle.gtp_gateway.specs.declared.receive.create_bearer_request.judge.CreateBearerAnswer.{CreateBearerAnswer}
use Rattle.gtp_gateway.specs.declared.receive.create_bearer_request.judge.CreateBearerAnswer.TheVariants.{Granted}
use Rattle.gtp_gateway.specs.declared.receive.create_bearer_request.BearerRequest.{BearerRequest}
use Rattle.gtp_gateway.specs.declared.receive.restart_counter.Heard.{Heard}
use Rattle.gtp_gateway.specs.declared.receive.create_session_request.judge.SessionGrant.{SessionGrant}
use Rattle.gtp_gateway.specs.declared.receive.create_session_request.read.SessionRequest.{SessionRequest}
use Rattle.gtp_gateway.specs.tables.Change.{changed_by}
use Rattle.gtp_gateway.specs.receive.Choosing.{MakesLowestSession, MakesLowestBearer}
use Rattle.gtp_gateway.specs.receive.CreateSessionRequest.{ChoosesSession, session_granted}
use Rattle.gtp_gateway.specs.receive.CreateBearerRequest.{IsChosen, is_granted, change_for, granted_to}
use Rattle.gtp_gateway.specs.receive.RestartCounter.{node_heard}
use Rattle.gtp_gateway.proofs.CreateSessionRequests.{still_above, none_above}

-- what is not so is not made
pub unmade : {A : Type 0} (made : Bool) → made ≡ false → made ≡ true → A
unmade made not is = absurd (let both : false ≡ true = sym not ∙ is in cc)

-- what is given is the lowest of its version
lowest_part : (sessions : FiniteMap Session) (pools : Pools) (asked : Asked) (version : IpVersion) (given : Option (List ℕ)) (part : List ℕ)
    → IsLowestPart sessions pools asked version given → given ≡ Some part → IsLowestFree version sessions pools part
lowest_part sessions pools asked version None part lowest is = absurd cc
lowest_part sessions pools asked version (Some given) part lowest is = let same : given ≡ part = cc in subst (λ (k : List ℕ). IsLowestFree version sessions pools k) same lowest.1

each_lowest : (sessions : FiniteMap Session) (pools : Pools) (asked : Asked) (address : PdnAddress) → IsLowestGiven sessions pools asked address
    → (version : IpVersion) (part : List ℕ) → part_in version address ≡ Some part → IsLowestFree version sessions pools part
each_lowest sessions pools asked address lowest V4 part is = lowest_part sessions pools asked V4 address.v4 part lowest.v4 is
each_lowest sessions pools asked address lowest V6 part is = lowest_part sessions pools asked V6 address.v6 part lowest.v6 is

pub lowest_session : (identity pdn : ℕ) (r : SessionRequest) (g : SessionGrant) (heard : Heard) (old new : Node) → ChoosesSession identity pdn g heard old
    → new.sessions ≡ insert (node_heard heard old).sessions g.drawn.control (session_granted r g) → MakesLowestSession old new
lowest_session identity pdn r g heard old new chosen is = record {
  teid = g.drawn.control;
  session = session_granted r g;
  others = (node_heard heard old).sessions;
  address = g.address;
  sessions = is;
  beside = none_above (node_heard heard old).sessions g.drawn.control (still_above heard old g.drawn.control chosen.can.control_above);
  before = none_above old.sessions g.drawn.control chosen.can.control_above;
  has = refl;
  lowest = each_lowest (node_heard heard old).sessions old.config.pools (asked_by pdn) g.address chosen.lowest;
}

pub lowest_bearer : (r : BearerRequest) (a : CreateBearerAnswer) (old new : Node) → IsChosen r.header a old → new.bearers ≡ (changed_by (change_for r a) old).bearers
    → is_granted a ≡ true → MakesLowestBearer old new
lowest_bearer r (Granted g) old new chosen is granted = record {
  teid = g.drawn.teid;
  bearer = granted_to r g.identity;
  others = old.bearers;
  identity = g.identity;
  bearers = is;
  beside = none_above old.bearers g.drawn.teid chosen.drawn.above;
  before = none_above old.bearers g.drawn.teid chosen.drawn.above;
  has = refl;
  lowest = chosen.identity;
}
lowest_bearer r a old new chosen is granted = absurd cc
