-- What stays of a gateway while its tables change.
use Rattle.std.specs.Prelude.{◌≡◌}
use Rattle.gtp_reliable.specs.Pending.{SameTimes}
use Rattle.gtp_gateway.specs.declared.parts.Parts.{Parts}
use Rattle.gtp_gateway.specs.GatewayState.{state_of}
use Rattle.gtp_gateway.specs.user.Receive.{RequestsWaitOn}

-- only sessions, bearers, requests that wait, the peer's counter and what was drawn may change: the answers that are held, the configuration and the role stay
pub record OnlyTablesChange (old new : Parts) : Type 0 where
  pub held : new.held ≡ old.held
  pub config : new.config ≡ old.config
  pub role : new.role ≡ old.role

-- requests may go and none begins: what waits after it waited before, the times and the next number stay, and no TEID is drawn
pub record OnlyRemoves (old new : Parts) : Type 0 where
  pub only : OnlyTablesChange old new
  pub waits : RequestsWaitOn (state_of old) (state_of new)
  pub next : new.pending.next ≡ old.pending.next
  pub times : SameTimes old.pending new.pending
  pub draws : new.draws ≡ old.draws
