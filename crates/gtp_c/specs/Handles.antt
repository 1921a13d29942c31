-- What happens to what stands behind a handle.
use Rattle.std.specs.Prelude.{Option, Some, None}
use Rattle.gtp_c.specs.Steps.{Keeps}
use Rattle.gtp_c.specs.declared.gateway_with_queue.GatewayWithQueue.{GatewayWithQueue}

-- something stands behind the handle, before and after, and goes on so
abbrev pub Goes : {X : Type 0} → (X → X → Type 0) → Option X → Option X → Type 0
Goes Is (Some old) (Some new) = Is old new
Goes Is (Some old) None = ⊥
Goes Is None new = ⊥

-- nothing happened: to the gateway, nor to what waits, where there is a gateway
abbrev pub Stays : Option GatewayWithQueue → Option GatewayWithQueue → Type 0
Stays (Some old) (Some new) = Keeps old new
Stays None None = Unit {0}
Stays old new = ⊥
