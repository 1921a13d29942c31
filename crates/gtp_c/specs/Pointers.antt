-- A place while what stands behind it is lent.
use Rattle.std.specs.Prelude.{Some}
use base.Fml.{Fml}
use denote.Follow.{follows}
use denote.Ref.{MutBor}
use Rattle.gtp_c.specs.declared.owned_pointer.OwnedPointer.{OwnedPointer}
use Rattle.gtp_c.specs.declared.gateway_with_queue.GatewayWithQueue.{GatewayWithQueue}
use Rattle.gtp_c.specs.contracts.owned_pointer.OwnedPointer.{the_row as pointer_row}
use Rattle.gtp_c.specs.contracts.gateway_with_queue.GatewayWithQueue.{the_row as value_row}

-- the place, with this value behind it
abbrev pub with_value : OwnedPointer → GatewayWithQueue → OwnedPointer
with_value h w = record { at = h.at; value = Some w }

-- once the borrow r ends, what stands behind the place of b is the last value written through r
abbrev pub pointer_follows : MutBor OwnedPointer → MutBor GatewayWithQueue → Fml
pointer_follows b r = follows pointer_row value_row b.ghost_name r.ghost_name (with_value b.now)
