-- Worlds that follow the same events from one setup are alike.
use Rattle.std.proofs.Common.{List, [], ◌∷◌, refl, sym, subst}
use Rattle.gtp_machine.specs.World.{Event}
use Rattle.gtp_world.specs.Determined.{GatewaysAlike, WorldsAlike, EventsLeaveOneWorld}
use Rattle.gtp_world.specs.Record.{GatewayRecord, WorldRecord}
use Rattle.gtp_world.specs.Runs.{begun}
use Rattle.gtp_world.specs.Stepped.{EventsLeave}
use Rattle.gtp_world.proofs.Determined.Lasting.{BothLast, comes_last, begun_last}
use Rattle.gtp_world.proofs.Determined.Steps.{comes_alike}

gateway_itself : (h : GatewayRecord) → GatewaysAlike h h
gateway_itself h = record {
  settings = refl;
  state = record { role = refl; node = refl; timers = refl; next = refl; waiting = refl; held = refl };
  first = refl;
  restarts = refl;
  seen = refl;
  forgotten = refl;
  made = refl;
}

follow_alike : (events : List Event) (u v one other : WorldRecord) → WorldsAlike u v → BothLast u → BothLast v → EventsLeave u events one → EventsLeave v events other → WorldsAlike one other
follow_alike [] u v one other alike lasts lasts_too is is_too = subst (λ k. WorldsAlike k other) (sym is) (subst (λ k. WorldsAlike u k) (sym is_too) alike)
follow_alike (event ∷ events) u v one other alike lasts lasts_too (new, comes, rest) (left, comes_too, rest_too) =
    follow_alike events new left one other (comes_alike u v alike lasts lasts_too event new left comes comes_too) (comes_last u event new lasts comes)
    (comes_last v event left lasts_too comes_too) rest rest_too

pub follow_one : EventsLeaveOneWorld
follow_one setup events one other follows also =
    follow_alike events (begun setup) (begun setup) one other
    (record { serving = gateway_itself (begun setup).serving; packet = gateway_itself (begun setup).packet; log = refl })
    (begun_last setup) (begun_last setup) follows also
