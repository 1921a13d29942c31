-- Each law is proved of all runs in `Safety`.
use Rattle.gtp_machine.proofs.Worlds.Safety.{always_sessions, always_bearers, always_owed, always_none_over}
use Rattle.gtp_machine.proofs.laws.tunnel_safety.Goals as goal

pub returns : goal.returns
returns c = record {
  sessions = always_sessions;
  bearers = always_bearers;
  owed = always_owed;
  none_over = always_none_over;
}
