-- The laws are proved in `ActsOnce`, and over runs in `Logs`.
use Rattle.gtp_machine.proofs.Requests.ActsOnce as law
use Rattle.gtp_machine.proofs.Worlds.Logs.{always_kept, always_acts_once}
use Rattle.gtp_machine.proofs.laws.acts_once.Goals as goal

pub returns : goal.returns
returns c = record {
  until_forgotten = law.acts_once;
  in_time = law.acts_once_in_time;
  held = law.held_until_forgotten;
  steps = always_kept;
  runs = always_acts_once;
}
