-- The laws are proved in `Determined`, and the last of them in `ActsOnce`.
use Rattle.gtp_machine.proofs.Determined.Steps.{one_is_told, one_is_done, one_answer}
use Rattle.gtp_machine.proofs.Determined.Ticks.{one_tick}
use Rattle.gtp_machine.proofs.Requests.ActsOnce.{reached_holds_once}
use Rattle.gtp_machine.proofs.laws.determined.Goals as goal

pub returns : goal.returns
returns c = record {
  told = one_is_told;
  done = one_is_done;
  answer = one_answer;
  tick = one_tick;
  reached = reached_holds_once;
}
