-- The laws are proved in `Sound`.
use Rattle.gtp_machine.proofs.Sound.Rows.{stays_sound, reached_sound, gives_each_address_once}
use Rattle.gtp_machine.proofs.Sound.Steps.{always_steps}
use Rattle.gtp_machine.proofs.Sound.Ticks.{tick_stays_sound, always_ticks, gives_up_due}
use Rattle.gtp_machine.proofs.Sound.Broken.{breaks_by_default}
use Rattle.gtp_machine.proofs.Sound.Reads.{reads_whole, pair_reads_whole, taken_whole}
use Rattle.gtp_machine.proofs.Sound.Changes.{fresh}
use Rattle.gtp_machine.proofs.laws.sound_nodes.Goals as goal

pub returns : goal.returns
returns c = record {
  starts = λ role config counter. fresh role config counter;
  stays = stays_sound;
  reached = reached_sound;
  addresses = gives_each_address_once;
  steps = always_steps;
  ticks = tick_stays_sound;
  always_ticks = always_ticks;
  gives_up = gives_up_due;
  breaks = breaks_by_default;
  whole = reads_whole;
  pair_whole = pair_reads_whole;
  taken_whole = taken_whole;
}
