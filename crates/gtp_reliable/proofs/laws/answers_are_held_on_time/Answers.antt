use Rattle.gtp_reliable.proofs.OnTime.{held_on_time, forgotten_on_time, forgets_then, keeps_then}
use Rattle.gtp_reliable.proofs.laws.answers_are_held_on_time.Goals as goal

pub returns : goal.returns
returns c = record { stays = held_on_time; ends = forgotten_on_time; forgets = forgets_then; quiet = keeps_then }
