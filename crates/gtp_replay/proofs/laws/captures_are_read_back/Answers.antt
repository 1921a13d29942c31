-- The law is proved in `Recaptured`.
use Rattle.gtp_replay.proofs.Recaptured.{recaptured}
use Rattle.gtp_replay.proofs.laws.captures_are_read_back.Goals as goal

pub returns : goal.returns
returns c = recaptured c.what_is_written_is_read_back.ensures
