use Rattle.gtp_lines.proofs.Alike.{one_front}
use Rattle.gtp_lines.proofs.laws.octets_have_one_front.Goals as goal

pub returns : goal.returns
returns c = one_front
