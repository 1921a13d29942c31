use Rattle.gtp_v2.proofs.Joined.{read_again}
use Rattle.gtp_v2.proofs.laws.pairs_are_read_again.Goals as goal

pub returns : goal.returns
returns c = read_again
