use Rattle.gtp_user.proofs.Again.{encoding_again}
use Rattle.gtp_user.proofs.laws.encodings_are_read_again.Goals as goal

pub returns : goal.returns
returns c = encoding_again
