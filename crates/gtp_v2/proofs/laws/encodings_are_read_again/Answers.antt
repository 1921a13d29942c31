use Rattle.gtp_v2.proofs.Marked.{marked_again}
use Rattle.gtp_v2.proofs.laws.encodings_are_read_again.Goals as goal

pub returns : goal.returns
returns c = marked_again
