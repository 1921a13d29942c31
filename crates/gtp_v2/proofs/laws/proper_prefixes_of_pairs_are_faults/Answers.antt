use Rattle.gtp_v2.proofs.Joined.{pair_prefixes_fail}
use Rattle.gtp_v2.proofs.laws.proper_prefixes_of_pairs_are_faults.Goals as goal

pub returns : goal.returns
returns c = pair_prefixes_fail
