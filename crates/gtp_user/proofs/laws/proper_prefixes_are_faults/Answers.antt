use Rattle.gtp_user.proofs.Prefixes.{few_fail, fewer_fail}
use Rattle.gtp_user.proofs.laws.proper_prefixes_are_faults.Goals as goal

pub returns : goal.returns
returns c = record { short = few_fail; fewer = fewer_fail }
