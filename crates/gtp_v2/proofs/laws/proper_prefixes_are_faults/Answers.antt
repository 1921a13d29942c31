use Rattle.gtp_v2.proofs.Prefixes.{prefixes_fail}
use Rattle.gtp_v2.proofs.Joined.{alone_prefixes_fail}
use Rattle.gtp_v2.proofs.laws.proper_prefixes_are_faults.Goals as goal

pub returns-clause-message : goal.returns-clause-message
returns-clause-message c = prefixes_fail

pub returns-clause-datagram : goal.returns-clause-datagram
returns-clause-datagram c = alone_prefixes_fail
