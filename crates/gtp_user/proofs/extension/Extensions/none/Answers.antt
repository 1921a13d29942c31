use Rattle.std.proofs.Common.{ap}
use Rattle.gtp_user.specs.reading.Walk.{headers_of, rest_of}
use Rattle.gtp_user.proofs.Chains.{none_chained}
use Rattle.gtp_user.proofs.extension.Extensions.none.Goals as goal

pub invariant_of-result : goal.invariant_of-result
invariant_of-result c = ap rest_of none_chained

pub returns : goal.returns
returns c = ap headers_of none_chained
