use Rattle.std.proofs.Common.{rules, subst}
use Rattle.gtp_values.specs.Paa.{IsOtherPdnType}
use Rattle.gtp_ie.proofs.AgainAddresses.{v4v6_again, other_again}
use Rattle.gtp_ie.proofs.value.paa.PaaIeValue.write.Goals as goal

pub returns-in-V4V6-clause-again : goal.returns-in-V4V6-clause-again
returns-in-V4V6-clause-again c = rw c.in-V4V6.is (v4v6_again c.in-V4V6.prefix c.in-V4V6.v6 c.in-V4V6.v4 (search rules) (search rules))

pub returns-in-Other-clause-again : goal.returns-in-Other-clause-again
returns-in-Other-clause-again c = rw c.in-Other.is (other_again c.in-Other.other (subst IsOtherPdnType c.number.ensures.value c.number.ensures.range))
