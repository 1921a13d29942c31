use Rattle.std.proofs.Common.{drop}
use Rattle.gtp_user.proofs.Viewed.{viewed_read, viewed_is}
use Rattle.gtp_user.proofs.viewing.view_first.Goals as goal

pub invariant_of-result : goal.invariant_of-result
invariant_of-result c = viewed_is c.args.octets.now c.in-Some.start c.in-Some.ensures.within c.in-Some.ensures.tail

pub returns-in-Some : goal.returns-in-Some
returns-in-Some c = viewed_read c.args.octets.now (drop c.in-Some.start c.args.octets.now) c.in-Some.ensures.tail
