use Rattle.std.specs.Fn.{FnReturnsAt}
use Rattle.std.proofs.Common.{subst, ap}
use Rattle.gtp_reliable.specs.Rows.{Sent}
use Rattle.gtp_reliable.proofs.waiting.Row.meets.Goals as goal

pub returns : goal.returns
returns g c = subst (λ p. FnReturnsAt g.F.Fn c.args.test.now p c.meets.result) (ap (λ (r : Sent _). r.purpose) c.self.view_is) c.meets.ensures
