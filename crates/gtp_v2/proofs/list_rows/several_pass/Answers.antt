use Rattle.gtp_v2.proofs.Passing.{values_pass}
use Rattle.gtp_v2.proofs.list_rows.several_pass.Goals as goal

pub returns : goal.returns
returns g c = λ pass. λ missed. values_pass c.args.is_needed c.in-Some.silent g.T.IeValue.KIND c.args.instance missed c.args.elements.now c.in-Some.ensures pass
