use Rattle.std.proofs.Common.{◌≡◌, length, rules}
use Rattle.std.specs.Prelude.{IsTrue, not, ◌&&◌}
use Rattle.gtp_v2.proofs.Given.{several_given}
use Rattle.gtp_v2.proofs.list_rows.read_several.Goals as goal

pub returns : goal.returns
returns g c = λ missed.
    let none : (length c.in-Some.values ≡ 0 → IsTrue c.is_empty.result) = search rules in
    let some : IsTrue (not (c.args.is_needed && c.is_empty.result)) = search rules in
    several_given g.T.IeValue.value c.args.is_needed c.is_empty.result g.T.IeValue.KIND c.args.instance missed c.args.elements.now c.in-Some.values c.in-Some.ensures none some
