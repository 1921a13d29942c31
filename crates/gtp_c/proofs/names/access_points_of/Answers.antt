use Rattle.std.proofs.Common.{rules, map}
use Rattle.gtp_values.specs.Apn.{apn_text}
use Rattle.gtp_c.proofs.Naming.{not_good}
use Rattle.gtp_c.proofs.names.access_points_of.Goals as goal

pub returns-in_err-put_name-clause-bad : goal.returns-in_err-put_name-clause-bad
returns-in_err-put_name-clause-bad c =
    λ is.
    not_good c.args.octets.now (map apn_text c.loop-names.names.items) c.loop-names.rest.now _ _ (search rules) c.loop-names.invariant.0 c.cut.ensures
    (c.in_err-put_name.ensures.bad (search rules))
