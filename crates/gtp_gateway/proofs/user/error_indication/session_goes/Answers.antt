use Rattle.gtp_gateway.proofs.ErrorIndications.{default_same}
use Rattle.gtp_gateway.proofs.user.error_indication.session_goes.Goals as goal

pub returns : goal.returns
returns c = default_same c.args.bearers.now c.args.remote c.args.session c.has_default.result c.has_default.ensures
