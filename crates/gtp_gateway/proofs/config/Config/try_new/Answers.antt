use Rattle.gtp_gateway.specs.Settings.{settings_of}
use Rattle.gtp_gateway.proofs.Templates.{no_order}
use Rattle.gtp_gateway.proofs.config.Config.try_new.Goals as goal

pub returns-clause-value : goal.returns-clause-value
returns-clause-value c = λ i.
    let s = settings_of c.args.own c.args.peer c.args.access_points.items (record { v4 = c.args.pool; v6 = c.none.ensures i }) c.args.timers in
    record s { config = record s.config { switches = c.default.ensures i; templates = no_order c.args.access_points.items 16 i } }
