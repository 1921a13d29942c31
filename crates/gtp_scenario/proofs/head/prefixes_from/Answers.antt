use Rattle.std.proofs.Common.{◌∙◌}
use Rattle.gtp_scenario.proofs.Pools.{prefixes_made}
use Rattle.gtp_scenario.proofs.head.prefixes_from.Goals as goal

pub returns : goal.returns
returns c = c.ok.ensures.value ∙ prefixes_made c.args.start c.args.count c.try_new.result c.try_new.ensures.ok c.try_new.ensures.value c.requires
