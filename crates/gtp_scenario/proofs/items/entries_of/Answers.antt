use Rattle.gtp_scenario.proofs.items.entries_of.Goals as goal

pub returns : goal.returns
returns c = c.entries_after-entries.ensures c.args.config.now c.in_ok-past.ensures
