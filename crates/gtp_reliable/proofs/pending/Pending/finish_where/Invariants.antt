use Rattle.gtp_reliable.proofs.pending.Pending.finish_where.Given as goal

abbrev pub ghost-finish_where : goal.ghost-finish_where
ghost-finish_where g a = g.meets
