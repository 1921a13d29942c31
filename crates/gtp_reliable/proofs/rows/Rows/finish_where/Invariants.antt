use Rattle.gtp_reliable.proofs.rows.Rows.finish_where.Given as goal

abbrev pub ghost-cut_where : goal.ghost-cut_where
ghost-cut_where g a = g.meets
