use Rattle.gtp_reliable.proofs.rows.Rows.count_others.Given as goal

abbrev pub ghost-count_others : goal.ghost-count_others
ghost-count_others g a = g.meets
