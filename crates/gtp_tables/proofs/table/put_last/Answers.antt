use Rattle.std.proofs.Common.{rules, nat_eq}
use Rattle.indexmap.proofs.CallerLemmas.{insert_entry-new}
use Rattle.gtp_tables.proofs.table.put_last.Goals as goal

pub returns : goal.returns
returns g c = record { entries = search (rules, c.insert.ensures.entries, insert_entry-new nat_eq c.args.rows.now c.args.key c.args.value c.requires.new); distinct = c.insert.ensures.unique }
