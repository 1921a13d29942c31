use Rattle.std.proofs.Common.{nat_eq, rules}
use Rattle.std.specs.Prelude.{is_some}
use Rattle.std.specs.Map.{lookup}
use Rattle.std.proofs.lemmas.Fn.{filter_same}
use Rattle.gtp_tables.proofs.table.keep_keys.Goals as goal

pub returns-clause-keys : goal.returns-clause-keys
returns-clause-keys g c = filter_same _ (λ k. is_some (lookup (nat_eq k) c.args.rows.now.entries)) _ (λ x b f' k. search rules) _ _ c.retain.ensures.filtered
