use Rattle.std.proofs.Common.{◌∙◌, sym}
use Rattle.gtp_tables.proofs.Ordered.{no_keys, distinct_none}
use Rattle.gtp_tables.proofs.table.Table.new.Goals as goal

pub invariant_of-result : goal.invariant_of-result
invariant_of-result g c = record {
  keys = c.new-2.ensures.items ∙ sym (no_keys c.new.result.entries c.new.ensures.empty);
  distinct = distinct_none c.new.result.entries c.new.ensures.empty;
  room = λ h. absurd cc;
}
