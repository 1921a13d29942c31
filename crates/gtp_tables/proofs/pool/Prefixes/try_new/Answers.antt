use Rattle.std.proofs.Common.{rules, arith}
use Rattle.gtp_tables.proofs.pool.Prefixes.try_new.Goals as goal

pub invariant_of-result : goal.invariant_of-result
invariant_of-result c = record {
  long = search rules;
  few = omega (arith, c.if-count-gt-MOST.false);
  within = omega (arith, c.if-last.false, c.prefix_of.ensures.value);
}
