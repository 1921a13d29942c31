use Rattle.std.proofs.Common.{rules, refl, sym, ◌∙◌, true≢false, arith}
use Rattle.gtp_c.proofs.Naming.{none_read, no_name, all_read, all_counted, too_many, one_more, fewer_left}
use Rattle.gtp_c.proofs.names.count_of_names.Goals as goal

pub loop-after-init : goal.loop-after-init
loop-after-init c = none_read c.args.octets.now

pub returns-then-is_none-clause-some : goal.returns-then-is_none-clause-some
returns-then-is_none-clause-some c = (
  λ yes. absurd (true≢false (sym yes)),
  λ few.
      absurd (no_name c.args.octets.now (search rules) c.loop-after.rest.now c.cut.result.0.now c.cut.result.1 c.loop-after.count c.loop-after.invariant
      c.cut.ensures (λ is. true≢false (sym (c.access_point_of.ensures.some.1 is) ∙ search rules)) few),
)

pub returns-in_default-clause-some : goal.returns-in_default-clause-some
returns-in_default-clause-some c = (
  λ _. all_read c.args.octets.now (search rules) c.loop-after.rest.now c.cut.result.0.now c.cut.result.1 c.loop-after.count c.loop-after.invariant
      c.cut.ensures (search rules) (c.access_point_of.ensures.some.0 (search rules)),
  λ _. refl,
)

pub returns-in_default-clause-value : goal.returns-in_default-clause-value
returns-in_default-clause-value c =
    all_counted c.args.octets.now (search rules) c.loop-after.rest.now c.cut.result.0.now c.cut.result.1 c.loop-after.count c.loop-after.invariant
    c.cut.ensures (search rules)

pub returns-then-count-eq-MOST_NAMES-clause-some : goal.returns-then-count-eq-MOST_NAMES-clause-some
returns-then-count-eq-MOST_NAMES-clause-some c = (
  λ yes. absurd (true≢false (sym yes)),
  λ few.
      absurd (too_many c.args.octets.now (search rules) c.loop-after.rest.now c.cut.result.0.now c.cut.result.1 c.loop-after.count c.loop-after.invariant
      c.cut.ensures c.in-Some.after (search rules) (search rules) few),
)

pub overflow_add-count : goal.overflow_add-count
overflow_add-count c = let few = c.loop-after.invariant.few in record { fits = omega (arith, few) }

pub loop-after-smaller : goal.loop-after-smaller
loop-after-smaller c =
    fewer_left c.args.octets.now (search rules) c.loop-after.rest.now c.cut.result.0.now c.cut.result.1 c.loop-after.count c.loop-after.invariant
    c.cut.ensures c.in-Some.after (search rules)

pub loop-after-preserved : goal.loop-after-preserved
loop-after-preserved c =
    one_more c.args.octets.now (search rules) c.loop-after.rest.now c.cut.result.0.now c.cut.result.1 c.loop-after.count c.loop-after.invariant
    c.cut.ensures c.in-Some.after (search rules) (search rules) (c.access_point_of.ensures.some.0 (search rules))
