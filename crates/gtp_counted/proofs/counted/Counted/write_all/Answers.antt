use Rattle.std.proofs.Common.{◌∙◌}
use Rattle.gtp_counted.proofs.Written.{more_written}
use Rattle.gtp_counted.proofs.counted.Counted.write_all.Goals as goal

pub loop-rest-preserved : goal.loop-rest-preserved
loop-rest-preserved g c = record {
  so_far = more_written _ _ _ c.args.octets.now c.loop-rest.rest.now _ c.in_ok-taken.taken c.loop-rest.invariant.so_far c.in_ok-taken.ensures.ok c.split_at.ensures.back;
  count = c.in_ok-taken.ensures.count ∙ c.loop-rest.invariant.count;
}
