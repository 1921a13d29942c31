use Rattle.std.proofs.Common.{◌≡◌, ◌∙◌, length, ap}
use Rattle.gtp_replay.specs.Rows.{brought_by}
use Rattle.gtp_replay.specs.RowViews.{numbered, happened_of, marked}
use Rattle.gtp_replay.proofs.Marks.{loop_more, marked_length}
use Rattle.gtp_replay.proofs.rows.all_that_come.Goals as goal

pub loop-one-preserved : goal.loop-one-preserved
loop-one-preserved c =
    let l = c.loop-one in
    let new : c.mark.new.flags.items ≡ marked l.comes.items (brought_by (numbered c.args.datagrams.now) (happened_of c.one-item.result)) =
    c.mark.ensures ∙ ap (marked l.comes.items) c.brought_by.ensures in
    record {
      flags =
          loop_more c.args.datagrams.now c.args.all.now l.one-index c.one-item.result l.comes.items c.mark.new.flags.items c.one-item.is
          c.loop-one-test.true l.invariant.count l.invariant.flags new;
      count = ap length new ∙ (marked_length l.comes.items _ ∙ l.invariant.count);
    }
