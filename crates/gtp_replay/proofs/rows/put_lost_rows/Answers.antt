use Rattle.std.proofs.Common.{◌+◌, map}
use Rattle.gtp_world.specs.Record.{sent_by}
use Rattle.gtp_replay.specs.Rows.{lost_rows}
use Rattle.gtp_replay.specs.RowViews.{row_of}
use Rattle.gtp_replay.proofs.Marks.{flat_more, numbered_next}
use Rattle.gtp_replay.proofs.rows.put_lost_rows.Goals as goal

pub loop-place-preserved : goal.loop-place-preserved
loop-place-preserved c datagrams all flags =
    let l = c.loop-place in
    let d = c.index-sent-place.result in
    flat_more (lost_rows datagrams all) (c.args.first + l.place, sent_by d) _ _ _ (map row_of l.rows.items) (map row_of c.put_lost_row.new.rows.items)
    (c.in_ok-put_lost_row.ensures.ok datagrams all flags)
    (numbered_next c.args.first l.place c.args.sent.now d c.index-sent-place.is c.loop-place-test.true)
    (l.invariant datagrams all flags)
