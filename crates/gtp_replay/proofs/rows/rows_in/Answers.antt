use Rattle.std.proofs.Common.{arith, ◌≡◌, ◌+◌, ◌-◌, ◌≤◌, ◌∙◌, length-drop, Bool, List, ◌++◌, map, take, drop, length, ap, subst, sym}
use Rattle.gtp_replay.specs.Rows.{Happened, comes_by, brought_by, rows_at}
use Rattle.gtp_replay.specs.RowViews.{numbered, happened_of, row_of, AreFlags, marked}
use Rattle.std.specs.List.{take-map}
use Rattle.std.proofs.lemmas.List.{take_all}
use Rattle.gtp_replay.specs.declared.happened.Happened.{Happened as Program}
use Rattle.gtp_replay.proofs.Marks.{loop_more, marked_length, rows_more}
use Rattle.gtp_replay.proofs.rows.rows_in.Goals as goal

pub loop-place-preserved : goal.loop-place-preserved
loop-place-preserved c =
    let l = c.loop-place in
    let datagrams = numbered c.args.datagrams.now in
    let all = map happened_of c.args.all.now in
    let one = c.index-all-place.result in
    let new : c.mark.new.flags.items ≡ marked l.came.items (brought_by datagrams (happened_of one)) = c.mark.ensures ∙ ap (marked l.came.items) c.brought_by.ensures in
    let came : AreFlags (comes_by datagrams (take l.place all)) l.came.items =
    subst (λ (hs : List Happened). AreFlags (comes_by datagrams hs) l.came.items) (sym (take-map happened_of l.place c.args.all.now)) l.invariant.came in
    let comes = subst (λ (f : List Bool). AreFlags (comes_by datagrams all) f) (sym c.deref.ensures.value) c.in_ok-comes.ensures in
    let before = subst (λ (f : List Bool). AreFlags (comes_by datagrams (take l.place all)) f) (sym c.deref-in-loop-place.ensures.value) came in
    let rest = drop (l.place + 1) c.args.all.now in
    let few : length rest ≤ length c.args.all.now - (l.place + 1) = omega (arith, length-drop (l.place + 1) c.args.all.now) in
    let whole : take (length c.args.all.now - (l.place + 1)) rest ≡ rest = take_all (length c.args.all.now - (l.place + 1)) rest few in
    let rows =
    c.in_ok-put_rows_at.ensures.ok all comes before
    ∙ ap (λ (hs : List Program). map row_of l.rows.items ++ rows_at datagrams all l.place l.last (happened_of one) (map happened_of hs)) whole in
    record {
      rows = rows_more datagrams all l.place l.last c.args.all.now one _ (map row_of l.rows.items) (map row_of c.put_rows_at.new.rows.items) c.idle_node-last.result
          c.index-all-place.is c.loop-place-test.true rows c.idle_node-last.ensures l.invariant.rows;
      came = loop_more c.args.datagrams.now c.args.all.now l.place one l.came.items c.mark.new.flags.items c.index-all-place.is c.loop-place-test.true l.invariant.count l.invariant.came new;
      count = ap length new ∙ (marked_length l.came.items _ ∙ l.invariant.count);
    }
