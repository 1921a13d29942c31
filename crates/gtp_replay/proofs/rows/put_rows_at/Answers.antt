use Rattle.std.proofs.Common.{◌≡◌, ◌∙◌, List, [], ◌∷◌, ◌++◌, map, take, ap, sym, append_assoc}
use Rattle.std.specs.Option.{option_map_or}
use Rattle.std.specs.List.{flat_map}
use Rattle.std.proofs.lemmas.List.{map_push}
use Rattle.std.proofs.lemmas.Result.{on_ok_weaker}
use Rattle.gtp_replay.specs.Rows.{Row, event_row, lost_rows, idle_rows}
use Rattle.gtp_replay.specs.RowViews.{numbered, numbered_from, happened_of, row_of}
use Rattle.gtp_replay.proofs.rows.put_rows_at.Goals as goal

pub returns-in_ok-push-in-None : goal.returns-in_ok-push-in-None
returns-in_ok-push-in-None c = record {
  ok = λ all comes came.
      let datagrams = numbered c.args.datagrams.now in
      let old = map row_of c.args.rows.now.items in
      let event : Row = event_row datagrams (take c.args.place all) c.args.place (happened_of c.args.one.now) in
      let lost : List Row = flat_map (lost_rows datagrams all) (numbered_from c.args.one.now.first c.args.one.now.sent.now) in
      let pushed : map row_of c.push.new.self.items ≡ old ++ event ∷ [] =
      ap (map row_of) c.in_ok-push-in-None.ensures.items
      ∙ (map_push row_of c.args.rows.now.items c.event_row.result ∙ ap (λ (r : Row). old ++ r ∷ []) (c.event_row.ensures (take c.args.place all) came)) in
      on_ok_weaker c.put_lost_rows.result
      (λ is. is ∙ (ap (λ (l : List Row). l ++ lost) pushed ∙ (append_assoc old (event ∷ []) lost
      ∙ ap (λ o. old ++ option_map_or (λ node. idle_rows c.args.place c.args.last node (map happened_of c.args.after.now)) o (event ∷ lost)) (sym c.in-None.is ∙ c.idle_node.ensures))))
      (c.put_lost_rows.ensures.ok datagrams all comes);
}
