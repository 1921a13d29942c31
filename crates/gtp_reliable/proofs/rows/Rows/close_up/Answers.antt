use Rattle.std.proofs.Common.{rules, ◌≡◌, ◌∙◌, List, Some, None, slice_get, sym, ap, refl, arith}
use Rattle.std.proofs.lemmas.List.{append-nil}
use Rattle.gtp_reliable.specs.Rows.{Sent, moved}
use Rattle.gtp_reliable.proofs.Ticked.{turned_on, turned_whole, some_front}
use Rattle.gtp_reliable.proofs.rows.Rows.close_up.Goals as goal

pub loop-turn-init : goal.loop-turn-init
loop-turn-init g c = record { rows = sym (append-nil c.args.self.now.rows); room = refl }

pub unreachable-requires : goal.unreachable-requires
unreachable-requires g c =
    let rows = c.args.self.now.rows in
    let i = c.loop-turn._turn in
    let none : None ≡ slice_get c.loop-turn.self.rows 0 = search rules in
    some_front rows i (omega (arith, c.len-turn-end.ensures, c.loop-turn-test.true)) (none ∙ ap (λ (l : List (Sent _)). slice_get l 0) c.loop-turn.invariant.rows)

pub loop-turn-preserved : goal.loop-turn-preserved
loop-turn-preserved g c =
    let rows = c.args.self.now.rows in
    let i = c.loop-turn._turn in
    let row = c.in-Some.row.now in
    let some : Some row ≡ slice_get c.loop-turn.self.rows 0 = search rules in
    let is : c.front_to_back.new.self.rows ≡ moved row.sent row.resent c.loop-turn.self.rows =
    c.front_to_back.ensures.rows ∙ ap (λ (r : Sent _). moved r.sent r.resent c.loop-turn.self.rows) c.row.view_is in
    record {
      rows =
          is
          ∙ (ap (moved row.sent row.resent) c.loop-turn.invariant.rows
          ∙ turned_on rows i row (omega (arith, c.len-turn-end.ensures, c.loop-turn-test.true)) (some ∙ ap (λ (l : List (Sent _)). slice_get l 0) c.loop-turn.invariant.rows));
      room = c.front_to_back.ensures.room ∙ c.loop-turn.invariant.room;
    }

pub returns : goal.returns
returns g c =
    let whole = c.loop-turn.invariant.rows ∙ turned_whole c.args.self.now.rows c.loop-turn._turn (omega (arith, c.len-turn-end.ensures, c.loop-turn-test.false)) in
    λ i. record { rows = whole i; has_room = c.loop-turn.invariant.room i }
