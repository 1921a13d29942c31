use Rattle.std.proofs.Common.{rules, ◌≡◌, ◌++◌, ◌∙◌, All, List, min, map, take, drop, length, refl, ap, subst, sym, arith}
use Rattle.std.proofs.lemmas.List.{append-nil, map_push}
use Rattle.std.proofs.lemmas.List.Elements.{All-push}
use Rattle.std.proofs.lemmas.Slice.Zip.{either_empty_from_Zip}
use Rattle.gtp_world.specs.Events.{event_of}
use Rattle.gtp_world.specs.Record.{sent_by, told_by}
use Rattle.gtp_replay.specs.Rows.{Happened}
use Rattle.gtp_replay.specs.RowViews.{numbered_from, happened_of, IsNumbered}
use Rattle.gtp_replay.proofs.Happenings.{no_more, one_more}
use Rattle.gtp_replay.proofs.happened.all_that_happened.Goals as goal

pub loop-event-preserved : goal.loop-event-preserved
loop-event-preserved c =
    let l = c.loop-event in
    let step = c.in-Some.ensures.steps in
    let left = c.next.new.self in
    let count : c.min-count.result ≡ min (length l.rest.now) c.in-Some.note.now.sent = search rules in
    let front : c.split_at.result.0.now ≡ take c.min-count.result l.rest.now = search rules in
    let back : c.split_at.result.1.now ≡ drop c.min-count.result l.rest.now = search rules in
    let pushed = ap (map happened_of) c.in_ok-push.ensures.items ∙ map_push happened_of l.all.items _ in
    record {
      all = one_more sent_by l.next c.min-count.result l.rest.now c.split_at.result.0.now c.split_at.result.1.now (event_of c.in-Some.event.now) (told_by c.in-Some.note.now) _
          _ (map event_of left.a.rest.now) _ (map told_by left.b.rest.now) _ (map happened_of l.all.items) (map happened_of c.push.new.self.items)
          count front back refl pushed (ap (map event_of) step.0) (ap (map told_by) step.1) l.invariant.all;
      count = omega (arith, l.invariant.count, c.split_at.ensures.back_len);
      each = subst (All IsNumbered) (sym c.in_ok-push.ensures.items) (All-push IsNumbered l.all.items _ l.invariant.each (omega (arith, l.invariant.count, c.split_at.ensures.front_len)));
    }

pub returns-clause-all : goal.returns-clause-all
returns-clause-all c =
    let l = c.loop-event in
    let left = l.event-iterator in
    let none = no_more event_of told_by (numbered_from l.next l.rest.now) left.a.rest.now left.b.rest.now (either_empty_from_Zip left c.next.new.self _ refl c.in-None.ensures.steps) in
    sym (append-nil (map happened_of l.all.items)) ∙ ap (λ (hs : List Happened). map happened_of l.all.items ++ hs) (sym none) ∙ l.invariant.all
