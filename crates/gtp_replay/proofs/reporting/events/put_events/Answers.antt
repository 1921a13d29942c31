use Rattle.std.proofs.Common.{rules, ◌≡◌, ◌++◌, min, List, ℕ, map, take, drop, length, refl, sym, ap, ◌∙◌, arith}
use Rattle.std.proofs.lemmas.List.{append-nil}
use Rattle.std.proofs.lemmas.Slice.Zip.{either_empty_from_Zip}
use Rattle.gtp_world.specs.Events.{event_of}
use Rattle.gtp_world.specs.Record.{sent_by, told_by}
use Rattle.gtp_replay.proofs.Lines.{no_lines, one_event}
use Rattle.gtp_replay.proofs.reporting.events.put_events.Goals as goal

pub loop-place-preserved : goal.loop-place-preserved
loop-place-preserved c =
    let l = c.loop-place in
    let step = c.in-Some.ensures.steps in
    let left = c.next.new.self in
    let count : c.min-count.result ≡ min (length l.rest.now) c.in-Some.note.now.sent = search rules in
    let front : c.split_at.result.0.now ≡ take c.min-count.result l.rest.now = search rules in
    let back : c.split_at.result.1.now ≡ drop c.min-count.result l.rest.now = search rules in
    record {
      lines =
          one_event sent_by l.place-iterator.count c.in-Some.place left.count l.next c.min-count.result l.rest.now c.split_at.result.0.now
          c.split_at.result.1.now (event_of c.in-Some.event.now) (told_by c.in-Some.note.now)
          _ (map event_of left.iter.a.rest.now) _ (map told_by left.iter.b.rest.now) _ l.out.items c.put_event.new.out.items
          step.1 step.2 count front back c.in_ok-put_event.ensures.ok (ap (map event_of) step.0.0) (ap (map told_by) step.0.1) l.invariant.lines;
      count = omega (arith, l.invariant.count, c.split_at.ensures.back_len);
    }

pub returns : goal.returns
returns c =
    let l = c.loop-place in
    let left = l.place-iterator in
    let none =
    no_lines sent_by event_of told_by left.count l.next l.rest.now left.iter.a.rest.now left.iter.b.rest.now
    (either_empty_from_Zip left.iter c.next.new.self.iter _ refl c.in-None.ensures.steps.0) in
    record { ok = sym (append-nil l.out.items) ∙ ap (λ (text : List ℕ). l.out.items ++ text) (sym none) ∙ l.invariant.lines }
