use Rattle.std.proofs.Common.{rules, ◌≡◌, ◌++◌, min, List, map, take, drop, length, refl, sym, ap, subst, ◌∙◌, arith}
use Rattle.std.proofs.lemmas.List.{append-nil}
use Rattle.std.proofs.lemmas.Slice.Zip.{either_empty_from_Zip}
use Rattle.std.specs.List.{flat_map}
use Rattle.json.specs.Json.{Json}
use Rattle.gtp_world.specs.Events.{event_of}
use Rattle.gtp_world.specs.Record.{sent_by, told_by}
use Rattle.gtp_json.specs.Tree.{line_of}
use Rattle.gtp_run_json.proofs.Lines.{no_lines, one_event, one_read}
use Rattle.gtp_run_json.specs.Run.{AllRead}
use Rattle.gtp_run_json.specs.Happened.{events_json}
use Rattle.gtp_run_json.proofs.happened.put_events.Goals as goal

pub loop-place-preserved : goal.loop-place-preserved
loop-place-preserved c =
    let l = c.loop-place in
    let step = c.in-Some.ensures.steps in
    let left = c.next.new.self in
    let count : c.min-count.result ≡ min (length l.rest.now) c.in-Some.note.now.sent = search rules in
    let front : c.split_at.result.0.now ≡ take c.min-count.result l.rest.now = search rules in
    let back : c.split_at.result.1.now ≡ drop c.min-count.result l.rest.now = search rules in
    let more : c.extend_from_slice.new.self.items ≡ l.out.items ++ c.in_ok-line.line.items = search rules in
    let events = ap (map event_of) step.0.0 in
    let notes = ap (map told_by) step.0.1 in
    record {
      lines =
          one_event sent_by l.place-iterator.count c.in-Some.place left.count l.next c.min-count.result l.rest.now c.split_at.result.0.now
          c.split_at.result.1.now (event_of c.in-Some.event.now) (told_by c.in-Some.note.now)
          _ (map event_of left.iter.a.rest.now) _ (map told_by left.iter.b.rest.now) _ l.out.items c.in_ok-line.line.items c.extend_from_slice.new.self.items
          step.1 step.2 count front back c.in_ok-line.ensures.text more events notes l.invariant.lines;
      reads =
          one_read sent_by l.place-iterator.count c.in-Some.place left.count l.next c.min-count.result l.rest.now c.split_at.result.0.now
          c.split_at.result.1.now (event_of c.in-Some.event.now) (told_by c.in-Some.note.now)
          _ (map event_of left.iter.a.rest.now) _ (map told_by left.iter.b.rest.now) (events_json (map event_of c.args.events.now) (map sent_by c.args.datagrams.now) (map told_by c.args.notes.now))
          step.1 step.2 count front back c.in_ok-line.ensures.reads_back events notes l.invariant.reads;
      count = omega (arith, l.invariant.count, c.split_at.ensures.back_len);
    }

pub returns-clause-ok : goal.returns-clause-ok
returns-clause-ok c =
    let l = c.loop-place in
    let left = l.place-iterator in
    let none =
    no_lines sent_by event_of told_by left.count l.next l.rest.now left.iter.a.rest.now left.iter.b.rest.now
    (either_empty_from_Zip left.iter c.next.new.self.iter _ refl c.in-None.ensures.steps.0) in
    sym (append-nil l.out.items) ∙ ap (λ (js : List Json). l.out.items ++ flat_map line_of js) (sym none) ∙ l.invariant.lines

pub returns-clause-reads_back : goal.returns-clause-reads_back
returns-clause-reads_back c =
    let l = c.loop-place in
    let left = l.place-iterator in
    let none =
    no_lines sent_by event_of told_by left.count l.next l.rest.now left.iter.a.rest.now left.iter.b.rest.now
    (either_empty_from_Zip left.iter c.next.new.self.iter _ refl c.in-None.ensures.steps.0) in
    l.invariant.reads (subst AllRead (sym none) tt)
