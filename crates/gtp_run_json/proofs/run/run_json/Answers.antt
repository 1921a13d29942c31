use Rattle.std.proofs.Common.{rules, ◌≡◌, ◌∙◌, [], ◌∷◌, ◌++◌, refl, sym, ap₂, map}
use Rattle.std.proofs.lemmas.Grind.{flat_map-append}
use Rattle.std.proofs.lemmas.List.{append-nil}
use Rattle.std.specs.List.{flat_map}
use Rattle.gtp_world.specs.Events.{event_of}
use Rattle.gtp_json.specs.Tree.{line_of}
use Rattle.gtp_run_json.specs.Run.{AllRead}
use Rattle.gtp_run_json.proofs.Lines.{all_read}
use Rattle.gtp_run_json.specs.Happened.{events_json}
use Rattle.gtp_run_json.proofs.run.run_json.Goals as goal

pub returns : goal.returns
returns c =
    let v = c.args.world.now in
    let end = c.in_ok-end.ensures in
    let front = events_json (map event_of c.args.events.now) v.log.datagrams v.log.notes in
    let lines : c.put_events.new.out.items ≡ flat_map line_of front = search rules in
    let more : c.extend_from_slice.new.self.items ≡ c.put_events.new.out.items ++ c.in_ok-end.end.items = search rules in
    let whole : c.extend_from_slice.new.self.items ≡ flat_map line_of (front ++ end.0 ∷ []) =
    more ∙ (ap₂ (λ a b. a ++ b) lines (end.3 ∙ sym (append-nil (line_of end.0))) ∙ sym (flat_map-append line_of front (end.0 ∷ []))) in
    let objects = front ++ end.0 ∷ [] in
    let reads : AllRead front = search rules in
    record { text = (objects, (end.0, end.1, refl), whole); reads_back = (objects, (end.0, end.1, refl), all_read front end.0 reads end.2, whole) }
