use Rattle.std.proofs.Common.{◌≡◌, [], ◌∷◌, ◌++◌, map, length, false, None, ◌∙◌, ap}
use Rattle.gtp_machine.specs.World.{Ticked}
use Rattle.gtp_gateway.specs.Tick.{arrivals_of}
use Rattle.gtp_world.specs.Record.{EventRecord, Log, entry_by, told_by, late_among}
use Rattle.gtp_world.specs.declared.event.EventOutcome.TheVariants as outcomes
use Rattle.gtp_world.specs.declared.log.Note.{Note}
use Rattle.gtp_world.specs.declared.records.Records.{Records}
use Rattle.gtp_world.proofs.Logs.{told_last, note_kept, late_kept}
use Rattle.gtp_world.proofs.records.Records.record_tick.Goals as goal

pub returns-clause-log : goal.returns-clause-log
returns-clause-log c =
    let old = c.args.self.now in
    let mid = c.keep_all_sent.new.self in
    let rest = c.keep_all_sent.ensures.rest in
    let note : Note =
    record {
      outcome = outcomes.Ticked;
      second = None;
      restart = None;
      sent = length c.as_slice.result.now;
      gave_up = c.args.ticked.gave_up;
      forgotten = c.args.ticked.forgotten;
      late = false;
    } in
    let told : told_by note ≡ record {
      outcome = Ticked;
      second = None;
      learned = None;
      sent = length c.args.ticked.resent.items;
      gave_up =
          c.args.ticked.gave_up.items;
      forgot = arrivals_of c.args.ticked.forgotten.items;
    } = λ i. record {
      outcome = Ticked;
      second = None;
      learned = None;
      sent = ap length c.as_slice.ensures.value i;
      gave_up = c.args.ticked.gave_up.items;
      forgot =
          arrivals_of c.args.ticked.forgotten.items;
    } in
    let notes =
    note_kept mid.notes.items c.push_reserved.new.list.items note c.push_reserved.ensures.items
    ∙ ap (λ (r : Records). map told_by r.notes.items ++ (told_by note ∷ [])) rest
    ∙ ap (λ (k : EventRecord). map told_by old.notes.items ++ (k ∷ [])) told in
    let late = late_kept mid.notes.items c.push_reserved.new.list.items note c.push_reserved.ensures.items ∙ ap (λ (r : Records). late_among r.notes.items) rest in
    λ i. record {
      datagrams = c.keep_all_sent.ensures.datagrams i;
      handed = ap (λ (r : Records). r.handed.list) rest i;
      accepted = ap (λ (r : Records). map entry_by r.accepted.items) rest i;
      late = late i;
      notes = notes i;
    }

pub returns-clause-told : goal.returns-clause-told
returns-clause-told c = told_last _ _ _ (ap (λ (l : Log). l.notes) (returns-clause-log c))
