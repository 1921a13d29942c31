use Rattle.std.proofs.Common.{◌≡◌, [], ◌∷◌, ◌++◌, map, option_map, option_to_list, length, ◌∙◌, ap}
use Rattle.gtp_machine.specs.World.{Came_to}
use Rattle.gtp_gateway.specs.receive.Taken.{datagrams}
use Rattle.gtp_gateway.specs.Tick.{arrivals_of}
use Rattle.gtp_world.specs.Record.{EventRecord, Log, entry_by, told_by, late_among, counted}
use Rattle.gtp_world.specs.Inputs.{entries}
use Rattle.gtp_world.specs.declared.event.EventOutcome.TheVariants as outcomes
use Rattle.gtp_world.specs.declared.log.Note.{Note}
use Rattle.gtp_world.specs.declared.records.Records.{Records}
use Rattle.gtp_world.proofs.Logs.{told_last, note_kept, late_kept, entry_kept}
use Rattle.gtp_world.proofs.records.Records.record_step.Goals as goal

pub returns-clause-log : goal.returns-clause-log
returns-clause-log c =
    let old = c.args.self.now in
    let mid = c.keep_sent.new.self in
    let rest = c.keep_sent.ensures.rest in
    let handed = c.push_reserved_option.ensures ∙ ap (λ (r : Records). r.handed.list ++ option_to_list c.args.came.handed) rest in
    let accepted =
    entry_kept mid.accepted.items c.push_reserved_option-2.new.list.items c.args.came.accepted c.push_reserved_option-2.ensures
    ∙ ap (λ (r : Records). map entry_by r.accepted.items ++ entries c.args.came.accepted) rest in
    let note : Note =
    record {
      outcome = outcomes.CameTo c.args.came.outcome;
      second = c.args.came.second;
      restart = c.args.came.restart;
      sent = c.count_of.result;
      gave_up = c.new.result;
      forgotten = c.new-2.result;
      late = c.args.late;
    } in
    let told : told_by note ≡ record {
      outcome = Came_to c.args.came.outcome;
      second = c.args.came.second;
      learned = option_map (λ k. k.0)
          c.args.came.restart;
      sent = length (datagrams c.args.came.out);
      gave_up = [];
      forgot = [];
    } = λ i. record {
      outcome = Came_to c.args.came.outcome;
      second = c.args.came.second;
      learned = option_map (λ k. k.0) c.args.came.restart;
      sent =
          c.count_of.ensures i;
      gave_up = c.new.ensures.items i;
      forgot = arrivals_of (c.new-2.ensures.items i);
    } in
    let notes =
    note_kept mid.notes.items c.push_reserved.new.list.items note c.push_reserved.ensures.items
    ∙ ap (λ (r : Records). map told_by r.notes.items ++ (told_by note ∷ [])) rest
    ∙ ap (λ (k : EventRecord). map told_by old.notes.items ++ (k ∷ [])) told in
    let late = late_kept mid.notes.items c.push_reserved.new.list.items note c.push_reserved.ensures.items ∙ ap (λ (r : Records). counted c.args.late (late_among r.notes.items)) rest in
    λ i. record { datagrams = c.keep_sent.ensures.datagrams i; handed = handed i; accepted = accepted i; late = late i; notes = notes i }

pub returns-clause-told : goal.returns-clause-told
returns-clause-told c = told_last _ _ _ (ap (λ (l : Log). l.notes) (returns-clause-log c))
