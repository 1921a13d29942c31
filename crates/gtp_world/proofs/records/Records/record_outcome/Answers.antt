use Rattle.std.proofs.Common.{[], ◌∷◌, ◌++◌, map, ◌∙◌, ap}
use Rattle.gtp_world.specs.Record.{Log, sent_by, entry_by, told_by, late_among, counted}
use Rattle.gtp_world.proofs.Logs.{told_last, note_kept, late_kept}
use Rattle.gtp_world.proofs.records.Records.record_outcome.Goals as goal

pub returns-clause-log : goal.returns-clause-log
returns-clause-log c =
    let old = c.args.self.now in
    let late = late_kept old.notes.items c.push_reserved.new.list.items c.of.result c.push_reserved.ensures.items ∙ ap (λ b. counted b (late_among old.notes.items)) c.of.ensures.late in
    let notes = note_kept old.notes.items c.push_reserved.new.list.items c.of.result c.push_reserved.ensures.items ∙ ap (λ k. map told_by old.notes.items ++ (k ∷ [])) c.of.ensures.told in
    λ i. record { datagrams = map sent_by old.datagrams.items; handed = old.handed.list; accepted = map entry_by old.accepted.items; late = late i; notes = notes i }

pub returns-clause-told : goal.returns-clause-told
returns-clause-told c = told_last _ _ _ (ap (λ (l : Log). l.notes) (returns-clause-log c))
