use Rattle.std.proofs.Common.{◌≡◌, List, map, Result, Vec, Global, Some, ap, ◌∙◌}
use Rattle.gtp_scenario.specs.declared.entry.Entry as declared
use Rattle.gtp_scenario.specs.declared.halt.Halt.{Halt}
use Rattle.gtp_scenario.specs.declared.name.Name.TheVariants as names
use Rattle.gtp_scenario.specs.Entries.{Entry}
use Rattle.gtp_scenario.specs.Named.{entry_about}
use Rattle.gtp_scenario.specs.Scenarios.{named_entry, Follow, IsReadBy}
use Rattle.gtp_scenario.specs.Trees.{view}
use Rattle.gtp_scenario.specs.Views.{entry, past}
use Rattle.gtp_scenario.proofs.ReadBy.{reads_as}
use Rattle.gtp_scenario.proofs.items.read_bearer.Goals as goal

pub returns-clause-read : goal.returns-clause-read
returns-clause-read c =
    let d = view c.args.value.now in
    let old = past c.args.past.now in
    let pending = map entry c.args.pending.now in
    reads_as (λ (v : Vec declared.Entry Global). map entry v.items) c.context_entry.result
    (λ (reading : Result (List Entry) Halt). reading ≡ named_entry c.args.room c.bearer.result (λ teid. entry_about teid d))
    (IsReadBy (Some (names.Bearer c.args.node c.args.name.now)) (Follow old pending) c.args.room d)
    (λ reading is. (past c.follow.new.self, c.in_ok-follow.ensures, is ∙ ap (λ n. named_entry c.args.room n (λ teid. entry_about teid d)) c.bearer.ensures))
    c.context_entry.ensures
