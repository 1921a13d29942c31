use Rattle.std.proofs.Common.{◌≡◌, List, map, Result, Vec, Global, Some, option_map, ap, ◌∙◌}
use Rattle.gtp_scenario.specs.declared.entry.Entry as declared
use Rattle.gtp_scenario.specs.declared.halt.Halt.{Halt}
use Rattle.gtp_scenario.specs.declared.name.Name.TheVariants as names
use Rattle.gtp_scenario.specs.Entries.{Entry}
use Rattle.gtp_scenario.specs.Named.{expected_of}
use Rattle.gtp_scenario.specs.Scenarios.{AreDelivered, Follow, IsReadBy}
use Rattle.gtp_scenario.specs.Trees.{view}
use Rattle.gtp_scenario.specs.Views.{entry, past}
use Rattle.gtp_scenario.proofs.Happened.{follow_on}
use Rattle.gtp_scenario.proofs.ReadBy.{reads_as, all_read}
use Rattle.gtp_scenario.proofs.items.read_all.Goals as goal

pub returns-clause-read : goal.returns-clause-read
returns-clause-read c =
    let d = view c.args.value.now in
    let old = past c.args.past.now in
    let pending = map entry c.args.pending.now in
    let expect = option_map (λ s. s.now) c.in-Some.expect in
    reads_as (λ (v : Vec declared.Entry Global). map entry v.items) c.deliver_all.result
    (AreDelivered c.args.room expect (past c.follow.new.self))
    (IsReadBy (Some names.All) (Follow old pending) c.args.room d)
    (λ reading delivered. all_read (expected_of d) expect (Follow old pending) c.args.room (past c.follow.new.self) reading c.in-Some.ensures c.in_ok-follow.ensures delivered)
    c.deliver_all.ensures.read
