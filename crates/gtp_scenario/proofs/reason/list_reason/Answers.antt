use Rattle.std.proofs.Common.{◌≡◌, map, Err, subst}
use Rattle.gtp_scenario.specs.Trees.{view}
use Rattle.gtp_scenario.specs.Views.{entry, head}
use Rattle.gtp_scenario.proofs.Explaining.{explains_ok, explains_halted, halted_in}
use Rattle.gtp_scenario.proofs.reason.list_reason.Goals as goal

pub event_flaw-requires : goal.event_flaw-requires
event_flaw-requires c =
    let read = rw c.in-Err-Halted.field-0-is at c.in-Err-Halted.ensures in
    halted_in (view c.args.value.now) (head c.args.head) c.in-Err-Halted.halted c.requires read

pub returns-in-Ok-clause-refusal : goal.returns-in-Ok-clause-refusal
returns-in-Ok-clause-refusal c = explains_ok (head c.args.head) (map entry c.in-Ok.field-0.items) c.in-Ok.ensures

pub returns-in-Err-Halted-clause-refusal : goal.returns-in-Err-Halted-clause-refusal
returns-in-Err-Halted-clause-refusal c =
    let read = rw c.in-Err-Halted.field-0-is at c.in-Err-Halted.ensures in
    explains_halted (head c.args.head) c.in-Err-Halted.halted c.in_ok-flaw-in-Err-Halted.flaw read
