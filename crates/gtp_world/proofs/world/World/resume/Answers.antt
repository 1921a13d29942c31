use Rattle.std.proofs.Common.{◌≡◌, ◌<◌, not, length, ◌+◌, suc, List, map, take, refl, sym, ◌∙◌, ap, subst, arith}
use Rattle.std.proofs.lemmas.List.{take_all}
use Rattle.gtp_machine.specs.World as machine
use Rattle.gtp_world.specs.Ends.{HasGone}
use Rattle.gtp_world.specs.Events.{event_of}
use Rattle.gtp_world.specs.Record.{WorldRecord}
use Rattle.gtp_world.specs.Stepped.{EventsLeave}
use Rattle.gtp_world.specs.declared.event.Event.{Event}
use Rattle.gtp_world.proofs.Finding.{on_ok, on_err}
use Rattle.gtp_world.proofs.Running.{one_more, follows_on, runs_on, stopped}
use Rattle.gtp_world.proofs.world.World.resume.Goals as goal

pub returns-then-is_err-clause-fault : goal.returns-then-is_err-clause-fault
returns-then-is_err-clause-fault c =
    let events = c.args.events.now in
    let at = c.loop-at.at in
    let same = on_err c.step.result _ (sym c.is_err.ensures.value ∙ c.if-is_err.true) c.step.ensures.err in
    subst (λ (k : WorldRecord). (at < length (map event_of events)) × HasGone c.args.self (take at (map event_of events)) k) (sym same)
    (stopped c.args.self events at c.loop-at.world c.loop-at-test.true c.loop-at.invariant)

pub loop-at-init : goal.loop-at-init
loop-at-init c = refl

pub loop-at-preserved : goal.loop-at-preserved
loop-at-preserved c =
    let events = c.args.events.now in
    let at = c.loop-at.at in
    let is_ok = c.is_err.ensures.negation ∙ ap not c.if-is_err.false in
    let comes = on_ok c.step.result _ is_ok c.step.ensures.comes in
    let before = map event_of (take at events) in
    let next : suc at ≡ at + 1 = omega arith in
    let so_far = one_more events at c.index-events-at.result c.loop-at-test.true (sym c.index-events-at.is) ∙ ap (λ n. map event_of (take n events)) next in
    subst (λ (l : List machine.Event). EventsLeave c.args.self l c.step.new.self) so_far (follows_on c.args.self before c.loop-at.world _ c.step.new.self c.loop-at.invariant comes)

pub returns-clause-comes : goal.returns-clause-comes
returns-clause-comes c =
    let events = c.args.events.now in
    let whole : take c.loop-at.at events ≡ events = take_all c.loop-at.at events (omega arith) in
    subst (λ (l : List Event). EventsLeave c.args.self (map event_of l) c.loop-at.world) whole c.loop-at.invariant

pub returns-clause-run : goal.returns-clause-run
returns-clause-run c = runs_on c.args.self (map event_of c.args.events.now) c.loop-at.world (returns-clause-comes c)
