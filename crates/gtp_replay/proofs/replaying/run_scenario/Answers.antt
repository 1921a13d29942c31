use Rattle.std.proofs.Common.{◌≡◌, ◌∙◌, map, ap, subst}
use Rattle.std.specs.List.{flat_map}
use Rattle.gtp_world.specs.Events.{event_of}
use Rattle.gtp_world.specs.Runs.{RanWhole}
use Rattle.gtp_scenario.specs.Entries.{events_in}
use Rattle.gtp_scenario.specs.Views.{entry, scenario}
use Rattle.gtp_replay.specs.Told.{events_of}
use Rattle.gtp_replay.proofs.replaying.run_scenario.Goals as goal

pub returns-clause-ran : goal.returns-clause-ran
returns-clause-ran c =
    let all : map event_of c.in_ok-events.events.items ≡ events_of (scenario c.args.scenario.now) =
    c.in_ok-events.ensures.events ∙ ap (λ es. flat_map events_in (map entry es)) c.deref.ensures.value in
    let run = subst (λ es. RanWhole c.args.scenario.now.config es c.in-Some.world) (ap (map event_of) c.deref-2.ensures.value ∙ all) c.in-Some.ensures in
    record { events = all; run = run }
