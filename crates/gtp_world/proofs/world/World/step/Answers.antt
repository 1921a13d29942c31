-- A run goes on by what comes of an event.
use Rattle.std.proofs.Common.{[], ◌∷◌, refl, subst, OnOk}
use Rattle.std.proofs.lemmas.Result.{on_ok_weaker}
use Rattle.gtp_world.specs.Events.{event_of}
use Rattle.gtp_world.specs.Record.{WorldRecord, world_record_of}
use Rattle.gtp_world.specs.Runs.{ContinuesRun}
use Rattle.gtp_world.proofs.Running.{runs_on}
use Rattle.gtp_world.proofs.Reached.{reached_on}
use Rattle.gtp_world.proofs.world.World.step.Goals as goal

pub returns-clause-run : goal.returns-clause-run
returns-clause-run c =
    let event = event_of c.args.event.now in
    let new = world_record_of c.step.new.self in
    subst (λ (k : WorldRecord). OnOk c.step.result (ContinuesRun k (event ∷ []) new)) c.self.view_is
    (on_ok_weaker c.step.result (λ comes. runs_on _ (event ∷ []) new (new, comes, refl)) c.step.ensures.comes)

pub invariant_of-self : goal.invariant_of-self
invariant_of-self c =
    reached_on c.step.result (event_of c.args.event.now) (world_record_of c.self.inside.sides) (world_record_of c.step.new.self) c.step.ensures.comes
    c.step.ensures.err c.self.invariant
