use Rattle.std.proofs.Common.{◌∷◌, [], replicate, subst}
use Rattle.std.proofs.lemmas.List.{replicate-append-replicate}
use Rattle.gtp_world.specs.Events.{event_of}
use Rattle.gtp_scenario.specs.Past.{Happen}
use Rattle.gtp_scenario.specs.Views.{past}
use Rattle.gtp_scenario.proofs.Happened.{happen_on, happen_one}
use Rattle.gtp_scenario.proofs.past.Past.repeat.Goals as goal

pub loop-preserved : goal.loop-preserved
loop-preserved c =
    let l = c.loop in
    let event = event_of c.args.event.now in
    let new = past c.happen.new.self in
    subst (λ es. Happen (past c.args.self.now) es new) (replicate-append-replicate l.counter 1 event)
    (happen_on (past c.args.self.now) (replicate l.counter event) (past l.self) (event ∷ []) new l.invariant (happen_one (past l.self) event new c.in_ok-happen.ensures))
