use Rattle.std.proofs.Common.{◌≡◌, ◌≤◌, subst}
use Rattle.std.specs.Prelude.{IfSome}
use Rattle.gtp_world.specs.Record.{WorldRecord}
use Rattle.gtp_world.specs.Views.{IsMadeOnce}
use Rattle.gtp_world.proofs.Answered.{answered_alike}
use Rattle.gtp_world.proofs.Counts.{made_once}
use Rattle.gtp_world.proofs.Finding.{so_on_some}
use Rattle.gtp_world.proofs.Reached.{made_timely}
use Rattle.gtp_world.proofs.world.World.made.Goals as goal

pub returns-clause-once : goal.returns-clause-once
returns-clause-once c =
    subst (λ (v : WorldRecord). IfSome c.made.result (λ count. IsMadeOnce v c.args.number count)) c.self.view_is
    (so_on_some c.made.result _ _ (λ count made. made_once _ c.args.number count made) c.made.ensures.some)

pub returns-clause-timely : goal.returns-clause-timely
returns-clause-timely c =
    subst (λ (v : WorldRecord). v.log.late ≡ 0 → IfSome c.made.result (λ count. count ≤ 1)) c.self.view_is
    (λ none. so_on_some c.made.result _ _ (λ count made. made_timely _ c.args.number count c.self.invariant made none) c.made.ensures.some)

pub returns-clause-answers : goal.returns-clause-answers
returns-clause-answers c = answered_alike c.args.self.now c.args.number
