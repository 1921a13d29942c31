-- A world is always what some run leaves.
use Rattle.std.proofs.Common.{◌≡◌, Result, Ok, Err, ◌<◌, ◌≤◌, Bool, true, false, ℕ, zero, suc, [], ◌∷◌, ◌++◌, refl, sym, ◌∙◌, subst, arith}
use Rattle.std.specs.Prelude.{IsTrue, OnOk, OnErr}
use Rattle.std.proofs.lemmas.Grind.{merely}
use mathlib.Core.Logic.{∥∥₁_elim, ∥∥₁_prop}
use Rattle.gtp_machine.specs.World.{Event}
use Rattle.gtp_world.specs.Record.{WorldRecord}
use Rattle.gtp_world.specs.Runs.{LeftBySomeRun}
use Rattle.gtp_world.specs.Stepped.{EventLeaves}
use Rattle.gtp_world.specs.Views.{IsMade}
use Rattle.gtp_world.proofs.Counts.{made_once}
use Rattle.gtp_world.proofs.Going.{run_on}
use Rattle.gtp_world.proofs.Timely.{always_timely}

-- and so it is after one event more, or where memory ran out
pub reached_on : {X E : Type 0} (r : Result X E) (event : Event) (old new : WorldRecord) → OnOk r (EventLeaves old event new) → OnErr r (new ≡ old) → ∥ LeftBySomeRun old ∥₁ → ∥ LeftBySomeRun new ∥₁
reached_on (Ok x) event old new comes same whole =
    ∥∥₁_elim whole ∥∥₁_prop (λ w. merely (record { setup = w.setup; facing = w.facing; events = w.events ++ (event ∷ []); run = run_on w.setup w.events old w.run event new comes }))
reached_on (Err e) event old new comes same whole = subst (λ (v : WorldRecord). ∥ LeftBySomeRun v ∥₁) (sym same) whole

-- what is not false, by what some run leaves, is true
pub is_so : (v : WorldRecord) (b : Bool) → ∥ LeftBySomeRun v ∥₁ → (LeftBySomeRun v → IsTrue b) → IsTrue b
is_so v true whole so = refl
is_so v false whole so = absurd (∥∥₁_elim whole (λ x y. absurd x) (λ w. let apart : false ≡ true = so w in cc apart))

-- where no delivery was late, at most one context was made for a datagram
pub made_timely : (v : WorldRecord) (number count : ℕ) → ∥ LeftBySomeRun v ∥₁ → IsMade v number count → v.log.late ≡ 0 → count ≤ 1
made_timely v number count whole made none = small count (λ many. ∥∥₁_elim whole (λ x y. absurd x) (λ w. let few = once w in omega (arith, many, few)))
  where
    once : LeftBySomeRun v → count ≤ 1
    once w =
        made_once v number count made w.setup w.events w.run made.found
        (always_timely w.setup.serving.config w.setup.packet.config w.setup.serving_counter w.setup.packet_counter w.events w.run.world w.run.run
        (sym w.run.stands.late ∙ none) _ _)

    small : (n : ℕ) → (1 < n → ⊥) → n ≤ 1
    small zero not_many = omega arith
    small (suc zero) not_many = omega arith
    small (suc (suc n)) not_many = absurd (not_many (omega arith))
