-- The dedicated bearer that a command names.
use Rattle.std.proofs.Common.{◌≡◌, ◌↔◌, ℕ, Bool, true, false, Some, refl, sym, ◌∙◌, ap, subst, Result}
use Rattle.std.specs.Prelude.{◌==◌}
use Rattle.std.specs.FinMap.{get}
use mathlib.Core.Logic.{∥∥₁_elim}
use Rattle.gtp_machine.specs.Command.{NamesBearer}
use Rattle.gtp_machine.specs.Ordered.{Unless}
use Rattle.gtp_machine.specs.Input.{refused}
use Rattle.gtp_machine.specs.Node as nodes
use Rattle.gtp_machine.specs.Node.{Bearer}
use Rattle.gtp_machine.specs.Sound.{IsSound}
use Rattle.gtp_machine.specs.declared.outcome.Refusal.{Refusal}
use Rattle.gtp_gateway.specs.declared.command.delete_bearer.Dedicated.{Dedicated}
use Rattle.gtp_gateway.specs.declared.fault.CommandFault.{CommandFault}
use Rattle.gtp_gateway.specs.declared.sent.Begun.{Begun}
use Rattle.gtp_values.proofs.Tests.{unequal, same_number}
use Rattle.gtp_machine.proofs.Basics.Facts.{one_value}
use Rattle.gtp_gateway.specs.command.DeleteBearer.{IsDedicated}
use Rattle.gtp_gateway.specs.GatewayState.{GatewayState, IsSoundState}
use Rattle.gtp_gateway.proofs.Columns.{Told, goes}

module _ (s : GatewayState) (whole : IsSoundState s) (session identity : ℕ) where
  -- two bearers of the session with the identity stand under one TEID
  pub one_named : (t k : ℕ) (b d : Bearer) → get s.node.bearers t ≡ Some b → b.session ≡ session → b.identity ≡ Some identity → get s.node.bearers k ≡ Some d
      → d.session ≡ session → d.identity ≡ Some identity → t ≡ k
  one_named t k b d b_stands b_of b_has d_stands d_of d_has = by (t == k) refl
    where
      none : IsSound s.role s.node → (t == k) ≡ false → ⊥
      none sound differ = unequal t k differ (sound.contexts.apart t k b d identity b_stands d_stands (b_of ∙ sym d_of) b_has d_has)

      by : (e : Bool) → (t == k) ≡ e → t ≡ k
      by true same = same_number t k same
      by false differ = absurd (∥∥₁_elim whole (λ x y. absurd x) (λ sound. none sound differ))

  -- where the bearer with the identity is not a dedicated one, none is
  pub not_named : (t : ℕ) (b : Bearer) → get s.node.bearers t ≡ Some b → b.session ≡ session → b.identity ≡ Some identity → (b.kind ≡ nodes.Dedicated → ⊥) → NamesBearer s.node session identity → ⊥
  not_named t b stands of has not named =
      let same : t ≡ named.key = one_named t named.key b named.at.bearer stands of has named.at.stands named.of named.has in
      let one : b ≡ named.at.bearer = one_value (get s.node.bearers t) b named.at.bearer stands (ap (get s.node.bearers) same ∙ named.at.stands) in
      not (ap (λ (x : Bearer). x.kind) one ∙ named.dedicated)

  -- the rules after the look-up look at no more than that bearer
  pub goes_named : (r : Result Begun CommandFault) (Rest : ℕ → Bearer → Type 0) (d : Dedicated) (reason why : Refusal) → IsDedicated s.node session identity d
      → Told r why ↔ Rest d.teid d.bearer → Told r why
      ↔ Unless (NamesBearer s.node session identity) (refused s.node why ≡ refused s.node reason) (λ named. Rest named.key named.at.bearer)
  goes_named r Rest d reason why is rest =
      goes s.node r {P = NamesBearer s.node session identity} {Next = λ named. Rest named.key named.at.bearer} reason why
      (record { key = d.teid; at = record { bearer = d.bearer; stands = is.stands }; of = is.of; dedicated = is.dedicated; has = is.has })
      (λ named.
      let same : d.teid ≡ named.key = one_named d.teid named.key d.bearer named.at.bearer is.stands is.of is.has named.at.stands named.of named.has in
      let one : d.bearer ≡ named.at.bearer = one_value (get s.node.bearers d.teid) d.bearer named.at.bearer is.stands (ap (get s.node.bearers) same ∙ named.at.stands) in
      subst (λ (k : ℕ). Told r why ↔ Rest k named.at.bearer) same (subst (λ (x : Bearer). Told r why ↔ Rest d.teid x) one rest))
