-- A command begins a request, or leaves what ticks and draws go by.
use Rattle.std.proofs.Common.{◌≡◌, ◌≢◌, ◌⊎◌, inl, inr, ℕ, Option, None, refl, sym, ◌∙◌, ap}
use Rattle.gtp_machine.specs.declared.outcome.Outcome.TheVariants.{Begun}
use Rattle.gtp_machine.specs.declared.outcome.Refusal.{Refusal}
use Rattle.gtp_machine.specs.declared.role.Role.{Role}
use Rattle.gtp_machine.specs.declared.role.Role.TheVariants.{Serving, Packet}
use Rattle.gtp_machine.specs.Node.{Node}
use Rattle.gtp_machine.specs.Input.{Command, Create_session, Delete_session, Create_bearer, Delete_bearer, Release_session, Mark_end, Send_echo}
use Rattle.gtp_machine.specs.Input.{Send_user, Commanded, EventOutcome, Came_to, Effect, refused}
use Rattle.gtp_machine.specs.Ordered.{Unless}
use Rattle.gtp_machine.specs.Command.{CommandStep}
use Rattle.gtp_machine.specs.Determined.{unchosen}

-- no request is begun, and what ticks and draws go by stays
pub record IsQuiet (old : Node) (e : Effect) : Type 0 where
  pub begins_none : (teid : Option ℕ) → e.outcome ≢ Came_to (Begun teid)
  pub pending : e.node.pending ≡ old.pending
  pub held : e.node.held ≡ old.held
  pub counter : e.node.counter ≡ old.counter
  pub drawn : e.node.drawn ≡ old.drawn

-- a request is begun
abbrev pub IsBegun : Effect → Type 0
IsBegun e = (teid : Option ℕ) × (e.outcome ≡ Came_to (Begun teid))

-- each effect of the rule is one or the other
abbrev Either : Node → (Effect → Type 0) → Type 0
Either old Rule = (e : Effect) → Rule e → IsBegun e ⊎ IsQuiet old e

module _ (old : Node) where
  module _ {P : Type 0} {Fails : Effect → Type 0} where
    unless : {Next : P → Effect → Type 0} → Either old Fails → ((p : P) → Either old (Next p)) → Either old (λ e. Unless P (Fails e) (λ p. Next p e))
    unless fails next e (inl f) = fails e f.1
    unless fails next e (inr n) = next n.0 e n.1

  says : {f : Effect} → IsQuiet old f → Either old (λ e. e ≡ f)
  says {f} quiet e is = inr (record {
    begins_none = λ teid begun. quiet.begins_none teid (sym (ap (λ (k : Effect). k.outcome) is) ∙ begun);
    pending = ap (λ (k : Effect). k.node.pending) is ∙ quiet.pending;
    held = ap (λ (k : Effect). k.node.held) is ∙ quiet.held;
    counter = ap (λ (k : Effect). k.node.counter) is ∙ quiet.counter;
    drawn = ap (λ (k : Effect). k.node.drawn) is ∙ quiet.drawn;
  })

  refuses : {why : Refusal} → Either old (λ e. e ≡ refused old why)
  refuses = says (record { begins_none = λ teid e. cc e; pending = refl; held = refl; counter = refl; drawn = refl })

  begins : {f : Effect} (teid : Option ℕ) → f.outcome ≡ Came_to (Begun teid) → Either old (λ e. e ≡ f)
  begins teid begun e is = inl (teid, ap (λ (k : Effect). k.outcome) is ∙ begun)

  -- what a command comes to
  pub commanded : (role : Role) (c : Command) → Either old (CommandStep role c old)
  commanded Packet (Create_session spec) = refuses
  commanded Serving (Create_session spec) = unless refuses (λ room. unless refuses (λ draws. unless refuses (λ few e r. begins _ refl e r.gives)))
  commanded Packet (Delete_session session) = refuses
  commanded Serving (Delete_session session) = unless refuses (λ at. unless refuses (λ active. unless refuses (λ few e r. begins _ refl e r.gives)))
  commanded Serving (Create_bearer session tft qos) = refuses
  commanded Packet (Create_bearer session tft qos) = unless refuses (λ at. unless refuses (λ active. unless refuses (λ draws. unless refuses (λ few e r. begins _ refl e r.gives))))
  commanded Serving (Delete_bearer session identity) = refuses
  commanded Packet (Delete_bearer session identity) = unless refuses (λ at. unless refuses (λ named. unless refuses (λ active. unless refuses (λ few e r. begins _ refl e r.gives))))
  commanded Serving (Release_session session) = refuses
  commanded Packet (Release_session session) = unless refuses (λ at. unless refuses (λ active. unless refuses (λ few e r. begins _ refl e r.gives)))
  commanded Serving (Mark_end bearer) = refuses
  commanded Packet (Mark_end bearer) =
      unless refuses (λ at. unless refuses
      (λ active. unless refuses (λ before. says (record { begins_none = λ teid e. cc e; pending = refl; held = refl; counter = refl; drawn = refl }))))
  commanded role Send_echo = unless refuses (λ few e r. begins _ refl e r.gives)
  commanded role (Send_user bearer payload) =
      unless refuses (λ at. unless refuses (λ active. unless refuses (λ goes. unless refuses
      (λ short e r. says (record { begins_none = λ teid e. cc e; pending = refl; held = refl; counter = refl; drawn = refl }) e r.gives))))

-- an outcome that is that of a request, but for its TEID, is one
pub unchosen_begun : (c : Command) (o : EventOutcome) → unchosen (Commanded c) o ≡ Came_to (Begun None) → ((teid : Option ℕ) → o ≢ Came_to (Begun teid)) → ⊥
unchosen_begun c (Came_to (Begun teid)) is none = none teid refl
unchosen_begun c o is none = none None is
