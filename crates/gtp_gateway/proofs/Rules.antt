-- Rules that are tried in order: the first that is not met decides.
use Rattle.std.proofs.Common.{inl, inr}
use Rattle.gtp_machine.specs.Ordered.{Unless}

-- a rule is met, and what comes next holds
pub meets : {P Fails : Type 0} {Next : P → Type 0} (holds : P) → Next holds → Unless P Fails Next
meets holds next = inr (holds, next)

-- a rule is not met
pub breaks : {P Fails : Type 0} {Next : P → Type 0} → (P → ⊥) → Fails → Unless P Fails Next
breaks broken fails = inl (broken, fails)

-- what follows from a refusal, and from all that comes next, follows from a rule
pub follows : {G P Fails : Type 0} {Next : P → Type 0} → ((P → ⊥) → Fails → G) → ((holds : P) → Next holds → G) → Unless P Fails Next → G
follows fails next (inl f) = fails f.0 f.1
follows fails next (inr p) = next p.0 p.1
