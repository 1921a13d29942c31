-- Why a replay was not written, of one fault after the other.
use Rattle.std.proofs.Common.{◌≡◌, ℕ, Result, Ok, Err, IfErr, sym, ◌∙◌, subst}
use Rattle.std.specs.Result.{IsErrAnd}
use Rattle.gtp_replay.specs.Faults.{IsMemoryOr}
use Rattle.gtp_replay.specs.declared.verdict.ReplayFault.{ReplayFault}
use Rattle.gtp_replay.specs.declared.verdict.ReplayFault.TheVariants.{Memory, Read, Write, NoPacket}

pub memory_or_weaker : (e : ReplayFault) (P Q : ℕ → Type 0) → ((number : ℕ) → P number → Q number) → IsMemoryOr e P → IsMemoryOr e Q
memory_or_weaker Memory P Q f h = h
memory_or_weaker (NoPacket number) P Q f h = f number h
memory_or_weaker Read P Q f h = h
memory_or_weaker Write P Q f h = h

-- the fault that is passed on
pub passed_on : {A : Type 0} (r : Result A ReplayFault) (e : ReplayFault) (P : ReplayFault → Type 0) → IsErrAnd r (λ f. f ≡ e) → P e → IfErr r P
passed_on (Ok a) e P is h = absurd is
passed_on (Err f) e P is h = subst P (sym is) h

pub passed_is : {A : Type 0} (r : Result A ReplayFault) (e f : ReplayFault) → IsErrAnd r (λ g. g ≡ e) → r ≡ Err f → e ≡ f
passed_is (Ok a) e f is same = absurd is
passed_is (Err g) e f is same = let here : g ≡ f = cc same in sym is ∙ here
