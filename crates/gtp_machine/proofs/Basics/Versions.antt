-- Octets that are no message: which of them are answered with the version that is supported, and what stays.
use Rattle.std.proofs.Common.{◌≡◌, ◌≢◌, ℕ, ◌-◌, Bool, true, false, not, cond, List, [], ◌∷◌, length, refl, arith}
use Rattle.std.specs.Prelude.{◌&&◌, ◌==◌, nat_lt}
use Rattle.std.proofs.lemmas.Bool.Decides.{Decides-eqb}
use Rattle.gtp_values.proofs.Tests.{both}
use Rattle.gtp_v2.specs.Codes.{short_number, length_number, number_of}
use Rattle.gtp_v2.specs.declared.fault.V2Fault.TheVariants as faults
use Rattle.gtp_v2.specs.VersionNotSupported.{version_not_supported}
use Rattle.gtp_machine.specs.Config.{Config}
use Rattle.gtp_machine.specs.Message.{Message, Control}
use Rattle.gtp_machine.specs.Node.{Arrival, Node}
use Rattle.gtp_machine.specs.Input.{dropped, undecodable}
use Rattle.gtp_machine.specs.Answer.{version_number, states_type, is_other_version, tells_version, version_told, undecoded}
use Rattle.gtp_machine.specs.Reading.{cut_fault, pair_cut_fault}
use Rattle.gtp_machine.specs.World.{fault_of_cut}
use Rattle.gtp_machine.specs.Spelling.{spelled}

-- only the fault of another version is
pub told_of : (config : Config) (octets : List ℕ) (fault : ℕ) → tells_version config octets fault ≡ true → fault ≡ version_number
told_of config octets fault tells =
    let others = is_other_version octets && not (states_type octets version_not_supported.kind) in
    let rest = (both config.switches.version_not_supported ((fault == version_number) && others) tells).right in
    (Decides-eqb fault version_number).0 (both (fault == version_number) others rest).left

cut_apart : (count : ℕ) → cut_fault count ≢ version_number
cut_apart count = by (nat_lt count 4)
  where
    by : (few : Bool) → cond few short_number length_number ≢ version_number
    by true same = let e : ◌≡◌ {A = ℕ} 1 2 = same in omega (arith, e)
    by false same = let e : ◌≡◌ {A = ℕ} 3 2 = same in omega (arith, e)

pair_cut_apart : (count front : ℕ) → pair_cut_fault count front ≢ version_number
pair_cut_apart count front = by (nat_lt count front) (count == front)
  where
    by : (few same : Bool) → cond few (cut_fault count) (cond same (number_of (faults.BadPiggyback front)) (cut_fault (count - front))) ≢ version_number
    by true same equal = cut_apart count equal
    by false true equal = let e : ◌≡◌ {A = ℕ} 5 2 = equal in omega (arith, e)
    by false false equal = cut_apart (count - front) equal

-- what comes cut has no such fault
pub cut_of_version : (datagram : List Message) (count : ℕ) → fault_of_cut datagram count ≢ version_number
cut_of_version [] count = cut_apart count
cut_of_version (message ∷ []) count = cut_apart count
cut_of_version (first ∷ second ∷ rest) count = pair_cut_apart count (length (spelled first))

module _ (fault : ℕ) (request : Arrival) (old : Node) where
  -- they change nothing
  pub undecoded_leaves : (undecoded fault request old).node ≡ old
  undecoded_leaves = by (tells_version old.config request.octets fault)
    where
      by : (tells : Bool) → (cond tells (version_told request old) (dropped old (undecodable Control fault))).node ≡ old
      by true = refl
      by false = refl

  -- and make nothing
  pub undecoded_makes : (undecoded fault request old).out.made ≡ []
  undecoded_makes = by (tells_version old.config request.octets fault)
    where
      by : (tells : Bool) → (cond tells (version_told request old) (dropped old (undecodable Control fault))).out.made ≡ []
      by true = refl
      by false = refl
