-- What a walk over elements answers.
use Rattle.std.specs.Prelude.{◌≡◌, ℕ, List, Result, Ok, Err, IfOk, IfErr}
use Rattle.gtp_ie.specs.declared.elements.Elements.{Elements}
use Rattle.gtp_ie.specs.declared.fault.IeFault.{IeFault}
use Rattle.gtp_ie.specs.declared.fault.IeFault.TheVariants.{Truncated}
use Rattle.gtp_ie.specs.Element.{Element}
use Rattle.gtp_ie.specs.Octets.{AreElements, IsCut}

-- the elements, or the place of the first one that isn't whole
abbrev pub IsWalked : Result Elements IeFault → Result (List Element) ℕ → Type 0
IsWalked (Ok es) walked = walked ≡ Ok es
IsWalked (Err f) (Err at) = f ≡ Truncated at
IsWalked (Err f) (Ok es) = ⊥

-- what is answered of octets from a place on: the elements that they are, or the place of the first one that isn't whole
pub record FindsElements (base : ℕ) (octets : List ℕ) (result : Result Elements IeFault) : Type 0 where
  pub found : IfOk result (λ es. AreElements base octets es)
  pub only : (es : List Element) → AreElements base octets es → result ≡ Ok es
  pub cut : IfErr result (λ f. (at : ℕ) × (f ≡ Truncated at) × IsCut base octets at)
  pub first : (at : ℕ) → IsCut base octets at → result ≡ Err (Truncated at)
