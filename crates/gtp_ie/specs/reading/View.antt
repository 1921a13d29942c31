-- Reading functions, for private contracts and proofs: what is found at the front of octets, and octets that are whole elements.
use Rattle.std.specs.Prelude.{ℕ, List, Option, Some, None, Result, Ok, Err, ◌≡◌, ◌+◌, ◌<◌, ◌^◌, length, option_map}
use Rattle.gtp_ie.specs.Element.{Element, elements_of}
use Rattle.std.specs.Borrow.{Bor}
use Rattle.gtp_ie.specs.declared.view.ElementView.{ElementView}
use Rattle.gtp_ie.specs.View.{element_of}

-- where the walk stops short
abbrev pub stop_of : Result (List Element) ℕ → Option ℕ
stop_of (Ok es) = None
stop_of (Err at) = Some at

-- what was found at the front
abbrev pub FrontIs : Option (ElementView × Bor (List ℕ)) → Option (Element × List ℕ) → Type 0
FrontIs found front = option_map (λ p. (element_of p.0, p.1.now)) found ≡ front

-- the octets are whole elements, and places in them are numbers of the program
pub record IsWhole (at : ℕ) (octets : List ℕ) : Type 0 where
  pub whole : stop_of (elements_of at octets) ≡ None
  pub place : at + length octets < 2 ^ 64
