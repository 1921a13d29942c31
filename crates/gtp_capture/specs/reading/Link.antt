-- What stands before an IP packet in a frame, by one reading.
use Rattle.std.specs.Prelude.{ℕ, List, [], ◌∷◌, Option, Some, None, if◌then◌else◌}
use Rattle.std.specs.Int.{w16, from_be_bytes}
use Rattle.gtp_capture.specs.Link.{is_tag}
use Rattle.gtp_capture.specs.declared.link.Typed.{Typed as Held}

-- a type, and the octets that have it
pub record Typed : Type 0 where
  pub kind : ℕ
  pub inside : List ℕ

abbrev pub typed_of : Held → Typed
typed_of t = record { kind = t.kind; inside = t.inside.now }

abbrev pub typed : ℕ → List ℕ → Typed
typed kind inside = record { kind = kind; inside = inside }

-- behind the tags
abbrev pub untagged : ℕ → List ℕ → Option Typed
untagged kind (a ∷ b ∷ c ∷ d ∷ octets) = if is_tag kind then untagged (from_be_bytes w16 (c ∷ d ∷ [])) octets else Some (typed kind (a ∷ b ∷ c ∷ d ∷ octets))
untagged kind (a ∷ b ∷ c ∷ []) = if is_tag kind then None else Some (typed kind (a ∷ b ∷ c ∷ []))
untagged kind (a ∷ b ∷ []) = if is_tag kind then None else Some (typed kind (a ∷ b ∷ []))
untagged kind (a ∷ []) = if is_tag kind then None else Some (typed kind (a ∷ []))
untagged kind [] = if is_tag kind then None else Some (typed kind [])
