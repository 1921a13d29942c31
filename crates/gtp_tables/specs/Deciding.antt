-- Tests that a caller hands in.
use Rattle.std.specs.Prelude.{◌≡◌, Bool}

-- a test that says this of a value answers so
abbrev pub Answers : {X : Type 0} → (X → Bool → Type 0) → (X → Bool) → Type 0
Answers {X} Says goes = (x : X) (b : Bool) → Says x b → b ≡ goes x
