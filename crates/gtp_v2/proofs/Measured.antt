-- How long the text of rows is.
use Rattle.std.proofs.Common.{◌≡◌, ℕ, List, [], ◌∷◌, length, refl, arith}
use Rattle.std.proofs.lemmas.List.{length-append}
use Rattle.gtp_ie.specs.Text.{element_encoding}
use Rattle.gtp_ie.specs.Value.{Value, encoding_of}
use Rattle.gtp_v2.specs.Text.{value_encoding, several_encoding}
use Rattle.gtp_v2.specs.Room.{value_length, several_length}

pub value_measured : (kind instance : ℕ) (values : List Value) → length (value_encoding kind instance values) ≡ value_length values
unfolding value_encoding
value_measured kind instance [] = refl
value_measured kind instance (v ∷ values) = omega arith

pub several_measured : (kind instance : ℕ) (values : List Value) → length (several_encoding kind instance values) ≡ several_length values
unfolding several_encoding
several_measured kind instance [] = refl
several_measured kind instance (v ∷ values) =
    let one = length-append (element_encoding kind instance (encoding_of v)) (several_encoding kind instance values) in
    let others = several_measured kind instance values in
    omega arith

pub ruleset measuring = (length-append, value_measured, several_measured)
