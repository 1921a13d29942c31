use Rattle.std.proofs.Common.{ℕ, true, false, [], ◌∷◌, Some, refl, sym, subst}
use Rattle.gtp_values.specs.declared.cause.Cause.{Cause}
use Rattle.gtp_ie.specs.Free.{SaysTheSame}
use Rattle.gtp_ie.specs.Value.{OfEbi, OfCause, encoding_of}
use Rattle.gtp_codec_tests.proofs.elements.values_are_read_again.Goals as goal

pub read_again-requires : goal.read_again-requires
unfolding encoding_of
read_again-requires g c = subst (λ (n : ℕ). SaysTheSame 73 (encoding_of (OfEbi n)) (245 ∷ 9 ∷ [])) (sym c.new.ensures) (record { same = refl })

abbrev refused : ℕ → Cause
refused instance = record { value = 64; pce = false; bce = true; cs = false; offending = Some (record { kind = 73; instance = instance }) }

pub read_again-requires-2 : goal.read_again-requires-2
unfolding encoding_of
read_again-requires-2 g c = subst (λ (n : ℕ). SaysTheSame 2 (encoding_of (OfCause (refused n))) (64 ∷ 250 ∷ 73 ∷ 1 ∷ 2 ∷ 244 ∷ 9 ∷ [])) (sym c.new-2.ensures) (record { same = refl })
