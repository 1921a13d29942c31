-- There are no more elements than octets.
use Rattle.std.proofs.Common.{ℕ, ◌+◌, ◌≤◌, List, [], ◌∷◌, length, ap, arith, length-append}
use Rattle.gtp_ie.specs.Element.{Element}
use Rattle.gtp_ie.specs.Octets.{Spans}

pub few : (at : ℕ) (octets : List ℕ) (es : List Element) (rest : List ℕ) (place : ℕ) → Spans at octets es rest place → length es ≤ length octets
few at octets [] rest place spans = omega arith
few at octets (e ∷ es) rest place (after, (high, low, last, text, long, half, small, at_is), others) =
    let more = few (at + (4 + length e.body)) after es rest place others in
    omega (arith, more, ap length text, length-append e.body after)
