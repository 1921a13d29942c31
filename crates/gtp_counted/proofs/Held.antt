-- The first octets of those that are held and of more.
use Rattle.std.proofs.Common.{◌≡◌, ℕ, ◌+◌, ◌-◌, ◌≤◌, min, List, ◌++◌, length, take, sym, ap, ◌∙◌, arith}
use Rattle.std.proofs.lemmas.List.{take_min}
use Rattle.std.proofs.Math.Seq.{take-append-add}

pub held_within : (most : ℕ) (held more : List ℕ) → length held ≤ most → held ++ take (min (most - length held) (length more)) more ≡ take most (held ++ more)
held_within most held more room =
    let whole : length held + (most - length held) ≡ most = omega (arith, room) in
    ap (λ l. held ++ l) (take_min (most - length held) more) ∙ sym (take-append-add held more (most - length held)) ∙ ap (λ n. take n (held ++ more)) whole
