-- Copying octets over zeros pads them.
use Rattle.std.proofs.Common.{ℕ, List, ◌++◌, length, drop, refl, ap}
use Rattle.std.proofs.Math.ListN.{replicate}
use Rattle.std.proofs.lemmas.List.{take_at, drop-replicate}
use Rattle.gtp_values.specs.Padded.{IsPadded}

pub fills : (n : ℕ) (xs : List ℕ) → IsPadded n (xs ++ drop (length xs) (replicate n 0)) (length xs)
fills n xs =
    let front = take_at xs (drop (length xs) (replicate n 0)) (length xs) refl in
    record { zeros = rw (front, drop-replicate) refl; count = ap length front }
