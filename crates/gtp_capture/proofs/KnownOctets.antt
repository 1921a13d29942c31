-- Octets that are known, before and after they are read.
use Rattle.std.proofs.Common.{ℕ, List, ◌++◌, Option, Some, None, sym, ap, ◌∙◌, subst, append-nil}
use Rattle.std.specs.Prelude.{IfSome}
use Rattle.std.specs.Io.KnownBytes.{Consumes, IsAtEnd}
use Rattle.gtp_capture.specs.Outcome.{Known}

pub known_map : (P Q : List ℕ → List ℕ → Type 0) (a b : Option (List ℕ)) → ((x y : List ℕ) → P x y → Q x y) → Known P a b → Known Q a b
known_map P Q None b f h = tt
known_map P Q (Some x) None f h = absurd h
known_map P Q (Some x) (Some y) f h = f x y h

pub known_then : (P Q R : List ℕ → List ℕ → Type 0) (a b c : Option (List ℕ)) → ((x y z : List ℕ) → P x y → Q y z → R x z) → Known P a b → Known Q b c → Known R a c
known_then P Q R None b c f h g = tt
known_then P Q R (Some x) None c f h g = absurd h
known_then P Q R (Some x) (Some y) None f h g = absurd g
known_then P Q R (Some x) (Some y) (Some z) f h g = f x y z h g

pub known_same : (P : List ℕ → List ℕ → Type 0) (a : Option (List ℕ)) → ((x : List ℕ) → P x x) → Known P a a
known_same P None f = tt
known_same P (Some x) f = f x

pub known_if : (P : List ℕ → List ℕ → Type 0) (Q : List ℕ → Type 0) (a b : Option (List ℕ)) → ((x y : List ℕ) → P x y → Q x) → Known P a b → IfSome a Q
known_if P Q None b f h = tt
known_if P Q (Some x) None f h = absurd h
known_if P Q (Some x) (Some y) f h = f x y h

-- behind a front that was read
pub read_front : (P Q : List ℕ → List ℕ → Type 0) (a b c : Option (List ℕ)) (front : List ℕ) → ((y z : List ℕ) → P y z → Q (front ++ y) z) → Consumes a b front → Known P b c → Known Q a c
read_front P Q None b c front f h g = tt
read_front P Q (Some x) None c front f h g = absurd h
read_front P Q (Some x) (Some y) None front f h g = absurd g
read_front P Q (Some x) (Some y) (Some z) front f h g = subst (λ l. Q l z) (sym h) (f y z g)

-- a front that was read
pub read_one : (Q : List ℕ → List ℕ → Type 0) (a b : Option (List ℕ)) (front : List ℕ) → ((y : List ℕ) → Q (front ++ y) y) → Consumes a b front → Known Q a b
read_one Q None b front f h = tt
read_one Q (Some x) None front f h = absurd h
read_one Q (Some x) (Some y) front f h = subst (λ l. Q l y) (sym h) (f y)

-- all that there is
pub read_all : (Q : List ℕ → List ℕ → Type 0) (a b : Option (List ℕ)) (front : List ℕ) → ((y : List ℕ) → Q front y) → Consumes a b front → IsAtEnd b → Known Q a b
read_all Q None b front f h over = tt
read_all Q (Some x) None front f h over = absurd h
read_all Q (Some x) (Some y) front f h over = subst (λ l. Q l y) (sym (h ∙ ap (λ l. front ++ l) over ∙ append-nil front)) (f y)
