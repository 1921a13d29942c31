-- The end of a block, behind octets that are passed over.
use Rattle.std.proofs.Common.{◌≡◌, ℕ, ◌+◌, ◌<◌, List, ◌++◌, length, Option, true, false, refl, sym, ap, ◌∙◌, arith, length-append, append_assoc}
use Rattle.std.specs.Prelude.{nat_eq}
use Rattle.std.specs.Io.KnownBytes.{Consumes, IsAtEnd}
use Rattle.std.proofs.lemmas.Bool.Decides.{nat_tests}
use Rattle.gtp_capture.specs.Octets.{four_at}
use Rattle.gtp_capture.specs.Outcome.{Known}
use Rattle.gtp_capture.specs.reading.Block.{Finishes, Passes}
use Rattle.gtp_capture.specs.declared.octets.Order.{Order}
use Rattle.gtp_capture.proofs.Pieces.{same_front}
use Rattle.gtp_capture.proofs.KnownOctets.{known_then, known_map, read_one, read_all}

-- there are fewer octets
pub pass_short : (a b c : Option (List ℕ)) (front got : List ℕ) (left size : ℕ) → length front + left ≡ size → Known (λ x y. x ≡ front ++ y) a b → Consumes b c got
    → IsAtEnd c → length got < left → Known (Passes size false) a c
pass_short a b c front got left size fits so then over few =
    known_then (λ x y. x ≡ front ++ y) (λ y z. y ≡ got) (Passes size false) a b c
    (λ x y z e f more rest long g. omega (arith, ap length (sym g ∙ e), length-append more rest, length-append front y, ap length f, long, fits, few))
    so (read_all (λ y z. y ≡ got) b c got (λ y. refl) then over)

-- some more octets
pub pass_more : (a b c : Option (List ℕ)) (front got : List ℕ) → Known (λ x y. x ≡ front ++ y) a b → Consumes b c got → Known (λ x y. x ≡ (front ++ got) ++ y) a c
pass_more a b c front got so then =
    known_then (λ x y. x ≡ front ++ y) (λ y z. y ≡ got ++ z) (λ x y. x ≡ (front ++ got) ++ y) a b c
    (λ x y z e f. e ∙ ap (λ l. front ++ l) f ∙ sym (append_assoc front got z)) so (read_one (λ y z. y ≡ got ++ z) b c got (λ y. refl) then)

number_not : (n m : ℕ) → nat_eq n m ≡ false → n ≡ m → ⊥
number_not n m other e = grind (arith, nat_tests)

number_is : (n m : ℕ) → nat_eq n m ≡ true → n ≡ m
number_is n m s = grind (arith, nat_tests)

-- whether four octets behind say the size
pub finish_says : (order : Order) (many size n : ℕ) (a b c : Option (List ℕ)) (tail : List ℕ) → Known (Passes many true) a b → Consumes b c tail → length tail ≡ 4
    → n ≡ four_at order 0 tail → Known (Finishes order many size (nat_eq n size)) a c
finish_says order many size n a b c tail so then four says =
    elim (nat_eq n size) as (λ v. nat_eq n size ≡ v → Known (Finishes order many size v) a c) [
      | true ↦ λ e. known_then (Passes many true) (λ y z. y ≡ tail ++ z) (Finishes order many size true) a b c
          (λ x y z p q. (p.0, record { tail = tail; held = p.1; end = four; whole = p.2 ∙ ap (λ l. p.0 ++ l) q; again = sym says ∙ number_is n size e }))
          so (read_one (λ y z. y ≡ tail ++ z) b c tail (λ y. refl) then)
      | false ↦ λ e. known_then (Passes many true) (λ y z. y ≡ tail ++ z) (Finishes order many size false) a b c
          (λ x y z p q more rest is.
          let fronts = same_front p.0 more y (is.tail ++ rest) (p.1 ∙ sym is.held) (sym p.2 ∙ is.whole) in
          let tails = same_front tail is.tail z rest (four ∙ sym is.end) (sym q ∙ fronts.1) in
          number_not n size e (says ∙ ap (four_at order 0) tails.0 ∙ is.again))
          so (read_one (λ y z. y ≡ tail ++ z) b c tail (λ y. refl) then)
    ] refl

-- fewer than four octets are behind
pub finish_short : (order : Order) (many size : ℕ) (a b c : Option (List ℕ)) (tail : List ℕ) → Known (Passes many true) a b → Consumes b c tail → IsAtEnd c
    → length tail < 4 → Known (Finishes order many size false) a c
finish_short order many size a b c tail so then over few =
    known_then (Passes many true) (λ y z. y ≡ tail) (Finishes order many size false) a b c
    (λ x y z p q more rest is.
    let fronts = same_front p.0 more y (is.tail ++ rest) (p.1 ∙ sym is.held) (sym p.2 ∙ is.whole) in
    omega (arith, ap length (sym q ∙ fronts.1), length-append is.tail rest, is.end, few))
    so (read_all (λ y z. y ≡ tail) b c tail (λ y. refl) then over)

-- there are fewer octets than are passed over
pub finish_passed : (order : Order) (many size : ℕ) (a b : Option (List ℕ)) → Known (Passes many false) a b → Known (Finishes order many size false) a b
finish_passed order many size a b short = known_map (Passes many false) (Finishes order many size false) a b (λ x y p more rest is. p more (is.tail ++ rest) is.held is.whole) short
