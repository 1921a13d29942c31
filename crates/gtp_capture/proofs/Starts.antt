-- How a capture begins.
use Rattle.std.proofs.Common.{◌≡◌, ◌≢◌, ℕ, ◌<◌, ◌≤◌, List, ◌++◌, length, Option, Some, None, refl, sym, ap, ◌∙◌, subst, arith, length-append}
use Rattle.std.specs.Prelude.{Result, Ok, Err, IfOk}
use Rattle.std.specs.Io.KnownBytes.{Consumes, IsAtEnd}
use Rattle.gtp_capture.specs.Octets.{four_at}
use Rattle.gtp_capture.specs.Frame.{Frame, IsHead, IsHeaded}
use Rattle.gtp_capture.specs.Block.{IsSection, section_type}
use Rattle.gtp_capture.specs.Capture.{State, Records, Blocks, IsStart, IsCapture}
use Rattle.gtp_capture.specs.Outcome.{Known, HasBegun, IsSectionBehind}
use Rattle.gtp_capture.specs.declared.octets.Order.{Order}
use Rattle.gtp_capture.specs.declared.octets.Order.TheVariants.{High}
use Rattle.gtp_capture.specs.declared.head.Kind.{Kind}
use Rattle.gtp_capture.specs.declared.fault.Stop.{Stop}
use Rattle.gtp_capture.specs.declared.step.Format.TheVariants as format
use Rattle.gtp_capture.specs.declared.step.Started.{Started}
use Rattle.gtp_capture.proofs.Pieces.{same_front}
use Rattle.gtp_capture.proofs.Numbers.{four_same}
use Rattle.gtp_capture.proofs.KnownOctets.{known_map, read_all, read_one, read_front}

none_starts : (file : List ℕ) → ((k : Kind) (rest : List ℕ) → IsHeaded file k rest → ⊥) → ((o : Order) (rest : List ℕ) → IsSection file o rest → ⊥)
    → (first : State) (body : List ℕ) → IsStart file first body → ⊥
none_starts file headed section (Records k) body is = headed k body is
none_starts file headed section (Blocks order is) body s = section order body s.0

no_capture : (file : List ℕ) → ((k : Kind) (rest : List ℕ) → IsHeaded file k rest → ⊥) → ((o : Order) (rest : List ℕ) → IsSection file o rest → ⊥)
    → (state : State) (frames : List Frame) (rest : List ℕ) → IsCapture file state frames rest → ⊥
no_capture file headed section state frames rest is = none_starts file headed section is.first is.body is.start

no_head : (head x : List ℕ) → length head ≡ 24 → ((k : Kind) → IsHead head k → ⊥) → (k : Kind) (rest : List ℕ) → IsHeaded (head ++ x) k rest → ⊥
no_head head x size none k rest is =
    let same = same_front head is.head x rest (size ∙ sym is.size) is.whole in
    none k (subst (λ h. IsHead h k) (sym same.0) is.kind)

section_room : (x : List ℕ) (o : Order) (rest : List ℕ) → IsSection x o rest → 28 ≤ length x
section_room x o rest is =
    omega (
      arith,
      ap length is.block.whole,
      length-append is.head (is.body ++ (is.block.tail ++ rest)),
      length-append is.body (is.block.tail ++ rest),
      length-append is.block.tail rest,
      is.block.start,
      is.block.end,
      is.room,
    )

-- fewer octets than a head has
pub start_short : (a b : Option (List ℕ)) (front : List ℕ) → Consumes a b front → IsAtEnd b → length front < 24 → Known (HasBegun None) a b
start_short a b front so over few =
    read_all (HasBegun None) a b front
    (λ y. no_capture front (λ k rest is. omega (arith, ap length is.whole, length-append is.head rest, is.size, few))
    (λ o rest is. omega (arith, section_room front o rest is, few))) so over

pub start_records : (a b : Option (List ℕ)) (head : List ℕ) (k : Kind) → Consumes a b head → length head ≡ 24 → IsHead head k
    → Known (HasBegun (Some (record { format = format.Records k; size = 24 }))) a b
start_records a b head k so size is =
    let s : Started = record { format = format.Records k; size = 24 } in
    read_one (HasBegun (Some s)) a b head (λ y. (record { head = head; size = size; whole = refl; kind = is }, omega (arith, length-append head y, size))) so

pub start_other : (a b : Option (List ℕ)) (head : List ℕ) → Consumes a b head → length head ≡ 24 → ((k : Kind) → IsHead head k → ⊥) → four_at High 0 head ≢ section_type → Known (HasBegun None) a b
start_other a b head so size none other =
    read_one (HasBegun None) a b head (λ y. no_capture (head ++ y) (no_head head y size none) (λ o rest is.
    other (four_same High 0 head is.head y (is.body ++ (is.block.tail ++ rest)) is.block.whole (omega (arith, size)) (omega (arith, is.block.start)) ∙ is.type))) so

pub section_wanting : (a b : Option (List ℕ)) (head one two : List ℕ) → length head ≡ 24 → head ≡ one ++ two → ((k : Kind) → IsHead head k → ⊥)
    → Known (IsSectionBehind (one ++ two) None) a b → Known (λ octets left. HasBegun None (head ++ octets) left) a b
section_wanting a b head one two size parts none wants =
    known_map (IsSectionBehind (one ++ two) None) (λ octets left. HasBegun None (head ++ octets) left) a b
    (λ x y f. no_capture (head ++ x) (no_head head x size none) (λ o rest is. f o rest (subst (λ l. IsSection (l ++ x) o rest) parts is))) wants

pub section_first : (a b : Option (List ℕ)) (head one two : List ℕ) (o : Order) (size : ℕ) → head ≡ one ++ two
    → Known (IsSectionBehind (one ++ two) (Some (o, size))) a b
    → Known (λ octets left. HasBegun (Some (record { format = format.Blocks o; size = size })) (head ++ octets) left) a b
section_first a b head one two o size parts found =
    let s : Started = record { format = format.Blocks o; size = size } in
    known_map (IsSectionBehind (one ++ two) (Some (o, size))) (λ octets left. HasBegun (Some s) (head ++ octets) left) a b
    (λ x y f. ((subst (λ l. IsSection (l ++ x) o y) (sym parts) f.0, refl), f.1 ∙ ap (λ l. length (l ++ x)) (sym parts))) found

-- a head that was read before
pub start_next : (a b c : Option (List ℕ)) (head : List ℕ) (r : Result (Option Started) Stop) → Consumes a b head
    → IfOk r (λ s. Known (λ octets left. HasBegun s (head ++ octets) left) b c) → IfOk r (λ s. Known (HasBegun s) a c)
start_next a b c head (Ok s) so then = read_front (λ octets left. HasBegun s (head ++ octets) left) (HasBegun s) a b c head (λ y z h. h) so then
start_next a b c head (Err e) so then = tt
