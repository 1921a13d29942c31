-- What a block means, of which the front is kept.
use Rattle.std.proofs.Common.{◌≡◌, ℕ, ◌+◌, ◌*◌, ◌≤◌, List, [], ◌∷◌, ◌++◌, length, take, drop, min, Option, Some, None, true, false, refl, sym, ap}
use Rattle.std.proofs.Common.{◌∙◌, subst, arith, append-nil, length-append, length-drop, inl, inr}
use Rattle.std.specs.Prelude.{IfSome, IfNone, slice_get}
use Rattle.std.proofs.lemmas.List.{drop-append-le}
use lib.Seq.{take-append-le}
use Rattle.gtp_capture.specs.Octets.{pair_at, four_at}
use Rattle.gtp_capture.specs.Clock.{time_at}
use Rattle.gtp_capture.specs.Frame.{Frame}
use Rattle.gtp_capture.specs.Block.{IsInterface, IsTimed, IsTimedOf, IsSimple, IsSimpleOf, IsPacketBlock, is_read}
use Rattle.gtp_capture.specs.Capture.{Piece, Holds, Begins, Describes, Passes, IsMeant}
use Rattle.gtp_capture.specs.Outcome.{frame_of}
use Rattle.gtp_capture.specs.reading.Block.{IsFront}
use Rattle.gtp_capture.specs.declared.captured.Time.{Time}
use Rattle.gtp_capture.specs.declared.octets.Order.{Order}
use Rattle.gtp_capture.specs.declared.interface.Interface.{Interface}
use Rattle.gtp_capture.specs.declared.step.Head.{Head}
use Rattle.gtp_capture.proofs.Figures.{some_is}
use Rattle.gtp_capture.proofs.Numbers.{four_left, pair_left}

-- what is kept is all of a small block, and at the least the octets before a frame's
pub all_kept : (front more : List ℕ) (size : ℕ) → length front ≡ min size 262164 → size ≤ 262144 → IsFront front more size → front ++ more ≡ front
all_kept front [] size kept small fits = append-nil front
all_kept front (x ∷ more) size kept small fits = absurd (omega (arith, kept, small, fits))

part_same : (n at : ℕ) (front more : List ℕ) → at + n ≤ length front → take n (drop at front) ≡ take n (drop at (front ++ more))
part_same n at front more room =
    sym (ap (take n) (drop-append-le at front more (omega (arith, room))) ∙ take-append-le n (drop at front) more (omega (arith, room, length-drop at front)))

pub timed_is : (order : Order) (i : Interface) (size : ℕ) (front : List ℕ) (time : Time) (had held : ℕ) → length front ≡ min size 262164 → 20 ≤ size
    → held ≤ 262144 → 20 + held ≤ size → held ≡ four_at order 12 front → had ≡ four_at order 16 front
    → time ≡ time_at i.resolution i.offset (4294967296 * four_at order 4 front + four_at order 8 front)
    → (more : List ℕ) → IsFront front more size → IsTimed order i (front ++ more) (frame_of (record { time = time; link = i.link; had = had; at = 20; held = held }) front)
timed_is order i size front time had held kept some limit room says hads times more fits =
    let long : 20 ≤ length front = omega (arith, kept, some) in
    let held_is : held ≡ four_at order 12 (front ++ more) = says ∙ sym (four_left order 12 front more (omega (arith, long))) in
    record {
      room = omega (arith, held_is, room, fits, length-append front more);
      limit = omega (arith, held_is, limit);
      time = times ∙ ap (λ n. time_at i.resolution i.offset (4294967296 * n + four_at order 8 front)) (sym (four_left order 4 front more (omega (arith, long))))
          ∙ ap (λ n. time_at i.resolution i.offset (4294967296 * four_at order 4 (front ++ more) + n)) (sym (four_left order 8 front more (omega (arith, long))));
      link = refl;
      had = hads ∙ sym (four_left order 16 front more (omega (arith, long)));
      octets = part_same held 20 front more (omega (arith, kept, limit, room)) ∙ ap (λ n. take n (drop 20 (front ++ more))) held_is;
    }

pub timed_none : (order : Order) (is : List Interface) (n size : ℕ) (front : List ℕ) (i : Interface) (r : Option Head) → slice_get is n ≡ Some i
    → IfNone r ((more : List ℕ) (f : Frame) → IsFront front more size → IsTimed order i (front ++ more) f → ⊥)
    → IfNone r ((more : List ℕ) (f : Frame) → IsFront front more size → IsTimedOf order is n (front ++ more) f → ⊥)
timed_none order is n size front i (Some h) at none = tt
timed_none order is n size front i None at none = λ more f fits timed. none more f fits (subst (λ k. IsTimed order k (front ++ more) f) (some_is (sym timed.1 ∙ at)) timed.2)

pub simple_none : (order : Order) (is : List Interface) (size : ℕ) (front : List ℕ) (i : Interface) (r : Option Head) → slice_get is 0 ≡ Some i
    → IfNone r ((more : List ℕ) (f : Frame) → IsFront front more size → IsSimple order i (front ++ more) f → ⊥)
    → IfNone r ((more : List ℕ) (f : Frame) → IsFront front more size → IsSimpleOf order is (front ++ more) f → ⊥)
simple_none order is size front i (Some h) at none = tt
simple_none order is size front i None at none = λ more f fits simple. none more f fits (subst (λ k. IsSimple order k (front ++ more) f) (some_is (sym simple.1 ∙ at)) simple.2)

-- by the block's type
pub simple_alone : (order : Order) (is : List Interface) (kind size : ℕ) (front : List ℕ) (r : Option Head) → kind ≡ 3
    → IfNone r ((more : List ℕ) (f : Frame) → IsFront front more size → IsSimpleOf order is (front ++ more) f → ⊥)
    → IfNone r ((more : List ℕ) (f : Frame) → IsFront front more size → IsPacketBlock order is kind (front ++ more) f → ⊥)
simple_alone order is kind size front (Some h) e none = tt
simple_alone order is kind size front None e none = λ more f fits packet. elim packet [
  | inl p ↦ absurd (omega (arith, e, p.0))
  | inr q ↦ elim q [ inl p ↦ absurd (omega (arith, e, p.0)) | inr p ↦ none more f fits p.1 ]
]

pub four_found : (order : Order) (is : List Interface) (kind n size : ℕ) (front : List ℕ) (r : Option Head) → kind ≡ 6 → n ≡ four_at order 0 front
    → 4 ≤ length front → IfSome r (λ h. (more : List ℕ) → IsFront front more size → IsTimedOf order is n (front ++ more) (frame_of h front))
    → IfSome r (λ h. (more : List ℕ) → IsFront front more size → IsPacketBlock order is kind (front ++ more) (frame_of h front))
four_found order is kind n size front None e at room found = tt
four_found order is kind n size front (Some h) e at room found =
    λ more fits.
    inl (e, subst (λ m. IsTimedOf order is m (front ++ more) (frame_of h front)) (at ∙ sym (four_left order 0 front more room)) (found more fits))

pub four_alone : (order : Order) (is : List Interface) (kind n size : ℕ) (front : List ℕ) (r : Option Head) → kind ≡ 6 → n ≡ four_at order 0 front
    → 4 ≤ length front → IfNone r ((more : List ℕ) (f : Frame) → IsFront front more size → IsTimedOf order is n (front ++ more) f → ⊥)
    → IfNone r ((more : List ℕ) (f : Frame) → IsFront front more size → IsPacketBlock order is kind (front ++ more) f → ⊥)
four_alone order is kind n size front (Some h) e at room none = tt
four_alone order is kind n size front None e at room none = λ more f fits packet. elim packet [
  | inl p ↦ none more f fits (subst (λ m. IsTimedOf order is m (front ++ more) f) (four_left order 0 front more room ∙ sym at) p.1)
  | inr q ↦ elim q [ inl p ↦ absurd (omega (arith, e, p.0)) | inr p ↦ absurd (omega (arith, e, p.0)) ]
]

pub pair_found : (order : Order) (is : List Interface) (kind n size : ℕ) (front : List ℕ) (r : Option Head) → kind ≡ 2 → n ≡ pair_at order 0 front
    → 2 ≤ length front → IfSome r (λ h. (more : List ℕ) → IsFront front more size → IsTimedOf order is n (front ++ more) (frame_of h front))
    → IfSome r (λ h. (more : List ℕ) → IsFront front more size → IsPacketBlock order is kind (front ++ more) (frame_of h front))
pair_found order is kind n size front None e at room found = tt
pair_found order is kind n size front (Some h) e at room found =
    λ more fits. inr
    (inl (e, subst (λ m. IsTimedOf order is m (front ++ more) (frame_of h front)) (at ∙ sym (pair_left order 0 front more room)) (found more fits)))

pub pair_alone : (order : Order) (is : List Interface) (kind n size : ℕ) (front : List ℕ) (r : Option Head) → kind ≡ 2 → n ≡ pair_at order 0 front
    → 2 ≤ length front → IfNone r ((more : List ℕ) (f : Frame) → IsFront front more size → IsTimedOf order is n (front ++ more) f → ⊥)
    → IfNone r ((more : List ℕ) (f : Frame) → IsFront front more size → IsPacketBlock order is kind (front ++ more) f → ⊥)
pair_alone order is kind n size front (Some h) e at room none = tt
pair_alone order is kind n size front None e at room none = λ more f fits packet. elim packet [
  | inl p ↦ absurd (omega (arith, e, p.0))
  | inr q ↦ elim q [ inl p ↦ none more f fits (subst (λ m. IsTimedOf order is m (front ++ more) f) (pair_left order 0 front more room ∙ sym at) p.1) | inr p ↦ absurd (omega (arith, e, p.0)) ]
]

pub described_none : (order : Order) (size : ℕ) (front : List ℕ) (r : Option Interface) → length front ≡ min size 262164 → size ≤ 262144 → IfNone r ((i : Interface) → IsInterface order front i → ⊥)
    → IfNone r ((more : List ℕ) (i : Interface) → IsFront front more size → IsInterface order (front ++ more) i → ⊥)
described_none order size front (Some i) kept small none = tt
described_none order size front None kept small none = λ more i fits is. none i (subst (λ l. IsInterface order l i) (all_kept front more size kept small fits) is)

pub described_found : (order : Order) (size : ℕ) (front : List ℕ) (r : Option Interface) → length front ≡ min size 262164 → size ≤ 262144 → IfSome r (λ i. IsInterface order front i)
    → IfSome r (λ i. (more : List ℕ) → IsFront front more size → IsInterface order (front ++ more) i)
described_found order size front None kept small found = tt
described_found order size front (Some i) kept small found = λ more fits. subst (λ l. IsInterface order l i) (sym (all_kept front more size kept small fits)) found

true_not : true ≡ false → ⊥
true_not e = cc

pub not_described : (order : Order) (is : List Interface) (kind size : ℕ) (front : List ℕ) → kind ≡ 1
    → ((more : List ℕ) (i : Interface) → IsFront front more size → IsInterface order (front ++ more) i → ⊥)
    → (more : List ℕ) (p : Piece) → IsFront front more size → IsMeant order is kind (front ++ more) p → ⊥
not_described order is kind size front e none more (Holds f) fits m = elim m [ inl p ↦ omega (arith, e, p.0) | inr q ↦ elim q [ inl p ↦ omega (arith, e, p.0) | inr p ↦ omega (arith, e, p.0) ] ]
not_described order is kind size front e none more (Begins o) fits m = m
not_described order is kind size front e none more (Describes i) fits m = none more i fits m.1
not_described order is kind size front e none more Passes fits m = true_not (sym (ap is_read e) ∙ m)

pub no_packet : (order : Order) (is : List Interface) (kind size : ℕ) (front : List ℕ) → is_read kind ≡ true → (kind ≡ 1 → ⊥)
    → ((more : List ℕ) (f : Frame) → IsFront front more size → IsPacketBlock order is kind (front ++ more) f → ⊥)
    → (more : List ℕ) (p : Piece) → IsFront front more size → IsMeant order is kind (front ++ more) p → ⊥
no_packet order is kind size front read other none more (Holds f) fits m = none more f fits m
no_packet order is kind size front read other none more (Begins o) fits m = m
no_packet order is kind size front read other none more (Describes i) fits m = other m.0
no_packet order is kind size front read other none more Passes fits m = true_not (sym read ∙ m)
