-- Blocks, and octets at whose start none stands.
use Rattle.std.proofs.Common.{◌≡◌, ◌≢◌, ℕ, ◌+◌, ◌%◌, ◌<◌, ◌≤◌, List, [], ◌++◌, length, take, drop, Option, Some, None, refl, sym, ap, ◌∙◌, subst}
use Rattle.std.proofs.Common.{arith, length-append, append_assoc, append-nil, inl, inr, length-take-le, length-drop, take-append-drop}
use Rattle.std.specs.Prelude.{true, false, Result, Ok, Err, IfOk}
use Rattle.std.specs.Io.KnownBytes.{Consumes, IsAtEnd}
use Rattle.gtp_capture.specs.Octets.{four_at}
use Rattle.gtp_capture.specs.Block.{IsBlock, IsSection, section_type, order_number}
use Rattle.gtp_capture.specs.Capture.{Blocks, Piece, IsMeant, IsBroken}
use Rattle.gtp_capture.specs.Outcome.{IsStep, Steps, StepsBehind, IsSectionBehind, Known, piece_of}
use Rattle.gtp_capture.specs.reading.Block.{IsFinish, Finishes}
use Rattle.gtp_capture.specs.declared.octets.Order.{Order}
use Rattle.gtp_capture.specs.declared.octets.Order.TheVariants.{High, Low}
use Rattle.gtp_capture.specs.declared.interface.Interface.{Interface}
use Rattle.gtp_capture.specs.declared.step.Found.{Found}
use Rattle.gtp_capture.specs.declared.step.Item.{Item}
use Rattle.gtp_capture.specs.declared.step.Item.TheVariants as item
use Rattle.gtp_capture.specs.declared.step.Step.{Step}
use Rattle.gtp_capture.specs.declared.step.Step.TheVariants as step
use Rattle.gtp_capture.specs.declared.fault.Stop.{Stop}
use Rattle.gtp_capture.proofs.Pieces.{same_front}
use Rattle.gtp_capture.proofs.KnownOctets.{read_all, read_front, known_same, known_map}
use Rattle.gtp_capture.proofs.Numbers.{four_same}

-- a block's head is the head that was read, and what it holds follows
block_front : (order : Order) (head y h b rest : List ℕ) → length head ≡ 8 → (is : IsBlock order (head ++ y) h b rest) → (head ≡ h) × (y ≡ b ++ (is.tail ++ rest))
block_front order head y h b rest size is = same_front head h y (b ++ (is.tail ++ rest)) (size ∙ sym is.start) is.whole

-- how many octets it holds
block_size : (order : Order) (head y h b rest : List ℕ) → length head ≡ 8 → IsBlock order (head ++ y) h b rest → four_at order 4 head ≡ 12 + length b
block_size order head y h b rest size is = ap (four_at order 4) (block_front order head y h b rest size is).0 ∙ is.size

block_room : (order : Order) (head y h b rest : List ℕ) → length head ≡ 8 → IsBlock order (head ++ y) h b rest → length b + 4 ≤ length y
block_room order head y h b rest size is =
    let front = block_front order head y h b rest size is in
    omega (arith, ap length front.1, length-append b (is.tail ++ rest), length-append is.tail rest, is.end)

abbrev NoBlock : Order → List ℕ → Type 0
NoBlock order x = (h b rest : List ℕ) → IsBlock order x h b rest → ⊥

-- a size that no block has
bad_size : (order : Order) (head y : List ℕ) (size : ℕ) → length head ≡ 8 → size ≡ four_at order 4 head → (12 ≤ size → size % 4 ≡ 0 → ⊥) → NoBlock order (head ++ y)
bad_size order head y size eight says bad h b rest is =
    let held = block_size order head y h b rest eight is in
    bad (omega (arith, says, held)) (omega (arith, says, held, is.fours))

-- fewer octets than it says
few_octets : (order : Order) (head y : List ℕ) (size : ℕ) → length head ≡ 8 → size ≡ four_at order 4 head → length y + 8 < size → NoBlock order (head ++ y)
few_octets order head y size eight says few h b rest is =
    omega (arith, says, block_size order head y h b rest eight is, block_room order head y h b rest eight is, few)

-- what is not finished after a front is none
unfinished : (order : Order) (head front y : List ℕ) (n size : ℕ) → length head ≡ 8 → size ≡ four_at order 4 head → size ≡ 12 + (length front + n)
    → ((more rest : List ℕ) → IsFinish order n size y more rest → ⊥) → NoBlock order (head ++ (front ++ y))
unfinished order head front y n size eight says is none h b rest block =
    let m = length front in
    let held : 12 + length b ≡ size = sym (block_size order head (front ++ y) h b rest eight block) ∙ sym says in
    let fits : m ≤ length b = omega (arith, held, is) in
    let follows = (block_front order head (front ++ y) h b rest eight block).1 in
    let cut : front ++ y ≡ take m b ++ (drop m b ++ (block.tail ++ rest)) =
    follows ∙ ap (λ l. l ++ (block.tail ++ rest)) (sym (take-append-drop m b)) ∙ append_assoc (take m b) (drop m b) (block.tail ++ rest) in
    let same = same_front front (take m b) y (drop m b ++ (block.tail ++ rest)) (sym (length-take-le m b fits)) cut in
    none (drop m b) rest (record {
      tail = block.tail;
      held = omega (arith, length-drop m b, held, is);
      end = block.end;
      whole = same.1;
      again = block.again ∙ held;
    })

-- what is finished is one
finished : (order : Order) (head front y more z : List ℕ) (n size : ℕ) → length head ≡ 8 → size ≡ four_at order 4 head → size ≡ 12 + (length front + n)
    → size % 4 ≡ 0 → IsFinish order n size y more z → IsBlock order (head ++ (front ++ y)) head (front ++ more) z
finished order head front y more z n size eight says is fours finish =
    let held : size ≡ 12 + length (front ++ more) = omega (arith, is, length-append front more, finish.held) in
    record {
      tail = finish.tail;
      start = eight;
      end = finish.end;
      whole = ap (λ l. head ++ l) (ap (λ l. front ++ l) finish.whole ∙ sym (append_assoc front more (finish.tail ++ z)));
      size = sym says ∙ held;
      fours = omega (arith, held, fours);
      again = finish.again ∙ held;
    }

finish_size : (order : Order) (n size : ℕ) (y more z : List ℕ) → IsFinish order n size y more z → length y ≡ n + (4 + length z)
finish_size order n size y more z is = omega (arith, ap length is.whole, length-append more (is.tail ++ z), length-append is.tail z, is.held, is.end)

-- where the header of no section stands, and no block that means something, nothing does
inside_broken : (order : Order) (is : List Interface) (head x : List ℕ) → length head ≡ 8 → four_at High 0 head ≢ section_type
    → ((h b rest : List ℕ) → IsBlock order (head ++ x) h b rest → (p : Piece) → IsMeant order is (four_at order 0 h) b p → ⊥) → IsBroken (Blocks order is) (head ++ x)
inside_broken order is head x eight other none = (
  λ e. omega (arith, ap length e, length-append head x, eight),
  λ p rest stands. elim stands [
    | inl s ↦ other (ap (four_at High 0) (block_front s.0 head x s.2.head s.2.body rest eight s.2.block).0 ∙ s.2.type)
    | inr i ↦ none i.head i.body rest i.block p i.meant
  ],
)

section_broken : (order : Order) (is : List Interface) (head x : List ℕ) → length head ≡ 8 → four_at High 0 head ≡ section_type
    → ((o : Order) (rest : List ℕ) → IsSection (head ++ x) o rest → ⊥) → IsBroken (Blocks order is) (head ++ x)
section_broken order is head x eight type none = (
  λ e. omega (arith, ap length e, length-append head x, eight),
  λ p rest stands. elim stands [
    | inl s ↦ none s.0 rest s.2
    | inr i ↦ i.other (sym (ap (four_at High 0) (block_front order head x i.head i.body rest eight i.block).0) ∙ type)
  ],
)

-- fewer octets than a head has
pub block_short : (order : Order) (is : List Interface) (a b : Option (List ℕ)) (front room : List ℕ) → Consumes a b front → IsAtEnd b → 0 < length front
    → length front < 8 → Steps (Blocks order is) a b step.Broken room
block_short order is a b front room so over some few =
    let small : (o : Order) (h body rest : List ℕ) → IsBlock o front h body rest → ⊥ = λ o h body rest i. omega (arith, ap length i.whole, length-append h (body ++ (i.tail ++ rest)), i.start, few) in
    read_all (IsStep (Blocks order is) step.Broken room) a b front
    (λ y. (
      λ e. omega (arith, ap length e, some),
      λ p rest stands. elim stands [ inl s ↦ small s.0 s.2.head s.2.body rest s.2.block | inr i ↦ small order i.head i.body rest i.block ],
    ))
    so over

-- a block whose head was read
pub inside_bad : (order : Order) (is : List Interface) (a : Option (List ℕ)) (head room : List ℕ) (size : ℕ) → length head ≡ 8 → four_at High 0 head ≢ section_type
    → size ≡ four_at order 4 head → (12 ≤ size → size % 4 ≡ 0 → ⊥) → StepsBehind head (Blocks order is) a a step.Broken room
inside_bad order is a head room size eight other says bad =
    known_same (λ x y. IsStep (Blocks order is) step.Broken room (head ++ x) y) a
    (λ x. inside_broken order is head x eight other (λ h b rest block p m. bad_size order head x size eight says bad h b rest block))

pub inside_short : (order : Order) (is : List Interface) (a b : Option (List ℕ)) (head front room : List ℕ) (size : ℕ) → length head ≡ 8
    → four_at High 0 head ≢ section_type → size ≡ four_at order 4 head → Consumes a b front → IsAtEnd b → length front + 8 < size
    → StepsBehind head (Blocks order is) a b step.Broken room
inside_short order is a b head front room size eight other says so over few =
    read_all (λ x y. IsStep (Blocks order is) step.Broken room (head ++ x) y) a b front
    (λ y. inside_broken order is head front eight other (λ h b rest block p m. few_octets order head front size eight says few h b rest block)) so over

pub inside_unfinished : (order : Order) (is : List Interface) (a b c : Option (List ℕ)) (head front room : List ℕ) (n size : ℕ) → length head ≡ 8
    → four_at High 0 head ≢ section_type → size ≡ four_at order 4 head → size ≡ 12 + (length front + n)
    → Consumes a b front → Known (Finishes order n size false) b c → StepsBehind head (Blocks order is) a c step.Broken room
inside_unfinished order is a b c head front room n size eight other says held so none =
    read_front (Finishes order n size false) (λ x y. IsStep (Blocks order is) step.Broken room (head ++ x) y) a b c front
    (λ y z f. inside_broken order is head (front ++ y) eight other (λ h b rest block p m. unfinished order head front y n size eight says held f h b rest block)) so none

-- a block that means nothing
pub inside_unmeant : (order : Order) (is : List Interface) (a b c : Option (List ℕ)) (head front room : List ℕ) (n size : ℕ) → length head ≡ 8
    → four_at High 0 head ≢ section_type → size ≡ four_at order 4 head → size ≡ 12 + (length front + n) → size % 4 ≡ 0
    → ((more : List ℕ) (p : Piece) → length more ≡ n → IsMeant order is (four_at order 0 head) (front ++ more) p → ⊥)
    → Consumes a b front → Known (Finishes order n size true) b c → StepsBehind head (Blocks order is) a c step.Broken room
inside_unmeant order is a b c head front room n size eight other says held fours none so found =
    read_front (Finishes order n size true) (λ x y. IsStep (Blocks order is) step.Broken room (head ++ x) y) a b c front
    (λ y z f. inside_broken order is head (front ++ y) eight other (λ h body rest block p m.
    let whole = finished order head front y f.0 z n size eight says held fours f.1 in
    let heads = (block_front order head (front ++ y) h body rest eight block) in
    let bodies = same_front (front ++ f.0) body (f.1.tail ++ z) (block.tail ++ rest) (omega (arith, whole.size, block_size order head (front ++ y) h body rest eight block))
    ((append_assoc front f.0 (f.1.tail ++ z)) ∙ sym (ap (λ l. front ++ l) f.1.whole) ∙ heads.1) in
    none f.0 p f.1.held (subst (λ l. IsMeant order is (four_at order 0 l) (front ++ f.0) p) (sym heads.0) (subst (λ l. IsMeant order is (four_at order 0 h) l p) (sym bodies.0) m))))
    so found

-- a block that means something
pub inside_found : (order : Order) (is : List Interface) (a b c : Option (List ℕ)) (head front : List ℕ) (n size : ℕ) (i : Item) → length head ≡ 8
    → four_at High 0 head ≢ section_type → size ≡ four_at order 4 head → size ≡ 12 + (length front + n) → size % 4 ≡ 0
    → ((more : List ℕ) → length more ≡ n → IsMeant order is (four_at order 0 head) (front ++ more) (piece_of i front))
    → Consumes a b front → Known (Finishes order n size true) b c → StepsBehind head (Blocks order is) a c (step.Found (record { item = i; size = size })) front
inside_found order is a b c head front n size i eight other says held fours means so found =
    let f : Found = record { item = i; size = size } in
    read_front (Finishes order n size true) (λ x y. IsStep (Blocks order is) (step.Found f) front (head ++ x) y) a b c front
    (λ y z g. (
      inr (record { head = head; body = front ++ g.0; block = finished order head front y g.0 z n size eight says held fours g.1; other = other; meant = means g.0 g.1.held }),
      omega (arith, held, length-append head (front ++ y), length-append front y, finish_size order n size y g.0 z g.1, eight),
    ))
    so found

-- what was read before
pub behind : (Q : List ℕ → List ℕ → Type 0) (a b c : Option (List ℕ)) (front : List ℕ) → Consumes a b front → Known (λ y z. Q (front ++ y) z) b c → Known Q a c
behind Q a b c front so then = read_front (λ y z. Q (front ++ y) z) Q a b c front (λ y z h. h) so then

-- ---- the header of a section

pub order_same : (o p : Order) → order_number o ≡ order_number p → o ≡ p
order_same High High e = refl
order_same High Low e = absurd (omega (arith, e))
order_same Low High e = absurd (omega (arith, e))
order_same Low Low e = refl

-- it says its order in the front that was read
section_order : (head front y : List ℕ) (o : Order) (rest : List ℕ) → length head ≡ 8 → length front ≡ 16 → IsSection (head ++ (front ++ y)) o rest → four_at High 0 front ≡ order_number o
section_order head front y o rest eight sixteen is =
    let follows = (block_front o head (front ++ y) is.head is.body rest eight is.block).1 in
    four_same High 0 front is.body y (is.block.tail ++ rest) follows (omega (arith, sixteen)) (omega (arith, is.room)) ∙ is.says

pub section_none : (a : Option (List ℕ)) (head front : List ℕ) → length head ≡ 8 → length front ≡ 16 → ((o : Order) → four_at High 0 front ≡ order_number o → ⊥)
    → Known (IsSectionBehind (head ++ front) None) a a
section_none a head front eight sixteen none =
    known_same (IsSectionBehind (head ++ front) None) a (λ x o rest is. none o (section_order head front x o rest eight sixteen (subst (λ l. IsSection l o rest) (append_assoc head front x) is)))

pub section_bad : (a : Option (List ℕ)) (head front : List ℕ) (order : Order) (size : ℕ) → length head ≡ 8 → length front ≡ 16
    → four_at High 0 front ≡ order_number order → size ≡ four_at order 4 head → (28 ≤ size → size % 4 ≡ 0 → ⊥)
    → Known (IsSectionBehind (head ++ front) None) a a
section_bad a head front order size eight sixteen says is bad =
    known_same (IsSectionBehind (head ++ front) None) a (λ x o rest s.
    let t = subst (λ l. IsSection l o rest) (append_assoc head front x) s in
    let same = order_same o order (sym (section_order head front x o rest eight sixteen t) ∙ says) in
    let held = block_size o head (front ++ x) t.head t.body rest eight t.block in
    let sized : size ≡ 12 + length t.body = is ∙ ap (λ p. four_at p 4 head) (sym same) ∙ held in
    bad (omega (arith, sized, t.room)) (omega (arith, sized, t.block.fours)))

pub section_unfinished : (a b : Option (List ℕ)) (head front : List ℕ) (order : Order) (n size : ℕ) → length head ≡ 8 → length front ≡ 16
    → four_at High 0 front ≡ order_number order → size ≡ four_at order 4 head → size ≡ 28 + n
    → Known (Finishes order n size false) a b → Known (IsSectionBehind (head ++ front) None) a b
section_unfinished a b head front order n size eight sixteen says is held none =
    known_map (Finishes order n size false) (IsSectionBehind (head ++ front) None) a b (λ x y f o rest s.
    let t = subst (λ l. IsSection l o rest) (append_assoc head front x) s in
    let same = order_same o order (sym (section_order head front x o rest eight sixteen t) ∙ says) in
    unfinished order head front x n size eight is (omega (arith, held, sixteen)) f t.head t.body rest (subst (λ p. IsBlock p (head ++ (front ++ x)) t.head t.body rest) same t.block))
    none

pub section_found : (a b : Option (List ℕ)) (head front : List ℕ) (order : Order) (n size : ℕ) → length head ≡ 8 → length front ≡ 16
    → four_at High 0 head ≡ section_type → four_at High 0 front ≡ order_number order → size ≡ four_at order 4 head → size ≡ 28 + n → size % 4 ≡ 0
    → Known (Finishes order n size true) a b → Known (IsSectionBehind (head ++ front) (Some (order, size))) a b
section_found a b head front order n size eight sixteen type says is held fours found =
    known_map (Finishes order n size true) (IsSectionBehind (head ++ front) (Some (order, size))) a b (λ x y f.
    let block = finished order head front x f.0 y n size eight is (omega (arith, held, sixteen)) fours f.1 in
    let long : 16 ≤ length (front ++ f.0) = omega (arith, length-append front f.0, sixteen) in (
      subst (λ l. IsSection l order y) (sym (append_assoc head front x)) (record {
        head = head;
        body = front ++ f.0;
        block = block;
        type = type;
        room = long;
        says = four_same High 0 (front ++ f.0) front [] f.0 (append-nil (front ++ f.0)) (omega (arith, long)) (omega (arith, sixteen)) ∙ says;
      }),
      omega (arith, held, length-append (head ++ front) x, length-append head front, finish_size order n size x f.0 y f.1, eight, sixteen),
    ))
    found

-- fewer octets than a header has
pub section_short : (order : Order) (is : List Interface) (a b : Option (List ℕ)) (head front room : List ℕ) → length head ≡ 8 → four_at High 0 head ≡ section_type
    → Consumes a b front → IsAtEnd b → length front < 16 → StepsBehind head (Blocks order is) a b step.Broken room
section_short order is a b head front room eight type so over few =
    read_all (λ x y. IsStep (Blocks order is) step.Broken room (head ++ x) y) a b front
    (λ y. section_broken order is head front eight type (λ o rest s. omega (arith, s.room, few, block_room o head front s.head s.body rest eight s.block))) so over

pub section_unknown : (order : Order) (is : List Interface) (a b c : Option (List ℕ)) (head front room : List ℕ) → length head ≡ 8 → four_at High 0 head ≡ section_type
    → Consumes a b front → Known (IsSectionBehind (head ++ front) None) b c → StepsBehind head (Blocks order is) a c step.Broken room
section_unknown order is a b c head front room eight type so none =
    read_front (IsSectionBehind (head ++ front) None) (λ x y. IsStep (Blocks order is) step.Broken room (head ++ x) y) a b c front
    (λ y z f. section_broken order is head (front ++ y) eight type (λ o rest s. f o rest (subst (λ l. IsSection l o rest) (sym (append_assoc head front y)) s))) so none

pub section_stands : (order : Order) (is : List Interface) (a b c : Option (List ℕ)) (head front room : List ℕ) (o : Order) (size : ℕ) → Consumes a b front
    → Known (IsSectionBehind (head ++ front) (Some (o, size))) b c
    → StepsBehind head (Blocks order is) a c (step.Found (record { item = item.Section o; size = size })) room
section_stands order is a b c head front room o size so found =
    let f : Found = record { item = item.Section o; size = size } in
    read_front (IsSectionBehind (head ++ front) (Some (o, size))) (λ x y. IsStep (Blocks order is) (step.Found f) room (head ++ x) y) a b c front
    (λ y z g. (inl (o, refl, subst (λ l. IsSection l o z) (append_assoc head front y) g.0), g.1 ∙ ap length (append_assoc head front y))) so found

-- a header whose head was read before
pub section_next : (order : Order) (is : List Interface) (a b c : Option (List ℕ)) (head room : List ℕ) (r : Result Step Stop) → Consumes a b head
    → IfOk r (λ s. (rest : List ℕ) → StepsBehind head (Blocks order is) b c s rest) → IfOk r (λ s. Steps (Blocks order is) a c s room)
section_next order is a b c head room (Ok s) so then = behind (IsStep (Blocks order is) s room) a b c head so (then room)
section_next order is a b c head room (Err e) so then = tt
