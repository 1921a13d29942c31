-- Which datagrams come, event by event.
use Rattle.std.proofs.Common.{arith, ◌≡◌, ◌∷◌, ◌++◌, append_assoc, ℕ, ◌+◌, ◌<◌, ◌==◌, Bool, true, false, ◌||◌, if◌then◌else◌, List, map, length, take}
use Rattle.std.proofs.Common.{drop, get_or, slice_get, option_map, Option, Some, None, option_and_then, refl, sym, ap, ◌∙◌, subst}
use Rattle.std.specs.Option.{option_map_or}
use Rattle.std.specs.List.{flat_map, list_any}
use Rattle.std.proofs.lemmas.Option.{slice_get_within, slice_get-map, slice_get-get_or}
use Rattle.std.proofs.lemmas.List.{take-map, length-set, drop_more}
use Rattle.std.proofs.Math.Bool.{or-false}
use Rattle.gtp_world.specs.Record.{sent_by}
use Rattle.gtp_world.specs.declared.log.Datagram.{Datagram}
use Rattle.gtp_machine.specs.declared.role.Role.{Role}
use Rattle.gtp_replay.specs.Rows.{Numbered, Happened, Row, idle_node, rows_at, rows_from, can_happen, number_in, brings, brought_by, comes_by}
use Rattle.gtp_replay.specs.RowViews.{AreFlags, marked, numbered, numbered_from, happened_of}
use Rattle.gtp_replay.specs.declared.happened.Happened.{Happened as Program}
use Rattle.gtp_replay.proofs.Flags.{any_more, set_one, numbered_at}

-- a datagram that is found has a number below how many there are
numbered_within : (xs : List Datagram) (n : ℕ) (d : Numbered) → slice_get (numbered xs) n ≡ Some d → d.0 < length xs
numbered_within xs n d there =
    elim (slice_get xs n) as (λ o. slice_get xs n ≡ o → option_map (λ x. (0 + n, sent_by x)) o ≡ Some d → d.0 < length xs) [
      | Some x ↦ λ is same. let lt = slice_get_within xs n x is in let at : 0 + n ≡ d.0 = ap (λ o. option_map_or (λ (e : Numbered). e.0) o 0) same in omega (arith, lt, at)
      | None ↦ λ is same. let wrong : false ≡ true = ap (λ o. option_map_or (λ (e : Numbered). true) o false) same in cc
    ] refl (sym (numbered_at sent_by 0 xs n) ∙ there)

found_within : (xs : List Datagram) (number : Option ℕ) (d : Numbered) → option_and_then (slice_get (numbered xs)) number ≡ Some d → d.0 < length xs
found_within xs (Some n) d is = numbered_within xs n d is
found_within xs None d is = let wrong : false ≡ true = ap (λ o. option_map_or (λ (e : Numbered). true) o false) is in cc

brought_within : (xs : List Datagram) (h : Happened) (d : Numbered) → brought_by (numbered xs) h ≡ Some d → d.0 < length xs
brought_within xs h d =
    elim (can_happen h.told.outcome) as (λ b. (if b then option_and_then (slice_get (numbered xs)) (number_in h.event) else None) ≡ Some d → d.0 < length xs) [
      | true ↦ λ is. found_within xs (number_in h.event) d is
      | false ↦ λ is. let wrong : false ≡ true = ap (λ o. option_map_or (λ (e : Numbered). true) o false) is in cc
    ]

-- one event more
pub marks_more : (xs : List Datagram) (all : List Happened) (i : ℕ) (h : Happened) (flags : List Bool)
    → slice_get all i ≡ Some h → length flags ≡ length xs
    → AreFlags (comes_by (numbered xs) (take i all)) flags → AreFlags (comes_by (numbered xs) (take (i + 1) all)) (marked flags (brought_by (numbered xs) h))
marks_more xs all i h flags there count are n =
    elim (brought_by (numbered xs) h) as (λ o. brought_by (numbered xs) h ≡ o → get_or (marked flags o) n false ≡
    (list_any (brings (numbered xs) n) (take i all) || option_map_or (λ (e : Numbered). e.0 == n) o false)) [
      | Some d ↦ λ is. let lt = brought_within xs h d is in set_one (comes_by (numbered xs) (take i all)) flags d.0 (omega (arith, lt, count)) are n
      | None ↦ λ is. are n ∙ sym (or-false (list_any (brings (numbered xs) n) (take i all)))
    ] refl ∙ sym (any_more (brings (numbered xs)) all i h n there)

-- pieces one after the other, of which one more is there
pub flat_more : {X Y : Type 0} (g : X → List Y) (x : X) (left rest : List X) (before mid new : List Y) → new ≡ mid ++ g x → left ≡ x ∷ rest
    → mid ++ flat_map g left ≡ before → new ++ flat_map g rest ≡ before
flat_more g x left rest before mid new is next so_far =
    ap (λ l. l ++ flat_map g rest) is ∙ (append_assoc mid (g x) (flat_map g rest) ∙ (sym (ap (λ l. mid ++ flat_map g l) next) ∙ so_far))

-- the same of a loop over what the program has
pub loop_more : (xs : List Datagram) (all : List Program) (i : ℕ) (one : Program) (flags new : List Bool)
    → one ≡ get_or all i one → i < length all → length flags ≡ length xs
    → AreFlags (comes_by (numbered xs) (map happened_of (take i all))) flags
    → new ≡ marked flags (brought_by (numbered xs) (happened_of one))
    → AreFlags (comes_by (numbered xs) (map happened_of (take (i + 1) all))) new
loop_more xs all i one flags new is lt count are marks =
    let there : slice_get (map happened_of all) i ≡ Some (happened_of one) = slice_get-map happened_of all i ∙ ap (option_map happened_of) (slice_get-get_or all i one lt ∙ ap Some (sym is)) in
    let before : AreFlags (comes_by (numbered xs) (take i (map happened_of all))) flags =
    subst (λ (hs : List Happened). AreFlags (comes_by (numbered xs) hs) flags) (sym (take-map happened_of i all)) are in
    let after = marks_more xs (map happened_of all) i (happened_of one) flags there count before in
    subst (λ (hs : List Happened). AreFlags (comes_by (numbered xs) hs) new) (take-map happened_of (i + 1) all)
    (subst (λ (f : List Bool). AreFlags (comes_by (numbered xs) (take (i + 1) (map happened_of all))) f) (sym marks) after)

pub marked_length : (flags : List Bool) (d : Option Numbered) → length (marked flags d) ≡ length flags
marked_length flags None = refl
marked_length flags (Some d) = length-set flags d.0 true

-- the next of what is left of numbered datagrams
pub numbered_next : (first i : ℕ) (xs : List Datagram) (x : Datagram) → x ≡ get_or xs i x → i < length xs
    → numbered_from (first + i) (drop i xs) ≡ (first + i, sent_by x) ∷ numbered_from (first + (i + 1)) (drop (i + 1) xs)
numbered_next first i xs x is lt =
    let next : (first + i) + 1 ≡ first + (i + 1) = omega arith in
    ap (numbered_from (first + i)) (drop_more xs i x lt ∙ ap (λ y. y ∷ drop (i + 1) xs) (sym is))
    ∙ ap (λ n. (first + i, sent_by x) ∷ numbered_from n (drop (i + 1) xs)) next

-- the rows of one event more
pub rows_more : (datagrams : List Numbered) (all : List Happened) (place : ℕ) (last : Option Role) (programs : List Program) (one : Program) (before mid new : List Row) (next : Option Role)
    → one ≡ get_or programs place one → place < length programs
    → new ≡ mid ++ rows_at datagrams all place last (happened_of one) (map happened_of (drop (place + 1) programs))
    → next ≡ idle_node (happened_of one)
    → mid ++ rows_from datagrams all place last (map happened_of (drop place programs)) ≡ before
    → new ++ rows_from datagrams all (place + 1) next (map happened_of (drop (place + 1) programs)) ≡ before
rows_more datagrams all place last programs one before mid new next is lt rows idle so_far =
    let after = map happened_of (drop (place + 1) programs) in
    let left : map happened_of (drop place programs) ≡ happened_of one ∷ after = ap (map happened_of) (drop_more programs place one lt ∙ ap (λ h. h ∷ drop (place + 1) programs) (sym is)) in
    ap (λ (n : Option Role). new ++ rows_from datagrams all (place + 1) n after) idle
    ∙ (ap (λ l. l ++ rows_from datagrams all (place + 1) (idle_node (happened_of one)) after) rows
    ∙ (append_assoc mid (rows_at datagrams all place last (happened_of one) after) (rows_from datagrams all (place + 1) (idle_node (happened_of one)) after)
    ∙ (sym (ap (λ l. mid ++ rows_from datagrams all place last l) left) ∙ so_far)))
