-- What a caller of view and decode is told.
use Rattle.std.proofs.Common.{◌≡◌, ℕ, List, length, Option, Some, None, Result, Ok, Err, ◌⊎◌, inl, inr, refl, ap, sym, subst, ◌∙◌}
use Rattle.std.specs.Prelude.{option_map, IfOk, IfErr, IsOkAnd}
use Rattle.gtp_values.specs.Steps.{Gives}
use Rattle.gtp_values.proofs.Outcomes.{ok_same, err_same, apart}
use Rattle.gtp_ie.specs.declared.fault.IeFault.{IeFault}
use Rattle.gtp_ie.specs.declared.fault.IeFault.TheVariants as elements
use Rattle.gtp_v2.specs.declared.fault.V2Fault.{V2Fault}
use Rattle.gtp_v2.specs.declared.fault.V2Fault.TheVariants as faults
use Rattle.gtp_v2.specs.Message.{FaultIs, MessageGives}
use Rattle.gtp_v2.specs.Instances.{ElementInstanceIsSmall, InstanceIsSmall, IsOfOctets}
use Rattle.gtp_v2.specs.Marks.{MeetsMarks}
use Rattle.gtp_v2.specs.Datagram.{IsFault}
use Rattle.gtp_v2.specs.Viewed.{Viewed}
use Rattle.gtp_v2.specs.Body.{message_value}
use Rattle.gtp_v2.specs.declared.message.Datagram.{Datagram}
use Rattle.gtp_v2.specs.declared.message.Message.{Message}
use Rattle.gtp_v2.specs.Pair.{DatagramValue, IsDatagram, IsDatagramFault, SecondFails, moved, element_moved, OfEach, DatagramAllocates, MayAllocate, datagram_value, second_of}
use Rattle.gtp_v2.specs.reading.Pair.{datagram_at}
use Rattle.gtp_v2.proofs.Instances.{fault_small, fault_of_octets}
use Rattle.gtp_v2.proofs.MarksOf.{message_marked}
use Rattle.gtp_v2.proofs.Pairs.{datagram_decided}

-- ---- which faults there are

moved_element_small : (place : ℕ) (f : IeFault) → ElementInstanceIsSmall f → ElementInstanceIsSmall (element_moved place f)
moved_element_small place (elements.Truncated at) small = tt
moved_element_small place (elements.ShortValue kind instance at) small = small
moved_element_small place (elements.BadValue kind instance at) small = small
moved_element_small place elements.Memory small = tt
moved_element_small place elements.TooLong small = tt

abbrev IsSmall : V2Fault → Type 0
IsSmall f = InstanceIsSmall f × IsOfOctets f

moved_small : (place : ℕ) (f : V2Fault) → IsSmall f → IsSmall (moved place f)
moved_small place (faults.Short n) small = small
moved_small place (faults.Version n) small = small
moved_small place (faults.BadPiggyback at) small = (tt, tt)
moved_small place (faults.Length stated held) small = small
moved_small place (faults.FlagT kind) small = small
moved_small place (faults.Missing kind instance conditional None head) small = small
moved_small place (faults.Missing kind instance conditional (Some at) head) small = small
moved_small place (faults.Element fault head) small = (moved_element_small place fault small.0, tt)
moved_small place faults.Memory small = small
moved_small place faults.TooLong small = small

one_small : (octets : List ℕ) (f : V2Fault) → IsFault octets f → IsSmall f
one_small octets f is = (fault_small octets f is, fault_of_octets octets f is)

second_small : (place : ℕ) (back : List ℕ) (f : V2Fault) → SecondFails place back f → IsSmall f
second_small place back f (inl p) = subst IsSmall (sym p.1) (tt, tt)
second_small place back f (inr (some, (g, fails, is))) = subst IsSmall (sym is) (moved_small place g (one_small back g fails))

datagram_small : (octets : List ℕ) (f : V2Fault) → IsDatagramFault octets f → IsSmall f
datagram_small octets f (inl p) = one_small octets f p.1
datagram_small octets f (inr (inl (flags, kind, high, low, held, begins, more, is))) = subst IsSmall (sym is) (tt, tt)
datagram_small octets f (inr (inr (front, back, announces, inl first))) = one_small front f first
datagram_small octets f (inr (inr (front, back, announces, inr (a, is, second)))) = second_small (length front) back f second

pub fault_is_small : (octets : List ℕ) (f : V2Fault) → IsDatagramFault octets f → InstanceIsSmall f
fault_is_small octets f is = (datagram_small octets f is).0

pub fault_of_datagram : (octets : List ℕ) (f : V2Fault) → IsDatagramFault octets f → IsOfOctets f
fault_of_datagram octets f is = (datagram_small octets f is).1

-- ---- what is spelled meets the marks

abbrev AreMarked : DatagramValue → Type 0
AreMarked d = OfEach MeetsMarks d.first d.second

pub datagram_marked : (octets : List ℕ) (d : DatagramValue) → IsDatagram octets d → OfEach MeetsMarks d.first d.second
datagram_marked octets d (inl (m, is, same)) = subst AreMarked (sym same) (message_marked octets m is)
datagram_marked octets d (inr (front, back, announces, (a, is, (b, second, same)))) = subst AreMarked (sym same) (message_marked front a is, message_marked back b second)

-- and so does what is seen
pub seen_marked : (a : Viewed) (second : Option Viewed) → OfEach MeetsMarks a.message (option_map (λ (s : Viewed). s.message) second) → OfEach (λ (s : Viewed). MeetsMarks s.message) a second
seen_marked a None marks = marks
seen_marked a (Some b) marks = marks

-- and so does what is built
pub built_so_marked : (octets : List ℕ) (d : Datagram) → datagram_at octets ≡ Ok (datagram_value d) → OfEach (λ (m : Message). MeetsMarks (message_value m)) d.message (second_of d)
built_so_marked octets d h = each d.message (second_of d) (datagram_marked octets (datagram_value d) ((datagram_decided octets).ok (datagram_value d) h)) where
  each : (a : Message) (second : Option Message) → OfEach MeetsMarks (message_value a) (option_map message_value second) → OfEach (λ (m : Message). MeetsMarks (message_value m)) a second
  each a None marks = marks
  each a (Some b) marks = marks

-- ---- a view

pub found : {X : Type 0} (view : X → DatagramValue) (r : Result X V2Fault) (octets : List ℕ) → Gives view r (datagram_at octets) → IfOk r (λ v. IsDatagram octets (view v))
found view (Ok v) octets h = (datagram_decided octets).ok (view v) h
found view (Err f) octets h = tt

pub fault : {X : Type 0} (view : X → DatagramValue) (r : Result X V2Fault) (octets : List ℕ) → Gives view r (datagram_at octets) → IfErr r (λ f. IsDatagramFault octets f)
fault view (Ok v) octets h = tt
fault view (Err f) octets h = (datagram_decided octets).err f h

pub only : {X : Type 0} (view : X → DatagramValue) (r : Result X V2Fault) (octets : List ℕ) → Gives view r (datagram_at octets) → (d : DatagramValue)
    → IsDatagram octets d → IsOkAnd r (λ v. view v ≡ d)
only view (Ok v) octets h d is = ok_same V2Fault (view v) d (sym h ∙ (datagram_decided octets).is d is)
only view (Err f) octets h d is = absurd (apart d f (sym ((datagram_decided octets).is d is) ∙ h))

pub first : {X : Type 0} (view : X → DatagramValue) (r : Result X V2Fault) (octets : List ℕ) → Gives view r (datagram_at octets) → (f : V2Fault) → IsDatagramFault octets f → r ≡ Err f
first view (Ok v) octets h f is = absurd (apart (view v) f (sym h ∙ (datagram_decided octets).fails f is))
first view (Err g) octets h f is = ap (λ (e : V2Fault). Err e) (err_same DatagramValue g f (sym h ∙ (datagram_decided octets).fails f is))

-- ---- what a caller of decode is told

-- what is answered is a message that the octets spell
pub answers_ok : {X : Type 0} (view : X → DatagramValue) (r : Result X V2Fault) (octets : List ℕ) → MessageGives DatagramAllocates view r (datagram_at octets)
    → IfOk r (λ m. IsDatagram octets (view m))
answers_ok view (Ok x) octets h = (datagram_decided octets).ok (view x) h
answers_ok view (Err f) octets h = tt

-- out of memory, for a message for which memory is allocated, or the fault that the octets have
fault_told : (f : V2Fault) (octets : List ℕ) → FaultIs DatagramAllocates f (datagram_at octets) → ((f ≡ faults.Memory) × MayAllocate octets) ⊎ (datagram_at octets ≡ Err f)
fault_told faults.Memory octets h = by_reading (datagram_at octets) refl h where
  by_reading : (r : Result DatagramValue V2Fault) → datagram_at octets ≡ r → IsOkAnd r DatagramAllocates
      → ((faults.Memory ≡ faults.Memory) × MayAllocate octets) ⊎ (datagram_at octets ≡ Err faults.Memory)
  by_reading (Ok m) e h = inl (refl, (m, (datagram_decided octets).ok m e, h))
  by_reading (Err f) e h = absurd h
fault_told (faults.Short n) octets h = inr h
fault_told (faults.Version n) octets h = inr h
fault_told (faults.BadPiggyback at) octets h = inr h
fault_told (faults.Length a b) octets h = inr h
fault_told (faults.FlagT n) octets h = inr h
fault_told faults.TooLong octets h = inr h
fault_told (faults.Missing a b c d e) octets h = inr h
fault_told (faults.Element a b) octets h = inr h

-- a fault is the first one, or out of memory
pub answers_fault : {X : Type 0} (view : X → DatagramValue) (r : Result X V2Fault) (octets : List ℕ) → MessageGives DatagramAllocates view r (datagram_at octets)
    → IfErr r (λ f. (f ≡ faults.Memory) ⊎ IsDatagramFault octets f)
answers_fault view (Ok x) octets h = tt
answers_fault view (Err f) octets h = elim (fault_told f octets h) [ inl p ↦ inl p.0 | inr e ↦ inr ((datagram_decided octets).err f e) ]

-- memory runs out where it is allocated for a message
pub answers_memory : {X : Type 0} (view : X → DatagramValue) (r : Result X V2Fault) (octets : List ℕ) → MessageGives DatagramAllocates view r (datagram_at octets)
    → r ≡ Err faults.Memory → MayAllocate octets
answers_memory view r octets h wanting = by_reading (datagram_at octets) refl (subst (λ (o : Result _ V2Fault). MessageGives DatagramAllocates view o (datagram_at octets)) wanting h) where
  by_reading : (o : Result DatagramValue V2Fault) → datagram_at octets ≡ o → IsOkAnd o DatagramAllocates → MayAllocate octets
  by_reading (Ok m) e h = (m, (datagram_decided octets).ok m e, h)
  by_reading (Err f) e h = absurd h

only_memory : (f : V2Fault) (m : DatagramValue) → FaultIs DatagramAllocates f (Ok m) → (f ≡ faults.Memory) × DatagramAllocates m
only_memory faults.Memory m h = (refl, h)
only_memory (faults.Short n) m h = absurd cc
only_memory (faults.Version n) m h = absurd cc
only_memory (faults.BadPiggyback at) m h = absurd cc
only_memory (faults.Length a b) m h = absurd cc
only_memory (faults.FlagT n) m h = absurd cc
only_memory faults.TooLong m h = absurd cc
only_memory (faults.Missing a b c d e) m h = absurd cc
only_memory (faults.Element a b) m h = absurd cc

told_only : {X : Type 0} (view : X → DatagramValue) (r : Result X V2Fault) (m : DatagramValue) → MessageGives DatagramAllocates view r (Ok m)
    → IsOkAnd r (λ d. view d ≡ m) ⊎ ((r ≡ Err faults.Memory) × DatagramAllocates m)
told_only view (Ok x) m h = inl cc
told_only view (Err f) m h = let wanting = only_memory f m h in inr (ap (λ (e : V2Fault). Err e) wanting.0, wanting.1)

-- what the octets spell is answered, unless memory runs out
pub answers_only : {X : Type 0} (view : X → DatagramValue) (r : Result X V2Fault) (octets : List ℕ) → MessageGives DatagramAllocates view r (datagram_at octets)
    → (m : DatagramValue) → IsDatagram octets m → IsOkAnd r (λ d. view d ≡ m) ⊎ ((r ≡ Err faults.Memory) × DatagramAllocates m)
answers_only view r octets h m is = told_only view r m (subst (MessageGives DatagramAllocates view r) ((datagram_decided octets).is m is) h)

-- and so is their first fault, whether or not there is memory
first_fault : (g f : V2Fault) → FaultIs DatagramAllocates g (Err f) → g ≡ f
first_fault faults.Memory f h = absurd h
first_fault (faults.Short n) f h = cc
first_fault (faults.Version n) f h = cc
first_fault (faults.BadPiggyback at) f h = cc
first_fault (faults.Length a b) f h = cc
first_fault (faults.FlagT n) f h = cc
first_fault faults.TooLong f h = cc
first_fault (faults.Missing a b c d e) f h = cc
first_fault (faults.Element a b) f h = cc

fault_told_first : {X : Type 0} (view : X → DatagramValue) (r : Result X V2Fault) (f : V2Fault) → MessageGives DatagramAllocates view r (Err f) → r ≡ Err f
fault_told_first view (Ok x) f h = absurd cc
fault_told_first view (Err g) f h = ap (λ (e : V2Fault). Err e) (first_fault g f h)

pub answers_first : {X : Type 0} (view : X → DatagramValue) (r : Result X V2Fault) (octets : List ℕ) → MessageGives DatagramAllocates view r (datagram_at octets)
    → (f : V2Fault) → IsDatagramFault octets f → r ≡ Err f
answers_first view r octets h f is = fault_told_first view r f (subst (MessageGives DatagramAllocates view r) ((datagram_decided octets).fails f is) h)

-- and the instance that it names is below 16
pub answers_small : {X : Type 0} (view : X → DatagramValue) (r : Result X V2Fault) (octets : List ℕ) → MessageGives DatagramAllocates view r (datagram_at octets) → IfErr r InstanceIsSmall
answers_small view (Ok x) octets h = tt
answers_small view (Err f) octets h = elim (fault_told f octets h) [
  | inl p ↦ subst InstanceIsSmall (sym p.0) tt
  | inr e ↦ fault_is_small octets f ((datagram_decided octets).err f e)
]

-- a fault that is read is told, and it is none of memory
pub fault_is_told : (f : V2Fault) (octets : List ℕ) → datagram_at octets ≡ Err f → FaultIs DatagramAllocates f (datagram_at octets)
fault_is_told faults.Memory octets h = absurd (fault_of_datagram octets faults.Memory ((datagram_decided octets).err faults.Memory h))
fault_is_told (faults.Short n) octets h = h
fault_is_told (faults.Version n) octets h = h
fault_is_told (faults.BadPiggyback at) octets h = h
fault_is_told (faults.Length stated held) octets h = h
fault_is_told (faults.FlagT kind) octets h = h
fault_is_told (faults.Missing kind instance conditional group head) octets h = h
fault_is_told (faults.Element fault head) octets h = h
fault_is_told faults.TooLong octets h = h
