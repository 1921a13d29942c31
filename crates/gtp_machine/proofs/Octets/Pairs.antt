-- What two messages in one datagram read as, and what their first octets do.
use Rattle.std.proofs.Common.{◌≡◌, inl, inr, ℕ, Bool, true, false, [], ◌∷◌, length, take, Some, refl, sym, ap, if◌then◌else◌}
use Rattle.std.specs.Prelude.{◌-◌, ◌==◌, nat_lt}
use Rattle.gtp_v2.specs.Codes.{short_number, length_number, number_of}
use Rattle.gtp_v2.specs.declared.fault.V2Fault.TheVariants as faults
use Rattle.gtp_v2.specs.Pair.{both}
use Rattle.gtp_v2.specs.Prefixes.{pair_prefix_fault}
use Rattle.gtp_v2.proofs.Joined.{announces, read_again, pair_prefixes_fail}
use Rattle.gtp_machine.specs.Input.{ControlReading, Control_fault}
use Rattle.gtp_machine.specs.Reading as reads
use Rattle.gtp_machine.specs.Reading.{Alone, Both, datagram_fault, pair_cut_fault, PairCutsRead}
use Rattle.gtp_machine.specs.Spelling.{control_value, spelled, spelled_all, PairSpelledReads}
use Rattle.gtp_machine.proofs.Octets.Spelled.{spells_control, control_back}
use Rattle.gtp_machine.proofs.Octets.Datagrams.{datagram_by_grammar}

-- ---- first octets

-- the fault of a cut has its printed number, whether a second message is announced or not
cut_number : (announced : Bool) (count front back : ℕ) → datagram_fault announced (pair_prefix_fault count front back) ≡ Control_fault (pair_cut_fault count front)
cut_number announced count front back = by_few announced (nat_lt count front) (nat_lt count 4) (count == front) (nat_lt (count - front) 4)
  where
    by_few : (announced within few whole more : Bool)
        → datagram_fault announced (if within then (if few then faults.Short count else faults.Length (front - 4) (count - 4)) else
        (if whole then faults.BadPiggyback front else (if more then faults.Short (count - front) else faults.Length (back - 4) (count - front - 4))))
        ≡ Control_fault (if within then (if few then short_number else length_number) else
        (if whole then number_of (faults.BadPiggyback front) else (if more then short_number else length_number)))
    by_few true true true whole more = refl
    by_few true true false whole more = refl
    by_few true false few true more = refl
    by_few true false few false true = refl
    by_few true false few false false = refl
    by_few false true true whole more = refl
    by_few false true false whole more = refl
    by_few false false few true more = refl
    by_few false false few false true = refl
    by_few false false few false false = refl

pub pair_cuts_read : PairCutsRead
pair_cuts_read octets front back a b count announced first second less =
    (datagram_by_grammar (take count octets) (Alone (Control_fault (pair_cut_fault count (length front))))).1
    (inr (
      pair_prefix_fault count (length front) (length back),
      pair_prefixes_fail octets front back a b count announced first second less,
      ap (λ (r : ControlReading). Alone r) (sym (cut_number (reads.announces (take count octets)) count (length front) (length back))),
    ))

-- ---- what is sent

pub pair_spelled_reads : PairSpelledReads
pair_spelled_reads a b a_sendable b_sendable a_control b_control =
    let first = spells_control a a_control a_sendable in
    let second = spells_control b b_control b_sendable in
    let same : Both a b ≡ reads.messages_read (control_value a) (Some (control_value b)) =
    λ i. Both (sym (control_back a a_control a_sendable.own) i) (sym (control_back b b_control b_sendable.own) i) in (
      announces (spelled a) (spelled b) (control_value a) first,
      (datagram_by_grammar (spelled_all (a ∷ b ∷ [])) (Both a b)).1
          (inl (both (control_value a) (control_value b), read_again (spelled a) (spelled b) (control_value a) (control_value b) first second, same)),
    )
