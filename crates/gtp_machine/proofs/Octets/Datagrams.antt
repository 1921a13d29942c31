-- What datagrams of one or two messages read as.
use Rattle.std.proofs.Common.{◌≡◌, ⊎_elim, inl, inr, ℕ, zero, suc, ◌+◌, ◌/◌, Bool, true, false, List, [], ◌∷◌, ◌++◌, take, Result, Ok, Err, refl, sym, ◌∙◌, ap, subst, if◌then◌else◌, arith}
use Rattle.std.specs.Prelude.{◌==◌, ◌↔◌}
use Rattle.std.proofs.lemmas.Bool.Decides.{nat_tests}
use Rattle.gtp_v2.specs.declared.fault.V2Fault.{V2Fault}
use Rattle.gtp_v2.specs.Header.{Opens}
use Rattle.gtp_v2.specs.Message.{MessageValue}
use Rattle.gtp_v2.specs.Datagram.{IsMessage}
use Rattle.gtp_v2.specs.Pair.{DatagramValue, alone, IsUnannounced}
use Rattle.gtp_v2.specs.reading.Message.{message_at}
use Rattle.gtp_v2.specs.reading.Pair.{datagram_at}
use Rattle.gtp_v2.proofs.Pairs.{opened, few_unannounced, other_unannounced, datagram_decided}
use Rattle.gtp_v2.proofs.Told as control
use Rattle.gtp_machine.specs.Decoded.{message_of}
use Rattle.gtp_machine.specs.Input.{ControlReading, Control_message}
use Rattle.gtp_machine.specs.Reading.{control_reading, control_reading_of, Alone, announces, messages_read, datagram_fault, pair_reading_of}
use Rattle.gtp_machine.specs.Reading.{datagram_reading, IsDatagramReadOf, DatagramByGrammar, MessageReadsAlone, DatagramCutsRead}
use Rattle.gtp_machine.proofs.Octets.ByGrammar.{control_by_grammar, cuts_read}
use Rattle.gtp_machine.proofs.Octets.Faults.{IsFault, fault_is}

-- ---- whether another message is announced

pub unannounced : (octets : List ℕ) → announces octets ≡ false → IsUnannounced octets
unannounced [] e = few_unannounced [] (omega arith)
unannounced (a ∷ []) e = few_unannounced (a ∷ []) (omega arith)
unannounced (a ∷ b ∷ []) e = few_unannounced (a ∷ b ∷ []) (omega arith)
unannounced (a ∷ b ∷ c ∷ []) e = few_unannounced (a ∷ b ∷ c ∷ []) (omega arith)
unannounced (first ∷ kind ∷ high ∷ low ∷ held) e = other_unannounced first kind high low held e

opens_none : (octets following : List ℕ) (flags kind count : ℕ) → Opens octets flags kind following → announces (take count octets) ≡ false
opens_none octets following flags kind count (high, low, small, text, long) = subst (λ (o : List ℕ). announces (take count o) ≡ false) (sym text) (by_count count)
  where
    by_count : (n : ℕ) → announces (take n (opened (64 + flags) kind high low following)) ≡ false
    by_count zero = refl
    by_count (suc zero) = refl
    by_count (suc (suc zero)) = refl
    by_count (suc (suc (suc zero))) = refl
    by_count (suc (suc (suc (suc n)))) =
        let none : ((64 + flags) / 16 == 5) ≡ false = grind (arith, nat_tests) in
        none

-- a message announces none, nor do its first octets
pub cut_announces_none : (octets : List ℕ) (m : MessageValue) (count : ℕ) → IsMessage octets m → announces (take count octets) ≡ false
cut_announces_none octets m count (h, inl (flags, a, b, c, spare, lt, opens, is), content) = opens_none octets (a ∷ b ∷ c ∷ spare ∷ h.rest) flags h.kind count opens
cut_announces_none octets m count (h, inr (flags, a, b, c, d, e, f, g, last, lt, opens, is), content) = opens_none octets (a ∷ b ∷ c ∷ d ∷ e ∷ f ∷ g ∷ last ∷ h.rest) (8 + flags) h.kind count opens

-- ---- where none is announced

-- the datagram reads as its one message, or as the fault of that
pub reads_alone : (octets : List ℕ) → announces octets ≡ false → datagram_reading octets ≡ Alone (control_reading octets)
reads_alone octets none = ap (λ (b : Bool). if b then pair_reading_of (datagram_at octets) else Alone (control_reading octets)) none

pub reads_pair : (octets : List ℕ) → announces octets ≡ true → datagram_reading octets ≡ pair_reading_of (datagram_at octets)
reads_pair octets told = ap (λ (b : Bool). if b then pair_reading_of (datagram_at octets) else Alone (control_reading octets)) told

pub datagram_cuts_read : DatagramCutsRead
datagram_cuts_read octets m count is short =
    ap (λ (r : ControlReading). Alone r) (cuts_read octets m count is short) ∙ sym (reads_alone (take count octets) (cut_announces_none octets m count is))

-- ---- by the grammar

pub datagram_by_grammar : DatagramByGrammar
datagram_by_grammar octets reading = by_announcement (announces octets) refl
  where
    -- two messages, or a fault of them
    as_pair : announces octets ≡ true → (r : Result DatagramValue V2Fault) → datagram_at octets ≡ r → reading ≡ pair_reading_of r → IsDatagramReadOf octets reading
    as_pair told (Ok d) e is = inl (d, (datagram_decided octets).ok d e, is)
    as_pair told (Err f) e is = inr (f, (datagram_decided octets).err f e, is ∙ ap (λ (b : Bool). Alone (datagram_fault b f)) (sym told))

    pair_is : announces octets ≡ true → IsDatagramReadOf octets reading → reading ≡ pair_reading_of (datagram_at octets)
    pair_is told (inl (d, is, as_d)) = as_d ∙ sym (ap pair_reading_of ((datagram_decided octets).is d is))
    pair_is told (inr (f, fails, as_f)) = as_f ∙ ap (λ (b : Bool). Alone (datagram_fault b f)) told ∙ sym (ap pair_reading_of ((datagram_decided octets).fails f fails))

    -- one, or its fault
    as_one : announces octets ≡ false → (r : Result MessageValue V2Fault) → message_at octets ≡ r → reading ≡ Alone (control_reading_of r) → IsDatagramReadOf octets reading
    as_one none (Ok m) e is = inl (alone m, inl (m, (control.message_decided octets).ok m e, refl), is)
    as_one none (Err f) e is = inr (f, inl (unannounced octets none, (control.message_decided octets).err f e), is ∙ ap (λ (b : Bool). Alone (datagram_fault b f)) (sym none))

    one_is : announces octets ≡ false → IsDatagramReadOf octets reading → reading ≡ Alone (control_reading octets)
    one_is none (inl (d, inl (m, is, same), as_d)) =
        as_d ∙ ap (λ (v : DatagramValue). messages_read v.first v.second) same ∙ sym (ap (λ (r : Result MessageValue V2Fault). Alone (control_reading_of r)) ((control.message_decided octets).is m is))
    one_is none (inl (d, inr (front, back, (flags, kind, high, low, following, begins, long, is), are), as_d)) = absurd (unannounced octets none flags kind high low (following ++ back) begins)
    one_is none (inr (f, inl (un, fails), as_f)) =
        as_f ∙ ap (λ (b : Bool). Alone (datagram_fault b f)) none ∙ sym (ap (λ (r : Result MessageValue V2Fault). Alone (control_reading_of r)) ((control.message_decided octets).fails f fails))
    one_is none (inr (f, inr (inl (flags, kind, high, low, held, begins, more, is)), as_f)) = absurd (unannounced octets none flags kind high low held begins)
    one_is none (inr (f, inr (inr (front, back, (flags, kind, high, low, following, begins, long, is), fails)), as_f)) = absurd (unannounced octets none flags kind high low (following ++ back) begins)

    by_announcement : (b : Bool) → announces octets ≡ b → (reading ≡ datagram_reading octets) ↔ IsDatagramReadOf octets reading
    by_announcement true told = (λ is. as_pair told (datagram_at octets) refl (is ∙ reads_pair octets told), λ p. pair_is told p ∙ sym (reads_pair octets told))
    by_announcement false none = (λ is. as_one none (message_at octets) refl (is ∙ reads_alone octets none), λ p. one_is none p ∙ sym (reads_alone octets none))

-- what reads as one message reads so of the datagram
pub message_reads_alone : MessageReadsAlone
message_reads_alone octets m reads = ⊎_elim
    (λ is. ap (λ (r : ControlReading). Alone r) is.2 ∙ (datagram_by_grammar octets (Alone (Control_message (message_of is.0)))).1 (inl (alone is.0, inl (is.0, is.1, refl), refl)))
    (λ fails. absurd (subst IsFault (sym fails.2) (fault_is fails.0)))
    ((control_by_grammar octets (Control_message m)).0 reads)
