-- What the datagrams of a world read as, whole and cut short.
use Rattle.std.proofs.Common.{◌≡◌, ⊎_elim, inl, inr, ℕ, ◌<◌, Bool, true, false, List, [], ◌∷◌, length, take, Some, None, sym, ◌∙◌, ap, subst}
use Rattle.std.proofs.Math.Nat.{not-suc-le-zero}
use Rattle.gtp_v2.specs.declared.fault.V2Fault.{V2Fault}
use Rattle.gtp_v2.specs.Pair.{DatagramValue}
use Rattle.gtp_user.specs.declared.fault.UserFault.{UserFault}
use Rattle.gtp_user.specs.declared.fault.UserFault.TheVariants as user_faults
use Rattle.gtp_machine.specs.Config.{Config, user_end, own_end}
use Rattle.gtp_machine.specs.Input.{Control_message, Control_fault, UserReading, User_message, Extension_needed, User_fault, Control_came, User_came}
use Rattle.gtp_machine.specs.Message.{Message, Plane, Control, User}
use Rattle.gtp_machine.specs.Reading.{user_fault, control_reading, ControlReads, Alone, announces, messages_read, datagram_fault, datagram_reading}
use Rattle.gtp_machine.specs.Reading.{DatagramReads, IsDatagramReadOf, taken_as, user_reading, cut_fault, pair_cut_fault, user_cut_fault}
use Rattle.gtp_machine.specs.Spelling.{spelled, spelled_all}
use Rattle.gtp_machine.specs.World.{come_from, delivered_on, fault_of_cut, cut_on}
use Rattle.gtp_machine.proofs.Octets.ByGrammar.{control_by_grammar, user_by_grammar, user_cuts_read}
use Rattle.gtp_machine.proofs.Octets.Datagrams.{datagram_by_grammar, datagram_cuts_read}
use Rattle.gtp_machine.proofs.Octets.Faults.{IsFault, fault_is}
use Rattle.gtp_machine.proofs.Octets.Pairs.{pair_cuts_read}
use Rattle.gtp_gateway.specs.receive.Received.{coming}
use Rattle.gtp_gateway.specs.messages.Sent.{ReadsBackOn}
use Rattle.gtp_world.proofs.Pairs.{two, front_long}

-- a fault is no message

abbrev IsUserFault : UserReading → Type 0
IsUserFault (User_message m) = ⊥
IsUserFault Extension_needed = Unit {0}
IsUserFault (User_fault f) = Unit {0}

at_fault : (f : UserFault) → IsUserFault (user_fault f)
at_fault (user_faults.Short held) = tt
at_fault (user_faults.Version version) = tt
at_fault user_faults.Protocol = tt
at_fault (user_faults.Length stated held) = tt
at_fault (user_faults.ExtensionZero at) = tt
at_fault (user_faults.ExtensionPast at) = tt
at_fault (user_faults.ExtensionNeeded kind at) = tt
at_fault (user_faults.Missing kind) = tt
at_fault (user_faults.Element at) = tt
at_fault user_faults.Memory = tt
at_fault user_faults.TooLong = tt

-- octets that read as a message are at fault when they are cut

control_cut : (octets : List ℕ) (m : Message) (count : ℕ) → Control_message m ≡ control_reading octets → count < length octets
    → datagram_reading (take count octets) ≡ Alone (Control_fault (cut_fault count))
control_cut octets m count reads short = ⊎_elim
    (λ is. sym (datagram_cuts_read octets is.0 count is.1 short))
    (λ fails. absurd (subst IsFault (sym fails.2) (fault_is fails.0)))
    ((control_by_grammar octets (Control_message m)).0 reads)

user_cut : (octets : List ℕ) (m : Message) (count : ℕ) → User_message m ≡ user_reading octets → count < length octets → user_reading (take count octets) ≡ User_fault (user_cut_fault count)
user_cut octets m count reads short = ⊎_elim
    (λ is. sym (user_cuts_read octets is.0 count is.1 short))
    (λ fails. absurd (subst IsUserFault (sym fails.2) (at_fault fails.0)))
    ((user_by_grammar octets (User_message m)).0 reads)

-- octets that read as a datagram of one message read as that message by themselves
pub by_itself : (octets : List ℕ) (m : Message) → DatagramReads octets (Alone (Control_message m)) → ControlReads octets (Control_message m)
by_itself octets m reads = one ((datagram_by_grammar octets (Alone (Control_message m))).0 reads)
  where
    no_fault : (announced : Bool) (f : V2Fault) → Control_message m ≡ datagram_fault announced f → ⊥
    no_fault true f is = cc is
    no_fault false f is = subst IsFault (sym is) (fault_is f)

    one : IsDatagramReadOf octets (Alone (Control_message m)) → ControlReads octets (Control_message m)
    one (inl (d, inl (k, is, same), as_d)) =
        let so : Alone (Control_message m) ≡ messages_read k None = as_d ∙ ap (λ (v : DatagramValue). messages_read v.first v.second) same in
        (control_by_grammar octets (Control_message m)).1 (inl (k, is, cc so))
    one (inl (d, inr (front, back, announces_it, (a, is_a, (b, is_b, same))), as_d)) =
        let so : Alone (Control_message m) ≡ messages_read a (Some b) = as_d ∙ ap (λ (v : DatagramValue). messages_read v.first v.second) same in
        absurd (cc so)
    one (inr (f, fails, as_f)) = absurd (no_fault (announces octets) f (cc as_f))

-- a datagram comes as it was sent
pub came : (p : Plane) (config : Config) (datagram : List Message) → ReadsBackOn p datagram → coming p (own_end config p) (spelled_all datagram) ≡ delivered_on p config.own datagram
came Control config datagram reads = λ i. Control_came (come_from config.own (spelled_all datagram)) (taken_as (sym reads.0 i))
came User config (m ∷ []) reads = λ i. User_came (user_end config.own.user) (sym reads i)
came User config [] reads = absurd reads
came User config (m ∷ n ∷ rest) reads = absurd reads

-- one of two messages is at fault when it is cut
pair_cut : (a b : Message) (rest : List Message) (count : ℕ) → ReadsBackOn Control (a ∷ b ∷ rest) → count < length (spelled_all (a ∷ b ∷ rest))
    → datagram_reading (take count (spelled_all (a ∷ b ∷ rest))) ≡ Alone (Control_fault (pair_cut_fault count (length (spelled a))))
pair_cut a b rest count reads short =
    let p = two a b rest reads in
    sym (pair_cuts_read (spelled_all (a ∷ b ∷ rest)) p.front p.back p.first p.second count p.announced p.spells_first p.spells_second short)
    ∙ ap (λ n. Alone (Control_fault (pair_cut_fault count n))) (front_long a b rest reads)

-- the first octets of a control datagram read as no message
pub cut_alone : (datagram : List Message) (count : ℕ) → ReadsBackOn Control datagram → count < length (spelled_all datagram)
    → datagram_reading (take count (spelled_all datagram)) ≡ Alone (Control_fault (fault_of_cut datagram count))
cut_alone [] count reads short = absurd (not-suc-le-zero short)
cut_alone (m ∷ []) count reads short = control_cut (spelled m) m count (by_itself (spelled m) m reads.0) short
cut_alone (a ∷ b ∷ rest) count reads short = pair_cut a b rest count reads short

-- a datagram comes cut
pub cut : (p : Plane) (config : Config) (datagram : List Message) (count : ℕ) → ReadsBackOn p datagram → count < length (spelled_all datagram)
    → coming p (own_end config p) (take count (spelled_all datagram)) ≡ cut_on p config.own datagram count
cut Control config datagram count reads short = λ i. Control_came (come_from config.own (take count (spelled_all datagram))) (taken_as (cut_alone datagram count reads short i))
cut User config (m ∷ []) count reads short = λ i. User_came (user_end config.own.user) (user_cut (spelled m) m count reads short i)
cut User config [] count reads short = absurd reads
cut User config (a ∷ b ∷ rest) count reads short = absurd reads
