-- Two messages in one datagram: where each lies, and which octets are those of the last.
use Rattle.std.proofs.Common.{◌≡◌, inl, inr, ℕ, suc, Bool, true, false, cond, ◌+◌, ◌*◌, ◌%◌, ◌≤◌, List, [], ◌∷◌, ◌++◌, length, take, drop, refl, sym, ◌∙◌, ap, subst, arith, append-nil, length-append}
use Rattle.std.proofs.Math.Seq.{drop-append_seam, take-append_seam}
use Rattle.gtp_v2.specs.Datagram.{IsMessage}
use Rattle.gtp_v2.specs.Message.{MessageValue}
use Rattle.gtp_v2.specs.Pair.{DatagramValue, Announces, paired}
use Rattle.gtp_machine.specs.Message.{CreateSessionResponse, Message, Create_session_response, Control}
use Rattle.gtp_machine.specs.Input.{Control_message}
use Rattle.gtp_machine.specs.Decoded.{message_of}
use Rattle.gtp_v2.specs.declared.fault.V2Fault.{V2Fault}
use Rattle.gtp_v2.specs.reading.Pair.{datagram_at}
use Rattle.gtp_machine.specs.Reading.{ControlReads, Alone, Both, announces, messages_read, datagram_fault, pair_reading_of, control_reading, datagram_reading, DatagramReads, IsDatagramReadOf}
use Rattle.gtp_machine.specs.Spelling.{spelled, announcing, spelled_all, last_part}
use Rattle.gtp_machine.proofs.Octets.ByGrammar.{control_by_grammar}
use Rattle.gtp_machine.proofs.Octets.Datagrams.{datagram_by_grammar}
use Rattle.gtp_gateway.specs.receive.TwoMessages.{first_length, first_part, second_part}
use Rattle.gtp_gateway.proofs.TwoMessages.{none_announced}
use Rattle.gtp_gateway.specs.messages.Sent.{ReadsBackOn}
use Rattle.gtp_gateway.specs.messages.Spelled.{LieApart}
use Rattle.gtp_world.specs.Last.{last_octets}

-- ---- by the grammar

-- the octets spell these two messages, of which the first announces the second
pub record ArePaired (octets : List ℕ) (a b : Message) : Type 0 where
  pub front : List ℕ
  pub back : List ℕ
  pub announced : Announces octets front back
  pub first : MessageValue
  pub spells_first : IsMessage front first
  pub second : MessageValue
  pub spells_second : IsMessage back second
  pub first_is : a ≡ message_of first
  pub second_is : b ≡ message_of second

pub paired_of : (octets : List ℕ) (a b : Message) → DatagramReads octets (Both a b) → ArePaired octets a b
paired_of octets a b reads = of_two ((datagram_by_grammar octets (Both a b)).0 reads)
  where
    of_two : IsDatagramReadOf octets (Both a b) → ArePaired octets a b
    of_two (inl (d, inl (k, is, same), as_d)) = let so : Both a b ≡ Alone (Control_message (message_of k)) = as_d ∙ ap (λ (v : DatagramValue). messages_read v.first v.second) same in absurd (cc so)
    of_two (inl (d, inr (front, back, announced, (m, is_m, (n, is_n, same))), as_d)) =
        let so : Both a b ≡ Both (message_of m) (message_of n) = as_d ∙ ap (λ (v : DatagramValue). messages_read v.first v.second) same in
        record { front = front; back = back; announced = announced; first = m; spells_first = is_m; second = n; spells_second = is_n; first_is = cc so; second_is = cc so }
    of_two (inr (f, fails, as_f)) = absurd (cc as_f)

-- the first ends where its header states
pub first_ends : (octets front back : List ℕ) → Announces octets front back → first_length octets ≡ length front
first_ends octets front back (flags, kind, high, low, following, begins, states, is) =
    let ends : first_length octets ≡ 4 + (256 * high + low) = ap first_length begins.1 in
    let long : length front ≡ suc (suc (suc (suc (length following)))) = ap length is in
    omega (arith, ends, states, long)

-- and after it lies the second
pub second_lies : (octets front back : List ℕ) → Announces octets front back → drop (length front) octets ≡ back
second_lies octets front back (flags, kind, high, low, following, begins, states, is) =
    (λ i. drop (length (is i)) (begins.1 i)) ∙ drop-append_seam following back

-- so the datagram is as long as both
pub first_within : (octets front back : List ℕ) → Announces octets front back → length front ≤ length octets
first_within octets front back (flags, kind, high, low, following, begins, states, is) =
    let all : length octets ≡ suc (suc (suc (suc (length (following ++ back))))) = ap length begins.1 in
    let long : length front ≡ suc (suc (suc (suc (length following)))) = ap length is in
    omega (arith, all, long, length-append following back)

-- ---- the octets of the last message

-- octets that read as two messages announce the second
two_announced : (octets : List ℕ) (a b : Message) → datagram_reading octets ≡ Both a b → announces octets ≡ true
two_announced octets a b is = by (announces octets) refl is
  where
    by : (announced : Bool) → announces octets ≡ announced → cond announced (pair_reading_of (datagram_at octets)) (Alone (control_reading octets)) ≡ Both a b → announces octets ≡ true
    by true h e = h
    by false h e = absurd (cc e)

-- and octets that read as one message by itself announce none
pub one_announces_none : (octets : List ℕ) (m : Message) → DatagramReads octets (Alone (Control_message m)) → announces octets ≡ false
one_announces_none octets m reads = of_one ((datagram_by_grammar octets (Alone (Control_message m))).0 reads)
  where
    by_fault : (announced : Bool) (fault : V2Fault) → announces octets ≡ announced → Alone (Control_message m) ≡ Alone (datagram_fault announced fault) → announces octets ≡ false
    by_fault true fault h e = absurd (cc e)
    by_fault false fault h e = h

    of_one : IsDatagramReadOf octets (Alone (Control_message m)) → announces octets ≡ false
    of_one (inl (d, inl (k, is, same), as_d)) = none_announced octets k is
    of_one (inl (d, inr (front, back, announced, (k, is_k, (n, is_n, same))), as_d)) =
        let so : Alone (Control_message m) ≡ Both (message_of k) (message_of n) = as_d ∙ ap (λ (v : DatagramValue). messages_read v.first v.second) same in
        absurd (cc so)
    of_one (inr (f, fails, as_f)) = by_fault (announces octets) f refl as_f

pub last_of : (octets : List ℕ) (announced : Bool) → announces octets ≡ announced → last_octets octets ≡ cond announced (second_part octets) octets
unfolding last_octets
last_of octets announced h = ap (λ (b : Bool). cond b (second_part octets) octets) h

-- where octets read as two
pub last_two : (octets : List ℕ) (a b : Message) → datagram_reading octets ≡ Both a b → last_octets octets ≡ second_part octets
last_two octets a b is = last_of octets true (two_announced octets a b is)

-- ---- what was sent

drop_paired : (front back : List ℕ) → drop (length front) (paired front back) ≡ back
drop_paired [] back = refl
drop_paired (first ∷ front) back = drop-append_seam front back

take_paired : (front back : List ℕ) → take (length front) (paired front back) ≡ paired front []
take_paired [] back = refl
take_paired (first ∷ front) back = ap (λ l. ((first + 16) % 256) ∷ l) (take-append_seam front back ∙ sym (append-nil front))

-- two messages lie there, the first with its announcement
pub first_sent : (a b : Message) (rest : List Message) → LieApart (a ∷ b ∷ rest) → first_part (spelled_all (a ∷ b ∷ rest)) ≡ announcing a
first_sent a b rest apart = ap (λ n. take n (paired (spelled a) (spelled b))) apart ∙ take_paired (spelled a) (spelled b)

pub second_sent : (a b : Message) (rest : List Message) → LieApart (a ∷ b ∷ rest) → second_part (spelled_all (a ∷ b ∷ rest)) ≡ spelled b
second_sent a b rest apart = ap (λ n. drop n (paired (spelled a) (spelled b))) apart ∙ drop_paired (spelled a) (spelled b)

-- the last message has the octets by which the machine knows it
pub last_sent : (datagram : List Message) → ReadsBackOn Control datagram → last_octets (spelled_all datagram) ≡ last_part datagram
last_sent [] reads = last_of [] false refl
last_sent (m ∷ []) reads = last_of (spelled m) false (one_announces_none (spelled m) m reads.0)
last_sent (a ∷ b ∷ rest) reads = last_two (spelled_all (a ∷ b ∷ rest)) a b (sym reads.0) ∙ second_sent a b rest reads.1

-- ---- each message by itself

-- of a datagram of two, the front is as long as the first is by itself, and the back is the second
module _ (a b : Message) (rest : List Message) (reads : ReadsBackOn Control (a ∷ b ∷ rest)) where
  pub two : ArePaired (spelled_all (a ∷ b ∷ rest)) a b
  two = paired_of (spelled_all (a ∷ b ∷ rest)) a b reads.0

  pub front_long : length two.front ≡ length (spelled a)
  front_long = sym (first_ends (spelled_all (a ∷ b ∷ rest)) two.front two.back two.announced) ∙ reads.1

  back_is : two.back ≡ spelled b
  back_is = sym (second_lies (spelled_all (a ∷ b ∷ rest)) two.front two.back two.announced) ∙ (ap (λ n. drop n (paired (spelled a) (spelled b))) front_long ∙ drop_paired (spelled a) (spelled b))

  pub second_alone : ControlReads (spelled b) (Control_message b)
  second_alone = (control_by_grammar (spelled b) (Control_message b)).1 (inl (two.second, subst (λ l. IsMessage l two.second) back_is two.spells_second, ap (λ m. Control_message m) two.second_is))

-- an answer that makes a session begins so
module _ (c : CreateSessionResponse) (b : Message) (reads : ReadsBackOn Control (Create_session_response c ∷ b ∷ [])) where
  abbrev a : Message
  a = Create_session_response c

  unannounced : (octets following back front own : List ℕ) (flags kind high low : ℕ) → octets ≡ (80 + flags) ∷ kind ∷ high ∷ low ∷ (following ++ back)
      → front ≡ (64 + flags) ∷ kind ∷ high ∷ low ∷ following → octets ≡ paired (72 ∷ own) (spelled b) → length front ≡ length (72 ∷ own)
      → front ≡ 72 ∷ own
  unannounced octets following back front own flags kind high low begins is spells long =
      let same : ◌≡◌ {A = List ℕ} ((80 + flags) ∷ kind ∷ high ∷ low ∷ (following ++ back)) (88 ∷ (own ++ spelled b)) = sym begins ∙ spells in
      let head : 80 + flags ≡ 88 = cc same in
      let tail : kind ∷ high ∷ low ∷ (following ++ back) ≡ own ++ spelled b = cc same in
      let count : suc (length (kind ∷ high ∷ low ∷ following)) ≡ suc (length own) = sym (ap length is) ∙ long in
      let many : length (kind ∷ high ∷ low ∷ following) ≡ length own = cc count in
      let mine : kind ∷ high ∷ low ∷ following ≡ own =
      sym (take-append_seam (kind ∷ high ∷ low ∷ following) back) ∙ ((λ i. take (many i) (tail i)) ∙ take-append_seam own (spelled b)) in
      let first : 64 + flags ≡ 72 = omega (arith, head) in
      is ∙ (λ i. first i ∷ mine i)

  front_is : (own : List ℕ) → spelled a ≡ 72 ∷ own → (two a b [] reads).front ≡ spelled a
  front_is own is =
      let t = two a b [] reads in
      let an = t.announced in
      unannounced (spelled_all (a ∷ b ∷ [])) an.4 t.back t.front own an.0 an.1 an.2 an.3 an.5.1 an.7 (ap (λ l. paired l (spelled b)) is) (front_long a b [] reads ∙ ap length is) ∙ sym is

  pub first_alone : ControlReads (spelled a) (Control_message a)
  first_alone =
      (control_by_grammar (spelled a) (Control_message a)).1
      (inl (
        (two a b [] reads).first,
        subst (λ l. IsMessage l (two a b [] reads).first) (front_is _ refl) (two a b [] reads).spells_first,
        ap (λ m. Control_message m) (two a b [] reads).first_is,
      ))
