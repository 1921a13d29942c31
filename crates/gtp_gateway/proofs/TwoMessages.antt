-- Two messages in one datagram, where they lie, and what the datagram reads as.
use Rattle.std.proofs.Common.{◌≡◌, inl, inr, ℕ, suc, ◌+◌, ◌*◌, ◌/◌, ◌%◌, ◌<◌, Bool, true, false, List, [], ◌∷◌, ◌++◌, map, length, take, drop, Option}
use Rattle.std.proofs.Common.{Some, None, refl, sym, ◌∙◌, ap, subst, append-nil, arith}
use Rattle.std.specs.Prelude.{◌==◌, ◌-◌, is_some}
use Rattle.std.specs.List.{AllByRecursion}
use Rattle.std.proofs.lemmas.Bool.Decides.{nat_tests}
use Rattle.std.proofs.lemmas.List.{take_at, drop_at, length-append}
use Rattle.std.proofs.lemmas.List.Elements.{recursion_from_All}
use Rattle.gtp_values.specs.FiniteMap.{Among}
use Rattle.gtp_values.specs.declared.address.Endpoint.{Endpoint}
use Rattle.gtp_reliable.specs.Held.{HeldPair, IsHeld}
use Rattle.gtp_v2.specs.Message.{MessageValue}
use Rattle.gtp_v2.specs.Datagram.{IsMessage}
use Rattle.gtp_v2.specs.Pair.{alone, both, paired, Announces, LieIn, IsDatagramFault}
use Rattle.gtp_v2.specs.Viewed.{Viewed}
use Rattle.gtp_v2.specs.declared.fault.V2Fault.{V2Fault}
use Rattle.gtp_machine.specs.Answer.{IsNew}
use Rattle.gtp_machine.specs.Decoded.{message_of}
use Rattle.gtp_machine.specs.Input.{ControlReading, Control_message}
use Rattle.gtp_machine.specs.Message.{Message, Create_session_response, Create_bearer_request}
use Rattle.gtp_machine.specs.Node.{Arrival, Held, Node}
use Rattle.gtp_machine.specs.Reading.{Alone, Both, announces, datagram_fault, datagram_reading, taken_as}
use Rattle.gtp_machine.specs.Step.{TakesPair}
use Rattle.gtp_machine.proofs.Octets.Datagrams.{cut_announces_none, datagram_by_grammar, reads_alone}
use Rattle.gtp_gateway.specs.receive.TwoMessages.{first_length, first_part, second_part, IsSecondAt}
use Rattle.gtp_gateway.specs.Parts.{held_of}
use Rattle.gtp_gateway.specs.receive.Piggybacked.{ArePair}
use Rattle.gtp_gateway.specs.messages.Spelled.{IsKept, AreAnswered}
use Rattle.gtp_gateway.specs.GatewayState.{GatewayState}
use Rattle.gtp_gateway.specs.receive.Taken.{IsNoPair}
use Rattle.gtp_gateway.proofs.Answers.{none_held}

-- ---- where the two lie

abbrev opened : ℕ → ℕ → ℕ → ℕ → List ℕ → List ℕ
opened first kind high low held = first ∷ kind ∷ high ∷ low ∷ held

-- what the parts of octets are that announce a second message
pub record HasParts (octets front back : List ℕ) : Type 0 where
  pub long : first_length octets ≡ length front
  pub first : first_part octets ≡ paired front []
  pub second : second_part octets ≡ back
  pub told : announces octets ≡ true
  pub told_in_first : announces (first_part octets) ≡ true

announced : (first kind high low : ℕ) (held : List ℕ) → first / 16 ≡ 5 → announces (opened first kind high low held) ≡ true
announced first kind high low held five = let is : (first / 16 == 5) ≡ true = grind (arith, nat_tests) in is

module _ (flags kind high low : ℕ) (following back : List ℕ) (small : flags < 16) (long : 256 * high + low ≡ length following) where
  abbrev whole : List ℕ
  whole = opened (80 + flags) kind high low (following ++ back)

  abbrev alone_front : List ℕ
  alone_front = opened (64 + flags) kind high low following

  five : (80 + flags) / 16 ≡ 5
  five = omega (arith, small)

  of_front : first_length whole ≡ length alone_front
  of_front = omega (arith, long)

  four : 4 + (256 * high + low) ≡ suc (suc (suc (suc (256 * high + low))))
  four = omega arith

  taken : take (4 + (256 * high + low)) whole ≡ opened (80 + flags) kind high low following
  taken = ap (λ k. take k whole) four ∙ ap (opened (80 + flags) kind high low) (take_at following back (256 * high + low) (sym long))

  lies : opened (80 + flags) kind high low following ≡ paired alone_front []
  lies = let set : 80 + flags ≡ ((64 + flags) + 16) % 256 = omega (arith, small) in λ i. set i ∷ kind ∷ high ∷ low ∷ sym (append-nil following) i

  parts_at : HasParts whole alone_front back
  parts_at = record {
    long = of_front;
    first = taken ∙ lies;
    second = ap (λ k. drop k whole) four ∙ drop_at following back (256 * high + low) (sym long);
    told = announced (80 + flags) kind high low (following ++ back) five;
    told_in_first = ap announces taken ∙ announced (80 + flags) kind high low following five;
  }

pub parts_of : (octets front back : List ℕ) → Announces octets front back → HasParts octets front back
parts_of octets front back (flags, kind, high, low, following, (small, text), long, is) =
    subst (λ (o : List ℕ). HasParts o front back) (sym text)
    (subst (λ (f : List ℕ). HasParts (opened (80 + flags) kind high low (following ++ back)) f back) (sym is) (parts_at flags kind high low following back small long))

-- a message by itself announces none
pub none_announced : (octets : List ℕ) (m : MessageValue) → IsMessage octets m → announces octets ≡ false
none_announced octets m is = subst (λ (o : List ℕ). announces o ≡ false) (take_all octets) (cut_announces_none octets m (length octets) is)
  where
    take_all : (xs : List ℕ) → take (length xs) xs ≡ xs
    take_all [] = refl
    take_all (x ∷ xs) = λ i. x ∷ take_all xs i

-- ---- what the datagram reads as

pub one_reads : (octets : List ℕ) (m : MessageValue) → IsMessage octets m → datagram_reading octets ≡ Alone (Control_message (message_of m))
one_reads octets m is = sym ((datagram_by_grammar octets (Alone (Control_message (message_of m)))).1 (inl (alone m, inl (m, is, refl), refl)))

pub fault_reads : (octets : List ℕ) (f : V2Fault) → IsDatagramFault octets f → datagram_reading octets ≡ Alone (datagram_fault (announces octets) f)
fault_reads octets f fails = sym ((datagram_by_grammar octets (Alone (datagram_fault (announces octets) f))).1 (inr (f, fails, refl)))

pub two_read : (octets : List ℕ) (first second : Viewed) (back : List ℕ) → LieIn octets first (Some second) back → datagram_reading octets ≡ Both (message_of first.message) (message_of second.message)
two_read octets first second back (front, announced, in_front, in_back) =
    sym ((datagram_by_grammar octets (Both (message_of first.message) (message_of second.message))).1 (inl (
      both first.message second.message,
      inr (front, back, announced, (first.message, in_front.spelled, (second.message, in_back.spelled, refl))),
      refl,
    )))

-- octets that spell one message are taken for it, and those at fault for the fault
pub reads_message : (octets : List ℕ) (m : MessageValue) → IsMessage octets m → Control_message (message_of m) ≡ taken_as (datagram_reading octets)
reads_message octets m is = ap taken_as (sym (one_reads octets m is))

pub reads_fault : (octets : List ℕ) (f : V2Fault) → IsDatagramFault octets f → datagram_fault (announces octets) f ≡ taken_as (datagram_reading octets)
reads_fault octets f fails = ap taken_as (sym (fault_reads octets f fails))

-- octets that read as one message, or as a fault, are no pair
pub alone_no_pair : (arrival : Arrival) (old : GatewayState) (reading : ControlReading) → datagram_reading arrival.octets ≡ Alone reading → IsNoPair arrival old
alone_no_pair arrival old reading is pair = let both : Alone reading ≡ Both (Create_session_response pair.answer) (Create_bearer_request pair.asked) = sym is ∙ pair.is in cc

-- and those that announce none
pub unannounced_no_pair : (arrival : Arrival) (old : GatewayState) → announces arrival.octets ≡ false → IsNoPair arrival old
unannounced_no_pair arrival old none = alone_no_pair arrival old _ (reads_alone arrival.octets none)

same_both : (a b c d : Message) → Both a b ≡ Both c d → (a ≡ c) × (b ≡ d)
same_both a b c d is = (cc is, cc is)

-- the messages of a pair that is taken are those that were viewed
pub pair_viewed : (arrival : Arrival) (old : GatewayState) (first second : Viewed) (back : List ℕ) → LieIn arrival.octets first (Some second) back
    → (pair : TakesPair old.role old.node.config arrival (datagram_reading arrival.octets)) → ArePair first second pair.answer pair.asked
pair_viewed arrival old first second back lie pair =
    let same = same_both _ _ _ _ (sym (two_read arrival.octets first second back lie) ∙ pair.is) in
    record { answer = same.0; asked = same.1 }

-- ---- answers that are held

kept_alone : (source : Endpoint) (octets : List ℕ) (ps : List HeldPair) → AllByRecursion IsKept ps → IsHeld source octets ps → announces octets ≡ false
kept_alone source octets [] each held = absurd held
kept_alone source octets (p ∷ ps) each (inl here) = subst (λ (o : List ℕ). announces o ≡ false) here.1 each.0.alone
kept_alone source octets (p ∷ ps) each (inr there) = kept_alone source octets ps each.1 there

-- none is held by octets that announce a second message
pub held_alone : (source : Endpoint) (octets : List ℕ) (ps : List HeldPair) → AreAnswered ps → IsHeld source octets ps → announces octets ≡ false
held_alone source octets ps each held = kept_alone source octets ps (recursion_from_All IsKept ps each) held

pub announcing_new : (arrival : Arrival) (ps : List HeldPair) (node : Node) → node.held ≡ map held_of ps → AreAnswered ps → announces arrival.octets ≡ true → IsNew node arrival
announcing_new arrival ps node is each told held among same =
    none_held ps arrival.source arrival.octets (λ here. let both : true ≡ false = sym told ∙ held_alone arrival.source arrival.octets ps each here in cc) held (subst (Among held) is among) same

-- so a datagram for which an answer is held is no pair
pub kept_no_pair : (arrival : Arrival) (old : GatewayState) (ps : List HeldPair) → old.node.held ≡ map held_of ps → AreAnswered ps → (held : Held)
    → Among held old.node.held → held.request ≡ arrival → IsNoPair arrival old
kept_no_pair arrival old ps is each held stands same = by (announces arrival.octets) refl
  where
    by : (b : Bool) → announces arrival.octets ≡ b → IsNoPair arrival old
    by true told = absurd (announcing_new arrival ps old.node is each told held stands same)
    by false none = unannounced_no_pair arrival old none

-- ---- the place of the second

pub second_there : (octets : List ℕ) (first : Viewed) (second : Option Viewed) (back : List ℕ) (place : ℕ) → LieIn octets first second back → is_some second ≡ true
    → place ≡ length octets - length back → IsSecondAt octets place
second_there octets first None back place lie some is = absurd cc
second_there octets first (Some second) back place (front, announced, in_front, in_back) some is =
    let parts = parts_of octets front back announced in
    let all : length octets ≡ length front + length back = whole_length octets front back announced in
    let here : place ≡ length front = omega (arith, is, all) in
    record {
      front = front;
      back = back;
      announced = announced;
      first = first.message;
      spells_first = in_front.spelled;
      second = second.message;
      spells_second = in_back.spelled;
      place_is = here;
      rest = ap (λ (n : ℕ). drop n octets) (here ∙ sym parts.long) ∙ parts.second;
    }
  where
    whole_length : (octets front back : List ℕ) → Announces octets front back → length octets ≡ length front + length back
    whole_length octets front back (flags, kind, high, low, following, (small, text), long, is) =
        let lengths = ap length text in
        let fronts = ap length is in
        omega (arith, lengths, fronts, length-append following back)

-- octets that announce none have no second
pub no_second : (octets : List ℕ) (place : ℕ) → announces octets ≡ false → IsSecondAt octets place → ⊥
no_second octets place none at = let told : true ≡ false = sym (parts_of octets at.front at.back at.announced).told ∙ none in cc

-- nor have those at fault
pub no_second_fault : (octets : List ℕ) (f : V2Fault) (place : ℕ) → IsDatagramFault octets f → IsSecondAt octets place → ⊥
no_second_fault octets f place fails at =
    let read =
    sym ((datagram_by_grammar octets (Both (message_of at.first) (message_of at.second))).1
    (inl (both at.first at.second, inr (at.front, at.back, at.announced, (at.first, at.spells_first, (at.second, at.spells_second, refl))), refl))) in
    let same : Both (message_of at.first) (message_of at.second) ≡ Alone (datagram_fault (announces octets) f) = sym read ∙ fault_reads octets f fails in
    cc
