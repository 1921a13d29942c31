-- Messages of a gateway's own are sent as they are spelled, and read as they are.
use Rattle.std.proofs.Common.{◌≡◌, ℕ, ◌+◌, ◌*◌, ◌≤◌, inl, List, [], ◌∷◌, Some, None, length, refl, sym, ◌∙◌, ap, subst, arith, rules}
use Rattle.std.specs.Borrow.{Bor}
use Rattle.gtp_values.specs.declared.address.Ip.{Ip}
use Rattle.gtp_values.specs.declared.identifiers.Teid.{Teid}
use Rattle.gtp_v2.specs.declared.message.Message as decoded
use Rattle.gtp_v2.specs.Body.{message_value}
use Rattle.gtp_v2.specs.Datagram.{IsMessage}
use Rattle.gtp_v2.specs.Pair.{both, paired, Announces}
use Rattle.gtp_v2.proofs.Joined.{announces, read_again}
use Rattle.gtp_v2.specs.Encoding.{canonical_encoding}
use Rattle.gtp_user.specs.Datagram.{IsUserMessage}
use Rattle.gtp_user.specs.declared.message.UserMessage.{UserMessage}
use Rattle.gtp_user.specs.declared.message.UserBody.TheVariants as bodies
use Rattle.gtp_user.specs.Chain.{Extension}
use Rattle.gtp_user.specs.Message as user_messages
use Rattle.gtp_user.specs.Message.{of_parts}
use Rattle.gtp_user.specs.Encoding.{octets_of, encoding, options_encoding, content_encoding}
use Rattle.gtp_machine.specs.Input.{Control_message, User_message}
use Rattle.gtp_machine.specs.Message.{Message, Plane}
use Rattle.gtp_machine.specs.Reading.{control_message, user_message, Alone, Both, DatagramReads, UserReads, reading_of}
use Rattle.gtp_machine.specs.Spelling.{spelled_on, spelled, spelled_all}
use Rattle.gtp_machine.proofs.Octets.ByGrammar.{decoded_reads, user_decoded_reads}
use Rattle.gtp_machine.proofs.Octets.Datagrams.{message_reads_alone, datagram_by_grammar}
use Rattle.gtp_gateway.specs.messages.Own.{IsOwn, IsUserOwn}
use Rattle.gtp_gateway.specs.receive.TwoMessages.{first_length}
use Rattle.gtp_gateway.specs.messages.Sent.{ReadsBackOn, ReadsBack}
use Rattle.gtp_gateway.specs.messages.Spelled.{message_read, message_in, those_read, messages_in, LieApart, AreSpelled, AreSpelledAll}

pub own_spelled : (m : decoded.Message) → IsOwn m → canonical_encoding (message_value m) ≡ spelled (control_message m)
own_spelled m own = ap canonical_encoding own.says ∙ sym (ap (λ p. spelled_on p (control_message m)) own.control)

pub own_read : (octets : List ℕ) (m : decoded.Message) → IsMessage octets (message_value m) → message_in octets ≡ control_message m
unfolding message_in
own_read octets m is = ap message_read (sym (decoded_reads octets m is))

-- octets that are written of the message read as it, and can be kept
pub own_back : (octets : List ℕ) (m : decoded.Message) → IsOwn m → octets ≡ canonical_encoding (message_value m) → IsMessage octets (message_value m) → ReadsBack (control_message m ∷ [])
own_back octets m own written is =
    subst (λ (p : Plane). ReadsBackOn p (control_message m ∷ [])) (sym own.control) (
      subst (λ (o : List ℕ). DatagramReads o (Alone (Control_message (control_message m)))) (written ∙ own_spelled m own)
          (message_reads_alone octets (control_message m) (decoded_reads octets m is)),
      refl,
    )

pub own_kept : (octets : List ℕ) (m : decoded.Message) → IsOwn m → octets ≡ canonical_encoding (message_value m) → IsMessage octets (message_value m) → AreSpelled octets
own_kept octets m own written is =
    record {
      is = written ∙ own_spelled m own ∙ ap spelled (sym (own_read octets m is));
      read = ap (λ k. Control_message k) (own_read octets m is) ∙ decoded_reads octets m is;
    }

-- a first message ends where its header states
stated_length : (front back : List ℕ) → Announces (paired front back) front back → first_length (paired front back) ≡ length front
stated_length front back (flags, kind, high, low, following, begins, long, text) =
    let stated : first_length (paired front back) ≡ 4 + (256 * high + low) = ap first_length begins.1 in
    let own : length front ≡ length ((64 + flags) ∷ kind ∷ high ∷ low ∷ following) = ap length text in
    omega (arith, stated, long, own)

-- two messages in one datagram, from what is written of each
module _ (front back : List ℕ) (m n : decoded.Message) (own : IsOwn m) (first : IsMessage front (message_value m))
    (second : IsMessage back (message_value n)) (front_is : front ≡ spelled (control_message m)) (back_is : back ≡ spelled (control_message n)) where
  pub pair_spelled : paired front back ≡ spelled_all (control_message m ∷ control_message n ∷ [])
  pair_spelled = λ i. paired (front_is i) (back_is i)

  pub pair_reads : DatagramReads (paired front back) (Both (control_message m) (control_message n))
  pair_reads =
      (datagram_by_grammar (paired front back) (Both (control_message m) (control_message n))).1
      (inl (both (message_value m) (message_value n), read_again front back (message_value m) (message_value n) first second, refl))

  pub pair_in : messages_in (paired front back) ≡ control_message m ∷ control_message n ∷ []
  unfolding messages_in
  pair_in = ap those_read (sym pair_reads)

  pair_apart : LieApart (control_message m ∷ control_message n ∷ [])
  pair_apart =
      subst (λ (f : List ℕ). first_length (paired f (spelled (control_message n))) ≡ length f) front_is
      (subst (λ (b : List ℕ). first_length (paired front b) ≡ length front) back_is
      (stated_length front back (announces front back (message_value m) first)))

  pub pair_kept : AreSpelledAll (paired front back)
  pair_kept = record {
    is = pair_spelled ∙ ap spelled_all (sym pair_in);
    read = subst (λ (datagram : List Message). DatagramReads (paired front back) (reading_of datagram)) (sym pair_in) pair_reads;
    apart = subst LieApart (sym pair_in) pair_apart;
  }

  pub pair_back : ReadsBack (control_message m ∷ control_message n ∷ [])
  pair_back =
      subst (λ (p : Plane). ReadsBackOn p (control_message m ∷ control_message n ∷ [])) (sym own.control)
      (subst (λ (o : List ℕ). DatagramReads o (Both (control_message m) (control_message n))) pair_spelled pair_reads, pair_apart)

pub user_own_spelled : (m : UserMessage) → IsUserOwn m → encoding (user_messages.message_value m) ≡ spelled (user_message m)
user_own_spelled m own = ap encoding own.says ∙ sym (ap (λ p. spelled_on p (user_message m)) own.user)

pub user_own_back : (octets : List ℕ) (m : UserMessage) → IsUserOwn m → octets ≡ encoding (user_messages.message_value m)
    → IsUserMessage octets (user_messages.message_value m) → ReadsBack (user_message m ∷ [])
user_own_back octets m own written is =
    subst (λ (p : Plane). ReadsBackOn p (user_message m ∷ [])) (sym own.user)
    (subst (λ (o : List ℕ). UserReads o (User_message (user_message m))) (written ∙ user_own_spelled m own) (user_decoded_reads octets m is))

-- the messages of the user plane that a gateway sends, with no extension header
pub packet_own : (teid : Teid) (payload : Bor (List ℕ)) (extensions : List Extension) → extensions ≡ [] → length payload.now ≤ 65000
    → IsUserOwn (of_parts None None extensions (bodies.Packet teid payload))
unfolding options_encoding content_encoding
packet_own teid payload extensions none few = rw none (record { encodable = tt; short = omega (arith, few); user = refl; says = refl })

pub marker_own : (teid : Teid) (extensions : List Extension) → extensions ≡ [] → IsUserOwn (of_parts None None extensions (bodies.EndMarker teid))
unfolding options_encoding content_encoding
marker_own teid extensions none = rw none (record { encodable = tt; short = omega arith; user = refl; says = refl })

pub indication_own : (teid : Teid) (peer : Ip) (extensions : List Extension) → extensions ≡ [] → length (octets_of peer) ≤ 16
    → IsUserOwn (of_parts (Some 0) None extensions (bodies.ErrorIndication peer teid))
unfolding options_encoding content_encoding
indication_own teid peer extensions none few = rw none (record { encodable = search rules; short = omega (arith, few); user = refl; says = refl })

pub notification_own : (types : Bor (List ℕ)) (extensions : List Extension) → types.now ≡ 64 ∷ [] → extensions ≡ [] → IsUserOwn (of_parts (Some 0) None extensions (bodies.Notification types))
unfolding options_encoding content_encoding
notification_own types extensions of none = rw (none, of) (record { encodable = (search rules, omega arith); short = omega arith; user = refl; says = refl })

pub echo_own : (number : ℕ) (extensions : List Extension) → extensions ≡ [] → IsUserOwn (of_parts (Some number) None extensions bodies.EchoResponse)
unfolding options_encoding content_encoding
echo_own number extensions none = rw none (record { encodable = search rules; short = omega arith; user = refl; says = refl })
