-- Commands.
use Rattle.std.proofs.Common.{◌≡◌, ℕ, List, Option, None, refl}
use Rattle.std.specs.FinMap.{get, insert}
use Rattle.gtp_values.specs.declared.qos.Qos.{Qos}
use Rattle.gtp_machine.specs.Node.{Role, Serving, Packet, Closing, Session, Bearer, PendingRequest, Node}
use Rattle.gtp_machine.specs.Input.{Specification, Command, Create_session, Delete_session, Create_bearer, Delete_bearer, Release_session, Mark_end, Send_echo, Send_user, Commanded, Effect}
use Rattle.gtp_machine.specs.Removal.{session_closing}
use Rattle.gtp_machine.specs.Command.{asks, BeginsSession, ClosesSession, ReleasesSession, BeginsBearer, ClosesBearer, SendsEcho, SendsPacket, EndMarked, PacketSent, CommandStep}
use Rattle.gtp_machine.specs.Sound.{AreApart}
use Rattle.gtp_machine.proofs.Basics.Facts.{one_value}
use Rattle.gtp_machine.proofs.Determined.Alike.{Alike, Determines, is_one, the_same, says_it, by_effects, unless_plain, unless_moved, unless_one}
use Rattle.gtp_machine.proofs.Determined.Witnesses.{one_session, one_bearer, one_named}
use Rattle.gtp_machine.proofs.Determined.Chosen.{last_drawn, second_drawn, one_number}

module _ {role : Role} (command : Command) (old : Node) where
  begins_session : (spec : Specification) → Determines (Alike role old (Commanded command)) (BeginsSession old spec)
  begins_session spec e f r s = by_effects _ _ e f r.gives s.gives (record {
    tell = record { outcome = refl; told = refl; places = refl; known = refl; counter = refl; draws = refl };
    one = λ alike.
        let user : r.user ≡ s.user = last_drawn r.user s.user _ _ alike.drawn in
        let control : r.control ≡ s.control = second_drawn r.user r.control s.user s.control old.drawn alike.drawn in
        let number : r.number ≡ s.number = one_number _ _ old.pending r.number s.number _ _ refl refl r.number_free.unused (alike.numbers command refl) in
        cc;
  })

  begins_bearer : (session : ℕ) (at : Session) (tft : List ℕ) (qos : Qos) → Determines (Alike role old (Commanded command)) (BeginsBearer old session at tft qos)
  begins_bearer session at tft qos e f r s = by_effects _ _ e f r.gives s.gives (record {
    tell = record { outcome = refl; told = refl; places = refl; known = refl; counter = refl; draws = refl };
    one = λ alike.
        let user : r.user ≡ s.user = last_drawn r.user s.user _ _ alike.drawn in
        let number : r.number ≡ s.number = one_number _ _ old.pending r.number s.number _ _ refl refl r.number_free.unused (alike.numbers command refl) in
        cc;
  })

  -- a request of which the number alone is chosen
  asks_alike : (m n : ℕ) (p q : PendingRequest) (teid : Option ℕ) (new : Node) (e f : Effect) → (m ≡ n → p ≡ q) → get old.pending m ≡ None
      → e ≡ asks old m p teid new → f ≡ asks old n q teid new → Alike role old (Commanded command) e f
  asks_alike m n p q teid new e f same unused is_e is_f = by_effects _ _ e f is_e is_f (record {
    tell = record { outcome = refl; told = refl; places = refl; known = refl; counter = refl; draws = refl };
    one = λ alike.
        let number : m ≡ n = one_number _ _ old.pending m n p q refl refl unused (alike.numbers command refl) in
        let request : p ≡ q = same number in
        cc;
  })

  closes_session : (session : ℕ) (at : Session) → Determines (Alike role old (Commanded command)) (ClosesSession old session at)
  closes_session session at e f r s = asks_alike r.number s.number _ _ _ (session_closing old session at) e f (λ same. cc) r.number_free.unused r.gives s.gives

  releases_session : (session : ℕ) (at : Session) → Determines (Alike role old (Commanded command)) (ReleasesSession old session at)
  releases_session session at e f r s = asks_alike r.number s.number _ _ _ (session_closing old session at) e f (λ same. cc) r.number_free.unused r.gives s.gives

  closes_bearer : (session : ℕ) (at : Session) (identity bearer : ℕ) (b : Bearer) → Determines (Alike role old (Commanded command)) (ClosesBearer old session at identity bearer b)
  closes_bearer session at identity bearer b e f r s =
      asks_alike r.number s.number _ _ _ (record old { bearers = insert old.bearers bearer (record b { state = Closing }) }) e f (λ same. cc)
      r.number_free.unused r.gives s.gives

  sends_echo : Determines (Alike role old (Commanded command)) (SendsEcho old)
  sends_echo e f r s = asks_alike r.number s.number _ _ _ old e f (λ same. cc) r.number_free.unused r.gives s.gives

-- ---- nothing is chosen for an End Marker and a packet

module _ (role : Role) (bearer : ℕ) (old : Node) where
  sends_packet : (at : Bearer) (payload : List ℕ) → Determines ◌≡◌ (SendsPacket old at payload)
  sends_packet at payload e f r s = let session : r.of.session ≡ s.of.session = one_value _ _ _ r.of.stands s.of.stands in cc

  pub packet_sent : (payload : List ℕ) → Determines ◌≡◌ (PacketSent role bearer payload old)
  packet_sent payload = unless_one (one_bearer old bearer) is_one (λ at. unless_plain is_one (unless_plain is_one (unless_plain is_one (sends_packet at.bearer payload))))

pub end_marked : (role : Role) (bearer : ℕ) (old : Node) → Determines ◌≡◌ (EndMarked role bearer old)
end_marked Serving bearer old = is_one
end_marked Packet bearer old = unless_one (one_bearer old bearer) is_one (λ at. unless_plain is_one (unless_plain is_one is_one))

pub command_done : (role : Role) (command : Command) (old : Node) → AreApart old.bearers → Determines (Alike role old (Commanded command)) (CommandStep role command old)
command_done Packet (Create_session spec) old apart = says_it
command_done Serving (Create_session spec) old apart = unless_plain says_it (unless_plain says_it (unless_plain says_it (begins_session (Create_session spec) old spec)))
command_done Packet (Delete_session session) old apart = says_it
command_done Serving (Delete_session session) old apart =
    unless_one (one_session old session) says_it
    (λ at. unless_plain says_it (unless_plain says_it (closes_session (Delete_session session) old session at.session)))
command_done Serving (Create_bearer session tft qos) old apart = says_it
command_done Packet (Create_bearer session tft qos) old apart =
    unless_one (one_session old session) says_it
    (λ at. unless_plain says_it (unless_plain says_it (unless_plain says_it (begins_bearer (Create_bearer session tft qos) old session at.session tft qos))))
command_done Serving (Delete_bearer session identity) old apart = says_it
command_done Packet (Delete_bearer session identity) old apart =
    unless_one (one_session old session) says_it (λ at.
    unless_moved
    (λ named other f s.
    let key : other.key ≡ named.key = one_named old session identity apart other named in
    let bearer : other.at.bearer ≡ named.at.bearer = cc in
    rw (key, bearer) at s)
    says_it
    (λ named. unless_plain says_it (unless_plain says_it (closes_bearer (Delete_bearer session identity) old session at.session identity named.key named.at.bearer))))
command_done Serving (Release_session session) old apart = says_it
command_done Packet (Release_session session) old apart =
    unless_one (one_session old session) says_it
    (λ at. unless_plain says_it (unless_plain says_it (releases_session (Release_session session) old session at.session)))
command_done role (Mark_end bearer) old apart = λ e f r s. the_same e f (end_marked role bearer old e f r s)
command_done role Send_echo old apart = unless_plain says_it (sends_echo Send_echo old)
command_done role (Send_user bearer payload) old apart = λ e f r s. the_same e f (packet_sent role bearer old payload e f r s)
