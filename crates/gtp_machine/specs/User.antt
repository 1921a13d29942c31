-- The user plane (TS 29.281, 5 and 7), and the Echo Request that each gateway answers.
use Rattle.std.specs.Prelude.{◌≡◌, ℕ, ◌==◌, nat_lt, ◌&&◌, List, [], ◌∷◌, Some, Bool, true, false}
use Rattle.std.specs.FinMap.{get, insert, len}
use Rattle.gtp_values.specs.declared.address.Endpoint.{Endpoint}
use Rattle.gtp_values.specs.FiniteMap.{FiniteMap, kept}
use Rattle.gtp_values.specs.Number.{is_number}
use Rattle.gtp_tables.specs.Index.{is_default, names}
use Rattle.gtp_machine.specs.Ordered.{Unless}
use Rattle.gtp_machine.specs.Config.{user_end}
use Rattle.gtp_machine.specs.Message.{Message, User, Packet_data, End_marker, Error_indication, User_echo_request, User_echo_response}
use Rattle.gtp_machine.specs.Message.{Supported_extensions}
use Rattle.gtp_machine.specs.Node.{Role, Serving, Packet, Active, Bearer, Node}
use Rattle.gtp_machine.specs.Input.{Came_to, UserReading, User_message, Extension_needed, User_fault, Effect, Accepted, Ended, Broken}
use Rattle.gtp_machine.specs.Input.{Echoed, Dropped, entry_for, nothing, says, dropped, undecodable, ContextNotActive, UnknownContext}
use Rattle.gtp_machine.specs.Input.{AfterEnd, Unexpected, UnknownExtension, NotPeer}
use Rattle.gtp_machine.specs.Choice.{HasSession, HasBearer}
use Rattle.gtp_machine.specs.Removal.{without}

-- A packet comes to an active bearer, and is accepted.
pub record Accepts (old : Node) (target : ℕ) (payload : List ℕ) (at : Bearer) (e : Effect) : Type 0 where
  pub of : HasSession old at.session
  pub gives : e ≡ record {
    out = record nothing { accepted = entry_for target payload of.session.subscriber at.identity ∷ [] };
    outcome = Came_to Accepted;
    node = old;
  }

-- no End Marker came before: that counts at the serving gateway alone
abbrev pub MayCome : Role → Bearer → Type 0
MayCome Serving b = b.ended ≡ false
MayCome Packet b = Unit {0}

-- an Error Indication is sent for a packet with this TEID (7.3.1), and nothing changes
abbrev pub indicated : ℕ → Node → Effect
indicated target old = record {
  out = says (user_end old.config.peer.user) (Error_indication target old.config.own.user);
  outcome = Came_to (Dropped UnknownContext);
  node = old;
}

-- A G-PDU: for no bearer it is answered with an Error Indication (7.3.1).
abbrev pub PacketCame : Role → ℕ → List ℕ → Node → Effect → Type 0
PacketCame role target payload old e =
    Unless (HasBearer old target) (e ≡ indicated target old) (λ at.
    Unless (at.bearer.state ≡ Active) (e ≡ dropped old ContextNotActive) (λ open_to_packets.
    Unless (MayCome role at.bearer) (e ≡ dropped old AfterEnd) (λ comes.
    Accepts old target payload at.bearer e)))

-- the bearer, with an End Marker
abbrev pub ended_bearer : Bearer → Bearer
ended_bearer b = record b { ended = true }

-- An End Marker (7.3.2) is taken at the serving gateway, on an active bearer.
abbrev pub EndCame : Role → ℕ → Node → Effect → Type 0
EndCame Serving target old e =
    Unless (HasBearer old target) (e ≡ dropped old Unexpected) (λ at.
    Unless (at.bearer.state ≡ Active) (e ≡ dropped old ContextNotActive) (λ active.
    e ≡ record { out = nothing; outcome = Came_to Ended; node = record old { bearers = insert old.bearers target (ended_bearer at.bearer) } }))
EndCame Packet target old e = e ≡ dropped old Unexpected

-- the bearer is the session's default one and has that remote
abbrev pub is_default_to : ℕ → ℕ → Bearer → Bool
is_default_to remote session b = is_default b.kind && is_number remote b.remote && (b.session == session)

-- the session's default bearer has that remote: of the bearers, some are so
abbrev pub default_among : ℕ → ℕ → FiniteMap Bearer → Bool
default_among remote session bearers = nat_lt 0 (len (kept (λ t (b : Bearer). is_default_to remote session b) bearers))

-- without each bearer with that remote, and the whole session where that is its default bearer
abbrev pub broken : Node → ℕ → Node
broken node remote = without (λ t. default_among remote t node.bearers) (λ t. names remote (get node.bearers t)) node

-- a bearer has that remote
pub record HasRemote (node : Node) (remote : ℕ) : Type 0 where
  pub key : ℕ
  pub at : HasBearer node key
  pub named : at.bearer.remote ≡ Some remote

-- An Error Indication (7.3.1): the peer has no bearer with this TEID.
abbrev pub ErrorCame : ℕ → Node → Effect → Type 0
ErrorCame remote old e =
    Unless (HasRemote old remote) (e ≡ dropped old Unexpected) (λ named.
    e ≡ record { out = nothing; outcome = Came_to Broken; node = broken old remote })

-- a user plane message that came from the peer
abbrev pub UserTaken : Role → Endpoint → Message → Node → Effect → Type 0
UserTaken role source (Packet_data target payload) old e = PacketCame role target payload old e
UserTaken role source (End_marker target) old e = EndCame role target old e
UserTaken role source (Error_indication remote address) old e = ErrorCame remote old e
UserTaken role source (User_echo_request number) old e =
    e ≡ record { out = says source (User_echo_response number); outcome = Came_to Echoed; node = old }
UserTaken role source _ old e = e ≡ dropped old Unexpected

-- the type of the extension header UDP Port (5.2.1)
abbrev pub udp_port : ℕ
udp_port = 64

-- what was read; a needed extension header that is not known is told of, with the one type that is understood (7.2.3)
abbrev pub UserRead : Role → Endpoint → UserReading → Node → Effect → Type 0
UserRead role source (User_message message) old e = UserTaken role source message old e
UserRead role source Extension_needed old e = e ≡ record {
  out = says (user_end old.config.peer.user) (Supported_extensions (udp_port ∷ []));
  outcome = Came_to (Dropped UnknownExtension);
  node = old;
}
UserRead role source (User_fault fault) old e = e ≡ dropped old (undecodable User fault)

-- a user plane datagram: first its source address is looked at
abbrev pub UserStep : Role → Endpoint → UserReading → Node → Effect → Type 0
UserStep role source reading old e =
    Unless (source.ip ≡ old.config.peer.user) (e ≡ dropped old NotPeer) (λ peer.
    UserRead role source reading old e)
