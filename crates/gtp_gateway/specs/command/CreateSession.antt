-- What a session is to be made with, and the request for it.
use Rattle.std.specs.Prelude.{ℕ, false, [], Some, None}
use Rattle.gtp_values.specs.TunnelEnd.{TunnelEnd}
use Rattle.gtp_machine.specs.Command.{asked_allocation, session_request}
use Rattle.gtp_machine.specs.Input.{Specification}
use Rattle.gtp_machine.specs.Message.{CreateSessionRequest, Create_session_request}
use Rattle.gtp_machine.specs.Node.{Pending, Default, Session, Bearer, Node}
use Rattle.gtp_gateway.specs.declared.command.create_session.SessionSpec.{SessionSpec}
use Rattle.gtp_gateway.specs.declared.command.purpose.Asked.TheVariants.{CreateSession}
use Rattle.gtp_gateway.specs.declared.tables.change.Change.TheVariants.{MakesSession}
use Rattle.gtp_gateway.specs.declared.tables.teids.TwoDrawn.{TwoDrawn}
use Rattle.gtp_gateway.specs.command.Request.{Request}

-- the machine's specification
abbrev pub specification : SessionSpec → Specification
specification s =
    record { subscriber = s.subscriber; rat = s.rat.0; network = s.plmn; selection = s.selection.0; pdn = s.pdn.0; ambr = s.ambr; qos = s.qos }

-- the Create Session Request for it, with these F-TEIDs of the serving gateway
abbrev pub requested : SessionSpec → ℕ → TunnelEnd → TunnelEnd → ℕ → CreateSessionRequest
requested s number control user counter =
    record {
      header = 0;
      number = number;
      imsi = s.subscriber.imsi;
      rat = s.rat.0;
      network = Some s.plmn;
      control = control;
      access_point = s.subscriber.access_point;
      selection = Some s.selection.0;
      pdn = s.pdn.0;
      address = Some (asked_allocation s.pdn.0);
      ambr = Some s.ambr;
      context = record { identity = s.subscriber.identity; qos = s.qos; user = user };
      further = [];
      recovery = Some counter;
    }

-- a session that is pending
abbrev pub pending_session_of : SessionSpec → Session
pending_session_of s = record { remote = None; subscriber = s.subscriber; address = None; state = Pending }

-- its default bearer
abbrev pub pending_default_of : ℕ → SessionSpec → Bearer
pending_default_of session s =
    record { remote = None; session = session; identity = Some s.subscriber.identity; kind = Default; state = Pending; ended = false }

-- the request for the session, with this number
abbrev pub request_to_create_session : TwoDrawn → SessionSpec → ℕ → Node → Request
request_to_create_session drawn s number node =
    record {
      purpose = record { asked = CreateSession drawn.user; session = Some drawn.control; bearer = None; is_named = false };
      change = MakesSession drawn.draws drawn.control (pending_session_of s) drawn.user (pending_default_of drawn.control s);
      teid = Some drawn.control;
      message = Create_session_request (session_request node (specification s) drawn.control drawn.user number);
    }
