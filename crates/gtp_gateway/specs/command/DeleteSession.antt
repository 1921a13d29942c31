-- The request to delete a session.
use Rattle.std.specs.Prelude.{ℕ, ◌==◌, not, Some, None}
use Rattle.gtp_values.specs.declared.identifiers.Teid.{Teid}
use Rattle.gtp_machine.specs.Command.{delete_session_request_of}
use Rattle.gtp_machine.specs.Message.{Delete_session_request}
use Rattle.gtp_machine.specs.Node.{Session, written}
use Rattle.gtp_gateway.specs.declared.command.purpose.Asked.TheVariants.{DeleteSession}
use Rattle.gtp_gateway.specs.declared.tables.change.Change.TheVariants.{ClosesSession}
use Rattle.gtp_gateway.specs.command.Request.{Request}

-- the Delete Session Request, with this number
abbrev pub request_to_delete_session : Teid → Session → ℕ → Request
request_to_delete_session teid session number =
    record {
      purpose = record { asked = DeleteSession; session = Some teid; bearer = None; is_named = not (written session.remote == 0) };
      change = ClosesSession teid session;
      teid = Some teid;
      message = Delete_session_request (delete_session_request_of session number);
    }
