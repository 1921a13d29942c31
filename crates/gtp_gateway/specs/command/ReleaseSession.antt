-- The request to delete a session by its default bearer.
use Rattle.std.specs.Prelude.{ℕ, ◌==◌, not, Some, None}
use Rattle.gtp_values.specs.declared.identifiers.Teid.{Teid}
use Rattle.gtp_machine.specs.Command.{delete_bearer_request_of_session}
use Rattle.gtp_machine.specs.Message.{Delete_bearer_request}
use Rattle.gtp_machine.specs.Node.{Session, written}
use Rattle.gtp_gateway.specs.declared.command.purpose.Asked.TheVariants.{DeleteBearer}
use Rattle.gtp_gateway.specs.declared.tables.change.Change.TheVariants.{ClosesSession}
use Rattle.gtp_gateway.specs.command.Request.{Request}

-- the Delete Bearer Request for the session, with this number
abbrev pub request_to_release_session : Teid → Session → ℕ → Request
request_to_release_session teid session number =
    record {
      purpose = record { asked = DeleteBearer; session = Some teid; bearer = None; is_named = not (written session.remote == 0) };
      change = ClosesSession teid session;
      teid = Some teid;
      message = Delete_bearer_request (delete_bearer_request_of_session session number);
    }
