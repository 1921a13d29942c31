-- The request for a dedicated bearer.
use Rattle.std.specs.Prelude.{ℕ, ◌==◌, not, List, Some}
use Rattle.gtp_values.specs.declared.identifiers.Teid.{Teid}
use Rattle.gtp_values.specs.declared.qos.Qos.{Qos}
use Rattle.gtp_machine.specs.Command.{bearer_request, pending_dedicated}
use Rattle.gtp_machine.specs.Message.{Create_bearer_request}
use Rattle.gtp_machine.specs.Node.{Session, Node, written}
use Rattle.gtp_gateway.specs.declared.command.purpose.Asked.TheVariants.{CreateBearer}
use Rattle.gtp_gateway.specs.declared.tables.change.Change.TheVariants.{MakesBearer}
use Rattle.gtp_gateway.specs.declared.tables.teids.OneDrawn.{OneDrawn}
use Rattle.gtp_gateway.specs.command.Request.{Request}

-- the Create Bearer Request, with this number
abbrev pub request_to_create_bearer : OneDrawn → Teid → Session → List ℕ → Qos → ℕ → Node → Request
request_to_create_bearer drawn session at tft qos number node =
    record {
      purpose = record { asked = CreateBearer; session = Some session; bearer = Some drawn.teid; is_named = not (written at.remote == 0) };
      change = MakesBearer drawn.draws drawn.teid (pending_dedicated session);
      teid = Some drawn.teid;
      message = Create_bearer_request (bearer_request node at tft qos drawn.teid number);
    }
