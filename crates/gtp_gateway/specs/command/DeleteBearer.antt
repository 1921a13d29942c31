-- Dedicated bearers, and the request to delete one.
use Rattle.std.specs.Prelude.{◌≡◌, ℕ, ◌==◌, not, Some}
use Rattle.std.specs.FinMap.{get}
use Rattle.gtp_values.specs.declared.identifiers.Teid.{Teid}
use Rattle.gtp_machine.specs.Command.{delete_bearer_request_of_bearer}
use Rattle.gtp_machine.specs.Message.{Delete_bearer_request}
use Rattle.gtp_machine.specs.Node as nodes
use Rattle.gtp_machine.specs.Node.{Closing, Session, written}
use Rattle.gtp_gateway.specs.declared.command.delete_bearer.Dedicated.{Dedicated}
use Rattle.gtp_gateway.specs.declared.command.purpose.Asked.TheVariants.{DeleteBearer}
use Rattle.gtp_gateway.specs.declared.tables.change.Change.TheVariants.{Replaces}
use Rattle.gtp_gateway.specs.command.Request.{Request}

-- it is the session's dedicated bearer with the identity
pub record IsDedicated (node : nodes.Node) (session identity : ℕ) (d : Dedicated) : Type 0 where
  pub stands : get node.bearers d.teid ≡ Some d.bearer
  pub of : d.bearer.session ≡ session
  pub dedicated : d.bearer.kind ≡ nodes.Dedicated
  pub has : d.bearer.identity ≡ Some identity

-- the Delete Bearer Request for it, with this number
abbrev pub request_to_delete_bearer : Dedicated → Teid → Session → ℕ → ℕ → Request
request_to_delete_bearer d session at identity number =
    record {
      purpose = record { asked = DeleteBearer; session = Some session; bearer = Some d.teid; is_named = not (written at.remote == 0) };
      change = Replaces d.teid (record d.bearer { state = Closing });
      teid = Some d.teid;
      message = Delete_bearer_request (delete_bearer_request_of_bearer at number identity);
    }
