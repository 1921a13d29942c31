-- The request for an echo.
use Rattle.std.specs.Prelude.{ℕ, false, None}
use Rattle.gtp_machine.specs.Message.{Echo_request}
use Rattle.gtp_machine.specs.Node.{Node}
use Rattle.gtp_gateway.specs.declared.command.purpose.Asked.TheVariants.{Echo}
use Rattle.gtp_gateway.specs.declared.tables.change.Change.TheVariants.{Stays}
use Rattle.gtp_gateway.specs.command.Request.{Request}

-- the Echo Request, with this number
abbrev pub request_to_echo : ℕ → Node → Request
request_to_echo number node =
    record {
      purpose = record { asked = Echo; session = None; bearer = None; is_named = false };
      change = Stays;
      teid = None;
      message = Echo_request (record { number = number; recovery = node.counter });
    }
