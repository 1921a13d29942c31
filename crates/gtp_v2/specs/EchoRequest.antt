-- Echo Request.
use Rattle.std.specs.Prelude.{List, [], ◌∷◌, false, codes}
use Rattle.gtp_ie.specs.Form.{number_of}
use Rattle.gtp_ie.specs.declared.form.Form.TheVariants.{Recovery}
use Rattle.gtp_ie.specs.Value.{OfRecovery}
use Rattle.gtp_v2.specs.Table.{Mandatory, Single, Field, Plain, Table}
use Rattle.gtp_v2.specs.declared.body.echo_request.EchoRequest.{EchoRequest}

-- A question whether the peer is alive (TS 29.274 7.1.1).
abbrev pub echo_request : Table
echo_request =
    record {
      kind = 1;
      name = codes "echo-request";
      has_teid = false;
      lines =
          Single (Mandatory (number_of Recovery) 0)  -- recovery: The sender's restart counter.
          ∷ [];
    }

-- which values its fields are
abbrev pub echo_request_fields : EchoRequest → List Field
echo_request_fields m =
    Plain (OfRecovery m.recovery.0.0 ∷ [])
    ∷ []
