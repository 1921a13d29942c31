-- Echo Response.
use Rattle.std.specs.Prelude.{List, [], ◌∷◌, false, codes}
use Rattle.gtp_ie.specs.Form.{number_of}
use Rattle.gtp_ie.specs.declared.form.Form.TheVariants.{Recovery}
use Rattle.gtp_ie.specs.Value.{OfRecovery}
use Rattle.gtp_v2.specs.Table.{Mandatory, Single, Field, Plain, Table}
use Rattle.gtp_v2.specs.declared.body.echo_response.EchoResponse.{EchoResponse}

-- The answer that the peer is alive (TS 29.274 7.1.2).
abbrev pub echo_response : Table
echo_response =
    record {
      kind = 2;
      name = codes "echo-response";
      has_teid = false;
      lines =
          Single (Mandatory (number_of Recovery) 0)  -- recovery: The sender's restart counter.
          ∷ [];
    }

-- which values its fields are
abbrev pub echo_response_fields : EchoResponse → List Field
echo_response_fields m =
    Plain (OfRecovery m.recovery.0.0 ∷ [])
    ∷ []
