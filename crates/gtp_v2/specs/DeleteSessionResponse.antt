-- Delete Session Response.
use Rattle.std.specs.Prelude.{List, [], ◌∷◌, option_map, option_to_list, true, codes}
use Rattle.gtp_ie.specs.Form.{number_of}
use Rattle.gtp_ie.specs.declared.form.Form.TheVariants.{Cause, Recovery}
use Rattle.gtp_ie.specs.Value.{OfCause, OfRecovery}
use Rattle.gtp_v2.specs.Table.{Mandatory, Optional, Single, Field, Plain, Table}
use Rattle.gtp_v2.specs.declared.body.delete_session_response.DeleteSessionResponse.{DeleteSessionResponse}

-- The answer to a Delete Session Request (TS 29.274 7.2.10.1).
abbrev pub delete_session_response : Table
delete_session_response =
    record {
      kind = 37;
      name = codes "delete-session-response";
      has_teid = true;
      lines =
          Single (Mandatory (number_of Cause) 0)  -- cause: Whether the session ended, and why not.
          ∷ Single (Optional (number_of Recovery) 0)  -- recovery: The sender's restart counter.
          ∷ [];
    }

-- which values its fields are
abbrev pub delete_session_response_fields : DeleteSessionResponse → List Field
delete_session_response_fields m =
    Plain (OfCause m.cause ∷ [])
    ∷ Plain (option_to_list (option_map (λ x. OfRecovery x.0.0) m.recovery))
    ∷ []
