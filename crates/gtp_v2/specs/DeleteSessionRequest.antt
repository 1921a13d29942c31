-- Delete Session Request.
use Rattle.std.specs.Prelude.{List, [], ◌∷◌, option_map, option_to_list, true, codes}
use Rattle.gtp_ie.specs.Form.{number_of}
use Rattle.gtp_ie.specs.declared.form.Form.TheVariants.{Ebi}
use Rattle.gtp_ie.specs.Value.{OfEbi}
use Rattle.gtp_v2.specs.Table.{Optional, Single, Field, Plain, Table}
use Rattle.gtp_v2.specs.declared.body.delete_session_request.DeleteSessionRequest.{DeleteSessionRequest}

-- A request to end a session (TS 29.274 7.2.9.1).
abbrev pub delete_session_request : Table
delete_session_request =
    record {
      kind = 36;
      name = codes "delete-session-request";
      has_teid = true;
      lines =
          Single (Optional (number_of Ebi) 0)  -- linked_ebi (EPS Bearer ID): The identity of the session's default bearer.
          ∷ [];
    }

-- which values its fields are
abbrev pub delete_session_request_fields : DeleteSessionRequest → List Field
delete_session_request_fields m =
    Plain (option_to_list (option_map (λ x. OfEbi x.0) m.linked_ebi))
    ∷ []
