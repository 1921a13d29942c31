-- Delete Bearer Request.
use Rattle.std.specs.Prelude.{List, [], ◌∷◌, map, option_map, option_to_list, true, codes}
use Rattle.gtp_ie.specs.Form.{number_of}
use Rattle.gtp_ie.specs.declared.form.Form.TheVariants.{Ebi}
use Rattle.gtp_ie.specs.Value.{OfEbi}
use Rattle.gtp_v2.specs.Table.{Optional, Single, Several, Field, Plain, Table}
use Rattle.gtp_v2.specs.declared.body.delete_bearer_request.DeleteBearerRequest.{DeleteBearerRequest}

-- A request to end a session or some of its dedicated bearers (TS 29.274 7.2.9.2).
abbrev pub delete_bearer_request : Table
delete_bearer_request =
    record {
      kind = 99;
      name = codes "delete-bearer-request";
      has_teid = true;
      lines =
          Single (Optional (number_of Ebi) 0)  -- linked_ebi (EPS Bearer ID): The identity of the session's default
          --   bearer, where the session is to end.
          ∷ Several (number_of Ebi) 1 0  -- ebis (EPS Bearer ID), else linked_ebi: The identities of the bearers that
          --   are to end.
          ∷ [];
    }

-- which values its fields are
abbrev pub delete_bearer_request_fields : DeleteBearerRequest → List Field
delete_bearer_request_fields m =
    Plain (option_to_list (option_map (λ x. OfEbi x.0) m.linked_ebi))
    ∷ Plain (map (λ x. OfEbi x.0) m.ebis)
    ∷ []
