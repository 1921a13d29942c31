-- Delete Bearer Response.
use Rattle.std.specs.Prelude.{List, [], ◌∷◌, map, option_map, option_to_list, true, codes}
use Rattle.gtp_ie.specs.Form.{number_of, bearer_context}
use Rattle.gtp_ie.specs.declared.form.Form.TheVariants.{Cause, Ebi, Recovery}
use Rattle.gtp_ie.specs.Value.{Value, OfCause, OfEbi, OfRecovery}
use Rattle.gtp_v2.specs.Table.{Row, Mandatory, Optional, Single, Grouped, Field, Plain, Groups, Table}
use Rattle.gtp_v2.specs.declared.body.delete_bearer_response.DeleteBearerResponse.{DeleteBearerResponse}
use Rattle.gtp_v2.specs.declared.body.delete_bearer_response.RemovalResponseContext.{RemovalResponseContext}

-- A bearer in a Delete Bearer Response (TS 29.274 table 7.2.10.2-2).
abbrev pub removal_response_context_rows : List Row
removal_response_context_rows =
    Mandatory (number_of Ebi) 0  -- ebi (EPS Bearer ID): The identity of the bearer.
    ∷ Mandatory (number_of Cause) 0  -- cause: Whether the bearer ended, and why not.
    ∷ []

-- which values the fields of one are
abbrev pub removal_response_context_values : RemovalResponseContext → List (List Value)
removal_response_context_values c =
    (OfEbi c.ebi.0 ∷ [])
    ∷ (OfCause c.cause ∷ [])
    ∷ []

-- The answer to a Delete Bearer Request (TS 29.274 7.2.10.2).
abbrev pub delete_bearer_response : Table
delete_bearer_response =
    record {
      kind = 100;
      name = codes "delete-bearer-response";
      has_teid = true;
      lines =
          Single (Mandatory (number_of Cause) 0)  -- cause: Whether the request was accepted, and why not.
          ∷ Single (Optional (number_of Ebi) 0)  -- linked_ebi (EPS Bearer ID): The identity of the session's default
          --   bearer, where the session ended.
          ∷ Grouped (Optional bearer_context 0) removal_response_context_rows  -- contexts: The bearers that were to end.
          ∷ Single (Optional (number_of Recovery) 0)  -- recovery: The sender's restart counter.
          ∷ [];
    }

-- which values its fields are
abbrev pub delete_bearer_response_fields : DeleteBearerResponse → List Field
delete_bearer_response_fields m =
    Plain (OfCause m.cause ∷ [])
    ∷ Plain (option_to_list (option_map (λ x. OfEbi x.0) m.linked_ebi))
    ∷ Groups (map removal_response_context_values m.contexts)
    ∷ Plain (option_to_list (option_map (λ x. OfRecovery x.0.0) m.recovery))
    ∷ []
