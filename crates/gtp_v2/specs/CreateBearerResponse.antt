-- Create Bearer Response.
use Rattle.std.specs.Prelude.{List, [], ◌∷◌, map, option_map, option_to_list, true, codes}
use Rattle.gtp_ie.specs.Form.{number_of, bearer_context}
use Rattle.gtp_ie.specs.declared.form.Form.TheVariants.{Cause, Ebi, FTeid, Recovery}
use Rattle.gtp_ie.specs.Value.{Value, OfCause, OfEbi, OfFTeid, OfRecovery}
use Rattle.gtp_v2.specs.Table.{Row, Mandatory, Accepted, Optional, Single, Grouped, Field, Plain, Groups, Table}
use Rattle.gtp_v2.specs.declared.body.create_bearer_response.CreateBearerResponse.{CreateBearerResponse}
use Rattle.gtp_v2.specs.declared.body.create_bearer_response.BearerResponseContext.{BearerResponseContext}

-- A bearer in a Create Bearer Response (TS 29.274 table 7.2.4-2). Its ends are there where both causes accept.
abbrev pub bearer_response_context_rows : List Row
bearer_response_context_rows =
    Mandatory (number_of Ebi) 0  -- ebi (EPS Bearer ID): The identity that the bearer was given.
    ∷ Mandatory (number_of Cause) 0  -- cause: Whether the bearer was accepted, and why not.
    ∷ Accepted (number_of FTeid) 2  -- serving_user: The serving gateway's end for user packets.
    ∷ Accepted (number_of FTeid) 3  -- packet_user: The end that the request gave, as it came.
    ∷ []

-- which values the fields of one are
abbrev pub bearer_response_context_values : BearerResponseContext → List (List Value)
bearer_response_context_values c =
    (OfEbi c.ebi.0 ∷ [])
    ∷ (OfCause c.cause ∷ [])
    ∷ option_to_list (option_map OfFTeid c.serving_user)
    ∷ option_to_list (option_map OfFTeid c.packet_user)
    ∷ []

-- The answer to a Create Bearer Request (TS 29.274 7.2.4).
abbrev pub create_bearer_response : Table
create_bearer_response =
    record {
      kind = 96;
      name = codes "create-bearer-response";
      has_teid = true;
      lines =
          Single (Mandatory (number_of Cause) 0)  -- cause: Whether the request was accepted, and why not.
          ∷ Grouped (Accepted bearer_context 0) bearer_response_context_rows  -- contexts: The bearers that were asked for.
          ∷ Single (Optional (number_of Recovery) 0)  -- recovery: The sender's restart counter.
          ∷ [];
    }

-- which values its fields are
abbrev pub create_bearer_response_fields : CreateBearerResponse → List Field
create_bearer_response_fields m =
    Plain (OfCause m.cause ∷ [])
    ∷ Groups (map bearer_response_context_values m.contexts)
    ∷ Plain (option_to_list (option_map (λ x. OfRecovery x.0.0) m.recovery))
    ∷ []
