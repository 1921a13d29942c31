-- Create Session Response.
use Rattle.std.specs.Prelude.{List, [], ◌∷◌, map, option_map, option_to_list, true, codes}
use Rattle.gtp_ie.specs.Form.{number_of, bearer_context}
use Rattle.gtp_ie.specs.declared.form.Form.TheVariants.{Ambr, Cause, ChargingId, Ebi, FTeid, Paa, Qos, Recovery}
use Rattle.gtp_ie.specs.Value.{Value, OfAmbr, OfCause, OfChargingId, OfEbi, OfFTeid, OfPaa, OfQos, OfRecovery}
use Rattle.gtp_v2.specs.Table.{Row, Mandatory, Accepted, Optional, Single, Grouped, Field, Plain, Groups, Table}
use Rattle.gtp_v2.specs.declared.body.create_session_response.CreateSessionResponse.{CreateSessionResponse}
use Rattle.gtp_v2.specs.declared.body.create_session_response.SessionResponseContext.{SessionResponseContext}

-- A bearer in a Create Session Response (TS 29.274 table 7.2.2-2).
abbrev pub session_response_context_rows : List Row
session_response_context_rows =
    Mandatory (number_of Ebi) 0  -- ebi (EPS Bearer ID): The identity of the bearer.
    ∷ Mandatory (number_of Cause) 0  -- cause: Whether the bearer was accepted, and why not.
    ∷ Accepted (number_of FTeid) 2  -- user: The packet gateway's end for user packets: there where both causes accept.
    ∷ Optional (number_of Qos) 0  -- qos: What the bearer is to carry, and how: there where it was changed.
    ∷ Optional (number_of ChargingId) 0  -- charging_id: The number under which the bearer is charged.
    ∷ []

-- which values the fields of one are
abbrev pub session_response_context_values : SessionResponseContext → List (List Value)
session_response_context_values c =
    (OfEbi c.ebi.0 ∷ [])
    ∷ (OfCause c.cause ∷ [])
    ∷ option_to_list (option_map OfFTeid c.user)
    ∷ option_to_list (option_map OfQos c.qos)
    ∷ option_to_list (option_map (λ x. OfChargingId x.0) c.charging_id)
    ∷ []

-- The answer to a Create Session Request (TS 29.274 7.2.2).
abbrev pub create_session_response : Table
create_session_response =
    record {
      kind = 33;
      name = codes "create-session-response";
      has_teid = true;
      lines =
          Single (Mandatory (number_of Cause) 0)  -- cause: Whether the request was accepted, and why not.
          ∷ Single (Accepted (number_of FTeid) 1)  -- control: The packet gateway's end for control messages: there
          --   where the cause accepts.
          ∷ Single (Accepted (number_of Paa) 0)  -- paa: The subscriber's address: there where the cause accepts.
          ∷ Single (Optional (number_of Ambr) 0)  -- ambr: The most that the bearers of this access point without
          --   guaranteed rates may carry together, in kilobits a second.
          ∷ Grouped (Accepted bearer_context 0) session_response_context_rows  -- contexts: The bearers that were asked for.
          ∷ Single (Optional (number_of Recovery) 0)  -- recovery: The sender's restart counter.
          ∷ [];
    }

-- which values its fields are
abbrev pub create_session_response_fields : CreateSessionResponse → List Field
create_session_response_fields m =
    Plain (OfCause m.cause ∷ [])
    ∷ Plain (option_to_list (option_map OfFTeid m.control))
    ∷ Plain (option_to_list (option_map OfPaa m.paa))
    ∷ Plain (option_to_list (option_map OfAmbr m.ambr))
    ∷ Groups (map session_response_context_values m.contexts)
    ∷ Plain (option_to_list (option_map (λ x. OfRecovery x.0.0) m.recovery))
    ∷ []
