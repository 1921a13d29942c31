-- Create Bearer Request.
use Rattle.std.specs.Prelude.{List, [], ◌∷◌, map, option_map, option_to_list, true, codes}
use Rattle.gtp_ie.specs.Form.{number_of, bearer_context}
use Rattle.gtp_ie.specs.declared.form.Form.TheVariants.{ChargingId, Ebi, FTeid, Pti, Qos, Tft}
use Rattle.gtp_ie.specs.Value.{Value, OfChargingId, OfEbi, OfFTeid, OfPti, OfQos, OfTft}
use Rattle.gtp_v2.specs.Table.{Row, Mandatory, Conditional, Optional, Single, Grouped, Field, Plain, Groups, Table}
use Rattle.gtp_v2.specs.declared.body.create_bearer_request.CreateBearerRequest.{CreateBearerRequest}
use Rattle.gtp_v2.specs.declared.body.create_bearer_request.BearerRequestContext.{BearerRequestContext}

-- A bearer that a Create Bearer Request asks for (TS 29.274 table 7.2.3-2).
abbrev pub bearer_request_context_rows : List Row
bearer_request_context_rows =
    Mandatory (number_of Ebi) 0  -- ebi (EPS Bearer ID): 0: the answer gives the identity.
    ∷ Mandatory (number_of Tft) 0  -- tft: Which packets go on the bearer.
    ∷ Conditional (number_of FTeid) 1  -- user: The packet gateway's end for user packets.
    ∷ Mandatory (number_of Qos) 0  -- qos: What the bearer is to carry, and how.
    ∷ Optional (number_of ChargingId) 0  -- charging_id: The number under which the bearer is charged.
    ∷ []

-- which values the fields of one are
abbrev pub bearer_request_context_values : BearerRequestContext → List (List Value)
bearer_request_context_values c =
    (OfEbi c.ebi.0 ∷ [])
    ∷ (OfTft c.tft ∷ [])
    ∷ (OfFTeid c.user ∷ [])
    ∷ (OfQos c.qos ∷ [])
    ∷ option_to_list (option_map (λ x. OfChargingId x.0) c.charging_id)
    ∷ []

-- A request for dedicated bearers (TS 29.274 7.2.3).
abbrev pub create_bearer_request : Table
create_bearer_request =
    record {
      kind = 95;
      name = codes "create-bearer-request";
      has_teid = true;
      lines =
          Single (Optional (number_of Pti) 0)  -- pti: The procedure that the subscriber began, where one did.
          ∷ Single (Mandatory (number_of Ebi) 0)  -- linked_ebi (EPS Bearer ID): The identity of the session's default bearer.
          ∷ Grouped (Mandatory bearer_context 0) bearer_request_context_rows  -- contexts: The bearers that are asked for.
          ∷ [];
    }

-- which values its fields are
abbrev pub create_bearer_request_fields : CreateBearerRequest → List Field
create_bearer_request_fields m =
    Plain (option_to_list (option_map (λ x. OfPti x.0) m.pti))
    ∷ Plain (OfEbi m.linked_ebi.0 ∷ [])
    ∷ Groups (map bearer_request_context_values m.contexts)
    ∷ []
