-- Create Session Request.
use Rattle.std.specs.Prelude.{List, [], ◌∷◌, map, option_map, option_to_list, true, codes}
use Rattle.gtp_ie.specs.Form.{number_of, bearer_context}
use Rattle.gtp_ie.specs.declared.form.Form.TheVariants.{Ambr, Apn, Ebi, FTeid, Imsi, Paa, PdnType, Plmn, Qos, Rat, Recovery, Selection}
use Rattle.gtp_ie.specs.Value.{Value, OfAmbr, OfApn, OfEbi, OfFTeid, OfImsi, OfPaa, OfPdnType, OfPlmn, OfQos, OfRat, OfRecovery, OfSelection}
use Rattle.gtp_v2.specs.Table.{Row, Mandatory, Conditional, Optional, Single, Grouped, Field, Plain, Groups, Table}
use Rattle.gtp_v2.specs.declared.body.create_session_request.CreateSessionRequest.{CreateSessionRequest}
use Rattle.gtp_v2.specs.declared.body.create_session_request.SessionRequestContext.{SessionRequestContext}

-- A bearer that a Create Session Request asks for (TS 29.274 table 7.2.1-2).
abbrev pub session_request_context_rows : List Row
session_request_context_rows =
    Mandatory (number_of Ebi) 0  -- ebi (EPS Bearer ID): The identity of the bearer.
    ∷ Mandatory (number_of Qos) 0  -- qos: What the bearer is to carry, and how.
    ∷ Conditional (number_of FTeid) 2  -- user: The serving gateway's end for user packets.
    ∷ []

-- which values the fields of one are
abbrev pub session_request_context_values : SessionRequestContext → List (List Value)
session_request_context_values c =
    (OfEbi c.ebi.0 ∷ [])
    ∷ (OfQos c.qos ∷ [])
    ∷ (OfFTeid c.user ∷ [])
    ∷ []

-- A request for a session with its default bearer (TS 29.274 7.2.1).
abbrev pub create_session_request : Table
create_session_request =
    record {
      kind = 32;
      name = codes "create-session-request";
      has_teid = true;
      lines =
          Single (Conditional (number_of Imsi) 0)  -- imsi: The subscriber.
          ∷ Single (Mandatory (number_of Rat) 0)  -- rat: The radio access technology.
          ∷ Single (Optional (number_of Plmn) 0)  -- serving_network: The network in which the subscriber is.
          ∷ Single (Mandatory (number_of FTeid) 0)  -- control: The serving gateway's end for control messages.
          ∷ Single (Mandatory (number_of Apn) 0)  -- apn: The access point that is asked for.
          ∷ Single (Optional (number_of Selection) 0)  -- selection: How the access point was selected.
          ∷ Single (Conditional (number_of PdnType) 0)  -- pdn_type: The kind of address that is asked for.
          ∷ Single (Optional (number_of Paa) 0)  -- paa: An address that is asked for.
          ∷ Single (Optional (number_of Ambr) 0)  -- ambr: The most that the bearers of this access point without
          --   guaranteed rates may carry together, in kilobits a second.
          ∷ Grouped (Mandatory bearer_context 0) session_request_context_rows  -- contexts: The bearers that are asked
          --   for: the default one, and at this interface no other.
          ∷ Single (Optional (number_of Recovery) 0)  -- recovery: The sender's restart counter.
          ∷ [];
    }

-- which values its fields are
abbrev pub create_session_request_fields : CreateSessionRequest → List Field
create_session_request_fields m =
    Plain (OfImsi m.imsi ∷ [])
    ∷ Plain (OfRat m.rat.0 ∷ [])
    ∷ Plain (option_to_list (option_map OfPlmn m.serving_network))
    ∷ Plain (OfFTeid m.control ∷ [])
    ∷ Plain (OfApn m.apn ∷ [])
    ∷ Plain (option_to_list (option_map (λ x. OfSelection x.0) m.selection))
    ∷ Plain (OfPdnType m.pdn_type.0 ∷ [])
    ∷ Plain (option_to_list (option_map OfPaa m.paa))
    ∷ Plain (option_to_list (option_map OfAmbr m.ambr))
    ∷ Groups (map session_request_context_values m.contexts)
    ∷ Plain (option_to_list (option_map (λ x. OfRecovery x.0.0) m.recovery))
    ∷ []
