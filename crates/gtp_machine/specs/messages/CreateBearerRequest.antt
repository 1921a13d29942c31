-- Create Bearer Request (TS 29.274, 7.2.3; tables 7.2.3-1 and 7.2.3-2).
use Rattle.std.specs.Prelude.{ℕ, List, [], ◌∷◌, map, Option}
use Rattle.gtp_values.specs.TunnelEnd.{TunnelEnd}
use Rattle.gtp_values.specs.declared.qos.Qos.{Qos}
use Rattle.gtp_ie.specs.Value.{Value, OfEbi, OfQos, OfTft, OfFTeid, OfChargingId, OfPti}
use Rattle.gtp_ie.specs.declared.form.Form.TheVariants as forms
use Rattle.gtp_v2.specs.CreateBearerRequest.{bearer_request_context_rows}
use Rattle.gtp_v2.specs.Message.{MessageValue}
use Rattle.gtp_v2.specs.Table.{Field, Plain, Groups}
use Rattle.gtp_machine.specs.Element.{written}
use Rattle.gtp_machine.specs.messages.Rows.{context_row, end_at, first_in, number_at, number_of, octets_at, qos_at, row_in, where_there}

-- a bearer context
pub record WantedBearer : Type 0 where
  pub identity : ℕ
  pub tft : List ℕ
  pub user : TunnelEnd  -- the packet gateway's for the user plane
  pub qos : Qos
  pub charging : Option ℕ

-- the message
pub record CreateBearerRequest : Type 0 where
  pub header : ℕ
  pub number : ℕ
  pub transaction : Option ℕ
  pub linked : ℕ  -- the linked EPS bearer identity
  pub context : WantedBearer  -- the first bearer context
  pub further : List WantedBearer

-- how the rows of a bearer context read
abbrev pub wanted : List (List Value) → WantedBearer
wanted rows =
    record {
      identity = number_at (context_row bearer_request_context_rows forms.Ebi 0 rows);
      tft = octets_at (context_row bearer_request_context_rows forms.Tft 0 rows);
      user = end_at (context_row bearer_request_context_rows forms.FTeid 1 rows);
      qos = qos_at (context_row bearer_request_context_rows forms.Qos 0 rows);
      charging = first_in number_of (context_row bearer_request_context_rows forms.ChargingId 0 rows);
    }

-- how its rows read, with its first bearer context and the further ones
abbrev pub create_bearer_request_in : MessageValue → List (List Value) → List (List (List Value)) → CreateBearerRequest
create_bearer_request_in m first further = record {
  header = written m.teid;
  number = m.seq;
  transaction = first_in number_of (row_in forms.Pti 0 m);
  linked = number_at (row_in forms.Ebi 0 m);
  context = wanted first;
  further = map wanted further;
}

-- the rows of a bearer context
abbrev pub wanted_rows : WantedBearer → List (List Value)
wanted_rows c = (OfEbi c.identity ∷ []) ∷ (OfTft c.tft ∷ []) ∷ (OfFTeid c.user ∷ []) ∷ (OfQos c.qos ∷ []) ∷ where_there OfChargingId c.charging ∷ []

-- its rows
abbrev pub create_bearer_request_fields : CreateBearerRequest → List Field
create_bearer_request_fields r =
    Plain (where_there OfPti r.transaction) ∷ Plain (OfEbi r.linked ∷ []) ∷ Groups (map wanted_rows (r.context ∷ r.further)) ∷ []
