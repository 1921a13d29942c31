-- Create Session Request (TS 29.274, 7.2.1; tables 7.2.1-1 and 7.2.1-2).
use Rattle.std.specs.Prelude.{ℕ, List, [], ◌∷◌, map, Option}
use Rattle.gtp_values.specs.Plmn.{Network}
use Rattle.gtp_values.specs.TunnelEnd.{TunnelEnd}
use Rattle.gtp_values.specs.declared.paa.Paa.{Paa}
use Rattle.gtp_values.specs.declared.qos.Ambr.{Ambr}
use Rattle.gtp_values.specs.declared.qos.Qos.{Qos}
use Rattle.gtp_ie.specs.Value.{Value, OfImsi, OfRecovery, OfApn, OfAmbr, OfEbi, OfPaa, OfQos, OfRat, OfPlmn, OfFTeid, OfPdnType, OfSelection}
use Rattle.gtp_ie.specs.declared.form.Form.TheVariants as forms
use Rattle.gtp_v2.specs.CreateSessionRequest.{session_request_context_rows}
use Rattle.gtp_v2.specs.Message.{MessageValue}
use Rattle.gtp_v2.specs.Table.{Field, Plain, Groups}
use Rattle.gtp_machine.specs.Element.{Subscriber, written}
use Rattle.gtp_machine.specs.messages.Rows.{ambr_in, context_row, end_at, first_in, network_in, number_at, number_of, octets_at, paa_in, qos_at, row_in, where_there}

-- the bearer context of a Create Session Request
pub record RequestedBearer : Type 0 where
  pub identity : ℕ
  pub qos : Qos
  pub user : TunnelEnd  -- the serving gateway's for the user plane

-- the message
pub record CreateSessionRequest : Type 0 where
  pub header : ℕ  -- TEID of the header, not evaluated
  pub number : ℕ
  pub imsi : List ℕ
  pub rat : ℕ
  pub network : Option Network
  pub control : TunnelEnd  -- the sender's for the control plane
  pub access_point : List ℕ
  pub selection : Option ℕ
  pub pdn : ℕ  -- the PDN type
  pub address : Option Paa  -- the PDN Address Allocation (8.14)
  pub ambr : Option Ambr
  pub context : RequestedBearer  -- the first bearer context
  pub further : List RequestedBearer
  pub recovery : Option ℕ

-- how the rows of a bearer context read
abbrev pub requested : List (List Value) → RequestedBearer
requested rows =
    record {
      identity = number_at (context_row session_request_context_rows forms.Ebi 0 rows);
      qos = qos_at (context_row session_request_context_rows forms.Qos 0 rows);
      user = end_at (context_row session_request_context_rows forms.FTeid 2 rows);
    }

-- how its rows read, with its first bearer context and the further ones
abbrev pub create_session_request_in : MessageValue → List (List Value) → List (List (List Value)) → CreateSessionRequest
create_session_request_in m first further = record {
  header = written m.teid;
  number = m.seq;
  imsi = octets_at (row_in forms.Imsi 0 m);
  rat = number_at (row_in forms.Rat 0 m);
  network = first_in network_in (row_in forms.Plmn 0 m);
  control = end_at (row_in forms.FTeid 0 m);
  access_point = octets_at (row_in forms.Apn 0 m);
  selection = first_in number_of (row_in forms.Selection 0 m);
  pdn = number_at (row_in forms.PdnType 0 m);
  address = first_in paa_in (row_in forms.Paa 0 m);
  ambr = first_in ambr_in (row_in forms.Ambr 0 m);
  context = requested first;
  further = map requested further;
  recovery = first_in number_of (row_in forms.Recovery 0 m);
}

-- the rows of a bearer context
abbrev pub requested_rows : RequestedBearer → List (List Value)
requested_rows c = (OfEbi c.identity ∷ []) ∷ (OfQos c.qos ∷ []) ∷ (OfFTeid c.user ∷ []) ∷ []

-- its rows
abbrev pub create_session_request_fields : CreateSessionRequest → List Field
create_session_request_fields q =
    Plain (OfImsi q.imsi ∷ [])
    ∷ Plain (OfRat q.rat ∷ [])
    ∷ Plain (where_there OfPlmn q.network)
    ∷ Plain (OfFTeid q.control ∷ [])
    ∷ Plain (OfApn q.access_point ∷ [])
    ∷ Plain (where_there OfSelection q.selection)
    ∷ Plain (OfPdnType q.pdn ∷ [])
    ∷ Plain (where_there OfPaa q.address)
    ∷ Plain (where_there OfAmbr q.ambr)
    ∷ Groups (map requested_rows (q.context ∷ q.further))
    ∷ Plain (where_there OfRecovery q.recovery)
    ∷ []

-- who it asks a session for
abbrev pub subscriber_of : CreateSessionRequest → Subscriber
subscriber_of q = record { imsi = q.imsi; access_point = q.access_point; identity = q.context.identity }
