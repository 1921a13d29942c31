-- Create Session Response (TS 29.274, 7.2.2; tables 7.2.2-1 and 7.2.2-2).
use Rattle.std.specs.Prelude.{ℕ, List, [], ◌∷◌, map, Option, Some, None}
use Rattle.gtp_values.specs.TunnelEnd.{TunnelEnd}
use Rattle.gtp_values.specs.declared.cause.Cause.{Cause}
use Rattle.gtp_values.specs.declared.paa.Paa.{Paa}
use Rattle.gtp_values.specs.declared.qos.Ambr.{Ambr}
use Rattle.gtp_values.specs.declared.qos.Qos.{Qos}
use Rattle.gtp_ie.specs.Value.{Value, OfCause, OfRecovery, OfAmbr, OfEbi, OfPaa, OfQos, OfFTeid, OfChargingId}
use Rattle.gtp_ie.specs.declared.form.Form.TheVariants as forms
use Rattle.gtp_v2.specs.CreateSessionResponse.{session_response_context_rows}
use Rattle.gtp_v2.specs.Message.{MessageValue}
use Rattle.gtp_v2.specs.Table.{Field, Plain, Groups}
use Rattle.gtp_machine.specs.Element.{teid_in, written}
use Rattle.gtp_machine.specs.messages.Rows.{ambr_in, cause_at, context_row, contexts_in, end_in, first_in, number_at, number_of, paa_in, qos_in, row_in, where_there}

-- a bearer context
pub record CreatedBearer : Type 0 where
  pub identity : ℕ
  pub cause : Cause
  pub user : Option TunnelEnd  -- the packet gateway's for the user plane
  pub qos : Option Qos
  pub charging : Option ℕ

-- the message
pub record CreateSessionResponse : Type 0 where
  pub header : ℕ
  pub number : ℕ
  pub cause : Cause
  pub control : Option TunnelEnd  -- the sender's for the control plane
  pub address : Option Paa  -- the PDN Address Allocation (8.14)
  pub ambr : Option Ambr
  pub contexts : List CreatedBearer
  pub recovery : Option ℕ

-- how the rows of a bearer context read
abbrev pub created : List (List Value) → CreatedBearer
created rows =
    record {
      identity = number_at (context_row session_response_context_rows forms.Ebi 0 rows);
      cause = cause_at (context_row session_response_context_rows forms.Cause 0 rows);
      user = first_in end_in (context_row session_response_context_rows forms.FTeid 2 rows);
      qos = first_in qos_in (context_row session_response_context_rows forms.Qos 0 rows);
      charging = first_in number_of (context_row session_response_context_rows forms.ChargingId 0 rows);
    }

-- how its rows read
abbrev pub create_session_response_in : MessageValue → CreateSessionResponse
create_session_response_in m = record {
  header = written m.teid;
  number = m.seq;
  cause = cause_at (row_in forms.Cause 0 m);
  control = first_in end_in (row_in forms.FTeid 1 m);
  address = first_in paa_in (row_in forms.Paa 0 m);
  ambr = first_in ambr_in (row_in forms.Ambr 0 m);
  contexts = map created (contexts_in m);
  recovery = first_in number_of (row_in forms.Recovery 0 m);
}

-- the rows of a bearer context
abbrev pub created_rows : CreatedBearer → List (List Value)
created_rows c =
    (OfEbi c.identity ∷ []) ∷ (OfCause c.cause ∷ []) ∷ where_there OfFTeid c.user ∷ where_there OfQos c.qos ∷ where_there OfChargingId c.charging ∷ []

-- its rows
abbrev pub create_session_response_fields : CreateSessionResponse → List Field
create_session_response_fields a =
    Plain (OfCause a.cause ∷ [])
    ∷ Plain (where_there OfFTeid a.control)
    ∷ Plain (where_there OfPaa a.address)
    ∷ Plain (where_there OfAmbr a.ambr)
    ∷ Groups (map created_rows a.contexts)
    ∷ Plain (where_there OfRecovery a.recovery)
    ∷ []

-- the user plane TEID of the first bearer context
abbrev pub first_created : List CreatedBearer → Option ℕ
first_created [] = None
first_created (context ∷ contexts) = teid_in context.user

-- the EPS bearer identity there: that of the bearer that a session was made with
abbrev pub created_identity : List CreatedBearer → Option ℕ
created_identity [] = None
created_identity (context ∷ contexts) = Some context.identity
