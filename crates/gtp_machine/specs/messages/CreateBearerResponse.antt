-- Create Bearer Response (TS 29.274, 7.2.4; tables 7.2.4-1 and 7.2.4-2).
use Rattle.std.specs.Prelude.{ℕ, List, [], ◌∷◌, map, Option, Some, None}
use Rattle.gtp_values.specs.TunnelEnd.{TunnelEnd}
use Rattle.gtp_values.specs.declared.cause.Cause.{Cause}
use Rattle.gtp_ie.specs.Value.{Value, OfCause, OfRecovery, OfEbi, OfFTeid}
use Rattle.gtp_ie.specs.declared.form.Form.TheVariants as forms
use Rattle.gtp_v2.specs.CreateBearerResponse.{bearer_response_context_rows}
use Rattle.gtp_v2.specs.Message.{MessageValue}
use Rattle.gtp_v2.specs.Table.{Field, Plain, Groups}
use Rattle.gtp_machine.specs.Element.{teid_in, written}
use Rattle.gtp_machine.specs.messages.Rows.{cause_at, context_row, contexts_in, end_in, first_in, number_at, number_of, row_in, where_there}

-- a bearer context
pub record GivenBearer : Type 0 where
  pub identity : ℕ
  pub cause : Cause
  pub serving_user : Option TunnelEnd  -- the serving gateway's for the user plane (instance 2)
  pub packet_user : Option TunnelEnd  -- the packet gateway's, from the request (instance 3)

-- the message
pub record CreateBearerResponse : Type 0 where
  pub header : ℕ
  pub number : ℕ
  pub cause : Cause
  pub contexts : List GivenBearer
  pub recovery : Option ℕ

-- how the rows of a bearer context read
abbrev pub given : List (List Value) → GivenBearer
given rows =
    record {
      identity = number_at (context_row bearer_response_context_rows forms.Ebi 0 rows);
      cause = cause_at (context_row bearer_response_context_rows forms.Cause 0 rows);
      serving_user = first_in end_in (context_row bearer_response_context_rows forms.FTeid 2 rows);
      packet_user = first_in end_in (context_row bearer_response_context_rows forms.FTeid 3 rows);
    }

-- how its rows read
abbrev pub create_bearer_response_in : MessageValue → CreateBearerResponse
create_bearer_response_in m = record {
  header = written m.teid;
  number = m.seq;
  cause = cause_at (row_in forms.Cause 0 m);
  contexts = map given (contexts_in m);
  recovery = first_in number_of (row_in forms.Recovery 0 m);
}

-- the rows of a bearer context
abbrev pub given_rows : GivenBearer → List (List Value)
given_rows c = (OfEbi c.identity ∷ []) ∷ (OfCause c.cause ∷ []) ∷ where_there OfFTeid c.serving_user ∷ where_there OfFTeid c.packet_user ∷ []

-- its rows
abbrev pub create_bearer_response_fields : CreateBearerResponse → List Field
create_bearer_response_fields x =
    Plain (OfCause x.cause ∷ []) ∷ Groups (map given_rows x.contexts) ∷ Plain (where_there OfRecovery x.recovery) ∷ []

-- the serving gateway's user plane TEID in the first bearer context
abbrev pub first_given : List GivenBearer → Option ℕ
first_given [] = None
first_given (context ∷ contexts) = teid_in context.serving_user

-- the packet gateway's user plane TEID there, from the request
abbrev pub first_returned : List GivenBearer → Option ℕ
first_returned [] = None
first_returned (context ∷ contexts) = teid_in context.packet_user

-- the EPS bearer identity there
abbrev pub first_identity : List GivenBearer → Option ℕ
first_identity [] = None
first_identity (context ∷ contexts) = Some context.identity
