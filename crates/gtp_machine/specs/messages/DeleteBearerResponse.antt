-- Delete Bearer Response (TS 29.274, 7.2.10.2; tables 7.2.10.2-1 and 7.2.10.2-2).
use Rattle.std.specs.Prelude.{ℕ, List, [], ◌∷◌, map, Option}
use Rattle.gtp_values.specs.declared.cause.Cause.{Cause}
use Rattle.gtp_ie.specs.Value.{Value, OfCause, OfRecovery, OfEbi}
use Rattle.gtp_ie.specs.declared.form.Form.TheVariants as forms
use Rattle.gtp_v2.specs.DeleteBearerResponse.{removal_response_context_rows}
use Rattle.gtp_v2.specs.Message.{MessageValue}
use Rattle.gtp_v2.specs.Table.{Field, Plain, Groups}
use Rattle.gtp_machine.specs.Element.{written}
use Rattle.gtp_machine.specs.messages.Rows.{cause_at, context_row, contexts_in, first_in, number_at, number_of, row_in, where_there}

-- a bearer context
pub record RemovedBearer : Type 0 where
  pub identity : ℕ
  pub cause : Cause

-- the message
pub record DeleteBearerResponse : Type 0 where
  pub header : ℕ
  pub number : ℕ
  pub cause : Cause
  pub linked : Option ℕ
  pub contexts : List RemovedBearer
  pub recovery : Option ℕ

-- how the rows of a bearer context read
abbrev pub removed : List (List Value) → RemovedBearer
removed rows =
    record {
      identity = number_at (context_row removal_response_context_rows forms.Ebi 0 rows);
      cause = cause_at (context_row removal_response_context_rows forms.Cause 0 rows);
    }

-- how its rows read
abbrev pub delete_bearer_response_in : MessageValue → DeleteBearerResponse
delete_bearer_response_in m = record {
  header = written m.teid;
  number = m.seq;
  cause = cause_at (row_in forms.Cause 0 m);
  linked = first_in number_of (row_in forms.Ebi 0 m);
  contexts = map removed (contexts_in m);
  recovery = first_in number_of (row_in forms.Recovery 0 m);
}

-- the rows of a bearer context
abbrev pub removed_rows : RemovedBearer → List (List Value)
removed_rows c = (OfEbi c.identity ∷ []) ∷ (OfCause c.cause ∷ []) ∷ []

-- its rows
abbrev pub delete_bearer_response_fields : DeleteBearerResponse → List Field
delete_bearer_response_fields d =
    Plain (OfCause d.cause ∷ [])
    ∷ Plain (where_there OfEbi d.linked)
    ∷ Groups (map removed_rows d.contexts)
    ∷ Plain (where_there OfRecovery d.recovery)
    ∷ []
