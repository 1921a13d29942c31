-- Delete Session Response (TS 29.274, 7.2.10.1; table 7.2.10.1-1).
use Rattle.std.specs.Prelude.{ℕ, List, [], ◌∷◌, Option}
use Rattle.gtp_values.specs.declared.cause.Cause.{Cause}
use Rattle.gtp_ie.specs.Value.{OfCause, OfRecovery}
use Rattle.gtp_ie.specs.declared.form.Form.TheVariants as forms
use Rattle.gtp_v2.specs.Message.{MessageValue}
use Rattle.gtp_v2.specs.Table.{Field, Plain}
use Rattle.gtp_machine.specs.Element.{written}
use Rattle.gtp_machine.specs.messages.Rows.{cause_at, first_in, number_of, row_in, where_there}

pub record DeleteSessionResponse : Type 0 where
  pub header : ℕ
  pub number : ℕ
  pub cause : Cause
  pub recovery : Option ℕ

-- how its rows read
abbrev pub delete_session_response_in : MessageValue → DeleteSessionResponse
delete_session_response_in m = record {
  header = written m.teid;
  number = m.seq;
  cause = cause_at (row_in forms.Cause 0 m);
  recovery = first_in number_of (row_in forms.Recovery 0 m);
}

-- its rows
abbrev pub delete_session_response_fields : DeleteSessionResponse → List Field
delete_session_response_fields d = Plain (OfCause d.cause ∷ []) ∷ Plain (where_there OfRecovery d.recovery) ∷ []
