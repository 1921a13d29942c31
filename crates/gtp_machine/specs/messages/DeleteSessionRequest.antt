-- Delete Session Request (TS 29.274, 7.2.9.1; table 7.2.9.1-1).
use Rattle.std.specs.Prelude.{ℕ, List, [], ◌∷◌, Option}
use Rattle.gtp_ie.specs.Value.{OfEbi}
use Rattle.gtp_ie.specs.declared.form.Form.TheVariants as forms
use Rattle.gtp_v2.specs.Message.{MessageValue}
use Rattle.gtp_v2.specs.Table.{Field, Plain}
use Rattle.gtp_machine.specs.Element.{written}
use Rattle.gtp_machine.specs.messages.Rows.{first_in, number_of, row_in, where_there}

pub record DeleteSessionRequest : Type 0 where
  pub header : ℕ
  pub number : ℕ
  pub linked : Option ℕ  -- the linked EPS bearer identity

-- how its rows read
abbrev pub delete_session_request_in : MessageValue → DeleteSessionRequest
delete_session_request_in m =
    record { header = written m.teid; number = m.seq; linked = first_in number_of (row_in forms.Ebi 0 m) }

-- its rows
abbrev pub delete_session_request_fields : DeleteSessionRequest → List Field
delete_session_request_fields d = Plain (where_there OfEbi d.linked) ∷ []
