-- Delete Bearer Request (TS 29.274, 7.2.9.2; table 7.2.9.2-1): for a session its linked identity, for dedicated bearers theirs.
use Rattle.std.specs.Prelude.{ℕ, List, [], ◌∷◌, map, Option, unwrap_or}
use Rattle.gtp_ie.specs.Value.{OfEbi}
use Rattle.gtp_ie.specs.declared.form.Form.TheVariants as forms
use Rattle.gtp_v2.specs.Message.{MessageValue}
use Rattle.gtp_v2.specs.Table.{Field, Plain}
use Rattle.gtp_machine.specs.Element.{written}
use Rattle.gtp_machine.specs.messages.Rows.{first_in, list_in, number_of, row_in, where_there}

pub record DeleteBearerRequest : Type 0 where
  pub header : ℕ
  pub number : ℕ
  pub linked : Option ℕ
  pub identities : List ℕ

-- how its rows read
abbrev pub delete_bearer_request_in : MessageValue → DeleteBearerRequest
delete_bearer_request_in m = record {
  header = written m.teid;
  number = m.seq;
  linked = first_in number_of (row_in forms.Ebi 0 m);
  identities = map (λ v. unwrap_or (number_of v) 0) (list_in forms.Ebi 1 m);
}

-- its rows
abbrev pub delete_bearer_request_fields : DeleteBearerRequest → List Field
delete_bearer_request_fields d = Plain (where_there OfEbi d.linked) ∷ Plain (map OfEbi d.identities) ∷ []
