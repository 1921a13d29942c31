-- What is read of a Delete Session Request, and of a Delete Bearer Request before its list.
use Rattle.std.specs.Prelude.{◌≡◌, true, option_map}
use Rattle.gtp_ie.specs.Form.{number_of}
use Rattle.gtp_ie.specs.declared.form.Form.TheVariants as forms
use Rattle.gtp_ie.specs.Value.{OfEbi}
use Rattle.gtp_v2.specs.Message.{MessageValue}
use Rattle.gtp_v2.specs.Viewed.{has_row, row_of, front_value}
use Rattle.gtp_machine.specs.Node.{written}
use Rattle.gtp_gateway.specs.declared.receive.delete_request.DeleteRequest.{DeleteRequest}

-- what was read of a message is what stands in its rows
pub record ReadsDelete (m : MessageValue) (r : DeleteRequest) : Type 0 where
  pub number : r.seq ≡ m.seq
  pub header : r.header ≡ written m.teid
  pub linked : has_row m.kind (number_of forms.Ebi) 0 ≡ true → option_map (λ e. OfEbi e) r.linked ≡ front_value (row_of (number_of forms.Ebi) 0 m)
