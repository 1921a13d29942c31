-- Echo Request and Echo Response (TS 29.274, 7.1.1 and 7.1.2; table 7.1.1-1).
use Rattle.std.specs.Prelude.{ℕ, List, [], ◌∷◌}
use Rattle.gtp_ie.specs.Value.{OfRecovery}
use Rattle.gtp_ie.specs.declared.form.Form.TheVariants as forms
use Rattle.gtp_v2.specs.Message.{MessageValue}
use Rattle.gtp_v2.specs.Table.{Field, Plain}
use Rattle.gtp_machine.specs.messages.Rows.{number_at, row_in}

pub record Echo : Type 0 where
  pub number : ℕ
  pub recovery : ℕ  -- the sender's restart counter

-- how its rows read
abbrev pub echo_in : MessageValue → Echo
echo_in m = record { number = m.seq; recovery = number_at (row_in forms.Recovery 0 m) }

-- its rows
abbrev pub echo_fields : Echo → List Field
echo_fields e = Plain (OfRecovery e.recovery ∷ []) ∷ []
