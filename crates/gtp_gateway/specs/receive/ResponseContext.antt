-- Bearer contexts of responses, where they lie.
use Rattle.gtp_ie.specs.Form.{number_of}
use Rattle.gtp_ie.specs.declared.form.Form.TheVariants as forms
use Rattle.std.specs.Prelude.{◌≡◌, ℕ, IsTrue, List, [], ◌∷◌, Option, Some, None, option_to_list}
use Rattle.gtp_ie.specs.Element.{Element}
use Rattle.gtp_ie.specs.Value.{Value, OfCause, OfEbi}
use Rattle.gtp_v2.specs.declared.table.Row.{Row}
use Rattle.gtp_v2.specs.Viewed.{optional_at, values_in, has_contexts, context_always_has}
use Rattle.gtp_machine.specs.Decoded.{end_in, first_in}
use Rattle.gtp_machine.specs.Element.{teid_in}
use Rattle.gtp_gateway.specs.declared.receive.response_context.ResponseContext.{ResponseContext}

-- messages of this type have bearer contexts, each with an identity and a cause
pub record HasCauses (message : ℕ) : Type 0 where
  pub contexts : IsTrue (has_contexts message)
  pub identity : IsTrue (context_always_has message (number_of forms.Ebi) 0)
  pub cause : IsTrue (context_always_has message (number_of forms.Cause) 0)

-- what was read of a bearer context with these elements
pub record ReadsContext (es : List Element) (c : ResponseContext) : Type 0 where
  pub identity : optional_at (number_of forms.Ebi) 0 es ≡ Some (OfEbi c.identity)
  pub cause : optional_at (number_of forms.Cause) 0 es ≡ Some (OfCause c.cause)
  pub user : teid_in (first_in end_in (option_to_list (optional_at (number_of forms.FTeid) 2 es))) ≡ c.user
  pub returned : teid_in (first_in end_in (option_to_list (optional_at (number_of forms.FTeid) 3 es))) ≡ c.returned

-- what was read of the only one of these bearer contexts, which have these rows; or there is none, or more than one
abbrev pub ReadsOnly : List Row → List (List (List Value)) → Option ResponseContext → Type 0
ReadsOnly rows contexts (Some c) = (es : List Element) × (contexts ≡ values_in rows es ∷ []) × ReadsContext es c
ReadsOnly rows contexts None = (context : List (List Value)) → contexts ≡ context ∷ [] → ⊥
