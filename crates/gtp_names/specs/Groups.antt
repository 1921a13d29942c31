-- Elements that hold elements, and elements whose form the message decides.
use Rattle.std.specs.Prelude.{ℕ, Bool, true, false, ◌&&◌, List, [], ◌∷◌, Option, Some, ◌==◌, if◌then◌else◌}
use Rattle.gtp_forms.specs.declared.form.Row.{Row}

abbrev pub is_among : ℕ → List ℕ → Bool
is_among n [] = false
is_among n (m ∷ ms) = if n == m then true else is_among n ms

-- elements that hold elements, none of which is a group (TS 29.274 8.1): Bearer Context, Overload Control Information, Load Control
-- Information, Remote UE Context and SCEF PDN Connection
abbrev pub is_group : ℕ → Bool
is_group kind = is_among kind (93 ∷ 180 ∷ 181 ∷ 191 ∷ 195 ∷ [])

-- elements that hold elements, of which some are groups: PDN Connection
abbrev pub is_connection : ℕ → Bool
is_connection kind = kind == 109

-- messages that the network sends to the UE: responses to create, modify and delete a session, requests to create, update and delete a bearer
abbrev pub is_from_network : ℕ → Bool
is_from_network message = is_among message (33 ∷ 35 ∷ 37 ∷ 95 ∷ 97 ∷ 99 ∷ [])

-- extended protocol configuration options that the network sends have a form of their own (TS 24.301 9.9.4.26)
abbrev pub network_options : ℕ
network_options = 31

abbrev pub form_of : Row → ℕ → Option ℕ
form_of row message = if row.kind == 197 && is_from_network message then Some network_options else row.form
