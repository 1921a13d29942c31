-- The lines of the contexts of a gateway.
use Rattle.std.specs.Prelude.{ℕ, List, [], ◌++◌, Bool, true, false, Option, Some, None, codes, decimal}
use Rattle.std.specs.FinMap.{entries}
use Rattle.std.specs.List.{flat_map}
use Rattle.gtp_values.specs.Apn.{apn_text}
use Rattle.gtp_values.specs.Imsi.{digits_text}
use Rattle.gtp_values.specs.PdnAddress.{address_text}
use Rattle.gtp_values.specs.Teid.{teid_text}
use Rattle.gtp_machine.specs.declared.role.Role.{Role}
use Rattle.gtp_tables.specs.declared.context.Session.{Session}
use Rattle.gtp_tables.specs.declared.context.Bearer.{Bearer}
use Rattle.gtp_machine.specs.Node.{Node}
use Rattle.gtp_outcomes.specs.States.{state_word}
use Rattle.gtp_scenario.specs.Words.{role_text}

-- a value, or a mark that there is none
abbrev pub or_dash : {X : Type 0} → (X → List ℕ) → Option X → List ℕ
or_dash text None = codes "-"
or_dash text (Some x) = text x

-- an End Marker was sent or came
abbrev pub ended_text : Bool → List ℕ
ended_text true = codes " ended"
ended_text false = []

-- the gateway and both TEIDs of a context: its own, and the peer's where that is known
abbrev pub ends_text : Role → ℕ → Option ℕ → List ℕ
ends_text node own remote = role_text node ++ codes " " ++ teid_text own ++ codes " " ++ or_dash teid_text remote

abbrev pub session_line : Role → ℕ × Session → List ℕ
session_line node e =
    codes "session " ++ ends_text node e.0 e.1.remote ++ codes " " ++ digits_text e.1.subscriber.imsi
    ++ codes " " ++ apn_text e.1.subscriber.access_point ++ codes " " ++ decimal e.1.subscriber.identity
    ++ codes " " ++ or_dash address_text e.1.address ++ codes " " ++ state_word e.1.state ++ codes "\n"

-- the state of a bearer
abbrev pub bearer_state : Bearer → List ℕ
bearer_state b = state_word b.state ++ ended_text b.ended ++ codes "\n"

abbrev pub bearer_line : Role → ℕ × Bearer → List ℕ
bearer_line node e = codes "bearer " ++ ends_text node e.0 e.1.remote ++ codes " " ++ teid_text e.1.session ++ codes " " ++ or_dash decimal e.1.identity ++ codes " " ++ bearer_state e.1

-- sessions before bearers, each in order of the gateway's own TEIDs
abbrev pub node_text : Role → Node → List ℕ
node_text role node = flat_map (session_line role) (entries node.sessions) ++ flat_map (bearer_line role) (entries node.bearers)
