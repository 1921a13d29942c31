-- The contexts of a gateway as JSON: the reading of reports, by members of objects.
use Rattle.std.specs.Prelude.{ℕ, List, ◌++◌, map, Option, codes}
use Rattle.std.specs.FinMap.{entries}
use Rattle.json.specs.Json.{Json, boolean}
use Rattle.gtp_values.specs.Apn.{apn_text}
use Rattle.gtp_values.specs.Imsi.{digits_text}
use Rattle.gtp_values.specs.PdnAddress.{address_text}
use Rattle.gtp_machine.specs.declared.role.Role.{Role}
use Rattle.gtp_machine.specs.declared.role.Role.TheVariants.{Serving, Packet}
use Rattle.gtp_tables.specs.declared.context.Subscriber.{Subscriber}
use Rattle.gtp_tables.specs.declared.context.Session.{Session}
use Rattle.gtp_tables.specs.declared.context.Bearer.{Bearer}
use Rattle.gtp_machine.specs.Node.{Node}
use Rattle.gtp_world.specs.Record.{WorldRecord}
use Rattle.gtp_scenario.specs.Words.{role_text}
use Rattle.gtp_outcomes.specs.States.{state_word}
use Rattle.gtp_json.specs.Tree.{member, object_of, array_of}
use Rattle.gtp_run_json.specs.Members.{where_some, word_member, number_member, teid_member}

-- the gateway and both TEIDs of a context: its own, and the peer's where that is known
abbrev pub ends_members : Role → ℕ → Option ℕ → List (List ℕ × Json)
ends_members node own remote = word_member (codes "node") (role_text node) ++ (teid_member (codes "local") own ++ where_some (teid_member (codes "remote")) remote)

abbrev pub subscriber_members : Subscriber → List (List ℕ × Json)
subscriber_members s = word_member (codes "imsi") (digits_text s.imsi) ++ (word_member (codes "apn") (apn_text s.access_point) ++ number_member (codes "ebi") s.identity)

-- the address, where there is one, and the state
abbrev pub standing_members : Session → List (List ℕ × Json)
standing_members s = where_some (λ address. word_member (codes "address") (address_text address)) s.address ++ word_member (codes "state") (state_word s.state)

abbrev pub session_json : Role → ℕ × Session → Json
session_json node e = object_of (ends_members node e.0 e.1.remote ++ (subscriber_members e.1.subscriber ++ standing_members e.1))

-- the session of a bearer, its identity where it has one, its state, and whether an End Marker was sent or came
abbrev pub bearer_members : Bearer → List (List ℕ × Json)
bearer_members b =
    teid_member (codes "session") b.session
    ++ (where_some (number_member (codes "ebi")) b.identity ++ (word_member (codes "state") (state_word b.state) ++ member (codes "ended") (boolean b.ended)))

abbrev pub bearer_json : Role → ℕ × Bearer → Json
bearer_json node e = object_of (ends_members node e.0 e.1.remote ++ bearer_members e.1)

-- those of a gateway in order of its own TEIDs
abbrev pub sessions_of : Role → Node → List Json
sessions_of role node = map (session_json role) (entries node.sessions)

abbrev pub bearers_of : Role → Node → List Json
bearers_of role node = map (bearer_json role) (entries node.bearers)

-- those of the serving gateway, then of the packet gateway
abbrev pub sessions_members : WorldRecord → List (List ℕ × Json)
sessions_members v = member (codes "sessions") (array_of (sessions_of Serving v.serving.state.node ++ sessions_of Packet v.packet.state.node))

abbrev pub bearers_members : WorldRecord → List (List ℕ × Json)
bearers_members v = member (codes "bearers") (array_of (bearers_of Serving v.serving.state.node ++ bearers_of Packet v.packet.state.node))
