-- Entries that name a datagram, a session or a bearer in place of its number.
use Rattle.std.specs.Prelude.{◌≡◌, ◌⊎◌, ℕ, List, [], ◌∷◌, true, codes, bytes_eq, if◌then◌else◌, Option, Some, None, is_some}
use Rattle.serde_json.specs.Data.{Data}
use Rattle.serde_json.specs.Find.{get, as_str}
use Rattle.gtp_machine.specs.declared.role.Role.{Role}
use Rattle.gtp_machine.specs.declared.role.Role.TheVariants.{Serving, Packet}
use Rattle.gtp_machine.specs.Input.{Delete_session, Create_bearer, Delete_bearer, Release_session, Mark_end, Send_user}
use Rattle.gtp_machine.specs.World.{Event, Does, Deliver}
use Rattle.gtp_scenario.specs.declared.name.Name.{Name}
use Rattle.gtp_scenario.specs.declared.name.Name.TheVariants.{Newest, All, Session, Bearer}
use Rattle.gtp_scenario.specs.declared.reason.kind.EventKind.{EventKind}
use Rattle.gtp_scenario.specs.declared.reason.kind.EventKind.TheVariants as kinds
use Rattle.gtp_scenario.specs.Keys.{kind_of}
use Rattle.gtp_scenario.specs.Steps.{◌>>=◌}
use Rattle.gtp_scenario.specs.Json.{text_at, text_if, has_only}
use Rattle.gtp_scenario.specs.Events.{node_at, ebi_at, tft_at, payload_at, qos}
use Rattle.gtp_scenario.specs.Entries.{Entry, entry_of}
use Rattle.gtp_scenario.specs.Names.{session_name_of, bearer_name_of}

-- ---- names

unfoldable pub session_at : Role → Data → Option Name
session_at node d = do
  name ← get (codes "session") d >>= session_name_of
  Some (Session node name)

unfoldable pub bearer_at : Role → Data → Option Name
bearer_at node d = do
  name ← get (codes "bearer") d >>= bearer_name_of
  Some (Bearer node name)

unfoldable pub bearer_sent_on : Data → Option Name
bearer_sent_on d = do
  node ← node_at d
  bearer_at node d

-- the datagram that was sent last, where the entry says none; or all
abbrev pub datagrams_said : Option Data → Option Name
datagrams_said None = Some Newest
datagrams_said (Some d) = do
  text ← as_str d
  if bytes_eq text (codes "all") then Some All else None

unfoldable pub datagram_at : Data → Option Name
datagram_at d = datagrams_said (get (codes "datagram") d)

-- what an event of this kind names: a session or bearer of the gateway that does the event
abbrev pub name_for : EventKind → Data → Option Name
name_for kinds.Deliver d = datagram_at d
name_for kinds.DeleteSession d = session_at Serving d
name_for kinds.ReleaseSession d = session_at Packet d
name_for kinds.CreateBearer d = session_at Packet d
name_for kinds.DeleteBearer d = session_at Packet d
name_for kinds.EndMarker d = bearer_at Packet d
name_for kinds.Send d = bearer_sent_on d
name_for _ d = None

-- what an entry names in place of a number, if it does
unfoldable pub name_of : Data → Option Name
name_of d = do
  kind ← text_at (codes "do") d >>= kind_of
  name_for kind d

-- ---- what is said of what has this number

unfoldable pub delete_session_named : ℕ → Data → Option Event
delete_session_named teid d = if has_only (codes "do" ∷ codes "expect" ∷ codes "session" ∷ []) d then Some (Does Serving (Delete_session teid)) else None

unfoldable pub release_session_named : ℕ → Data → Option Event
release_session_named teid d = if has_only (codes "do" ∷ codes "expect" ∷ codes "session" ∷ []) d then Some (Does Packet (Release_session teid)) else None

unfoldable pub create_bearer_named : ℕ → Data → Option Event
create_bearer_named teid d =
    if has_only (codes "do" ∷ codes "expect" ∷ codes "session" ∷ codes "tft" ∷ []) d
    then (do
      tft ← tft_at d
      Some (Does Packet (Create_bearer teid tft qos)))
    else None

unfoldable pub delete_bearer_named : ℕ → Data → Option Event
delete_bearer_named teid d =
    if has_only (codes "do" ∷ codes "expect" ∷ codes "session" ∷ codes "ebi" ∷ []) d
    then (do
      ebi ← ebi_at d
      Some (Does Packet (Delete_bearer teid ebi)))
    else None

unfoldable pub end_marker_named : ℕ → Data → Option Event
end_marker_named teid d = if has_only (codes "do" ∷ codes "expect" ∷ codes "bearer" ∷ []) d then Some (Does Packet (Mark_end teid)) else None

unfoldable pub send_named : ℕ → Data → Option Event
send_named teid d =
    if has_only (codes "do" ∷ codes "expect" ∷ codes "node" ∷ codes "bearer" ∷ codes "payload" ∷ []) d
    then (do
      node ← node_at d
      payload ← payload_at d
      Some (Does node (Send_user teid payload)))
    else None

-- the event of this kind about the session or bearer with this TEID
abbrev pub event_about : EventKind → ℕ → Data → Option Event
event_about kinds.DeleteSession teid d = delete_session_named teid d
event_about kinds.ReleaseSession teid d = release_session_named teid d
event_about kinds.CreateBearer teid d = create_bearer_named teid d
event_about kinds.DeleteBearer teid d = delete_bearer_named teid d
event_about kinds.EndMarker teid d = end_marker_named teid d
event_about kinds.Send teid d = send_named teid d
event_about _ teid d = None

unfoldable pub entry_about : ℕ → Data → Option Entry
entry_about teid d = do
  kind ← text_at (codes "do") d >>= kind_of
  event ← event_about kind teid d
  expect ← text_if (get (codes "expect") d)
  Some (record { event = event; times = 1; expect = expect })

-- the delivery of the datagram with this number
abbrev pub delivery : Option (List ℕ) → ℕ → Entry
delivery expect number = record { event = Deliver number; times = 1; expect = expect }

-- what is expected of a delivery without a number
unfoldable pub expected_of : Data → Option (Option (List ℕ))
expected_of d = if has_only (codes "do" ∷ codes "expect" ∷ codes "datagram" ∷ []) d then text_if (get (codes "expect") d) else None

-- ---- entries with which nothing is wrong

-- all that an entry says beside this name is right
abbrev pub IsRightBeside : Name → Data → Type 0
IsRightBeside Newest d = is_some (expected_of d) ≡ true
IsRightBeside All d = is_some (expected_of d) ≡ true
IsRightBeside (Session node name) d = (teid : ℕ) → is_some (entry_about teid d) ≡ true
IsRightBeside (Bearer node name) d = (teid : ℕ) → is_some (entry_about teid d) ≡ true

pub record IsRightNamed (d : Data) : Type 0 where
  pub name : Name
  pub named : name_of d ≡ Some name
  pub beside : IsRightBeside name d

-- an entry that has all of its numbers, or a name
abbrev pub IsRight : Data → Type 0
IsRight d = (is_some (entry_of d) ≡ true) ⊎ IsRightNamed d
