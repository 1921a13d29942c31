-- An event that names something has not all of its numbers.
use Rattle.std.proofs.Common.{◌≡◌, ℕ, Bool, true, false, cond, List, [], ◌∷◌, Option, Some, None, true≢false, refl, sym, ap, ◌∙◌}
use Rattle.std.specs.Prelude.{codes, is_some}
use Rattle.serde_json.specs.Data.{Data, null, boolean, number, string, array, object}
use Rattle.serde_json.specs.Find.{get}
use Rattle.gtp_machine.specs.World.{Deliver}
use Rattle.gtp_machine.specs.declared.role.Role.{Role}
use Rattle.gtp_scenario.specs.declared.name.Name.{Name}
use Rattle.gtp_scenario.specs.declared.reason.kind.EventKind.{EventKind}
use Rattle.gtp_scenario.specs.declared.reason.kind.EventKind.TheVariants as kinds
use Rattle.gtp_scenario.specs.Steps.{◌>>=◌}
use Rattle.gtp_scenario.specs.Events.{node_at, delete_session_of, release_session_of, create_bearer_of, delete_bearer_of, end_marker_of, send_of, deliver_of, lone_teid_of}
use Rattle.gtp_scenario.specs.Json.{number_at, whole_number, is_among, has_only}
use Rattle.gtp_scenario.specs.Keys.{has_name}
use Rattle.gtp_scenario.specs.Names.{session_name_of, bearer_name_of}
use Rattle.gtp_scenario.specs.Named.{session_at, bearer_at, bearer_sent_on, datagrams_said, datagram_at}
use Rattle.gtp_scenario.proofs.Whole.{absent, of_kind}

gated_none : {A : Type 0} (b : Bool) (o : Option A) → (b ≡ true → o ≡ None) → cond b o None ≡ None
gated_none true o h = h refl
gated_none false o h = refl

-- it has a key that is none of an event of this kind
other_key : (known : List (List ℕ)) (key : List ℕ) (d : Data) → is_some (get key d) ≡ true → is_among known key ≡ false → has_only known d ≡ false
other_key known key d there not = by (has_only known d) refl
  where
    by : (b : Bool) → has_only known d ≡ b → b ≡ false
    by true only = absurd (true≢false (sym there ∙ ap is_some (absent known key d only not)))
    by false only = refl

has_value : {A B : Type 0} (o : Option A) (f : A → Option B) (x : B) → (o >>= f) ≡ Some x → is_some o ≡ true
has_value None f x h = absurd cc
has_value (Some y) f x h = refl

pub session_there : (node : Role) (d : Data) (name : Name) → session_at node d ≡ Some name → is_some (get (codes "session") d) ≡ true
unfolding session_at
session_there node d name h =
    let inner = has_value (get (codes "session") d >>= session_name_of) _ name h in by (get (codes "session") d) inner
  where
    by : (o : Option Data) → is_some (o >>= session_name_of) ≡ true → is_some o ≡ true
    by None k = absurd cc
    by (Some v) k = refl

pub bearer_there : (node : Role) (d : Data) (name : Name) → bearer_at node d ≡ Some name → is_some (get (codes "bearer") d) ≡ true
unfolding bearer_at
bearer_there node d name h =
    let inner = has_value (get (codes "bearer") d >>= bearer_name_of) _ name h in by (get (codes "bearer") d) inner
  where
    by : (o : Option Data) → is_some (o >>= bearer_name_of) ≡ true → is_some o ≡ true
    by None k = absurd cc
    by (Some v) k = refl

pub sent_on_there : (d : Data) (name : Name) → bearer_sent_on d ≡ Some name → is_some (get (codes "bearer") d) ≡ true
unfolding bearer_sent_on
sent_on_there d name h = by (node_at d) h
  where
    by : (o : Option Role) → (o >>= λ node. bearer_at node d) ≡ Some name → is_some (get (codes "bearer") d) ≡ true
    by None k = absurd cc
    by (Some node) k = bearer_there node d name k

-- the value of `datagram` is no number
no_number : (o : Option Data) (name : Name) → datagrams_said o ≡ Some name → (o >>= whole_number) ≡ None
no_number None name h = refl
no_number (Some null) name h = refl
no_number (Some (boolean b)) name h = refl
no_number (Some (number n)) name h = absurd cc
no_number (Some (string s)) name h = refl
no_number (Some (array ds)) name h = refl
no_number (Some (object ms)) name h = refl

pub none_then : {A B : Type 0} (o : Option A) (f : A → Option B) → o ≡ None → (o >>= f) ≡ None
none_then o f is = rw is refl

pub deliver_none : (d : Data) (name : Name) → datagram_at d ≡ Some name → deliver_of d ≡ None
unfolding deliver_of datagram_at
deliver_none d name h =
    gated_none (has_only (codes "do" ∷ codes "expect" ∷ codes "datagram" ∷ []) d) (number_at (codes "datagram") d >>= λ n. Some (Deliver n))
    (λ only. none_then (number_at (codes "datagram") d) (λ n. Some (Deliver n)) (no_number (get (codes "datagram") d) name h))

lone_none : (d : Data) → is_some (get (codes "session") d) ≡ true → lone_teid_of d ≡ None
unfolding lone_teid_of
lone_none d there = rw (other_key (codes "do" ∷ codes "expect" ∷ codes "teid" ∷ []) (codes "session") d there refl) refl

lone_none_too : (d : Data) → is_some (get (codes "bearer") d) ≡ true → lone_teid_of d ≡ None
unfolding lone_teid_of
lone_none_too d there = rw (other_key (codes "do" ∷ codes "expect" ∷ codes "teid" ∷ []) (codes "bearer") d there refl) refl

pub delete_session_none : (d : Data) → is_some (get (codes "session") d) ≡ true → delete_session_of d ≡ None
unfolding delete_session_of
delete_session_none d there = none_then (lone_teid_of d) _ (lone_none d there)

pub release_session_none : (d : Data) → is_some (get (codes "session") d) ≡ true → release_session_of d ≡ None
unfolding release_session_of
release_session_none d there = none_then (lone_teid_of d) _ (lone_none d there)

pub end_marker_none : (d : Data) → is_some (get (codes "bearer") d) ≡ true → end_marker_of d ≡ None
unfolding end_marker_of
end_marker_none d there = none_then (lone_teid_of d) _ (lone_none_too d there)

pub create_bearer_none : (d : Data) → is_some (get (codes "session") d) ≡ true → create_bearer_of d ≡ None
unfolding create_bearer_of
create_bearer_none d there = rw (other_key (codes "do" ∷ codes "expect" ∷ codes "teid" ∷ codes "tft" ∷ []) (codes "session") d there refl) refl

pub delete_bearer_none : (d : Data) → is_some (get (codes "session") d) ≡ true → delete_bearer_of d ≡ None
unfolding delete_bearer_of
delete_bearer_none d there = rw (other_key (codes "do" ∷ codes "expect" ∷ codes "teid" ∷ codes "ebi" ∷ []) (codes "session") d there refl) refl

pub send_none : (d : Data) → is_some (get (codes "bearer") d) ≡ true → send_of d ≡ None
unfolding send_of
send_none d there = rw (other_key (codes "do" ∷ codes "expect" ∷ codes "node" ∷ codes "teid" ∷ codes "payload" ∷ []) (codes "bearer") d there refl) refl

-- a name is none of the keys of an event with all of its numbers
pub has_no_event : (kind : EventKind) (d : Data) → has_name d kind ≡ true → of_kind kind d ≡ None
has_no_event kinds.DeleteSession d has = delete_session_none d has
has_no_event kinds.ReleaseSession d has = release_session_none d has
has_no_event kinds.CreateBearer d has = create_bearer_none d has
has_no_event kinds.DeleteBearer d has = delete_bearer_none d has
has_no_event kinds.EndMarker d has = end_marker_none d has
has_no_event kinds.Send d has = send_none d has
has_no_event kinds.CreateSession d has = absurd cc
has_no_event kinds.Echo d has = absurd cc
has_no_event kinds.Restart d has = absurd cc
has_no_event kinds.Tick d has = absurd cc
has_no_event kinds.Deliver d has = absurd cc
has_no_event kinds.Cut d has = absurd cc
