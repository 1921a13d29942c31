-- Where nothing is wrong with an entry that names a session or bearer, it is read.
use Rattle.std.proofs.Common.{◌≡◌, ℕ, Bool, true, false, cond, List, [], ◌∷◌, map, Option, Some, None, inl, inr, ◌⊎◌, true≢false, refl, sym, ap, subst, ◌∙◌}
use Rattle.std.specs.Prelude.{◌||◌, is_some, bytes_eq, codes}
use Rattle.std.specs.Option.{option_map_or}
use Rattle.serde_json.specs.Data.{Data}
use Rattle.serde_json.specs.Find.{get, as_str}
use Rattle.gtp_machine.specs.World.{Event}
use Rattle.gtp_machine.specs.declared.role.Role.{Role}
use Rattle.gtp_machine.specs.declared.role.Role.TheVariants.{Serving, Packet}
use Rattle.gtp_scenario.specs.declared.name.Name.{Name}
use Rattle.gtp_scenario.specs.declared.name.Name.TheVariants.{Newest, All, Session, Bearer}
use Rattle.gtp_scenario.specs.declared.reason.key.Key.{Key}
use Rattle.gtp_scenario.specs.declared.reason.key.Key.TheVariants as keys
use Rattle.gtp_scenario.specs.declared.reason.kind.EventKind.{EventKind}
use Rattle.gtp_scenario.specs.declared.reason.kind.EventKind.TheVariants as kinds
use Rattle.gtp_scenario.specs.Steps.{◌>>=◌}
use Rattle.gtp_scenario.specs.Entries.{entry_of}
use Rattle.gtp_scenario.specs.Events.{node_at, ebi_at, tft_at, payload_at}
use Rattle.gtp_scenario.specs.Json.{text_at, text_if, whole_number, number_at}
use Rattle.gtp_scenario.specs.declared.reason.wanted.Wanted.TheVariants as wanted
use Rattle.gtp_scenario.specs.Keys.{key_text, is_good_text, is_met, is_met_by, kind_of, event_keys, named_keys, has_name, keys_in}
use Rattle.gtp_scenario.specs.Names.{session_name_of, bearer_name_of}
use Rattle.gtp_scenario.specs.Named.{IsRightBeside, IsRightNamed, IsRight, datagrams_said, datagram_at, expected_of, session_at, bearer_at}
use Rattle.gtp_scenario.specs.Named.{bearer_sent_on, name_for, name_of, delete_session_named, release_session_named, create_bearer_named}
use Rattle.gtp_scenario.specs.Named.{delete_bearer_named, end_marker_named, send_named, event_about, entry_about}
use Rattle.gtp_scenario.specs.Reasons.{fits}
use Rattle.gtp_scenario.proofs.Whole.{is_numbered, chain, pinned, gated, needed, parts, met_in, node_met, ebi_met, tft_met, payload_met, expect_met, entry_read, by_some}

-- ---- the name

-- a session or bearer
abbrev is_context : Name → Bool
is_context Newest = false
is_context All = false
is_context (Session node name) = true
is_context (Bearer node name) = true

-- a context is named
record IsContext (o : Option Name) : Type 0 where
  name : Name
  is : o ≡ Some name
  context : is_context name ≡ true

context_beside : (name : Name) (d : Data) → is_context name ≡ true → ((teid : ℕ) → is_some (entry_about teid d) ≡ true) → IsRightBeside name d
context_beside Newest d context right = absurd cc
context_beside All d context right = absurd cc
context_beside (Session node name) d context right = right
context_beside (Bearer node name) d context right = right

some_of : {A : Type 0} (o : Option A) → is_some o ≡ true → (x : A) × (o ≡ Some x)
some_of None h = absurd cc
some_of (Some x) h = (x, refl)

bound : {A B : Type 0} (o : Option A) (x : A) (f : A → Option B) (y : B) → o ≡ Some x → f x ≡ Some y → (o >>= f) ≡ Some y
bound o x f y is k = rw is k

session_met : (node : Role) (d : Data) → is_met d keys.Session ≡ true → IsContext (session_at node d)
unfolding session_at
session_met node d met =
    let found = some_of (get (codes "session") d >>= session_name_of) (needed keys.Session d (get (codes "session") d) session_name_of refl (λ v. refl) met) in
    record { name = Session node found.0; is = bound (get (codes "session") d >>= session_name_of) found.0 _ (Session node found.0) found.1 refl; context = refl }

bearer_met : (node : Role) (d : Data) → is_met d keys.Bearer ≡ true → IsContext (bearer_at node d)
unfolding bearer_at
bearer_met node d met =
    let found = some_of (get (codes "bearer") d >>= bearer_name_of) (needed keys.Bearer d (get (codes "bearer") d) bearer_name_of refl (λ v. refl) met) in
    record { name = Bearer node found.0; is = bound (get (codes "bearer") d >>= bearer_name_of) found.0 _ (Bearer node found.0) found.1 refl; context = refl }

sent_on_met : (d : Data) → is_met d keys.Node ≡ true → is_met d keys.Bearer ≡ true → IsContext (bearer_sent_on d)
unfolding bearer_sent_on
sent_on_met d met met_too =
    let node = some_of (node_at d) (node_met d met) in
    let c = bearer_met node.0 d met_too in
    record { name = c.name; is = bound (node_at d) node.0 (λ n. bearer_at n d) c.name node.1 c.is; context = c.context }

name_met : (kind : EventKind) (d : Data) → has_name d kind ≡ true → fits (named_keys kind) d ≡ true → IsContext (name_for kind d)
name_met kinds.DeleteSession d has h = session_met Serving d (met_in (named_keys kinds.DeleteSession) d h 2 keys.Session refl)
name_met kinds.ReleaseSession d has h = session_met Packet d (met_in (named_keys kinds.ReleaseSession) d h 2 keys.Session refl)
name_met kinds.CreateBearer d has h = session_met Packet d (met_in (named_keys kinds.CreateBearer) d h 2 keys.Session refl)
name_met kinds.DeleteBearer d has h = session_met Packet d (met_in (named_keys kinds.DeleteBearer) d h 2 keys.Session refl)
name_met kinds.EndMarker d has h = bearer_met Packet d (met_in (named_keys kinds.EndMarker) d h 2 keys.Bearer refl)
name_met kinds.Send d has h = sent_on_met d (met_in (named_keys kinds.Send) d h 2 keys.Node refl) (met_in (named_keys kinds.Send) d h 3 keys.Bearer refl)
name_met kinds.CreateSession d has h = absurd cc
name_met kinds.Echo d has h = absurd cc
name_met kinds.Restart d has h = absurd cc
name_met kinds.Tick d has h = absurd cc
name_met kinds.Deliver d has h = absurd cc
name_met kinds.Cut d has h = absurd cc

-- ---- the event

event_met : (kind : EventKind) (teid : ℕ) (d : Data) → has_name d kind ≡ true → fits (named_keys kind) d ≡ true → is_some (event_about kind teid d) ≡ true
unfolding delete_session_named release_session_named create_bearer_named delete_bearer_named end_marker_named send_named
event_met kinds.DeleteSession teid d has h = gated _ _ (parts (named_keys kinds.DeleteSession) d h).only refl
event_met kinds.ReleaseSession teid d has h = gated _ _ (parts (named_keys kinds.ReleaseSession) d h).only refl
event_met kinds.CreateBearer teid d has h =
    gated _ _ (parts (named_keys kinds.CreateBearer) d h).only
    (chain (tft_at d) _ (tft_met d (met_in (named_keys kinds.CreateBearer) d h 3 keys.Tft refl)) (λ f. refl))
event_met kinds.DeleteBearer teid d has h =
    gated _ _ (parts (named_keys kinds.DeleteBearer) d h).only
    (chain (ebi_at d) _ (ebi_met d (met_in (named_keys kinds.DeleteBearer) d h 3 keys.Ebi refl)) (λ e. refl))
event_met kinds.EndMarker teid d has h = gated _ _ (parts (named_keys kinds.EndMarker) d h).only refl
event_met kinds.Send teid d has h =
    gated _ _ (parts (named_keys kinds.Send) d h).only (chain (node_at d) _ (node_met d (met_in (named_keys kinds.Send) d h 2 keys.Node refl))
    (λ n. chain (payload_at d) _ (payload_met d (met_in (named_keys kinds.Send) d h 4 keys.Payload refl)) (λ p. refl)))
event_met kinds.CreateSession teid d has h = absurd cc
event_met kinds.Echo teid d has h = absurd cc
event_met kinds.Restart teid d has h = absurd cc
event_met kinds.Tick teid d has h = absurd cc
event_met kinds.Deliver teid d has h = absurd cc
event_met kinds.Cut teid d has h = absurd cc

expect_at : (kind : EventKind) (d : Data) → has_name d kind ≡ true → fits (named_keys kind) d ≡ true → is_met d keys.Expect ≡ true
expect_at kinds.DeleteSession d has h = met_in (named_keys kinds.DeleteSession) d h 1 keys.Expect refl
expect_at kinds.ReleaseSession d has h = met_in (named_keys kinds.ReleaseSession) d h 1 keys.Expect refl
expect_at kinds.CreateBearer d has h = met_in (named_keys kinds.CreateBearer) d h 1 keys.Expect refl
expect_at kinds.DeleteBearer d has h = met_in (named_keys kinds.DeleteBearer) d h 1 keys.Expect refl
expect_at kinds.EndMarker d has h = met_in (named_keys kinds.EndMarker) d h 1 keys.Expect refl
expect_at kinds.Send d has h = met_in (named_keys kinds.Send) d h 1 keys.Expect refl
expect_at kinds.CreateSession d has h = absurd cc
expect_at kinds.Echo d has h = absurd cc
expect_at kinds.Restart d has h = absurd cc
expect_at kinds.Tick d has h = absurd cc
expect_at kinds.Deliver d has h = absurd cc
expect_at kinds.Cut d has h = absurd cc

kind_said : (d : Data) (word : List ℕ) (kind : EventKind) → text_at (codes "do") d ≡ Some word → kind_of word ≡ Some kind → (text_at (codes "do") d >>= kind_of) ≡ Some kind
kind_said d word kind said is = bound (text_at (codes "do") d) word kind_of kind said is

named_right : (d : Data) (word : List ℕ) (kind : EventKind) → text_at (codes "do") d ≡ Some word → kind_of word ≡ Some kind → has_name d kind ≡ true → fits (named_keys kind) d ≡ true → IsRightNamed d
unfolding name_of entry_about
named_right d word kind said is has h =
    let c = name_met kind d has h in
    let at = kind_said d word kind said is in
    record {
      name = c.name;
      named = bound (text_at (codes "do") d >>= kind_of) kind (λ k. name_for k d) c.name at c.is;
      beside =
          context_beside c.name d c.context
          (λ teid. pinned (text_at (codes "do") d >>= kind_of) kind _ at (chain (event_about kind teid d) _ (event_met kind teid d has h)
          (λ e. chain (text_if (get (codes "expect") d)) _ (expect_met d (get (codes "expect") d) (expect_at kind d has h)) (λ x. refl))));
    }

-- ---- deliveries

or_right : (a b : Bool) → a ≡ false → a || b ≡ true → b ≡ true
or_right a b not h = subst (λ x. x || b ≡ true) not h

said_all : (v : Data) → option_map_or (is_good_text wanted.NumberOrAll) (as_str v) false ≡ true → datagrams_said (Some v) ≡ Some All
said_all v h = by (as_str v) h
  where
    by : (o : Option (List ℕ)) → option_map_or (is_good_text wanted.NumberOrAll) o false ≡ true → (o >>= λ text. cond (bytes_eq text (codes "all")) (Some All) None) ≡ Some All
    by None k = absurd cc
    by (Some text) k = rw k refl

-- the name of what is delivered
record IsDelivered (d : Data) : Type 0 where
  name : Name
  is : datagram_at d ≡ Some name
  beside : is_some (expected_of d) ≡ true → IsRightBeside name d

delivered : (d : Data) → is_met d keys.DatagramOrAll ≡ true → is_some (number_at (codes "datagram") d) ≡ false → IsDelivered d
unfolding datagram_at
delivered d met not = by (get (codes "datagram") d) refl met not
  where
    by : (o : Option Data) → get (codes "datagram") d ≡ o → is_met_by d keys.DatagramOrAll o ≡ true → is_some (o >>= whole_number) ≡ false → IsDelivered d
    by None at m n = record { name = Newest; is = ap datagrams_said at; beside = λ right. right }
    by (Some v) at m n = record { name = All; is = ap datagrams_said at ∙ said_all v (or_right (is_some (whole_number v)) _ n m); beside = λ right. right }

delivery_right : (d : Data) (word : List ℕ) → text_at (codes "do") d ≡ Some word → kind_of word ≡ Some kinds.Deliver
    → is_some (number_at (codes "datagram") d) ≡ false → fits (event_keys kinds.Deliver) d ≡ true → IsRightNamed d
unfolding name_of expected_of
delivery_right d word said is not h =
    let found = delivered d (met_in (event_keys kinds.Deliver) d h 2 keys.DatagramOrAll refl) not in
    record {
      name = found.name;
      named = bound (text_at (codes "do") d >>= kind_of) kinds.Deliver (λ k. name_for k d) found.name (kind_said d word kinds.Deliver said is) found.is;
      beside = found.beside (gated _ _ (parts (event_keys kinds.Deliver) d h).only (expect_met d (get (codes "expect") d) (met_in (event_keys kinds.Deliver) d h 1 keys.Expect refl)));
    }

-- only a delivery may have no number
delivery_named : (d : Data) (word : List ℕ) (kind : EventKind) → text_at (codes "do") d ≡ Some word → kind_of word ≡ Some kind → is_numbered kind d ≡ false
    → fits (event_keys kind) d ≡ true → IsRightNamed d
delivery_named d word kinds.Deliver said is not h = delivery_right d word said is not h
delivery_named d word kinds.CreateSession said is not h = absurd cc
delivery_named d word kinds.DeleteSession said is not h = absurd cc
delivery_named d word kinds.ReleaseSession said is not h = absurd cc
delivery_named d word kinds.EndMarker said is not h = absurd cc
delivery_named d word kinds.CreateBearer said is not h = absurd cc
delivery_named d word kinds.DeleteBearer said is not h = absurd cc
delivery_named d word kinds.Echo said is not h = absurd cc
delivery_named d word kinds.Restart said is not h = absurd cc
delivery_named d word kinds.Tick said is not h = absurd cc
delivery_named d word kinds.Send said is not h = absurd cc
delivery_named d word kinds.Cut said is not h = absurd cc

-- an entry with which nothing is wrong is read
pub entry_right : (d : Data) (word : List ℕ) (kind : EventKind) → text_at (codes "do") d ≡ Some word → kind_of word ≡ Some kind → fits (keys_in d kind) d ≡ true → IsRight d
entry_right d word kind said is h = by (has_name d kind) refl h
  where
    by : (b : Bool) → has_name d kind ≡ b → fits (cond b (named_keys kind) (event_keys kind)) d ≡ true → IsRight d
    by true has k = inr (named_right d word kind said is has k)
    by false has k = numbered (is_numbered kind d) refl k
      where
        numbered : (b : Bool) → is_numbered kind d ≡ b → fits (event_keys kind) d ≡ true → IsRight d
        numbered true number all = inl (by_some (entry_of d) (entry_read d word kind said is number all))
        numbered false not all = inr (delivery_named d word kind said is not all)
