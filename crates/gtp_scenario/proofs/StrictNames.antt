-- Where something is wrong with an entry, nothing is right about it.
use Rattle.std.proofs.Common.{◌≡◌, ℕ, Bool, true, false, cond, List, [], ◌∷◌, map, Option, Some, None, inl, inr, true≢false, refl, sym, ap, subst, ◌∙◌}
use Rattle.std.specs.Prelude.{◌||◌, is_some, codes, bytes_eq}
use Rattle.std.specs.List.{list_all}
use Rattle.std.specs.Option.{option_map_or}
use Rattle.serde_json.specs.Data.{Data}
use Rattle.serde_json.specs.Find.{get, as_str}
use Rattle.gtp_machine.specs.declared.role.Role.{Role}
use Rattle.gtp_machine.specs.declared.role.Role.TheVariants.{Serving, Packet}
use Rattle.gtp_scenario.specs.declared.name.Name.{Name}
use Rattle.gtp_scenario.specs.declared.name.Name.TheVariants.{Newest, All, Session, Bearer}
use Rattle.gtp_scenario.specs.declared.reason.key.Key.{Key}
use Rattle.gtp_scenario.specs.declared.reason.key.Key.TheVariants as keys
use Rattle.gtp_scenario.specs.declared.reason.kind.EventKind.{EventKind}
use Rattle.gtp_scenario.specs.declared.reason.kind.EventKind.TheVariants as kinds
use Rattle.gtp_scenario.specs.declared.reason.flaw.ObjectFlaw.{ObjectFlaw}
use Rattle.gtp_scenario.specs.declared.reason.event.EventFlaw.{EventFlaw}
use Rattle.gtp_scenario.specs.declared.reason.event.EventFlaw.TheVariants as event
use Rattle.gtp_scenario.specs.declared.reason.wanted.Wanted.TheVariants as wanted
use Rattle.gtp_scenario.specs.Steps.{◌>>=◌}
use Rattle.gtp_machine.specs.World.{Event}
use Rattle.gtp_scenario.specs.Entries.{Entry}
use Rattle.gtp_scenario.specs.Events.{node_at, ebi_at, tft_at, payload_at}
use Rattle.gtp_scenario.specs.Json.{text_at, text_if, has_only, whole_number}
use Rattle.gtp_scenario.specs.Texts.{imsi_of, apn_of}
use Rattle.gtp_scenario.specs.Keys.{key_text, is_good_text, is_met, is_met_by, kind_of, event_keys, named_keys, name_key, is_named_at, has_name, keys_in, member_keys}
use Rattle.gtp_scenario.specs.Names.{session_name_of, bearer_name_of}
use Rattle.gtp_scenario.specs.Named.{datagrams_said, datagram_at, session_at, bearer_at, bearer_sent_on, name_for, name_of, delete_session_named}
use Rattle.gtp_scenario.specs.Named.{release_session_named, create_bearer_named, delete_bearer_named, end_marker_named, send_named, event_about}
use Rattle.gtp_scenario.specs.Named.{entry_about, expected_of, IsRightBeside, IsRight}
use Rattle.gtp_scenario.specs.Reasons.{fits, IsFlaw, IsFlawAt, IsNameFlaw, IsEntryFlaw}
use Rattle.gtp_scenario.proofs.Whole.{met_in}
use Rattle.gtp_scenario.proofs.Strict.{HasStep, step, had, gate, behind, two, with_key, kept, imsi_kept, apn_kept, ebi_kept, node_kept, tft_kept}
use Rattle.gtp_scenario.proofs.Strict.{payload_kept, word_kept, expect_kept, entry_fit, entry_worded, wordless, flaw_unfit}

-- ---- what a name is

step_of : {A B : Type 0} (o : Option A) (f : A → Option B) (y : B) → (o >>= f) ≡ Some y → HasStep o f
step_of o f y is = step o f (ap is_some is)

-- the session that is named, at the gateway that does the event
record NamesSession (d : Data) (name : Name) : Type 0 where
  there : is_some (get (codes "session") d) ≡ true
  met : is_met d keys.Session ≡ true
  entry : IsRightBeside name d → is_some (entry_about 0 d) ≡ true

names_session : (node : Role) (d : Data) (name : Name) → session_at node d ≡ Some name → NamesSession d name
unfolding session_at
names_session node d name is =
    let found = step_of (get (codes "session") d >>= session_name_of) _ name is in
    let read : is_some (get (codes "session") d >>= session_name_of) ≡ true = ap is_some found.is in
    let same : Some name ≡ Some (Session node found.value) = sym is ∙ ap (λ o. o >>= λ n. Some (Session node n)) found.is in
    record {
      there = had (get (codes "session") d) session_name_of read;
      met = kept keys.Session d (get (codes "session") d) session_name_of (λ v. refl) read;
      entry = λ right. subst (λ n. IsRightBeside n d) (let e : name ≡ Session node found.value = cc in e) right 0;
    }

-- the bearer that is named
record NamesBearer (d : Data) (name : Name) : Type 0 where
  there : is_some (get (codes "bearer") d) ≡ true
  met : is_met d keys.Bearer ≡ true
  entry : IsRightBeside name d → is_some (entry_about 0 d) ≡ true

names_bearer : (node : Role) (d : Data) (name : Name) → bearer_at node d ≡ Some name → NamesBearer d name
unfolding bearer_at
names_bearer node d name is =
    let found = step_of (get (codes "bearer") d >>= bearer_name_of) _ name is in
    let read : is_some (get (codes "bearer") d >>= bearer_name_of) ≡ true = ap is_some found.is in
    let same : Some name ≡ Some (Bearer node found.value) = sym is ∙ ap (λ o. o >>= λ n. Some (Bearer node n)) found.is in
    record {
      there = had (get (codes "bearer") d) bearer_name_of read;
      met = kept keys.Bearer d (get (codes "bearer") d) bearer_name_of (λ v. refl) read;
      entry = λ right. subst (λ n. IsRightBeside n d) (let e : name ≡ Bearer node found.value = cc in e) right 0;
    }

names_bearer_sent_on : (d : Data) (name : Name) → bearer_sent_on d ≡ Some name → NamesBearer d name
unfolding bearer_sent_on
names_bearer_sent_on d name is = by (node_at d) is
  where
    by : (o : Option Role) → (o >>= λ node. bearer_at node d) ≡ Some name → NamesBearer d name
    by None k = absurd cc
    by (Some node) k = names_bearer node d name k

-- ---- what stands beside it

-- both parts of an entry beside its name
record HasAbout (kind : EventKind) (d : Data) : Type 0 where
  event : is_some (event_about kind 0 d) ≡ true
  expect : is_met d keys.Expect ≡ true

-- an entry of this event
abbrev with_expected : Data → Event → Option Entry
with_expected d event = text_if (get (codes "expect") d) >>= λ expect. Some (record { event = event; times = 1; expect = expect })

about : (kind : EventKind) (d : Data) → (text_at (codes "do") d >>= kind_of) ≡ Some kind → is_some (entry_about 0 d) ≡ true → HasAbout kind d
unfolding entry_about
about kind d is h =
    let said = step (text_at (codes "do") d >>= kind_of) _ h in
    let same : said.value ≡ kind = (let both : Some said.value ≡ Some kind = sym said.is ∙ is in cc) in
    let next = subst (λ k. is_some (event_about k 0 d >>= with_expected d) ≡ true) same said.next in
    let event = step (event_about kind 0 d) _ next in
    record {
      event = had (event_about kind 0 d) _ next;
      expect = expect_kept d (get (codes "expect") d) (had (text_if (get (codes "expect") d)) _ event.next);
    }

worded_met : (d : Data) (kind : EventKind) → (text_at (codes "do") d >>= kind_of) ≡ Some kind → is_met d keys.Do ≡ true
worded_met d kind is = (let said = step_of (text_at (codes "do") d) kind_of kind is in word_kept d said.value said.is)

fit_all : (known : List Key) (d : Data) → has_only (map key_text (keys.Do ∷ keys.Expect ∷ known)) d ≡ true → list_all (is_met d) known ≡ true
    → is_met d keys.Do ≡ true → is_met d keys.Expect ≡ true → fits (keys.Do ∷ keys.Expect ∷ known) d ≡ true
fit_all known d only met worded expect = rw only (with_key d keys.Do (keys.Expect ∷ known) worded (with_key d keys.Expect known expect met))

-- the keys of an event that has a name are those that it is to have
in_named : (kind : EventKind) (d : Data) → has_name d kind ≡ true → fits (named_keys kind) d ≡ true → fits (keys_in d kind) d ≡ true
in_named kind d has fit = subst (λ b. fits (cond b (named_keys kind) (event_keys kind)) d ≡ true) (sym has) fit

create_bearer_fit : (d : Data) → is_met d keys.Session ≡ true → is_met d keys.Do ≡ true → HasAbout kinds.CreateBearer d → fits (named_keys kinds.CreateBearer) d ≡ true
unfolding create_bearer_named
create_bearer_fit d session worded h =
    fit_all (keys.Session ∷ keys.Tft ∷ []) d (gate _ _ h.event)
    (with_key d keys.Session (keys.Tft ∷ []) session (with_key d keys.Tft [] (tft_kept d (had (tft_at d) _ (behind _ _ h.event))) refl))
    worded h.expect

delete_bearer_fit : (d : Data) → is_met d keys.Session ≡ true → is_met d keys.Do ≡ true → HasAbout kinds.DeleteBearer d → fits (named_keys kinds.DeleteBearer) d ≡ true
unfolding delete_bearer_named
delete_bearer_fit d session worded h =
    fit_all (keys.Session ∷ keys.Ebi ∷ []) d (gate _ _ h.event)
    (with_key d keys.Session (keys.Ebi ∷ []) session (with_key d keys.Ebi [] (ebi_kept d (had (ebi_at d) _ (behind _ _ h.event))) refl))
    worded h.expect

send_fit : (d : Data) → is_met d keys.Bearer ≡ true → is_met d keys.Do ≡ true → HasAbout kinds.Send d → fits (named_keys kinds.Send) d ≡ true
unfolding send_named
send_fit d bearer worded h =
    let node = two (node_at d) _ (behind _ _ h.event) in
    fit_all (keys.Node ∷ keys.Bearer ∷ keys.Payload ∷ []) d (gate _ _ h.event)
    (with_key d keys.Node (keys.Bearer ∷ keys.Payload ∷ []) (node_kept d node.0)
    (with_key d keys.Bearer (keys.Payload ∷ []) bearer (with_key d keys.Payload [] (payload_kept d (had (payload_at d) _ node.1.next)) refl)))
    worded h.expect

session_fit : (d : Data) → is_met d keys.Session ≡ true → is_met d keys.Do ≡ true → has_only (map key_text (named_keys kinds.DeleteSession)) d ≡ true
    → is_met d keys.Expect ≡ true → fits (named_keys kinds.DeleteSession) d ≡ true
session_fit d session worded only expect = fit_all (keys.Session ∷ []) d only (with_key d keys.Session [] session refl) worded expect

bearer_fit : (d : Data) → is_met d keys.Bearer ≡ true → is_met d keys.Do ≡ true → has_only (map key_text (named_keys kinds.EndMarker)) d ≡ true
    → is_met d keys.Expect ≡ true → fits (named_keys kinds.EndMarker) d ≡ true
bearer_fit d bearer worded only expect = fit_all (keys.Bearer ∷ []) d only (with_key d keys.Bearer [] bearer refl) worded expect

delete_session_only : (d : Data) → is_some (delete_session_named 0 d) ≡ true → has_only (map key_text (named_keys kinds.DeleteSession)) d ≡ true
unfolding delete_session_named
delete_session_only d h = gate _ _ h

release_session_only : (d : Data) → is_some (release_session_named 0 d) ≡ true → has_only (map key_text (named_keys kinds.ReleaseSession)) d ≡ true
unfolding release_session_named
release_session_only d h = gate _ _ h

end_marker_only : (d : Data) → is_some (end_marker_named 0 d) ≡ true → has_only (map key_text (named_keys kinds.EndMarker)) d ≡ true
unfolding end_marker_named
end_marker_only d h = gate _ _ h

-- ---- deliveries

-- what a delivery without a number names, and what is expected of it
record NamesDatagram (d : Data) (name : Name) : Type 0 where
  met : is_met d keys.DatagramOrAll ≡ true
  beside : IsRightBeside name d → is_some (expected_of d) ≡ true

all_said : (v : Data) (name : Name) → datagrams_said (Some v) ≡ Some name → (name ≡ All) × (option_map_or (is_good_text wanted.NumberOrAll) (as_str v) false ≡ true)
all_said v name is = by (as_str v) is
  where
    at : (b : Bool) → cond b (Some All) None ≡ Some name → (name ≡ All) × (b ≡ true)
    at true k = (cc, refl)
    at false k = absurd cc

    by : (o : Option (List ℕ)) → (o >>= λ text. cond (bytes_eq text (codes "all")) (Some All) None) ≡ Some name → (name ≡ All) × (option_map_or (is_good_text wanted.NumberOrAll) o false ≡ true)
    by None k = absurd cc
    by (Some text) k = at (bytes_eq text (codes "all")) k

or_true : (a b : Bool) → b ≡ true → a || b ≡ true
or_true true b h = refl
or_true false b h = h

names_datagram : (d : Data) (name : Name) → datagram_at d ≡ Some name → NamesDatagram d name
unfolding datagram_at
names_datagram d name is = by (get (codes "datagram") d) refl is
  where
    by : (o : Option Data) → get (codes "datagram") d ≡ o → datagrams_said o ≡ Some name → NamesDatagram d name
    by None at k = record { met = rw at refl; beside = λ right. subst (λ n. IsRightBeside n d) (let e : name ≡ Newest = cc in e) right }
    by (Some v) at k =
        let all = all_said v name k in
        record { met = rw at (or_true (is_some (whole_number v)) _ all.1); beside = λ right. subst (λ n. IsRightBeside n d) all.0 right }

deliver_fit : (d : Data) → is_met d keys.DatagramOrAll ≡ true → is_met d keys.Do ≡ true → is_some (expected_of d) ≡ true → fits (event_keys kinds.Deliver) d ≡ true
unfolding expected_of
deliver_fit d datagram worded h =
    fit_all (keys.DatagramOrAll ∷ []) d (gate _ _ h) (with_key d keys.DatagramOrAll [] datagram refl) worded (expect_kept d (get (codes "expect") d) (behind _ _ h))

-- ---- entries

named_fit : (kind : EventKind) (d : Data) (name : Name) → (text_at (codes "do") d >>= kind_of) ≡ Some kind → name_for kind d ≡ Some name → IsRightBeside name d → fits (keys_in d kind) d ≡ true
named_fit kinds.DeleteSession d name is named right =
    let of = names_session Serving d name named in
    let all = about kinds.DeleteSession d is (of.entry right) in
    in_named kinds.DeleteSession d of.there (session_fit d of.met (worded_met d kinds.DeleteSession is) (delete_session_only d all.event) all.expect)
named_fit kinds.ReleaseSession d name is named right =
    let of = names_session Packet d name named in
    let all = about kinds.ReleaseSession d is (of.entry right) in
    in_named kinds.ReleaseSession d of.there (session_fit d of.met (worded_met d kinds.ReleaseSession is) (release_session_only d all.event) all.expect)
named_fit kinds.CreateBearer d name is named right =
    let of = names_session Packet d name named in
    in_named kinds.CreateBearer d of.there (create_bearer_fit d of.met (worded_met d kinds.CreateBearer is) (about kinds.CreateBearer d is (of.entry right)))
named_fit kinds.DeleteBearer d name is named right =
    let of = names_session Packet d name named in
    in_named kinds.DeleteBearer d of.there (delete_bearer_fit d of.met (worded_met d kinds.DeleteBearer is) (about kinds.DeleteBearer d is (of.entry right)))
named_fit kinds.EndMarker d name is named right =
    let of = names_bearer Packet d name named in
    let all = about kinds.EndMarker d is (of.entry right) in
    in_named kinds.EndMarker d of.there (bearer_fit d of.met (worded_met d kinds.EndMarker is) (end_marker_only d all.event) all.expect)
named_fit kinds.Send d name is named right =
    let of = names_bearer_sent_on d name named in
    in_named kinds.Send d of.there (send_fit d of.met (worded_met d kinds.Send is) (about kinds.Send d is (of.entry right)))
named_fit kinds.Deliver d name is named right =
    let of = names_datagram d name named in
    deliver_fit d of.met (worded_met d kinds.Deliver is) (of.beside right)
named_fit kinds.CreateSession d name is named right = absurd cc
named_fit kinds.Echo d name is named right = absurd cc
named_fit kinds.Restart d name is named right = absurd cc
named_fit kinds.Tick d name is named right = absurd cc
named_fit kinds.Cut d name is named right = absurd cc

-- the kind of an entry that names something
record HasKind (d : Data) (name : Name) : Type 0 where
  kind : EventKind
  is : (text_at (codes "do") d >>= kind_of) ≡ Some kind
  named : name_for kind d ≡ Some name

kind_named : (d : Data) (name : Name) → name_of d ≡ Some name → HasKind d name
unfolding name_of
kind_named d name h =
    let said = step_of (text_at (codes "do") d >>= kind_of) (λ kind. name_for kind d) name h in
    record { kind = said.value; is = said.is; named = sym (ap (λ o. o >>= λ kind. name_for kind d) said.is) ∙ h }

-- an entry with which nothing is wrong has the keys of its kind
right_fits : (d : Data) (kind : EventKind) → (text_at (codes "do") d >>= kind_of) ≡ Some kind → IsRight d → fits (keys_in d kind) d ≡ true
right_fits d kind is (inl whole) = entry_fit d kind is whole
right_fits d kind is (inr named) =
    let of = kind_named d named.name named.named in
    let same : of.kind ≡ kind = (let both : Some of.kind ≡ Some kind = sym of.is ∙ is in cc) in
    named_fit kind d named.name is (subst (λ k. name_for k d ≡ Some named.name) same of.named) named.beside

-- its word is that of an event
right_worded : (d : Data) → IsRight d → is_some (text_at (codes "do") d >>= kind_of) ≡ true
right_worded d (inl whole) = entry_worded d whole
right_worded d (inr named) = ap is_some (kind_named d named.name named.named).is

-- ---- the object of a name

session_name_fits : (d : Data) → is_some (session_name_of d) ≡ true → fits (member_keys keys.Session) d ≡ true
unfolding session_name_of
session_name_fits d h =
    let imsi = two (text_at (codes "imsi") d >>= imsi_of) _ (behind _ _ h) in
    let only : has_only (map key_text (member_keys keys.Session)) d ≡ true = gate _ _ h in
    rw only (with_key d keys.Imsi (keys.Apn ∷ []) (imsi_kept d imsi.0) (with_key d keys.Apn [] (apn_kept d (had (text_at (codes "apn") d >>= apn_of) _ imsi.1.next)) refl))

bearer_name_fits : (d : Data) → is_some (bearer_name_of d) ≡ true → fits (member_keys keys.Bearer) d ≡ true
unfolding bearer_name_of
bearer_name_fits d h =
    let imsi = two (text_at (codes "imsi") d >>= imsi_of) _ (behind _ _ h) in
    let apn = two (text_at (codes "apn") d >>= apn_of) _ imsi.1.next in
    let only : has_only (map key_text (member_keys keys.Bearer)) d ≡ true = gate _ _ h in
    rw only (with_key d keys.Imsi (keys.Apn ∷ keys.Ebi ∷ []) (imsi_kept d imsi.0)
    (with_key d keys.Apn (keys.Ebi ∷ []) (apn_kept d apn.0) (with_key d keys.Ebi [] (ebi_kept d (had (ebi_at d) _ apn.1.next)) refl)))

session_never : (d : Data) (flaw : ObjectFlaw) → is_met d keys.Session ≡ true → IsFlawAt (IsFlaw (member_keys keys.Session)) (codes "session") d flaw → ⊥
session_never d flaw met (name, at, flawed) =
    true≢false (sym (session_name_fits name (subst (λ o. is_met_by d keys.Session o ≡ true) at met)) ∙ flaw_unfit (member_keys keys.Session) name flaw flawed)

bearer_never : (d : Data) (flaw : ObjectFlaw) → is_met d keys.Bearer ≡ true → IsFlawAt (IsFlaw (member_keys keys.Bearer)) (codes "bearer") d flaw → ⊥
bearer_never d flaw met (name, at, flawed) =
    true≢false (sym (bearer_name_fits name (subst (λ o. is_met_by d keys.Bearer o ≡ true) at met)) ∙ flaw_unfit (member_keys keys.Bearer) name flaw flawed)

-- where something is wrong in a name, there is one
flawed_name : (d : Data) (o : Option Key) (flaw : ObjectFlaw) → IsNameFlaw d o flaw → is_named_at d o ≡ true
flawed_name d None flaw is = absurd is
flawed_name d (Some key) flaw (name, at, flawed) = ap is_some at

name_never : (kind : EventKind) (d : Data) (flaw : ObjectFlaw) → fits (named_keys kind) d ≡ true → IsNameFlaw d (name_key kind) flaw → ⊥
name_never kinds.DeleteSession d flaw fit is = session_never d flaw (met_in (named_keys kinds.DeleteSession) d fit 2 keys.Session refl) is
name_never kinds.ReleaseSession d flaw fit is = session_never d flaw (met_in (named_keys kinds.ReleaseSession) d fit 2 keys.Session refl) is
name_never kinds.CreateBearer d flaw fit is = session_never d flaw (met_in (named_keys kinds.CreateBearer) d fit 2 keys.Session refl) is
name_never kinds.DeleteBearer d flaw fit is = session_never d flaw (met_in (named_keys kinds.DeleteBearer) d fit 2 keys.Session refl) is
name_never kinds.EndMarker d flaw fit is = bearer_never d flaw (met_in (named_keys kinds.EndMarker) d fit 2 keys.Bearer refl) is
name_never kinds.Send d flaw fit is = bearer_never d flaw (met_in (named_keys kinds.Send) d fit 3 keys.Bearer refl) is
name_never kinds.CreateSession d flaw fit is = absurd is
name_never kinds.Echo d flaw fit is = absurd is
name_never kinds.Restart d flaw fit is = absurd is
name_never kinds.Tick d flaw fit is = absurd is
name_never kinds.Deliver d flaw fit is = absurd is
name_never kinds.Cut d flaw fit is = absurd is

-- nothing is right about an entry with a flaw
pub flaw_never : (d : Data) (flaw : EventFlaw) → IsEntryFlaw d flaw → IsRight d → ⊥
flaw_never d (event.Entry flaw) is right = true≢false (sym (right_worded d right) ∙ ap is_some (ap (λ o. o >>= kind_of) (wordless d flaw is)))
flaw_never d (event.NoEvent word) is right = true≢false (sym (right_worded d right) ∙ ap is_some (ap (λ o. o >>= kind_of) is.0 ∙ is.1))
flaw_never d (event.Keys kind flaw) is right = true≢false (sym (right_fits d kind is.0 right) ∙ flaw_unfit (keys_in d kind) d flaw is.1)
flaw_never d (event.Named kind flaw) is right =
    let has : has_name d kind ≡ true = flawed_name d (name_key kind) flaw is.1 in
    name_never kind d flaw (subst (λ b. fits (cond b (named_keys kind) (event_keys kind)) d ≡ true) has (right_fits d kind is.0 right)) is.1
flaw_never d (event.Nothing name) is right = is
flaw_never d event.TooMany is right = is
