-- Where something is wrong with an object, it is not read.
use Rattle.std.proofs.Common.{◌≡◌, ◌&&◌, ℕ, Bool, true, false, cond, List, [], ◌∷◌, map, length, Option, Some, None, option_map, refl, sym, ap, subst, ◌∙◌, true≢false}
use Rattle.std.specs.Prelude.{is_some, codes, nat_le, find, not}
use Rattle.std.specs.List.{list_all}
use Rattle.std.specs.Option.{option_map_or}
use Rattle.serde_json.specs.Data.{Data, null, boolean, number, string, array, object}
use Rattle.serde_json.specs.Find.{get, as_str, as_object}
use Rattle.gtp_scenario.specs.declared.reason.key.Key.{Key}
use Rattle.gtp_scenario.specs.declared.reason.key.Key.TheVariants as keys
use Rattle.gtp_scenario.specs.declared.reason.kind.EventKind.{EventKind}
use Rattle.gtp_scenario.specs.declared.reason.kind.EventKind.TheVariants as kinds
use Rattle.gtp_scenario.specs.declared.reason.flaw.ObjectFlaw.{ObjectFlaw}
use Rattle.gtp_scenario.specs.declared.reason.flaw.ObjectFlaw.TheVariants as flaws
use Rattle.gtp_scenario.specs.Steps.{◌>>=◌}
use Rattle.gtp_scenario.specs.Json.{text_at, text_if, whole_number, number_at, number_or, within, has_only}
use Rattle.gtp_scenario.specs.Texts.{imsi_of, apn_of, teid_of, octets_of}
use Rattle.gtp_scenario.specs.Events.{role_of, node_at, teid_at, ebi_at, pdn_at, subscriber_at, tft_at, payload_at, create_session_of, lone_teid_of}
use Rattle.gtp_scenario.specs.Events.{delete_session_of, release_session_of, end_marker_of, create_bearer_of, delete_bearer_of, lone_node_of, echo_of}
use Rattle.gtp_scenario.specs.Events.{restart_of, tick_of, send_of, deliver_of, cut_of, event_named}
use Rattle.gtp_scenario.specs.Entries.{entry_of}
use Rattle.gtp_scenario.specs.Keys.{key_text, wanted_of, is_good, is_good_text, may_be_absent, is_met, is_met_by, kind_of, event_keys, named_keys, has_name, keys_in}
use Rattle.gtp_scenario.specs.Reasons.{fits, IsWordless, IsFlaw}
use Rattle.gtp_scenario.proofs.Apart.{has_no_event}
use Rattle.gtp_scenario.proofs.Whole.{by_text, absent, of_kind, named, none_named}

-- ---- steps that had values

-- what a step gave, and that the next step gave something
pub record HasStep {A B : Type 0} (o : Option A) (f : A → Option B) : Type 0 where
  pub value : A
  pub is : o ≡ Some value
  pub next : is_some (f value) ≡ true

pub step : {A B : Type 0} (o : Option A) (f : A → Option B) → is_some (o >>= f) ≡ true → HasStep o f
step None f h = absurd cc
step (Some x) f h = record { value = x; is = refl; next = h }

pub had : {A B : Type 0} (o : Option A) (f : A → Option B) → is_some (o >>= f) ≡ true → is_some o ≡ true
had None f h = h
had (Some x) f h = refl

pub gate : {A : Type 0} (b : Bool) (o : Option A) → is_some (cond b o None) ≡ true → b ≡ true
gate true o h = refl
gate false o h = h

pub behind : {A : Type 0} (b : Bool) (o : Option A) → is_some (cond b o None) ≡ true → is_some o ≡ true
behind true o h = h
behind false o h = absurd cc

pub apart : {A B C : Type 0} (o : Option A) (f : A → Option B) (g : B → Option C) → is_some ((o >>= f) >>= g) ≡ true → is_some (o >>= λ x. f x >>= g) ≡ true
apart None f g h = h
apart (Some x) f g h = h

pub with_key : (d : Data) (key : Key) (known : List Key) → is_met d key ≡ true → list_all (is_met d) known ≡ true → list_all (is_met d) (key ∷ known) ≡ true
with_key d key known met all = rw met all

-- ---- keys

pub kept : {A : Type 0} (key : Key) (d : Data) (o : Option Data) (read : Data → Option A) → ((v : Data) → is_good (wanted_of key) v ≡ is_some (read v))
    → is_some (o >>= read) ≡ true → is_met_by d key o ≡ true
kept key d None read good h = absurd cc
kept key d (Some v) read good h = good v ∙ h

pub kept_or : (key : Key) (d : Data) (o : Option Data) (standard low high : ℕ) → may_be_absent d key ≡ true
    → ((v : Data) → is_good (wanted_of key) v ≡ is_some (whole_number v >>= within low high))
    → is_some (number_or standard o >>= within low high) ≡ true → is_met_by d key o ≡ true
kept_or key d None standard low high may good h = may
kept_or key d (Some v) standard low high may good h = good v ∙ h

teid_kept : (d : Data) → is_some (teid_at d) ≡ true → is_met d keys.Teid ≡ true
unfolding teid_at
teid_kept d h = kept keys.Teid d (get (codes "teid") d) (λ v. as_str v >>= teid_of) (λ v. by_text teid_of (as_str v)) (apart (get (codes "teid") d) as_str teid_of h)

pub node_kept : (d : Data) → is_some (node_at d) ≡ true → is_met d keys.Node ≡ true
unfolding node_at
node_kept d h = kept keys.Node d (get (codes "node") d) (λ v. as_str v >>= role_of) (λ v. by_text role_of (as_str v)) (apart (get (codes "node") d) as_str role_of h)

pub imsi_kept : (d : Data) → is_some (text_at (codes "imsi") d >>= imsi_of) ≡ true → is_met d keys.Imsi ≡ true
imsi_kept d h = kept keys.Imsi d (get (codes "imsi") d) (λ v. as_str v >>= imsi_of) (λ v. by_text imsi_of (as_str v)) (apart (get (codes "imsi") d) as_str imsi_of h)

pub apn_kept : (d : Data) → is_some (text_at (codes "apn") d >>= apn_of) ≡ true → is_met d keys.Apn ≡ true
apn_kept d h = kept keys.Apn d (get (codes "apn") d) (λ v. as_str v >>= apn_of) (λ v. by_text apn_of (as_str v)) (apart (get (codes "apn") d) as_str apn_of h)

pub ebi_kept : (d : Data) → is_some (ebi_at d) ≡ true → is_met d keys.Ebi ≡ true
unfolding ebi_at
ebi_kept d h = kept keys.Ebi d (get (codes "ebi") d) (λ v. whole_number v >>= within 5 15) (λ v. refl) (apart (get (codes "ebi") d) whole_number (within 5 15) h)

pdn_kept : (d : Data) → is_some (pdn_at d) ≡ true → is_met d keys.Pdn ≡ true
unfolding pdn_at
pdn_kept d h = kept_or keys.Pdn d (get (codes "pdn") d) 1 0 7 refl (λ v. refl) h

pub tft_kept : (d : Data) → is_some (tft_at d) ≡ true → is_met d keys.Tft ≡ true
unfolding tft_at
tft_kept d h =
    let o = get (codes "tft") d in
    kept keys.Tft d o (λ v. (as_str v >>= octets_of) >>= small) (λ v. refl) (turned o h)
  where
    small : List ℕ → Option (List ℕ)
    small octets = cond (nat_le (length octets) 255) (Some octets) None

    turned : (o : Option Data) → is_some (((o >>= as_str) >>= octets_of) >>= small) ≡ true → is_some (o >>= λ v. (as_str v >>= octets_of) >>= small) ≡ true
    turned None h = h
    turned (Some v) h = h

pub payload_kept : (d : Data) → is_some (payload_at d) ≡ true → is_met d keys.Payload ≡ true
unfolding payload_at
payload_kept d h = kept keys.Payload d (get (codes "payload") d) (λ v. as_str v >>= octets_of) (λ v. refl) (apart (get (codes "payload") d) as_str octets_of h)

-- a number is one of those that the key of a delivery may have
numbered_kept : (d : Data) → is_some (number_at (codes "datagram") d) ≡ true → is_met d keys.DatagramOrAll ≡ true
numbered_kept d h = by (get (codes "datagram") d) h
  where
    by : (o : Option Data) → is_some (o >>= whole_number) ≡ true → is_met_by d keys.DatagramOrAll o ≡ true
    by None k = absurd cc
    by (Some v) k = rw k refl

datagram_kept : (d : Data) → is_some (number_at (codes "datagram") d) ≡ true → is_met d keys.Datagram ≡ true
datagram_kept d h = kept keys.Datagram d (get (codes "datagram") d) whole_number (λ v. refl) h

length_kept : (d : Data) → is_some (number_at (codes "length") d) ≡ true → is_met d keys.Length ≡ true
length_kept d h = kept keys.Length d (get (codes "length") d) whole_number (λ v. refl) h

pub word_kept : (d : Data) (word : List ℕ) → text_at (codes "do") d ≡ Some word → is_met d keys.Do ≡ true
word_kept d word said = by (get (codes "do") d) said
  where
    by : (o : Option Data) → (o >>= as_str) ≡ Some word → is_met_by d keys.Do o ≡ true
    by None h = absurd cc
    by (Some v) h = ap (λ o. option_map_or (is_good_text (wanted_of keys.Do)) o false) h

pub expect_kept : (d : Data) (o : Option Data) → is_some (text_if o) ≡ true → is_met_by d keys.Expect o ≡ true
expect_kept d None h = refl
expect_kept d (Some v) h = by (as_str v) h
  where
    by : (o : Option (List ℕ)) → is_some (option_map Some o) ≡ true → option_map_or (is_good_text (wanted_of keys.Expect)) o false ≡ true
    by None h = h
    by (Some text) h = refl

-- ---- events

-- an event that is read has its keys and no others, and what it says after `do` and `expect` is as it has to be
abbrev Fit : EventKind → Data → List Key → Type 0
Fit kind d known = (has_only (map key_text (event_keys kind)) d ≡ true) × (list_all (is_met d) known ≡ true)

lone_teid_fit : (d : Data) → is_some (lone_teid_of d) ≡ true → Fit kinds.DeleteSession d (keys.Teid ∷ [])
unfolding lone_teid_of
lone_teid_fit d h = (gate _ (teid_at d) h, with_key d keys.Teid [] (teid_kept d (behind _ (teid_at d) h)) refl)

lone_node_fit : (d : Data) → is_some (lone_node_of d) ≡ true → Fit kinds.Echo d (keys.Node ∷ [])
unfolding lone_node_of
lone_node_fit d h = (gate _ (node_at d) h, with_key d keys.Node [] (node_kept d (behind _ (node_at d) h)) refl)

create_session_fit : (d : Data) → is_some (create_session_of d) ≡ true → Fit kinds.CreateSession d (keys.Imsi ∷ keys.Apn ∷ keys.Ebi ∷ keys.Pdn ∷ [])
unfolding create_session_of subscriber_at
create_session_fit d h =
    let all = step _ _ (behind _ _ h) in
    let imsi = step (text_at (codes "imsi") d >>= imsi_of) _ (subst (λ o. is_some o ≡ true) (sym all.is) refl) in
    let apn = step (text_at (codes "apn") d >>= apn_of) _ imsi.next in (
      gate _ _ h,
      with_key d keys.Imsi (keys.Apn ∷ keys.Ebi ∷ keys.Pdn ∷ []) (imsi_kept d (by_value _ imsi.value imsi.is))
          (with_key d keys.Apn (keys.Ebi ∷ keys.Pdn ∷ []) (apn_kept d (by_value _ apn.value apn.is))
          (with_key d keys.Ebi (keys.Pdn ∷ []) (ebi_kept d (had (ebi_at d) _ apn.next))
          (with_key d keys.Pdn [] (pdn_kept d (had (pdn_at d) _ all.next)) refl))),
    )
  where
    by_value : {A : Type 0} (o : Option A) (x : A) → o ≡ Some x → is_some o ≡ true
    by_value o x is = ap is_some is

pub two : {A B : Type 0} (o : Option A) (f : A → Option B) → is_some (o >>= f) ≡ true → (is_some o ≡ true) × HasStep o f
two o f h = (had o f h, step o f h)

create_bearer_fit : (d : Data) → is_some (create_bearer_of d) ≡ true → Fit kinds.CreateBearer d (keys.Teid ∷ keys.Tft ∷ [])
unfolding create_bearer_of
create_bearer_fit d h =
    let teid = two (teid_at d) _ (behind _ _ h) in
    (gate _ _ h, with_key d keys.Teid (keys.Tft ∷ []) (teid_kept d teid.0) (with_key d keys.Tft [] (tft_kept d (had (tft_at d) _ teid.1.next)) refl))

delete_bearer_fit : (d : Data) → is_some (delete_bearer_of d) ≡ true → Fit kinds.DeleteBearer d (keys.Teid ∷ keys.Ebi ∷ [])
unfolding delete_bearer_of
delete_bearer_fit d h =
    let teid = two (teid_at d) _ (behind _ _ h) in
    (gate _ _ h, with_key d keys.Teid (keys.Ebi ∷ []) (teid_kept d teid.0) (with_key d keys.Ebi [] (ebi_kept d (had (ebi_at d) _ teid.1.next)) refl))

tick_fit : (d : Data) → is_some (tick_of d) ≡ true → Fit kinds.Tick d (keys.Node ∷ [])
unfolding tick_of
tick_fit d h = (gate _ _ h, with_key d keys.Node [] (node_kept d (had (node_at d) _ (behind _ _ h))) refl)

send_fit : (d : Data) → is_some (send_of d) ≡ true → Fit kinds.Send d (keys.Node ∷ keys.Teid ∷ keys.Payload ∷ [])
unfolding send_of
send_fit d h =
    let node = two (node_at d) _ (behind _ _ h) in
    let teid = two (teid_at d) _ node.1.next in (
      gate _ _ h,
      with_key d keys.Node (keys.Teid ∷ keys.Payload ∷ []) (node_kept d node.0) (with_key d keys.Teid (keys.Payload ∷ []) (teid_kept d teid.0)
          (with_key d keys.Payload [] (payload_kept d (had (payload_at d) _ teid.1.next)) refl)),
    )

deliver_fit : (d : Data) → is_some (deliver_of d) ≡ true → Fit kinds.Deliver d (keys.DatagramOrAll ∷ [])
unfolding deliver_of
deliver_fit d h = (gate _ _ h, with_key d keys.DatagramOrAll [] (numbered_kept d (had (number_at (codes "datagram") d) _ (behind _ _ h))) refl)

cut_fit : (d : Data) → is_some (cut_of d) ≡ true → Fit kinds.Cut d (keys.Datagram ∷ keys.Length ∷ [])
unfolding cut_of
cut_fit d h =
    let datagram = two (number_at (codes "datagram") d) _ (behind _ _ h) in
    (gate _ _ h, with_key d keys.Datagram (keys.Length ∷ []) (datagram_kept d datagram.0) (with_key d keys.Length [] (length_kept d (had (number_at (codes "length") d) _ datagram.1.next)) refl))

-- all parts of what fits
joined : (kind : EventKind) (d : Data) (known : List Key) → event_keys kind ≡ keys.Do ∷ keys.Expect ∷ known → Fit kind d known → is_met d keys.Do ≡ true
    → is_met d keys.Expect ≡ true → fits (event_keys kind) d ≡ true
joined kind d known are fit worded expect =
    rw fit.0 (subst (λ all. list_all (is_met d) all ≡ true) (sym are) (with_key d keys.Do (keys.Expect ∷ known) worded (with_key d keys.Expect known expect fit.1)))

alone : (d : Data) (key : Key) → list_all (is_met d) (key ∷ []) ≡ true → is_met d key ≡ true
alone d key h = by (is_met d key) h
  where
    by : (b : Bool) → b && true ≡ true → b ≡ true
    by true h = refl
    by false h = h

entry_fits : (kind : EventKind) (d : Data) → is_met d keys.Do ≡ true → is_met d keys.Expect ≡ true
    → is_some (number_or 1 (get (codes "times") d) >>= within 1 1000) ≡ true → is_some (of_kind kind d) ≡ true → fits (event_keys kind) d ≡ true
unfolding delete_session_of release_session_of end_marker_of echo_of restart_of
entry_fits kinds.CreateSession d worded expect times h = joined kinds.CreateSession d _ refl (create_session_fit d h) worded expect
entry_fits kinds.DeleteSession d worded expect times h = joined kinds.DeleteSession d _ refl (lone_teid_fit d (had (lone_teid_of d) _ h)) worded expect
entry_fits kinds.ReleaseSession d worded expect times h = joined kinds.ReleaseSession d _ refl (lone_teid_fit d (had (lone_teid_of d) _ h)) worded expect
entry_fits kinds.EndMarker d worded expect times h = joined kinds.EndMarker d _ refl (lone_teid_fit d (had (lone_teid_of d) _ h)) worded expect
entry_fits kinds.CreateBearer d worded expect times h = joined kinds.CreateBearer d _ refl (create_bearer_fit d h) worded expect
entry_fits kinds.DeleteBearer d worded expect times h = joined kinds.DeleteBearer d _ refl (delete_bearer_fit d h) worded expect
entry_fits kinds.Echo d worded expect times h = joined kinds.Echo d _ refl (lone_node_fit d (had (lone_node_of d) _ h)) worded expect
entry_fits kinds.Restart d worded expect times h = joined kinds.Restart d _ refl (lone_node_fit d (had (lone_node_of d) _ h)) worded expect
entry_fits kinds.Tick d worded expect times h =
    let fit = tick_fit d h in
    let happens = kept_or keys.Times d (get (codes "times") d) 1 1 1000 refl (λ v. refl) times in
    joined kinds.Tick d (keys.Node ∷ keys.Times ∷ []) refl (fit.0, with_key d keys.Node (keys.Times ∷ []) (alone d keys.Node fit.1) (with_key d keys.Times [] happens refl)) worded expect
entry_fits kinds.Send d worded expect times h = joined kinds.Send d _ refl (send_fit d h) worded expect
entry_fits kinds.Deliver d worded expect times h = joined kinds.Deliver d _ refl (deliver_fit d h) worded expect
entry_fits kinds.Cut d worded expect times h = joined kinds.Cut d _ refl (cut_fit d h) worded expect

-- ---- flaws

list_not : (p : Key → Bool) (known : List Key) (key : Key) → find (λ k. not (p k)) known ≡ Some key → list_all p known ≡ false
list_not p [] key h = absurd cc
list_not p (k ∷ known) key h = by (p k) h (list_not p known key)
  where
    by : (b : Bool) → cond (not b) (Some k) (find (λ k. not (p k)) known) ≡ Some key → (find (λ k. not (p k)) known ≡ Some key → list_all p known ≡ false) → b && list_all p known ≡ false
    by true h later = later h
    by false h later = refl

both_not : (a b : Bool) → b ≡ false → a && b ≡ false
both_not true b h = h
both_not false b h = refl

no_only : (known : List (List ℕ)) (d : Data) → as_object d ≡ None → has_only known d ≡ false
no_only known d none = rw none refl

-- an object with a flaw does not fit
pub flaw_unfit : (known : List Key) (d : Data) (flaw : ObjectFlaw) → IsFlaw known d flaw → fits known d ≡ false
flaw_unfit known d flaws.NoObject is = ap (λ b. b && list_all (is_met d) known) (no_only (map key_text known) d is)
flaw_unfit known d (flaws.Unknown text) is = by (has_only (map key_text known) d) refl
  where
    by : (b : Bool) → has_only (map key_text known) d ≡ b → b && list_all (is_met d) known ≡ false
    by true only = absurd (true≢false (sym is.there ∙ ap is_some (absent (map key_text known) _ d only is.unknown)))
    by false only = refl
flaw_unfit known d (flaws.Missing key) is = both_not (has_only (map key_text known) d) (list_all (is_met d) known) (list_not (is_met d) known key is.0)
flaw_unfit known d (flaws.Bad key) is = both_not (has_only (map key_text known) d) (list_all (is_met d) known) (list_not (is_met d) known key is.0)

no_key : (key : List ℕ) (d : Data) → as_object d ≡ None → get key d ≡ None
no_key key null h = refl
no_key key (boolean b) h = refl
no_key key (number n) h = refl
no_key key (string s) h = refl
no_key key (array ds) h = refl
no_key key (object ms) h = absurd cc

-- a flaw of an entry without a word says that it has none
pub wordless : (d : Data) (flaw : ObjectFlaw) → IsWordless d flaw → text_at (codes "do") d ≡ None
wordless d flaws.NoObject is = ap (λ o. o >>= as_str) (no_key (codes "do") d is)
wordless d (flaws.Unknown text) is = absurd is
wordless d (flaws.Missing key) is = ap (λ o. o >>= as_str) (subst (λ k. get (key_text k) d ≡ None) is.0 is.1.absent)
wordless d (flaws.Bad key) is =
    let at = subst (λ k. get (key_text k) d ≡ Some is.1.value) is.0 is.1.there in
    let bad = subst (λ k. is_good (wanted_of k) is.1.value ≡ false) is.0 is.1.bad in
    ap (λ o. o >>= as_str) at ∙ by (as_str is.1.value) bad
  where
    by : (o : Option (List ℕ)) → option_map_or (is_good_text (wanted_of keys.Do)) o false ≡ false → o ≡ None
    by None h = refl
    by (Some text) h = absurd cc

-- an event with all of its numbers has no name
unnamed : (kind : EventKind) (d : Data) (b : Bool) → has_name d kind ≡ b → is_some (of_kind kind d) ≡ true → has_name d kind ≡ false
unnamed kind d false has h = has
unnamed kind d true has h = absurd (true≢false (sym h ∙ ap is_some (has_no_event kind d has)))

-- an entry with all of its numbers has the keys of its kind
pub entry_fit : (d : Data) (kind : EventKind) → (text_at (codes "do") d >>= kind_of) ≡ Some kind → is_some (entry_of d) ≡ true → fits (keys_in d kind) d ≡ true
unfolding entry_of
entry_fit d kind is h =
    let said = step (text_at (codes "do") d) _ h in
    let kind_is : kind_of said.value ≡ Some kind = sym (ap (λ o. o >>= kind_of) said.is) ∙ is in
    let event = step (event_named said.value d) _ said.next in
    let read : is_some (of_kind kind d) ≡ true = sym (ap is_some (named said.value kind d kind_is)) ∙ had (event_named said.value d) _ said.next in
    let times = step (number_or 1 (get (codes "times") d) >>= within 1 1000) _ event.next in
    let expect = expect_kept d (get (codes "expect") d) (had (text_if (get (codes "expect") d)) _ times.next) in
    let fit = entry_fits kind d (word_kept d said.value said.is) expect (had (number_or 1 (get (codes "times") d) >>= within 1 1000) _ event.next) read in
    let no_name : has_name d kind ≡ false = unnamed kind d (has_name d kind) refl read in
    subst (λ b. fits (cond b (named_keys kind) (event_keys kind)) d ≡ true) (sym no_name) fit

-- its word is that of an event
pub entry_worded : (d : Data) → is_some (entry_of d) ≡ true → is_some (text_at (codes "do") d >>= kind_of) ≡ true
unfolding entry_of
entry_worded d h =
    let said = step (text_at (codes "do") d) _ h in
    rw said.is (by said.value (kind_of said.value) refl (had (event_named said.value d) _ said.next))
  where
    by : (word : List ℕ) (o : Option EventKind) → kind_of word ≡ o → is_some (event_named word d) ≡ true → is_some o ≡ true
    by word None none k = absurd (true≢false (sym k ∙ ap is_some (none_named word d none)))
    by word (Some kind) is k = refl
