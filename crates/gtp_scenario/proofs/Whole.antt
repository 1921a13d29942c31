-- Where nothing is wrong with an object, it is read.
use Rattle.std.proofs.Common.{◌≡◌, ℕ, Bool, true, false, cond, List, [], ◌∷◌, map, length, zero, suc, Option, Some, None, option_map, IsSome, refl, sym, ap, subst, ◌∙◌, true≢false}
use Rattle.std.specs.Prelude.{is_some, codes, nat_le}
use Rattle.std.specs.List.{list_all}
use Rattle.std.specs.Option.{option_map_or}
use Rattle.std.specs.Ordering.{nat_cmp, match_ordering, is_eq}
use Rattle.std.proofs.Common.{Ordering, Less, Equal, Greater}
use Rattle.std.specs.Cmp.Lexicographic.{slice_cmp}
use Rattle.std.proofs.lemmas.Map.Text.{is_eq-slice_cmp}
use Rattle.std.proofs.lemmas.Slice.Eq.{bytes_eq-Decides}
use Rattle.serde_json.specs.Data.{Data, null, boolean, number, string, array, object, Members, no_members, member}
use Rattle.serde_json.specs.Find.{get, get_member, as_str}
use Rattle.gtp_values.proofs.Tests.{both}
use Rattle.gtp_machine.specs.World.{Event}
use Rattle.gtp_scenario.specs.declared.reason.key.Key.{Key}
use Rattle.gtp_scenario.specs.declared.reason.key.Key.TheVariants as keys
use Rattle.gtp_scenario.specs.declared.reason.kind.EventKind.{EventKind}
use Rattle.gtp_scenario.specs.declared.reason.kind.EventKind.TheVariants as kinds
use Rattle.gtp_scenario.specs.Steps.{◌>>=◌}
use Rattle.gtp_scenario.specs.Json.{text_at, text_if, whole_number, number_at, number_or, within, is_among, all_among, has_only}
use Rattle.gtp_scenario.specs.Texts.{imsi_of, apn_of, teid_of, octets_of}
use Rattle.gtp_scenario.specs.Events.{role_of, node_at, teid_at, ebi_at, pdn_at, subscriber_at, tft_at, payload_at, create_session_of, lone_teid_of}
use Rattle.gtp_scenario.specs.Events.{delete_session_of, release_session_of, end_marker_of, create_bearer_of, delete_bearer_of, lone_node_of, echo_of}
use Rattle.gtp_scenario.specs.Events.{restart_of, tick_of, send_of, deliver_of, cut_of, event_named}
use Rattle.gtp_scenario.specs.Entries.{entry_of}
use Rattle.gtp_scenario.specs.Keys.{key_text, wanted_of, is_good, is_good_text, may_be_absent, is_met, is_met_by, kind_of, event_keys}
use Rattle.gtp_scenario.specs.Reasons.{fits}

-- ---- steps that have values

pub chain : {A B : Type 0} (o : Option A) (f : A → Option B) → is_some o ≡ true → ((x : A) → is_some (f x) ≡ true) → is_some (o >>= f) ≡ true
chain None f h k = h
chain (Some x) f h k = k x

pub pinned : {A B : Type 0} (o : Option A) (x : A) (f : A → Option B) → o ≡ Some x → is_some (f x) ≡ true → is_some (o >>= f) ≡ true
pinned o x f is k = rw is k

pub gated : {A : Type 0} (b : Bool) (o : Option A) → b ≡ true → is_some o ≡ true → is_some (cond b o None) ≡ true
gated b o has k = rw has k

pub mapped : {A B : Type 0} (f : A → B) (o : Option A) → is_some o ≡ true → is_some (option_map f o) ≡ true
mapped f None h = h
mapped f (Some x) h = refl

pub joined : {A B C : Type 0} (o : Option A) (f : A → Option B) (g : B → Option C) → is_some (o >>= λ x. f x >>= g) ≡ true → is_some ((o >>= f) >>= g) ≡ true
joined None f g h = h
joined (Some x) f g h = h

pub some_of : {A : Type 0} (o : Option A) → is_some o ≡ true → (x : A) × (o ≡ Some x)
some_of None h = absurd cc
some_of (Some x) h = (x, refl)

pub is_some_by : {A : Type 0} (o : Option A) → is_some o ≡ true → IsSome o
is_some_by None h = absurd cc
is_some_by (Some x) h = refl

pub by_some : {A : Type 0} (o : Option A) → IsSome o → is_some o ≡ true
by_some None h = absurd cc
by_some (Some x) h = refl

-- ---- what stands at a key

pub first : {X : Type 0} (p : X → Bool) (x : X) (xs : List X) → list_all p (x ∷ xs) ≡ true → p x ≡ true
first p x xs h = (both (p x) (list_all p xs) h).left

pub others : {X : Type 0} (p : X → Bool) (x : X) (xs : List X) → list_all p (x ∷ xs) ≡ true → list_all p xs ≡ true
others p x xs h = (both (p x) (list_all p xs) h).right

-- the value of a key that is needed
pub needed : {A : Type 0} (key : Key) (d : Data) (o : Option Data) (read : Data → Option A) → may_be_absent d key ≡ false
    → ((v : Data) → is_good (wanted_of key) v ≡ is_some (read v)) → is_met_by d key o ≡ true → is_some (o >>= read) ≡ true
needed key d None read never good met = sym never ∙ met
needed key d (Some v) read never good met = sym (good v) ∙ met

pub by_text : {A : Type 0} (read : List ℕ → Option A) (o : Option (List ℕ)) → option_map_or (λ text. is_some (read text)) o false ≡ is_some (o >>= read)
by_text read None = refl
by_text read (Some text) = refl

-- a number that may be absent
pub optional : (key : Key) (d : Data) (o : Option Data) (absent low high : ℕ) → is_some (within low high absent) ≡ true
    → ((v : Data) → is_good (wanted_of key) v ≡ is_some (whole_number v >>= within low high)) → is_met_by d key o ≡ true
    → is_some (number_or absent o >>= within low high) ≡ true
optional key d None absent low high fits good met = fits
optional key d (Some v) absent low high fits good met = sym (good v) ∙ met

teid_met : (d : Data) → is_met d keys.Teid ≡ true → is_some (teid_at d) ≡ true
unfolding teid_at
teid_met d met = joined (get (codes "teid") d) as_str teid_of (needed keys.Teid d (get (codes "teid") d) (λ v. as_str v >>= teid_of) refl (λ v. by_text teid_of (as_str v)) met)

pub node_met : (d : Data) → is_met d keys.Node ≡ true → is_some (node_at d) ≡ true
unfolding node_at
node_met d met = joined (get (codes "node") d) as_str role_of (needed keys.Node d (get (codes "node") d) (λ v. as_str v >>= role_of) refl (λ v. by_text role_of (as_str v)) met)

imsi_met : (d : Data) → is_met d keys.Imsi ≡ true → is_some (text_at (codes "imsi") d >>= imsi_of) ≡ true
imsi_met d met = joined (get (codes "imsi") d) as_str imsi_of (needed keys.Imsi d (get (codes "imsi") d) (λ v. as_str v >>= imsi_of) refl (λ v. by_text imsi_of (as_str v)) met)

apn_met : (d : Data) → is_met d keys.Apn ≡ true → is_some (text_at (codes "apn") d >>= apn_of) ≡ true
apn_met d met = joined (get (codes "apn") d) as_str apn_of (needed keys.Apn d (get (codes "apn") d) (λ v. as_str v >>= apn_of) refl (λ v. by_text apn_of (as_str v)) met)

pub ebi_met : (d : Data) → is_met d keys.Ebi ≡ true → is_some (ebi_at d) ≡ true
unfolding ebi_at
ebi_met d met = joined (get (codes "ebi") d) whole_number (within 5 15) (needed keys.Ebi d (get (codes "ebi") d) (λ v. whole_number v >>= within 5 15) refl (λ v. refl) met)

pdn_met : (d : Data) → is_met d keys.Pdn ≡ true → is_some (pdn_at d) ≡ true
unfolding pdn_at
pdn_met d met = optional keys.Pdn d (get (codes "pdn") d) 1 0 7 refl (λ v. refl) met

pub tft_met : (d : Data) → is_met d keys.Tft ≡ true → is_some (tft_at d) ≡ true
unfolding tft_at
tft_met d met =
    let o = get (codes "tft") d in
    turned o (needed keys.Tft d o (λ v. (as_str v >>= octets_of) >>= small) refl (λ v. refl) met)
  where
    small : List ℕ → Option (List ℕ)
    small octets = cond (nat_le (length octets) 255) (Some octets) None

    turned : (o : Option Data) → is_some (o >>= λ v. (as_str v >>= octets_of) >>= small) ≡ true → is_some (((o >>= as_str) >>= octets_of) >>= small) ≡ true
    turned None h = h
    turned (Some v) h = h

pub payload_met : (d : Data) → is_met d keys.Payload ≡ true → is_some (payload_at d) ≡ true
unfolding payload_at
payload_met d met = joined (get (codes "payload") d) as_str octets_of (needed keys.Payload d (get (codes "payload") d) (λ v. as_str v >>= octets_of) refl (λ v. refl) met)

datagram_met : (d : Data) → is_met d keys.Datagram ≡ true → is_some (number_at (codes "datagram") d) ≡ true
datagram_met d met = needed keys.Datagram d (get (codes "datagram") d) whole_number refl (λ v. refl) met

length_met : (d : Data) → is_met d keys.Length ≡ true → is_some (number_at (codes "length") d) ≡ true
length_met d met = needed keys.Length d (get (codes "length") d) whole_number refl (λ v. refl) met

pub expect_met : (d : Data) (o : Option Data) → is_met_by d keys.Expect o ≡ true → is_some (text_if o) ≡ true
expect_met d None met = refl
expect_met d (Some v) met = by_word (as_str v) met
  where
    by_word : (o : Option (List ℕ)) → option_map_or (is_good_text (wanted_of keys.Expect)) o false ≡ true → is_some (option_map Some o) ≡ true
    by_word None h = h
    by_word (Some text) h = refl

-- ---- keys that are none

among_same : (known : List (List ℕ)) (key k : List ℕ) → is_among known k ≡ true → is_among known key ≡ false → slice_cmp nat_cmp key k ≡ Equal → ⊥
among_same known key k is not same =
    let one : key ≡ k = (bytes_eq-Decides key k).0 (sym (is_eq-slice_cmp key k) ∙ ap is_eq same) in
    true≢false (sym is ∙ ap (is_among known) (sym one) ∙ not)

absent_at : (known : List (List ℕ)) (key : List ℕ) (ms : Members) → all_among known ms ≡ true → is_among known key ≡ false → get_member key ms ≡ None
absent_at known key no_members has not = refl
absent_at known key (member k d ms) has not = by (slice_cmp nat_cmp key k) refl (absent_at known key ms (both (is_among known k) (all_among known ms) has).right not)
  where
    by : (o : Ordering) → slice_cmp nat_cmp key k ≡ o → get_member key ms ≡ None → match_ordering o (get_member key ms) (Some d) (get_member key ms) ≡ None
    by Less is none = none
    by Equal is none = absurd (among_same known key k (both (is_among known k) (all_among known ms) has).left not is)
    by Greater is none = none

-- an object has no key beside its own
pub absent : (known : List (List ℕ)) (key : List ℕ) (d : Data) → has_only known d ≡ true → is_among known key ≡ false → get key d ≡ None
absent known key null has not = refl
absent known key (boolean b) has not = refl
absent known key (number n) has not = refl
absent known key (string s) has not = refl
absent known key (array ds) has not = refl
absent known key (object ms) has not = absent_at known key ms has not

-- ---- events

abbrev pub of_kind : EventKind → Data → Option Event
of_kind kinds.CreateSession d = create_session_of d
of_kind kinds.DeleteSession d = delete_session_of d
of_kind kinds.ReleaseSession d = release_session_of d
of_kind kinds.EndMarker d = end_marker_of d
of_kind kinds.CreateBearer d = create_bearer_of d
of_kind kinds.DeleteBearer d = delete_bearer_of d
of_kind kinds.Echo d = echo_of d
of_kind kinds.Restart d = restart_of d
of_kind kinds.Tick d = tick_of d
of_kind kinds.Send d = send_of d
of_kind kinds.Deliver d = deliver_of d
of_kind kinds.Cut d = cut_of d

once : (known : List (List ℕ)) (d : Data) → has_only known d ≡ true → is_among known (codes "times") ≡ false → is_some (number_or 1 (get (codes "times") d) >>= within 1 1000) ≡ true
once known d has not = rw (absent known (codes "times") d has not) refl

-- the keys of an event, and what it has beside `do` and `expect`
abbrev known_of : EventKind → List (List ℕ)
known_of kind = map key_text (event_keys kind)

-- both parts of what fits
pub record Parts (known : List Key) (d : Data) : Type 0 where
  pub only : has_only (map key_text known) d ≡ true
  pub met : list_all (is_met d) known ≡ true

pub parts : (known : List Key) (d : Data) → fits known d ≡ true → Parts known d
parts known d h = let b = both (has_only (map key_text known) d) (list_all (is_met d) known) h in record { only = b.left; met = b.right }

-- the key at a place of some keys
abbrev pub key_at : ℕ → List Key → Option Key
key_at n [] = None
key_at zero (key ∷ known) = Some key
key_at (suc n) (key ∷ known) = key_at n known

met_at : (d : Data) (known : List Key) → list_all (is_met d) known ≡ true → (n : ℕ) (key : Key) → key_at n known ≡ Some key → is_met d key ≡ true
met_at d [] all n key is = absurd cc
met_at d (k ∷ known) all zero key is = let same : k ≡ key = cc in subst (λ x. is_met d x ≡ true) same (first (is_met d) k known all)
met_at d (k ∷ known) all (suc n) key is = met_at d known (others (is_met d) k known all) n key is

-- nothing is wrong at the key at this place of an event's
pub met_in : (known : List Key) (d : Data) → fits known d ≡ true → (n : ℕ) (key : Key) → key_at n known ≡ Some key → is_met d key ≡ true
met_in known d h = met_at d known (parts known d h).met

lone_teid : (d : Data) → fits (event_keys kinds.DeleteSession) d ≡ true → is_some (lone_teid_of d) ≡ true
unfolding lone_teid_of
lone_teid d h =
    let met = met_in (event_keys kinds.DeleteSession) d h in
    gated _ (teid_at d) (parts (event_keys kinds.DeleteSession) d h).only (teid_met d (met 2 keys.Teid refl))

lone_node : (d : Data) → fits (event_keys kinds.Echo) d ≡ true → is_some (lone_node_of d) ≡ true
unfolding lone_node_of
lone_node d h =
    let met = met_in (event_keys kinds.Echo) d h in
    gated _ (node_at d) (parts (event_keys kinds.Echo) d h).only (node_met d (met 2 keys.Node refl))

create_session_read : (d : Data) → fits (event_keys kinds.CreateSession) d ≡ true → is_some (create_session_of d) ≡ true
unfolding create_session_of subscriber_at
create_session_read d h =
    let met = met_in (event_keys kinds.CreateSession) d h in
    gated _ _ (parts (event_keys kinds.CreateSession) d h).only
    (chain _ _ (chain (text_at (codes "imsi") d >>= imsi_of) _ (imsi_met d (met 2 keys.Imsi refl))
    (λ i. chain (text_at (codes "apn") d >>= apn_of) _ (apn_met d (met 3 keys.Apn refl))
    (λ a. chain (ebi_at d) _ (ebi_met d (met 4 keys.Ebi refl)) (λ e. refl))))
    (λ s. chain (pdn_at d) _ (pdn_met d (met 5 keys.Pdn refl)) (λ n. refl)))

create_bearer_read : (d : Data) → fits (event_keys kinds.CreateBearer) d ≡ true → is_some (create_bearer_of d) ≡ true
unfolding create_bearer_of
create_bearer_read d h =
    let met = met_in (event_keys kinds.CreateBearer) d h in
    gated _ _ (parts (event_keys kinds.CreateBearer) d h).only (chain (teid_at d) _ (teid_met d (met 2 keys.Teid refl)) (λ t. chain (tft_at d) _ (tft_met d (met 3 keys.Tft refl)) (λ f. refl)))

delete_bearer_read : (d : Data) → fits (event_keys kinds.DeleteBearer) d ≡ true → is_some (delete_bearer_of d) ≡ true
unfolding delete_bearer_of
delete_bearer_read d h =
    let met = met_in (event_keys kinds.DeleteBearer) d h in
    gated _ _ (parts (event_keys kinds.DeleteBearer) d h).only (chain (teid_at d) _ (teid_met d (met 2 keys.Teid refl)) (λ t. chain (ebi_at d) _ (ebi_met d (met 3 keys.Ebi refl)) (λ e. refl)))

tick_read : (d : Data) → fits (event_keys kinds.Tick) d ≡ true → is_some (tick_of d) ≡ true
unfolding tick_of
tick_read d h =
    let met = met_in (event_keys kinds.Tick) d h in
    gated _ _ (parts (event_keys kinds.Tick) d h).only (chain (node_at d) _ (node_met d (met 2 keys.Node refl)) (λ n. refl))

send_read : (d : Data) → fits (event_keys kinds.Send) d ≡ true → is_some (send_of d) ≡ true
unfolding send_of
send_read d h =
    let met = met_in (event_keys kinds.Send) d h in
    gated _ _ (parts (event_keys kinds.Send) d h).only (chain (node_at d) _ (node_met d (met 2 keys.Node refl))
    (λ n. chain (teid_at d) _ (teid_met d (met 3 keys.Teid refl)) (λ t. chain (payload_at d) _ (payload_met d (met 4 keys.Payload refl)) (λ o. refl))))

deliver_read : (d : Data) → is_some (number_at (codes "datagram") d) ≡ true → fits (event_keys kinds.Deliver) d ≡ true → is_some (deliver_of d) ≡ true
unfolding deliver_of
deliver_read d numbered h = gated _ _ (parts (event_keys kinds.Deliver) d h).only (chain (number_at (codes "datagram") d) _ numbered (λ n. refl))

cut_read : (d : Data) → fits (event_keys kinds.Cut) d ≡ true → is_some (cut_of d) ≡ true
unfolding cut_of
cut_read d h =
    let met = met_in (event_keys kinds.Cut) d h in
    gated _ _ (parts (event_keys kinds.Cut) d h).only (chain (number_at (codes "datagram") d) _ (datagram_met d (met 2 keys.Datagram refl))
    (λ n. chain (number_at (codes "length") d) _ (length_met d (met 3 keys.Length refl)) (λ l. refl)))

-- the datagram of a delivery has a number
abbrev pub is_numbered : EventKind → Data → Bool
is_numbered kinds.Deliver d = is_some (number_at (codes "datagram") d)
is_numbered _ d = true

-- the event of a kind is read
kind_read : (kind : EventKind) (d : Data) → is_numbered kind d ≡ true → fits (event_keys kind) d ≡ true → is_some (of_kind kind d) ≡ true
unfolding delete_session_of release_session_of end_marker_of echo_of restart_of
kind_read kinds.CreateSession d numbered h = create_session_read d h
kind_read kinds.DeleteSession d numbered h = chain (lone_teid_of d) _ (lone_teid d h) (λ t. refl)
kind_read kinds.ReleaseSession d numbered h = chain (lone_teid_of d) _ (lone_teid d h) (λ t. refl)
kind_read kinds.EndMarker d numbered h = chain (lone_teid_of d) _ (lone_teid d h) (λ t. refl)
kind_read kinds.CreateBearer d numbered h = create_bearer_read d h
kind_read kinds.DeleteBearer d numbered h = delete_bearer_read d h
kind_read kinds.Echo d numbered h = chain (lone_node_of d) _ (lone_node d h) (λ n. refl)
kind_read kinds.Restart d numbered h = chain (lone_node_of d) _ (lone_node d h) (λ n. refl)
kind_read kinds.Tick d numbered h = tick_read d h
kind_read kinds.Send d numbered h = send_read d h
kind_read kinds.Deliver d numbered h = deliver_read d numbered h
kind_read kinds.Cut d numbered h = cut_read d h

-- how often it happens is read
times_read : (kind : EventKind) (d : Data) → fits (event_keys kind) d ≡ true → is_some (number_or 1 (get (codes "times") d) >>= within 1 1000) ≡ true
times_read kinds.CreateSession d h = once (known_of kinds.CreateSession) d (parts (event_keys kinds.CreateSession) d h).only refl
times_read kinds.DeleteSession d h = once (known_of kinds.DeleteSession) d (parts (event_keys kinds.DeleteSession) d h).only refl
times_read kinds.ReleaseSession d h = once (known_of kinds.ReleaseSession) d (parts (event_keys kinds.ReleaseSession) d h).only refl
times_read kinds.EndMarker d h = once (known_of kinds.EndMarker) d (parts (event_keys kinds.EndMarker) d h).only refl
times_read kinds.CreateBearer d h = once (known_of kinds.CreateBearer) d (parts (event_keys kinds.CreateBearer) d h).only refl
times_read kinds.DeleteBearer d h = once (known_of kinds.DeleteBearer) d (parts (event_keys kinds.DeleteBearer) d h).only refl
times_read kinds.Echo d h = once (known_of kinds.Echo) d (parts (event_keys kinds.Echo) d h).only refl
times_read kinds.Restart d h = once (known_of kinds.Restart) d (parts (event_keys kinds.Restart) d h).only refl
times_read kinds.Tick d h = optional keys.Times d (get (codes "times") d) 1 1 1000 refl (λ v. refl) (met_in (event_keys kinds.Tick) d h 3 keys.Times refl)
times_read kinds.Send d h = once (known_of kinds.Send) d (parts (event_keys kinds.Send) d h).only refl
times_read kinds.Deliver d h = once (known_of kinds.Deliver) d (parts (event_keys kinds.Deliver) d h).only refl
times_read kinds.Cut d h = once (known_of kinds.Cut) d (parts (event_keys kinds.Cut) d h).only refl

-- each kind has the key `expect`, second of its keys
expect_second : (kind : EventKind) → key_at 1 (event_keys kind) ≡ Some keys.Expect
expect_second kinds.CreateSession = refl
expect_second kinds.DeleteSession = refl
expect_second kinds.ReleaseSession = refl
expect_second kinds.EndMarker = refl
expect_second kinds.CreateBearer = refl
expect_second kinds.DeleteBearer = refl
expect_second kinds.Echo = refl
expect_second kinds.Restart = refl
expect_second kinds.Tick = refl
expect_second kinds.Send = refl
expect_second kinds.Deliver = refl
expect_second kinds.Cut = refl

expect_read : (kind : EventKind) (d : Data) → fits (event_keys kind) d ≡ true → is_some (text_if (get (codes "expect") d)) ≡ true
expect_read kind d h = expect_met d (get (codes "expect") d) (met_in (event_keys kind) d h 1 keys.Expect (expect_second kind))

-- ---- words

-- what an entry of the kind that its word names is
abbrev of_named : Option EventKind → Data → Option Event
of_named None d = None
of_named (Some kind) d = of_kind kind d

choose : (b : Bool) (x y : Option Event) (kind : EventKind) (rest : Option EventKind) (d : Data) → x ≡ of_kind kind d → y ≡ of_named rest d → cond b x y ≡ of_named (cond b (Some kind) rest) d
choose true x y kind rest d is later = is
choose false x y kind rest d is later = later

by_word : (word : List ℕ) (d : Data) → event_named word d ≡ of_named (kind_of word) d
unfolding event_named
by_word word d =
    choose _ _ _ kinds.CreateSession _ d refl
    (choose _ _ _ kinds.DeleteSession _ d refl
    (choose _ _ _ kinds.ReleaseSession _ d refl
    (choose _ _ _ kinds.EndMarker _ d refl
    (choose _ _ _ kinds.CreateBearer _ d refl
    (choose _ _ _ kinds.DeleteBearer _ d refl
    (choose _ _ _ kinds.Echo _ d refl
    (choose _ _ _ kinds.Restart _ d refl
    (choose _ _ _ kinds.Tick _ d refl
    (choose _ _ _ kinds.Send _ d refl
    (choose _ _ _ kinds.Deliver _ d refl
    (choose _ _ _ kinds.Cut _ d refl refl)))))))))))

pub named : (word : List ℕ) (kind : EventKind) (d : Data) → kind_of word ≡ Some kind → event_named word d ≡ of_kind kind d
named word kind d is = by_word word d ∙ ap (λ o. of_named o d) is

pub none_named : (word : List ℕ) (d : Data) → kind_of word ≡ None → event_named word d ≡ None
none_named word d is = by_word word d ∙ ap (λ o. of_named o d) is

-- an entry with which nothing is wrong is read
pub entry_read : (d : Data) (word : List ℕ) (kind : EventKind) → text_at (codes "do") d ≡ Some word → kind_of word ≡ Some kind → is_numbered kind d ≡ true
    → fits (event_keys kind) d ≡ true → IsSome (entry_of d)
unfolding entry_of
entry_read d word kind said is numbered h =
    is_some_by _ (pinned (text_at (codes "do") d) word _ said
    (chain (event_named word d) _ (rw (named word kind d is) (kind_read kind d numbered h))
    (λ e. chain (number_or 1 (get (codes "times") d) >>= within 1 1000) _ (times_read kind d h)
    (λ t. chain (text_if (get (codes "expect") d)) _ (expect_read kind d h) (λ x. refl)))))
