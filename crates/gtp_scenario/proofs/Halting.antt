-- Where reading a list of events stops.
use Rattle.std.proofs.Common.{◌≡◌, ◌+◌, ◌-◌, ℕ, suc, Bool, true, false, cond, List, [], ◌∷◌, ◌++◌, Option, Some, None, inl, inr, Result, Ok, Err, true≢false, refl, sym, ap, subst, ◌∙◌, arith}
use Rattle.std.specs.Prelude.{codes, nat_le, is_some, MatchOption}
use Rattle.serde_json.specs.Data.{Data, null, boolean, number, string, array, object, Items, no_items, item}
use Rattle.serde_json.specs.Find.{get, get_item, as_str}
use Rattle.gtp_world.specs.Runs.{Setup}
use Rattle.gtp_machine.specs.World.{Event}
use Rattle.gtp_machine.specs.declared.role.Role.{Role}
use Rattle.gtp_scenario.specs.declared.halt.Halt.{Halt}
use Rattle.gtp_scenario.specs.declared.halt.Halt.TheVariants as halts
use Rattle.gtp_scenario.specs.declared.halt.Halted.{Halted}
use Rattle.gtp_scenario.specs.declared.name.Name.{Name}
use Rattle.gtp_scenario.specs.declared.name.Name.TheVariants.{Newest, All, Session, Bearer}
use Rattle.gtp_scenario.specs.declared.reason.kind.EventKind.{EventKind}
use Rattle.gtp_scenario.specs.declared.reason.kind.EventKind.TheVariants as kinds
use Rattle.gtp_scenario.specs.Steps.{◌>>=◌}
use Rattle.gtp_scenario.specs.Entries.{Entry, entry_of}
use Rattle.gtp_scenario.specs.Events.{node_at, delete_session_of, release_session_of, create_bearer_of, delete_bearer_of, end_marker_of, send_of, deliver_of, lone_teid_of, event_named}
use Rattle.gtp_scenario.specs.Json.{text_at, number_at, whole_number, is_among, has_only}
use Rattle.gtp_scenario.specs.Keys.{kind_of}
use Rattle.gtp_scenario.specs.Names.{session_name_of, bearer_name_of}
use Rattle.gtp_scenario.specs.Named.{delivery, expected_of, IsRightBeside, IsRight, session_at, bearer_at, bearer_sent_on, datagrams_said, datagram_at, name_for, name_of}
use Rattle.gtp_scenario.specs.Past.{Past}
use Rattle.gtp_scenario.specs.Scenarios.{most_events, one_within, entry_or, whole_entry, named_entry, HasHappened, AreDelivered, IsReadBy, IsRead, AreRead, IsListRead}
use Rattle.gtp_scenario.proofs.Apart.{none_then, deliver_none, session_there, bearer_there, sent_on_there, delete_session_none, release_session_none}
use Rattle.gtp_scenario.proofs.Apart.{create_bearer_none, delete_bearer_none, end_marker_none, send_none}
use Rattle.gtp_scenario.proofs.Whole.{named, of_kind, mapped}

-- ---- the item at which it stops

pub record HaltsAt (setup : Setup) (place : ℕ) (items : Items) (halted : Halted) : Type 0 where
  pub k : ℕ
  pub at : halted.place ≡ place + k
  pub entry : Data
  pub there : get_item k items ≡ Some entry
  pub before : List Entry
  pub room : ℕ
  pub read : IsRead setup before room entry (Err halted.halt)

pub halts_at : (setup : Setup) (place : ℕ) (before : List Entry) (room : ℕ) (items : Items) (halted : Halted) → AreRead setup place before room items (Err halted) → HaltsAt setup place items halted
halts_at setup place before room no_items halted is = absurd cc
halts_at setup place before room (item d items) halted (Ok es, read, rest) =
    let later = halts_at setup (place + 1) (before ++ es) (room - _) items halted rest in
    record {
      k = suc later.k;
      at = later.at ∙ (let e : place + 1 + later.k ≡ place + suc later.k = omega arith in e);
      entry = later.entry;
      there = later.there;
      before = later.before;
      room = later.room;
      read = later.read;
    }
halts_at setup place before room (item d items) halted (Err halt, read, is) =
    let same : halted ≡ record { place = place; halt = halt } = cc in
    record {
      k = 0;
      at = ap (λ (h : Halted). h.place) same ∙ (let e : place ≡ place + 0 = omega arith in e);
      entry = d;
      there = refl;
      before = before;
      room = room;
      read = subst (λ (h : Halted). IsRead setup before room d (Err h.halt)) (sym same) read;
    }

-- the item at its place
pub record HaltsHere (setup : Setup) (items : Items) (halted : Halted) : Type 0 where
  pub entry : Data
  pub there : get_item halted.place items ≡ Some entry
  pub before : List Entry
  pub room : ℕ
  pub read : IsRead setup before room entry (Err halted.halt)

pub halts_here : (setup : Setup) (items : Items) (halted : Halted) → IsListRead setup items (Err halted) → HaltsHere setup items halted
halts_here setup items halted read =
    let at = halts_at setup 0 [] most_events items halted read in
    let same : at.k ≡ halted.place = (let e = at.at in omega (arith, e)) in
    record {
      entry = at.entry;
      there = subst (λ n. get_item n items ≡ Some at.entry) same at.there;
      before = at.before;
      room = at.room;
      read = at.read;
    }

-- ---- why it stops

one_halts : (room : ℕ) (e : Entry) (halt : Halt) → Err halt ≡ one_within room e → halt ≡ halts.TooMany
one_halts room e halt h = by (nat_le e.times room) h
  where
    by : (b : Bool) → Err halt ≡ cond b (Ok (e ∷ [])) (Err halts.TooMany) → halt ≡ halts.TooMany
    by true k = absurd cc
    by false k = cc

whole_halts : (room : ℕ) (o : Option Entry) (halt : Halt) → Err halt ≡ entry_or o room → (halt ≡ halts.Nothing → ⊥) × (halt ≡ halts.Wrong → o ≡ None)
whole_halts room None halt h = ((λ k. (let e : halts.Wrong ≡ halts.Nothing = cc in cc)), λ k. refl)
whole_halts room (Some e) halt h =
    let many = one_halts room e halt h in
    ((λ k. (let e : halts.TooMany ≡ halts.Nothing = sym many ∙ k in cc)), λ k. absurd (let e : halts.TooMany ≡ halts.Wrong = sym many ∙ k in cc))

-- only a name finds nothing
pub names_nothing : (name : Option Name) (IsPast : Past → Type 0) (room : ℕ) (d : Data) → IsReadBy name IsPast room d (Err halts.Nothing) → is_some name ≡ true
unfolding whole_entry
names_nothing None IsPast room d is = absurd ((whole_halts room (entry_of d) halts.Nothing is).0 refl)
names_nothing (Some name) IsPast room d is = refl

-- ---- an entry that names something has not all of its numbers

named_event_none : (kind : EventKind) (d : Data) (name : Name) → name_for kind d ≡ Some name → of_kind kind d ≡ None
named_event_none kinds.Deliver d name h = deliver_none d name h
named_event_none kinds.DeleteSession d name h = delete_session_none d (session_there _ d name h)
named_event_none kinds.ReleaseSession d name h = release_session_none d (session_there _ d name h)
named_event_none kinds.CreateBearer d name h = create_bearer_none d (session_there _ d name h)
named_event_none kinds.DeleteBearer d name h = delete_bearer_none d (session_there _ d name h)
named_event_none kinds.EndMarker d name h = end_marker_none d (bearer_there _ d name h)
named_event_none kinds.Send d name h = send_none d (sent_on_there d name h)
named_event_none kinds.CreateSession d name h = absurd cc
named_event_none kinds.Echo d name h = absurd cc
named_event_none kinds.Restart d name h = absurd cc
named_event_none kinds.Tick d name h = absurd cc
named_event_none kinds.Cut d name h = absurd cc

pinned_none : {A B : Type 0} (o : Option A) (x : A) (f : A → Option B) → o ≡ Some x → f x ≡ None → (o >>= f) ≡ None
pinned_none o x f is k = rw is k

pub named_none : (d : Data) (name : Name) → name_of d ≡ Some name → entry_of d ≡ None
unfolding name_of entry_of
named_none d name h = by (text_at (codes "do") d) refl h
  where
    by : (o : Option (List ℕ)) → text_at (codes "do") d ≡ o → ((o >>= kind_of) >>= λ kind. name_for kind d) ≡ Some name → entry_of d ≡ None
    by None is k = absurd cc
    by (Some word) is k = pinned_none (text_at (codes "do") d) word _ is (none_then (event_named word d) _ (at (kind_of word) refl k))
      where
        at : (o : Option EventKind) → kind_of word ≡ o → (o >>= λ kind. name_for kind d) ≡ Some name → event_named word d ≡ None
        at None same m = absurd cc
        at (Some kind) same m = named word kind d same ∙ named_event_none kind d name m

-- an entry that is none has not all of its numbers
pub wrong_none : (name : Option Name) (IsPast : Past → Type 0) (room : ℕ) (d : Data) → name_of d ≡ name → IsReadBy name IsPast room d (Err halts.Wrong) → entry_of d ≡ None
unfolding whole_entry
wrong_none None IsPast room d is read = (whole_halts room (entry_of d) halts.Wrong read).1 refl
wrong_none (Some name) IsPast room d is read = named_none d name is

-- where the session or bearer of a right entry is not there, or there is no room, the entry is not wrong
never_wrong : (room : ℕ) (number : Option ℕ) (entry : ℕ → Option Entry) → ((n : ℕ) → is_some (entry n) ≡ true) → Err halts.Wrong ≡ named_entry room number entry → ⊥
unfolding named_entry
never_wrong room None entry right h = (let e : halts.Wrong ≡ halts.Nothing = cc in cc)
never_wrong room (Some n) entry right h = by (entry n) (right n) h
  where
    by : (o : Option Entry) → is_some o ≡ true → Err halts.Wrong ≡ entry_or o room → ⊥
    by None r k = absurd cc
    by (Some e) r k = (let many : halts.Wrong ≡ halts.TooMany = one_halts room e halts.Wrong k in cc)

-- reading an entry stopped, since it is wrong
abbrev wrong : Result (List Entry) Halt
wrong = Err halts.Wrong

-- what is expected of all deliveries is read, so they are not wrong
all_right : (IsPast : Past → Type 0) (room : ℕ) (o : Option (Option (List ℕ))) → is_some o ≡ true
    → MatchOption o (wrong ≡ wrong) (λ expect. (past : Past) × IsPast past × AreDelivered room expect past wrong) → ⊥
all_right IsPast room None right read = absurd cc
all_right IsPast room (Some expect) right (past, is, (numbers, end, delivers, more, full, many)) = (let e : halts.Wrong ≡ halts.TooMany = many in cc)

beside_right : (name : Name) (IsPast : Past → Type 0) (room : ℕ) (d : Data) → IsRightBeside name d → IsReadBy (Some name) IsPast room d (Err halts.Wrong) → ⊥
beside_right Newest IsPast room d right (past, is, read) = never_wrong room _ _ (λ n. mapped (λ expect. delivery expect n) (expected_of d) right) read
beside_right All IsPast room d right read = all_right IsPast room (expected_of d) right read
beside_right (Session node name) IsPast room d right (past, is, read) = never_wrong room _ _ right read
beside_right (Bearer node name) IsPast room d right (past, is, read) = never_wrong room _ _ right read

-- a right entry is not wrong
pub right_never : (IsPast : Past → Type 0) (room : ℕ) (d : Data) → IsReadBy (name_of d) IsPast room d (Err halts.Wrong) → IsRight d → ⊥
right_never IsPast room d read (inl some) = true≢false (sym some ∙ ap is_some (wrong_none (name_of d) IsPast room d refl read))
right_never IsPast room d read (inr named) = beside_right named.name IsPast room d named.beside (subst (λ o. IsReadBy o IsPast room d (Err halts.Wrong)) named.named read)
