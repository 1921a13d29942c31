-- What an entry comes to.
use Rattle.std.proofs.Common.{◌≡◌, ◌≤◌, ◌+◌, ◌-◌, ℕ, Bool, true, false, cond, List, [], ◌∷◌, ◌++◌, map, length, replicate, Option, Some, None}
use Rattle.std.proofs.Common.{option_map, Result, Ok, Err, MatchOption, refl, sym, ap, subst, ◌∙◌, arith}
use Rattle.std.specs.Prelude.{nat_le}
use Rattle.std.specs.List.{flat_map}
use Rattle.std.proofs.lemmas.Bool.Decides.{nat_tests}
use Rattle.std.proofs.lemmas.List.{append-nil, length-replicate, length-map}
use Rattle.gtp_scenario.specs.declared.halt.Halt.{Halt}
use Rattle.gtp_scenario.specs.declared.halt.Halt.TheVariants as halts
use Rattle.gtp_scenario.specs.declared.halt.Halted.{Halted}
use Rattle.gtp_scenario.specs.declared.halt.ItemFault.{ItemFault}
use Rattle.gtp_scenario.specs.declared.halt.ItemFault.TheVariants as item_faults
use Rattle.gtp_scenario.specs.Halts.{list_fault_for, ReadsItem, ReadsList}
use Rattle.gtp_scenario.specs.declared.name.Name.{Name}
use Rattle.gtp_scenario.specs.declared.name.Name.TheVariants.{Newest, All, Session, Bearer}
use Rattle.serde_json.specs.Data.{Data, Items, item}
use Rattle.gtp_machine.specs.World.{Deliver}
use Rattle.gtp_world.specs.Runs.{Setup}
use Rattle.gtp_scenario.specs.Entries.{Entry, entry_of, events_in}
use Rattle.gtp_scenario.specs.Named.{delivery, expected_of}
use Rattle.gtp_scenario.specs.Past.{Past}
use Rattle.gtp_scenario.specs.Scenarios.{count_in, one_within, entry_or, whole_entry, named_entry, delivery_of, AreDelivered, IsReadBy, IsRead, AreRead}
use Rattle.gtp_scenario.proofs.Happened.{delivered_events}

-- ---- how many events it has

one_count : (e : Entry) → count_in (e ∷ []) ≡ e.times
one_count e = ap length (append-nil (events_in e)) ∙ length-replicate e.times e.event

one_fits : (room : ℕ) (e : Entry) (es : List Entry) → Ok es ≡ one_within room e → count_in es ≤ room
one_fits room e es h = by (nat_le e.times room) refl h
  where
    by : (b : Bool) → nat_le e.times room ≡ b → Ok es ≡ cond b (Ok (e ∷ [])) (Err halts.TooMany) → count_in es ≤ room
    by true test k =
        let same : es ≡ e ∷ [] = cc in
        let count = one_count e in
        subst (λ l. count_in l ≤ room) (sym same) (grind (arith, nat_tests, count, test))
    by false test k = absurd cc

whole_fits : (room : ℕ) (o : Option Entry) (es : List Entry) → Ok es ≡ entry_or o room → count_in es ≤ room
whole_fits room None es h = absurd cc
whole_fits room (Some e) es h = one_fits room e es h

named_fits : (room : ℕ) (number : Option ℕ) (entry : ℕ → Option Entry) (es : List Entry) → Ok es ≡ named_entry room number entry → count_in es ≤ room
unfolding named_entry
named_fits room None entry es h = absurd cc
named_fits room (Some n) entry es h = whole_fits room (entry n) es h

delivered_fit : (room : ℕ) (expect : Option (List ℕ)) (past : Past) (es : List Entry) → AreDelivered room expect past (Ok es) → count_in es ≤ room
delivered_fit room expect past es (numbers, end, delivered, none, few, are) =
    let count : count_in es ≡ length numbers = ap count_in are ∙ (ap length (delivered_events expect numbers) ∙ length-map numbers Deliver) in
    omega (arith, count, few)

all_fit : (o : Option (Option (List ℕ))) (IsPast : Past → Type 0) (room : ℕ) (es : List Entry)
    → MatchOption o (Ok es ≡ Err halts.Wrong) (λ expect. (past : Past) × IsPast past × AreDelivered room expect past (Ok es)) → count_in es ≤ room
all_fit None IsPast room es h = absurd cc
all_fit (Some expect) IsPast room es (past, is, delivered) = delivered_fit room expect past es delivered

pub read_fits : (name : Option Name) (IsPast : Past → Type 0) (room : ℕ) (d : Data) (es : List Entry) → IsReadBy name IsPast room d (Ok es) → count_in es ≤ room
unfolding whole_entry
read_fits None IsPast room d es h = whole_fits room (entry_of d) es h
read_fits (Some Newest) IsPast room d es (past, is, h) = named_fits room _ _ es h
read_fits (Some All) IsPast room d es h = all_fit (expected_of d) IsPast room es h
read_fits (Some (Session node name)) IsPast room d es (past, is, h) = named_fits room _ _ es h
read_fits (Some (Bearer node name)) IsPast room d es (past, is, h) = named_fits room _ _ es h

-- ---- a past by another account of it

all_by : (o : Option (Option (List ℕ))) (P Q : Past → Type 0) (room : ℕ) (reading : Result (List Entry) Halt) → ((p : Past) → P p → Q p)
    → MatchOption o (reading ≡ Err halts.Wrong) (λ expect. (past : Past) × P past × AreDelivered room expect past reading)
    → MatchOption o (reading ≡ Err halts.Wrong) (λ expect. (past : Past) × Q past × AreDelivered room expect past reading)
all_by None P Q room reading so h = h
all_by (Some expect) P Q room reading so (past, is, delivered) = (past, so past is, delivered)

pub read_by : (name : Option Name) (P Q : Past → Type 0) (room : ℕ) (d : Data) (reading : Result (List Entry) Halt) → ((p : Past) → P p → Q p)
    → IsReadBy name P room d reading → IsReadBy name Q room d reading
read_by None P Q room d reading so h = h
read_by (Some Newest) P Q room d reading so (past, is, h) = (past, so past is, h)
read_by (Some All) P Q room d reading so h = all_by (expected_of d) P Q room reading so h
read_by (Some (Session node name)) P Q room d reading so (past, is, h) = (past, so past is, h)
read_by (Some (Bearer node name)) P Q room d reading so (past, is, h) = (past, so past is, h)

-- ---- lists

pub read_more : (setup : Setup) (place : ℕ) (before es : List Entry) (room : ℕ) (d : Data) (items : Items) (reading : Result (List Entry) Halted)
    → IsRead setup before room d (Ok es) → AreRead setup (place + 1) (before ++ es) (room - count_in es) items reading
    → AreRead setup place before room (item d items) reading
read_more setup place before es room d items reading read more = (Ok es, read, more)

pub read_halts : (setup : Setup) (place : ℕ) (before : List Entry) (halt : Halt) (room : ℕ) (d : Data) (items : Items) → IsRead setup before room d (Err halt)
    → AreRead setup place before room (item d items) (Err (record { place = place; halt = halt }))
read_halts setup place before halt room d items read = (Err halt, read, refl)

-- ---- faults

pub fault_at : {X Z Y : Type 0} (view : X → Y) (other : Z → Y) (place : ℕ) (fault : ItemFault) (P : Result Y Halt → Type 0) (Q : Result Y Halted → Type 0)
    → ((halt : Halt) → P (Err halt) → Q (Err (record { place = place; halt = halt }))) → ReadsItem view (Err fault) P
    → ReadsList other (Err (list_fault_for place fault)) Q
fault_at view other place item_faults.Memory P Q so h = tt
fault_at view other place (item_faults.Halted halt) P Q so h = so halt h

-- ---- by another reading

pub reads_as : {X Y : Type 0} (view : X → Y) (r : Result X ItemFault) (P Q : Result Y Halt → Type 0) → ((reading : Result Y Halt) → P reading → Q reading) → ReadsItem view r P → ReadsItem view r Q
reads_as view (Ok x) P Q so h = so (Ok (view x)) h
reads_as view (Err item_faults.Memory) P Q so h = tt
reads_as view (Err (item_faults.Halted halt)) P Q so h = so (Err halt) h

pub all_read : (o : Option (Option (List ℕ))) (expect : Option (List ℕ)) (IsPast : Past → Type 0) (room : ℕ) (past : Past) (reading : Result (List Entry) Halt)
    → Some expect ≡ o → IsPast past → AreDelivered room expect past reading
    → MatchOption o (reading ≡ Err halts.Wrong) (λ expect. (past : Past) × IsPast past × AreDelivered room expect past reading)
all_read o expect IsPast room past reading is at delivered =
    subst (λ (o : Option (Option (List ℕ))).
    MatchOption o (reading ≡ Err halts.Wrong) (λ expect. (past : Past) × IsPast past × AreDelivered room expect past reading)) is
    (past, at, delivered)
