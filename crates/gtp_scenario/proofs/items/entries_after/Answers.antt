use Rattle.std.proofs.Common.{◌≡◌, ◌≤◌, ◌+◌, ◌-◌, ◌∷◌, ◌++◌, ℕ, List, map, take, drop, length, Result, Ok, Err, refl, sym, ap, subst, ◌∙◌, arith, length-drop, length-append, Vec, Global}
use Rattle.std.proofs.lemmas.List.{take_all, drop-map, map-append, length-map}
use Rattle.gtp_scenario.specs.declared.entry.Entry as declared
use Rattle.gtp_scenario.specs.declared.halt.Halted.{Halted}
use Rattle.gtp_scenario.specs.declared.items.Item.{Item}
use Rattle.serde_json.specs.Data.{Data}
use Rattle.gtp_world.specs.Runs.{Setup}
use Rattle.gtp_scenario.specs.Entries.{Entry}
use Rattle.gtp_scenario.specs.Named.{name_of}
use Rattle.gtp_scenario.specs.Trees.{view, items_view}
use Rattle.gtp_scenario.specs.Halts.{ReadsList}
use Rattle.gtp_scenario.specs.Past.{Past}
use Rattle.gtp_scenario.specs.Scenarios.{count_in, HasHappened, Follow, IsRead, AreRead, IsListRead, IsReadBy}
use Rattle.gtp_scenario.specs.Views.{entry, past}
use Rattle.gtp_scenario.proofs.ReadBy.{read_fits, read_by, read_more, read_halts, fault_at}
use Rattle.gtp_scenario.proofs.Happened.{reaches, happened_on}
use Rattle.gtp_scenario.proofs.items.entries_after.Goals as goal

-- the entries that have not happened
pending_is : (f : ℕ) (xs ys : List declared.Entry) → xs ≡ ys → map entry (take (length xs - f) (drop f xs)) ≡ drop f (map entry ys)
pending_is f xs ys same =
    ap (map entry) (take_all (length xs - f) (drop f xs) (let e = length-drop f xs in omega (arith, e))) ∙ (sym (drop-map entry f xs) ∙ ap (λ l. drop f (map entry l)) same)

slice_length : (f : ℕ) (xs : List declared.Entry) → length (take (length xs - f) (drop f xs)) ≡ length xs - f
slice_length f xs = ap length (take_all (length xs - f) (drop f xs) (let e = length-drop f xs in omega (arith, e))) ∙ length-drop f xs

-- what is read after what has happened of the entries before is read after them
read_after : (setup : Setup) (f room : ℕ) (d : Data) (before pending : List Entry) (now : Past) (reading : _) → pending ≡ drop f before
    → HasHappened setup (take f before) now → IsReadBy (name_of d) (Follow now pending) room d reading → IsRead setup before room d reading
read_after setup f room d before pending now reading is happened read =
    read_by (name_of d) (Follow now pending) (HasHappened setup before) room d reading (λ p follows. reaches setup f before now p happened (subst (λ es. Follow now es p) is follows)) read

pub returns-in-Err : goal.returns-in-Err
returns-in-Err c setup begun =
    let l = c.loop-value in
    let before = map entry l.entries.items in
    let d = view c.in-Some.value in
    subst (λ fault. ReadsList (λ (v : Vec declared.Entry Global). map entry v.items) (Err fault) (IsListRead setup (items_view c.args.values))) (sym c.at.ensures)
    (fault_at (λ (item : Item). map entry item.entries.items) (λ (v : Vec declared.Entry Global). map entry v.items) l.place c.in-Err.fault _ (IsListRead setup (items_view c.args.values))
    (λ halt read. (l.invariant.on setup begun).rest (Err (record { place = l.place; halt = halt }))
    (subst (λ items. AreRead setup l.place before l.room items (Err (record { place = l.place; halt = halt }))) (sym c.in-Some.ensures.value)
    (read_halts setup l.place before halt l.room d (items_view c.next.new.self)
    (read_after setup l.followed l.room d before _ (past l.past) (Err halt)
    (pending_is l.followed c.deref.result.now l.entries.items c.deref.ensures.value) (l.invariant.on setup begun).happened read))))
    c.in-Err.ensures.read)

fits : (room : ℕ) (a b : List declared.Entry) → a ≡ b → count_in (map entry b) ≤ room → count_in (map entry a) ≤ room
fits room a b same few = subst (λ es. count_in (map entry es) ≤ room) (sym same) few

pub count_in-room-requires : goal.count_in-room-requires
count_in-room-requires c =
    let few = read_fits (name_of (view c.in-Some.value)) _ c.loop-value.room (view c.in-Some.value) (map entry c.in-Ok.item.entries.items) c.in-Ok.ensures.read in
    let same = fits c.loop-value.room c.deref-in-Some.result.now c.in-Ok.item.entries.items c.deref-in-Some.ensures.value few in
    let small = c.loop-value.auto.room-fits in
    omega (arith, same, small)

pub overflow_sub-room : goal.overflow_sub-room
overflow_sub-room c =
    let few = read_fits (name_of (view c.in-Some.value)) _ c.loop-value.room (view c.in-Some.value) (map entry c.in-Ok.item.entries.items) c.in-Ok.ensures.read in
    let same = fits c.loop-value.room c.deref-in-Some.result.now c.in-Ok.item.entries.items c.deref-in-Some.ensures.value few in
    let count = c.count_in-room.ensures in
    omega (arith, same, count)

pub loop-value-preserved : goal.loop-value-preserved
loop-value-preserved c =
    let l = c.loop-value in
    let before = map entry l.entries.items in
    let es = map entry c.in-Ok.item.entries.items in
    let d = view c.in-Some.value in
    let k = c.in-Ok.item.followed in
    let now = past c.read_item-read.new.past in
    let pending = pending_is l.followed c.deref.result.now l.entries.items c.deref.ensures.value in
    let joined : map entry c.append.new.self.items ≡ before ++ es = ap (map entry) c.in_ok-append.ensures.items ∙ map-append entry l.entries.items c.in-Ok.item.entries.items in
    let count : c.count_in-room.result ≡ count_in es = c.count_in-room.ensures ∙ ap (λ xs. count_in (map entry xs)) c.deref-in-Some.ensures.value in
    let whole : length c.deref.result.now ≡ length l.entries.items = ap length c.deref.ensures.value in
    let as_many = length-map l.entries.items entry in
    record {
      within =
          (let more = c.in-Ok.ensures.within in
          let left = slice_length l.followed c.deref.result.now in
          let all = ap length c.in_ok-append.ensures.items ∙ length-append l.entries.items c.in-Ok.item.entries.items in
          let w = l.invariant.within in omega (arith, more, left, all, whole, w));
      on = λ setup begun. record {
        rest = λ reading more. (l.invariant.on setup begun).rest reading
            (subst (λ items. AreRead setup l.place before l.room items reading) (sym c.in-Some.ensures.value)
            (read_more setup l.place before es l.room d (items_view c.next.new.self) reading
            (read_after setup l.followed l.room d before _ (past l.past) (Ok es) pending (l.invariant.on setup begun).happened c.in-Ok.ensures.read)
            (subst (λ place. AreRead setup place (before ++ es) (l.room - count_in es) (items_view c.next.new.self) reading) c.in_ok-place.ensures
            (subst (λ all. AreRead setup c.in_ok-place.place all (l.room - count_in es) (items_view c.next.new.self) reading) joined
            (subst (λ n. AreRead setup c.in_ok-place.place (map entry c.append.new.self.items) (l.room - n) (items_view c.next.new.self) reading) count more)))));
        happened =
            subst (λ (all : List Entry). HasHappened setup (take (l.followed + k) all) now) (sym joined)
            (happened_on setup l.followed k before es (past l.past) now (let w = l.invariant.within in omega (arith, as_many, w)) (l.invariant.on setup begun).happened
            (subst (λ (rest : List Entry). Follow (past l.past) (take k (rest ++ es)) now) pending c.in-Ok.ensures.followed));
      };
    }

pub returns : goal.returns
returns c setup begun =
    let l = c.loop-value in
    let before = map entry l.entries.items in
    (l.invariant.on setup begun).rest (Ok before) (subst (λ items. AreRead setup l.place before l.room items (Ok before)) (sym c.in_default.ensures.value) refl)
