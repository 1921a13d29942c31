-- Reasons for what is read.
use Rattle.std.proofs.Common.{◌≡◌, ℕ, true, List, Option, Some, None, Result, Ok, Err, IfOk, IfSome, refl, sym, ap, subst, ◌∙◌}
use Rattle.std.specs.Prelude.{is_some}
use Rattle.serde_json.specs.Data.{Data}
use Rattle.serde_json.specs.Find.{get_item}
use Rattle.gtp_scenario.specs.declared.fault.Refusal.{Refusal}
use Rattle.gtp_scenario.specs.declared.fault.Refusal.TheVariants as refusals
use Rattle.gtp_scenario.specs.declared.halt.Halt.{Halt}
use Rattle.gtp_scenario.specs.declared.halt.Halt.TheVariants as halts
use Rattle.gtp_scenario.specs.declared.halt.Halted.{Halted}
use Rattle.gtp_scenario.specs.declared.name.Name.{Name}
use Rattle.gtp_scenario.specs.declared.reason.Reason.{Reason}
use Rattle.gtp_scenario.specs.declared.reason.Reason.TheVariants as reasons
use Rattle.gtp_scenario.specs.declared.reason.event.EventFlaw.{EventFlaw}
use Rattle.gtp_scenario.specs.declared.reason.event.EventFlaw.TheVariants as event
use Rattle.gtp_scenario.specs.Entries.{Entry}
use Rattle.gtp_scenario.specs.Named.{name_of}
use Rattle.gtp_scenario.specs.Heads.{events_at}
use Rattle.gtp_scenario.specs.Reasons.{refusal_of, IsExplained, IsSaid, IsSo, IsEntryFlaw, IsEventAt}
use Rattle.gtp_scenario.specs.Named.{IsRight}
use Rattle.gtp_scenario.specs.reading.Halted.{IsHaltedIn, IsNothing, IsTooMany, IsFlawFor}
use Rattle.gtp_scenario.specs.Scenarios.{Scenario, Head, json_of, head_in, HasHappened, IsRead, IsListRead, IsReadOn, IsReadIn, IsReadFrom, IsReading}
use Rattle.gtp_scenario.proofs.Halting.{halts_here, names_nothing, right_never}
use Rattle.gtp_scenario.proofs.Heading.{head_parts}

pub if_ok : {X E : Type 0} (r : Result X E) (P Q : X → Type 0) → ((x : X) → P x → Q x) → IfOk r P → IfOk r Q
if_ok (Ok x) P Q so h = so x h
if_ok (Err e) P Q so h = tt

pub if_some : {X : Type 0} (o : Option X) (P Q : X → Type 0) → ((x : X) → P x → Q x) → IfSome o P → IfSome o Q
if_some (Some x) P Q so h = so x h
if_some None P Q so h = tt

-- ---- a list

pub explains_ok : (head : Head) (entries : List Entry) → IsListRead head.setup head.items (Ok entries) → IsExplained (IsReadOn head) None
explains_ok head entries read = (Ok (record { setup = head.setup; entries = entries }), record { list = Ok entries; read = read; is = refl }, refl)

pub explains_halted : (head : Head) (halted : Halted) (flaw : EventFlaw) → IsListRead head.setup head.items (Err halted) → IsExplained (IsReadOn head) (Some (reasons.Event halted.place flaw))
explains_halted head halted flaw read = (Err (refusals.Event halted.place), record { list = Err halted; read = read; is = refl }, refl)

pub halted_in : (d : Data) (head : Head) (halted : Halted) → head_in d ≡ Some head → IsListRead head.setup head.items (Err halted) → IsHaltedIn d halted
halted_in d head halted is read =
    let both = head_parts d head is in
    record { setup = head.setup; head = both.setup; items = head.items; list = both.items; halts = read }

-- ---- data

pub explains_head : (d : Data) (reason : Reason) → head_in d ≡ None → refusal_of reason ≡ refusals.Head → IsExplained (IsReadIn (head_in d)) (Some reason)
explains_head d reason none is = subst (λ (o : Option Head). IsExplained (IsReadIn o) (Some reason)) (sym none) (Err refusals.Head, refl, ap (λ r. Some r) is)

pub explains_on : (d : Data) (head : Head) (reason : Option Reason) → head_in d ≡ Some head → IsExplained (IsReadOn head) reason → IsExplained (IsReadIn (head_in d)) reason
explains_on d head reason is explained = subst (λ (o : Option Head). IsExplained (IsReadIn o) reason) (sym is) explained

-- ---- octets

pub explains_json : (octets : List ℕ) (reason : Reason) → json_of octets ≡ None → refusal_of reason ≡ refusals.Json → IsExplained (IsReading octets) (Some reason)
explains_json octets reason none is = subst (λ (o : Option Data). IsExplained (IsReadFrom o) (Some reason)) (sym none) (Err refusals.Json, refl, ap (λ r. Some r) is)

pub explains_data : (octets : List ℕ) (d : Data) (reason : Option Reason) → json_of octets ≡ Some d → IsExplained (IsReadIn (head_in d)) reason → IsExplained (IsReading octets) reason
explains_data octets d reason is explained = subst (λ (o : Option Data). IsExplained (IsReadFrom o) reason) (sym is) explained

-- what is said of the data is said of the octets
pub so : (octets : List ℕ) (d : Data) (reason : Reason) → json_of octets ≡ Some d → IsSaid d reason → IsSo octets reason
so octets d (reasons.Json flaw) json said = absurd said
so octets d (reasons.Head flaw) json said = (d, json, said)
so octets d (reasons.Event place flaw) json said = (d, json, said)

-- ---- the entry at which reading stops

pub there_is : (d e : Data) (halted : Halted) (h : IsHaltedIn d halted) → get_item halted.place h.items ≡ Some e → (halts_here h.setup h.items halted h.halts).entry ≡ e
there_is d e halted h is = (let both : Some (halts_here h.setup h.items halted h.halts).entry ≡ Some e = sym (halts_here h.setup h.items halted h.halts).there ∙ is in cc)

pub too_many_at : (d e : Data) (halted : Halted) (h : IsHaltedIn d halted) → get_item halted.place h.items ≡ Some e → halted.halt ≡ halts.TooMany → IsEventAt d halted.place event.TooMany
too_many_at d e halted h there is =
    record {
      setup = h.setup;
      head = h.head;
      items = h.items;
      list = h.list;
      entry = e;
      there = there;
      flawed = subst (λ k. IsListRead h.setup h.items (Err (record { place = halted.place; halt = k }))) is h.halts;
    }

pub nothing_at : (d e : Data) (halted : Halted) (name : Name) (h : IsHaltedIn d halted) → get_item halted.place h.items ≡ Some e → halted.halt ≡ halts.Nothing
    → name_of e ≡ Some name → IsEventAt d halted.place (event.Nothing name)
nothing_at d e halted name h there is named =
    record {
      setup = h.setup;
      head = h.head;
      items = h.items;
      list = h.list;
      entry = e;
      there = there;
      flawed = (named, subst (λ k. IsListRead h.setup h.items (Err (record { place = halted.place; halt = k }))) is h.halts);
    }

pub named_at : (d e : Data) (halted : Halted) (h : IsHaltedIn d halted) → get_item halted.place h.items ≡ Some e → halted.halt ≡ halts.Nothing → is_some (name_of e) ≡ true
named_at d e halted h there is =
    let here = halts_here h.setup h.items halted h.halts in
    subst (λ x. is_some (name_of x) ≡ true) (there_is d e halted h there)
    (names_nothing (name_of here.entry) (HasHappened h.setup here.before) here.room here.entry (subst (λ k. IsRead h.setup here.before here.room here.entry (Err k)) is here.read))

pub wrong_at : (d e : Data) (halted : Halted) (h : IsHaltedIn d halted) → get_item halted.place h.items ≡ Some e → halted.halt ≡ halts.Wrong → IsRight e → ⊥
wrong_at d e halted h there is right =
    let here = halts_here h.setup h.items halted h.halts in
    right_never (HasHappened h.setup here.before) here.room here.entry (subst (λ k. IsRead h.setup here.before here.room here.entry (Err k)) is here.read)
    (subst IsRight (sym (there_is d e halted h there)) right)

pub flaw_at : (d e : Data) (halted : Halted) (flaw : EventFlaw) (h : IsHaltedIn d halted) → get_item halted.place h.items ≡ Some e → IsEntryFlaw e flaw → IsEventAt d halted.place flaw
flaw_at d e halted (event.Entry flaw) h there is = record { setup = h.setup; head = h.head; items = h.items; list = h.list; entry = e; there = there; flawed = is }
flaw_at d e halted (event.NoEvent word) h there is = record { setup = h.setup; head = h.head; items = h.items; list = h.list; entry = e; there = there; flawed = is }
flaw_at d e halted (event.Keys kind flaw) h there is = record { setup = h.setup; head = h.head; items = h.items; list = h.list; entry = e; there = there; flawed = is }
flaw_at d e halted (event.Named kind flaw) h there is = record { setup = h.setup; head = h.head; items = h.items; list = h.list; entry = e; there = there; flawed = is }
flaw_at d e halted (event.Nothing name) h there is = absurd is
flaw_at d e halted event.TooMany h there is = absurd is

nothing_by : (d e : Data) (halted : Halted) (flaw : EventFlaw) (h : IsHaltedIn d halted) → get_item halted.place h.items ≡ Some e → halted.halt ≡ halts.Nothing
    → IsNothing e flaw → IsEventAt d halted.place flaw
nothing_by d e halted (event.Nothing name) h there is named = nothing_at d e halted name h there is named
nothing_by d e halted (event.Entry flaw) h there is named = absurd named
nothing_by d e halted (event.NoEvent word) h there is named = absurd named
nothing_by d e halted (event.Keys kind flaw) h there is named = absurd named
nothing_by d e halted (event.Named kind flaw) h there is named = absurd named
nothing_by d e halted event.TooMany h there is named = absurd named

many_by : (d e : Data) (halted : Halted) (flaw : EventFlaw) (h : IsHaltedIn d halted) → get_item halted.place h.items ≡ Some e → halted.halt ≡ halts.TooMany
    → IsTooMany flaw → IsEventAt d halted.place flaw
many_by d e halted event.TooMany h there is many = too_many_at d e halted h there is
many_by d e halted (event.Nothing name) h there is many = absurd many
many_by d e halted (event.Entry flaw) h there is many = absurd many
many_by d e halted (event.NoEvent word) h there is many = absurd many
many_by d e halted (event.Keys kind flaw) h there is many = absurd many
many_by d e halted (event.Named kind flaw) h there is many = absurd many

pub flaw_by : (halt : Halt) (d e : Data) (halted : Halted) (flaw : EventFlaw) (h : IsHaltedIn d halted) → get_item halted.place h.items ≡ Some e
    → halted.halt ≡ halt → IsFlawFor halt e flaw → IsEventAt d halted.place flaw
flaw_by halts.Nothing d e halted flaw h there is so = nothing_by d e halted flaw h there is so
flaw_by halts.Wrong d e halted flaw h there is so = flaw_at d e halted flaw h there so
flaw_by halts.TooMany d e halted flaw h there is so = many_by d e halted flaw h there is so
