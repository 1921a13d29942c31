-- A run, event by event.
use Rattle.std.proofs.Common.{◌≡◌, ℕ, suc, ◌<◌, List, [], ◌∷◌, ◌++◌, map, length, take, refl, sym, ◌∙◌, ap, subst, get_or, append-nil, append_assoc}
use Rattle.std.proofs.lemmas.List.{map-append, take-map, length-map}
use Rattle.std.proofs.Math.Seq.{take-suc}
use Rattle.gtp_machine.specs.World as machine
use Rattle.gtp_machine.specs.World.{Run}
use Rattle.gtp_world.specs.Events.{event_of}
use Rattle.gtp_world.specs.Ends.{HasGone}
use Rattle.gtp_world.specs.Record.{WorldRecord}
use Rattle.gtp_world.specs.Runs.{Setup, begun, StandsFor, LeftByRun, ContinuesRun, RanWhole}
use Rattle.gtp_world.specs.Stepped.{EventLeaves, EventsLeave}
use Rattle.gtp_world.specs.declared.event.Event.{Event}
use Rattle.gtp_world.proofs.Going.{goes}
use Rattle.gtp_world.proofs.Safe.{run_safe}

-- the events so far, with the next
pub one_more : (events : List Event) (i : ℕ) (e : Event) → i < length events → get_or events i e ≡ e → map event_of (take i events) ++ (event_of e ∷ []) ≡ map event_of (take (suc i) events)
one_more events i e within is =
    sym (map-append event_of (take i events) (e ∷ []))
    ∙ ap (λ k. map event_of (take i events ++ (k ∷ []))) (sym is)
    ∙ ap (map event_of) (sym (take-suc events i e within))

-- one event more comes to what it comes to
pub follows_on : (old : WorldRecord) (events : List machine.Event) (mid : WorldRecord) (event : machine.Event) (new : WorldRecord) → EventsLeave old events mid
    → EventLeaves mid event new → EventsLeave old (events ++ (event ∷ [])) new
follows_on old [] mid event new is comes = (new, subst (λ (k : WorldRecord). EventLeaves k event new) is comes, λ i. new)
follows_on old (first ∷ events) mid event new follows comes = (follows.0, follows.1, follows_on follows.0 events mid event new follows.2 comes)

-- the machine's world at the start of a run
abbrev first_of : Setup → machine.World
first_of setup = machine.start setup.serving.config setup.packet.config setup.serving_counter setup.packet_counter

-- a run goes on by what events come to, one after the other
pub runs_on : (old : WorldRecord) (more : List machine.Event) (new : WorldRecord) → EventsLeave old more new → ContinuesRun old more new
runs_on old [] new is setup events r =
    record {
      whole =
          record {
            world = r.world;
            run = subst (λ (l : List machine.Event). Run (first_of setup) l r.world) (sym (append-nil events)) r.run;
            stands = subst (λ (k : WorldRecord). StandsFor setup k r.world) (sym is) r.stands;
          };
      on = refl;
    }
runs_on old (event ∷ more) new follows setup events r =
    let g = goes setup events old r event follows.0 follows.1 in
    let rest = runs_on follows.0 more new follows.2 setup (events ++ (event ∷ [])) (record { world = g.world; run = g.run; stands = g.stands }) in
    record {
      whole =
          record {
            world = rest.whole.world;
            run = subst (λ (l : List machine.Event). Run (first_of setup) l rest.whole.world) (append_assoc events (event ∷ []) more) rest.whole.run;
            stands = rest.whole.stands;
          };
      on = (g.world, g.happens, rest.on);
    }

-- a world that has gone on by the first events, where the next could not happen
pub stopped : (old : WorldRecord) (events : List Event) (i : ℕ) (world : WorldRecord) → i < length events → EventsLeave old (map event_of (take i events)) world
    → (i < length (map event_of events)) × HasGone old (take i (map event_of events)) world
stopped old events i world within follows = (
  subst (λ n. i < n) (sym (length-map events event_of)) within,
  subst (λ k. HasGone old k world) (sym (take-map event_of i events))
      (record { comes = follows; run = runs_on old (map event_of (take i events)) world follows }),
)

-- all that is said of a run, by what the events come to from its beginning
pub begun_whole : (setup : Setup) (first : WorldRecord) (events : List machine.Event) (v : WorldRecord) → first ≡ begun setup → LeftByRun setup [] first
    → HasGone first events v → RanWhole setup events v
begun_whole setup first events v is run gone =
    let all : LeftByRun setup events v = (gone.run setup [] run).whole in
    record { comes = subst (λ (k : WorldRecord). EventsLeave k events v) is gone.comes; run = all; safe = run_safe setup events v all }
