-- What happens in a network is, of each pair, a run of that pair by itself; so each pair is safe.
use Rattle.std.proofs.Common.{◌≡◌, ◌≢◌, ⊎_elim, ℕ, cond, List, [], ◌∷◌, Some, refl, sym, ◌∙◌, ap, subst}
use Rattle.std.specs.Prelude.{slice_get, slice_set}
use Rattle.std.proofs.lemmas.Bool.{cases_eq, eq-eqb, ne_eqb}
use Rattle.std.proofs.lemmas.Option.{same_Some}
use Rattle.gtp_machine.specs.World.{World, Happens, Run, start}
use Rattle.gtp_machine.proofs.Worlds.Safety.{always_sessions, always_bearers, always_owed, always_none_over}
use Rattle.gtp_node.specs.Network.{InPair, HappensIn, RunsIn, events_of, RunsByItself, EachPairRuns, IsSafe, EachPairIsSafe}
use Rattle.gtp_node.proofs.Routing.{set_here, set_elsewhere}

-- one event before a run: it happens in this pair, or in another
module _
    (what : InPair) (events : List InPair) (old mid new : List World) (h : HappensIn old what mid)
    (rest : (place : ℕ) (first : World) → slice_get mid place ≡ Some first → RunsByItself place first events new)
    (place : ℕ) (first : World) (stands : slice_get old place ≡ Some first)
  where
    here : place ≡ what.place → RunsByItself place first (what ∷ events) new
    here same =
        let was : h.before ≡ first = same_Some h.before first (sym h.stands ∙ ap (λ k. slice_get old k) (sym same) ∙ stands) in
        let now : slice_get mid place ≡ Some h.after =
        ap (λ (ws : List World). slice_get ws place) h.becomes ∙ ap (λ k. slice_get (slice_set old what.place h.after) k) same ∙ set_here old what.place h.before h.after h.stands in
        let by = rest place h.after now in
        let happens : Happens first what.event h.after = subst (λ (w : World). Happens w what.event h.after) was h.happens in
        record {
          world = by.world;
          stands = by.stands;
          runs = subst (λ b. Run first (cond b (what.event ∷ events_of place events) (events_of place events)) by.world) (sym (eq-eqb place what.place same))
              (h.after, happens, by.runs);
        }

    elsewhere : place ≢ what.place → RunsByItself place first (what ∷ events) new
    elsewhere other =
        let now : slice_get mid place ≡ Some first =
        ap (λ (ws : List World). slice_get ws place) h.becomes ∙ set_elsewhere old what.place place h.after other ∙ stands in
        let by = rest place first now in
        record {
          world = by.world;
          stands = by.stands;
          runs = subst (λ b. Run first (cond b (what.event ∷ events_of place events) (events_of place events)) by.world) (sym (ne_eqb place what.place other)) by.runs;
        }

    one_more : RunsByItself place first (what ∷ events) new
    one_more = ⊎_elim here elsewhere (cases_eq place what.place)

runs : (events : List InPair) (old new : List World) → RunsIn old events new → (place : ℕ) (first : World) → slice_get old place ≡ Some first → RunsByItself place first events new
runs [] old new r place first stands = record { world = first; stands = ap (λ (ws : List World). slice_get ws place) r ∙ stands; runs = refl }
runs (what ∷ events) old new r place first stands = one_more what events old r.0 new r.1 (runs events r.0 new r.2) place first stands

pub each_pair_runs : EachPairRuns
each_pair_runs old new events r place first stands = runs events old new r place first stands

pub each_pair_safe : EachPairIsSafe
each_pair_safe old new events r place serving packet sc pc stands w at =
    let by = runs events old new r place (start serving packet sc pc) stands in
    let is : by.world ≡ w = same_Some by.world w (sym by.stands ∙ at) in
    subst (λ (v : World). IsSafe v) is (record {
      sessions = always_sessions serving packet sc pc (events_of place events) by.world by.runs;
      bearers = always_bearers serving packet sc pc (events_of place events) by.world by.runs;
      owed = always_owed serving packet sc pc (events_of place events) by.world by.runs;
      none_over = always_none_over serving packet sc pc (events_of place events) by.world by.runs;
    })
