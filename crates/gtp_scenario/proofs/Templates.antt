-- Templates of access points.
use Rattle.std.proofs.Common.{◌≡◌, ◌⊎◌, inl, inr, ℕ, List, [], ◌∷◌, Bool, true, false, cond, ◌||◌, ◌↔◌, Option, Some, None, Result, Ok, Err, IsOk, IfOk, refl, sym, ◌∙◌, ap, bytes_eq}
use Rattle.std.specs.Result.{result_ok}
use Rattle.std.proofs.lemmas.Slice.Eq.{bytes_eq-Decides}
use Rattle.std.specs.Prelude.{codes}
use Rattle.serde_json.specs.Data.{Data, Items, no_items, item}
use Rattle.serde_json.specs.Find.{get, as_array}
use Rattle.gtp_values.specs.FiniteMap.{Among}
use Rattle.gtp_values.specs.declared.fault.ValueFault.{ValueFault}
use Rattle.gtp_machine.specs.Config as machine
use Rattle.gtp_machine.specs.Config.{Template}
use Rattle.gtp_gateway.specs.declared.config.Timers.{Timers}
use Rattle.gtp_gateway.specs.Settings.{Settings, with_template}
use Rattle.gtp_world.specs.Runs.{AreFacing}
use Rattle.gtp_scenario.specs.Heads.{ServingHead, PacketHead, set_up, template_of, configured, with_this, with_each, with_those, with_templates_at}
use Rattle.gtp_scenario.specs.Json.{is_among}
use Rattle.gtp_scenario.specs.Steps.{◌>>=◌}

among_names : (names : List (List ℕ)) (name : List ℕ) → is_among names name ≡ true → Among name names
among_names [] name is = cc
among_names (known ∷ names) name is = by (bytes_eq name known) refl is (among_names names name)
  where
    by : (b : Bool) → bytes_eq name known ≡ b → (b || is_among names name) ≡ true → (is_among names name ≡ true → Among name names) → (name ≡ known) ⊎ Among name names
    by true same is later = inl ((bytes_eq-Decides name known).0 same)
    by false apart is later = inr (later is)

named_among : (names : List (List ℕ)) (name : List ℕ) → Among name names → is_among names name ≡ true
named_among [] name among = absurd among
named_among (known ∷ names) name (inl same) = ap (λ (b : Bool). b || is_among names name) ((bytes_eq-Decides name known).1 same)
named_among (known ∷ names) name (inr there) = by (bytes_eq name known) (named_among names name there)
  where
    by : (b : Bool) → is_among names name ≡ true → (b || is_among names name) ≡ true
    by true is = refl
    by false is = is

-- what `with_template` answers
pub template_put : (t : Template) (s : Settings) (r : Result Settings ValueFault) → (IsOk r ↔ Among t.access_point s.config.access_points)
    → IfOk r (λ config. config ≡ with_template t s) → result_ok r ≡ configured s t
template_put t s (Ok config) is value = by (is_among s.config.access_points t.access_point) refl
  where
    by : (b : Bool) → is_among s.config.access_points t.access_point ≡ b → Some config ≡ cond b (Some (with_template t s)) None
    by true h = ap Some value
    by false h = (let both : false ≡ true = sym h ∙ named_among s.config.access_points t.access_point (is.0 refl) in absurd cc)
template_put t s (Err fault) is value = by (is_among s.config.access_points t.access_point) refl
  where
    by : (b : Bool) → is_among s.config.access_points t.access_point ≡ b → result_ok {T = Settings} {E = ValueFault} (Err fault) ≡ cond b (Some (with_template t s)) None
    by true h = absurd cc (is.1 (among_names s.config.access_points t.access_point h))
    by false h = refl

-- templates change no address
pub record KeepsEnds (old new : Settings) : Type 0 where
  pub own : new.config.own ≡ old.config.own
  pub peer : new.config.peer ≡ old.config.peer

bound : {A B : Type 0} (o : Option A) (f : A → Option B) (y : B) → (o >>= f) ≡ Some y → (x : A) × (o ≡ Some x) × (f x ≡ Some y)
bound None f y is = cc
bound (Some x) f y is = (x, refl, is)

put_keeps : (s left : Settings) (t : Template) → configured s t ≡ Some left → KeepsEnds s left
put_keeps s left t is = by (is_among s.config.access_points t.access_point) is
  where
    by : (b : Bool) → cond b (Some (with_template t s)) None ≡ Some left → KeepsEnds s left
    by true same =
        let put : with_template t s ≡ left = cc in
        record { own = sym (ap (λ (k : Settings). k.config.own) put); peer = sym (ap (λ (k : Settings). k.config.peer) put) }
    by false same = cc

each_keeps : (items : Items) (s left : Settings) → with_each items s ≡ Some left → KeepsEnds s left
each_keeps no_items s left is =
    let same : s ≡ left = cc in
    record { own = sym (ap (λ (k : Settings). k.config.own) same); peer = sym (ap (λ (k : Settings). k.config.peer) same) }
each_keeps (item d items) s left is =
    let (mid, first, later) = bound (with_this d s) (with_each items) left is in
    let (t, of, put) = bound (template_of d) (configured s) mid first in
    let one = put_keeps s mid t put in
    let rest = each_keeps items mid left later in
    record { own = rest.own ∙ one.own; peer = rest.peer ∙ one.peer }

those_keep : (o : Option Data) (s left : Settings) → with_those o s ≡ Some left → KeepsEnds s left
those_keep None s left is =
    let same : s ≡ left = cc in
    record { own = sym (ap (λ (k : Settings). k.config.own) same); peer = sym (ap (λ (k : Settings). k.config.peer) same) }
those_keep (Some d) s left is =
    let (items, list, each) = bound (as_array d) (λ items. with_each items s) left is in
    each_keeps items s left each

pub templates_keep : (d : Data) (s left : Settings) → with_templates_at d s ≡ Some left → KeepsEnds s left
unfolding with_templates_at
templates_keep d s left is = those_keep (get (codes "templates") d) s left is

-- both gateways of a scenario are each other's peers
pub faces : (timers : Timers) (serving : ServingHead) (packet : PacketHead) (left : Settings) → KeepsEnds (set_up timers serving packet).packet left
    → AreFacing (set_up timers serving packet).serving left
faces timers serving packet left keeps = record {
  control = sym (ap (λ (a : machine.Addresses). a.control) keeps.peer);
  user = sym (ap (λ (a : machine.Addresses). a.user) keeps.peer);
  control_back = ap (λ (a : machine.Addresses). a.control) keeps.own;
  user_back = ap (λ (a : machine.Addresses). a.user) keeps.own;
}
