-- A tick, as the machine's moves.
use Rattle.std.proofs.Common.{◌≡◌, ℕ, suc, ◌+◌, ◌<◌, ◌≤◌, List, [], ◌∷◌, ◌++◌, length, map, Option, Some, None, refl, sym, ◌∙◌, ap, subst, append_assoc, arith}
use Rattle.std.specs.Prelude.{filter, All, Result, Ok, Err, IfOk, OnErr}
use Rattle.std.proofs.lemmas.Grind.{merely}
use mathlib.Core.Logic.{∥∥₁_elim, ∥∥₁_prop}
use Rattle.std.specs.List.{AllByRecursion, filter_map, cons_option}
use Rattle.std.proofs.lemmas.List.{length-map}
use Rattle.std.proofs.lemmas.List.Elements.{recursion_from_All}
use Rattle.gtp_reliable.specs.Waiting.{Waiting, sent_again, sent_again_by, given_up, given_up_by}
use Rattle.gtp_reliable.specs.Waiting as reliable
use Rattle.gtp_reliable.proofs.Requests.{waits}
use Rattle.gtp_reliable.specs.Held.{AreApart}
use Rattle.gtp_reliable.specs.Pending.{AreDistinct}
use Rattle.gtp_reliable.specs.declared.waiting.NextTick.{NextTick}
use Rattle.gtp_machine.specs.Input.{Resend, Give_up, Forget, Out, nothing}
use Rattle.gtp_machine.specs.Node.{Held, Node}
use Rattle.gtp_machine.specs.Sound.{IsSound}
use Rattle.gtp_machine.specs.Tick.{TickStep, Ticks}
use Rattle.gtp_machine.proofs.Sound.Ticks.{tick_stays_sound}
use Rattle.gtp_gateway.specs.declared.command.purpose.Purpose.{Purpose}
use Rattle.gtp_gateway.specs.Parts.{pending_in, held_of}
use Rattle.gtp_gateway.specs.declared.tick.Ticked.{Ticked}
use Rattle.gtp_gateway.specs.GatewayState.{GatewayState, IsSoundState}
use Rattle.gtp_gateway.specs.Tick.{due_in, tick_later, GivesUpEach, IsTicked}
use Rattle.gtp_gateway.specs.user.Receive.{RequestsWaitOn}
use Rattle.gtp_gateway.proofs.Forgetting.{gone_in, left_in, forgot, forgetting}
use Rattle.gtp_gateway.proofs.GivenUp.{are_moves, giving_up, pending_stays}
use Rattle.gtp_gateway.proofs.Resending.{again_in, sending_again, resending}

-- what the moves give, where these numbers are told
abbrev pub given_by : GatewayState → List ℕ → Out
given_by s told =
    record nothing {
      sent = map (sending_again s.node.config) (again_in s.queues.timers.t3 s.queues.timers.n3 s.queues.waiting) ++ [];
      gave_up = told ++ [];
      forgot = gone_in s.queues.timers.hold s.queues.held;
    }

-- the node after the give-ups, once the tick has been counted
abbrev pub node_later : GatewayState → Node
node_later mid = record mid.node { pending = pending_in (tick_later mid.queues).waiting; held = map held_of (tick_later mid.queues).held }

module _ (old mid : GatewayState) (told : List ℕ) (pending : old.node.pending ≡ pending_in old.queues.waiting)
    (keeps : mid.node.held ≡ map held_of mid.queues.held) (distinct : AreDistinct old.queues.waiting) (apart : AreApart old.queues.held)
    (waits : RequestsWaitOn old mid) (each : GivesUpEach old.node (due_in old.queues).give_ups told mid.node) where
  later : node_later mid ≡ record mid.node { held = left_in old.queues.timers.hold old.queues.held }
  later =
      let t3 = old.queues.timers.t3 in
      let n3 = old.queues.timers.n3 in
      let mid_pending : mid.node.pending ≡ pending_in (filter waits.stays old.queues.waiting) = waits.pending ∙ ap (λ t. pending_in t.waiting) waits.queues in
      let now : pending_in (tick_later mid.queues).waiting ≡ mid.node.pending =
      ap (λ t. pending_in (tick_later t).waiting) waits.queues
      ∙ (sym (pending_stays t3 n3 old.queues.waiting distinct waits.stays old.node told mid.node each mid_pending) ∙ sym mid_pending) in
      let left : map held_of (tick_later mid.queues).held ≡ left_in old.queues.timers.hold old.queues.held = ap (λ t. map held_of (tick_later t).held) waits.queues in
      λ i. record mid.node { pending = now i; held = left i }

  pub ticks : (new : Node) → new ≡ node_later mid → Ticks old.node (due_in old.queues) (given_by old told) new
  ticks new becomes =
      let t3 = old.queues.timers.t3 in
      let n3 = old.queues.timers.n3 in
      let hold = old.queues.timers.hold in
      let forgets = map Forget (gone_in hold old.queues.held) in
      let last : Node = record mid.node { held = left_in hold old.queues.held } in
      let same : mid.node.held ≡ map held_of old.queues.held = keeps ∙ ap (λ t. map held_of t.held) waits.queues in
      let forgetting_step =
      subst (λ (l : List Held). TickStep (record mid.node { held = l }) forgets (forgot (gone_in hold old.queues.held)) last) (sym same)
      (forgetting mid.node hold old.queues.held apart) in
      let giving_step = giving_up (due_in old.queues).give_ups old.node told mid.node forgets (forgot (gone_in hold old.queues.held)) last each forgetting_step in
      let step =
      resending old.node t3 n3 old.queues.waiting (map Give_up told ++ forgets)
      (record (forgot (gone_in hold old.queues.held)) { gave_up = told ++ [] }) last pending distinct giving_step in
      record {
        moves = map Resend (due_in old.queues).resends ++ (map Give_up told ++ forgets);
        are = record {
          given_up = map Give_up told;
          gives_up = are_moves (due_in old.queues).give_ups old.node told mid.node each;
          all = sym (append_assoc (map Resend (due_in old.queues).resends) (map Give_up told) forgets);
        };
        step = subst (λ (n : Node). TickStep old.node (map Resend (due_in old.queues).resends ++ (map Give_up told ++ forgets)) (given_by old told) n) (sym (becomes ∙ later)) step;
      }

-- no more is done than there is
pub fewer : {X Y : Type 0} (h : X → Option Y) (xs : List X) → length (filter_map h xs) ≤ length xs
fewer h [] = omega arith
fewer {Y = Y} h (x ∷ xs) = by (h x) (filter_map h xs) (fewer h xs)
  where
    by : (o : Option Y) (ys : List Y) → length ys ≤ length xs → length (cons_option o ys) ≤ suc (length xs)
    by None ys few = omega (arith, few)
    by (Some y) ys few = omega (arith, few)

pub few_by : {X Y Z : Type 0} (f : X → Y) (xs : List X) (h : Z → Option Y) (zs : List Z) (most : ℕ) → map f xs ≡ filter_map h zs → length zs ≤ most → length xs ≤ most
few_by f xs h zs most same few = omega (arith, length-map xs f, ap length same, fewer h zs, few)

pub few_sent : {X Y Z W : Type 0} (f : X → Y) (g : W → Y) (xs : List X) (h : Z → Option W) (zs : List Z) (most : ℕ) → map f xs ≡ map g (filter_map h zs) → length zs ≤ most → length xs ≤ most
few_sent f g xs h zs most same few = omega (arith, length-map xs f, length-map (filter_map h zs) g, ap length same, fewer h zs, few)

-- ---- where nothing is due

no_items : {X Y : Type 0} (f : X → Y) (xs : List X) → map f xs ≡ [] → xs ≡ []
no_items f [] none = refl
no_items f (x ∷ xs) none = absurd cc

-- where each that waits on gives nothing, all give nothing
none_given : {Y : Type 0} (h : Waiting Purpose → Option Y) (t3 : ℕ) (ws : List (Waiting Purpose)) → ((w : Waiting Purpose) → w.waited + 1 < t3 → h w ≡ None)
    → AllByRecursion (λ (w : Waiting Purpose). w.waited + 1 < t3) ws → filter_map h ws ≡ []
none_given h t3 [] none idle = refl
none_given h t3 (w ∷ ws) none idle = ap (λ (o : Option _). cons_option o (filter_map h ws)) (none w idle.0) ∙ none_given h t3 ws none idle.1

pub none_resent : {X : Type 0} (f : X → reliable.Message) (xs : List X) (t3 n3 : ℕ) (ws : List (Waiting Purpose))
    → All (λ (w : Waiting Purpose). w.waited + 1 < t3) ws → map f xs ≡ filter_map (sent_again t3 n3) ws → xs ≡ []
none_resent f xs t3 n3 ws idle same =
    no_items f xs (same ∙ none_given (sent_again t3 n3) t3 ws (λ w idle. ap (λ (t : NextTick). sent_again_by t w) (waits t3 n3 w idle))
    (recursion_from_All (λ (w : Waiting Purpose). w.waited + 1 < t3) ws idle))

pub none_given_up : (t3 n3 : ℕ) (ws : List (Waiting Purpose)) → All (λ (w : Waiting Purpose). w.waited + 1 < t3) ws → filter_map (given_up t3 n3) ws ≡ []
none_given_up t3 n3 ws idle =
    none_given (given_up t3 n3) t3 ws (λ w idle. ap (λ (t : NextTick). given_up_by t w) (waits t3 n3 w idle))
    (recursion_from_All (λ (w : Waiting Purpose). w.waited + 1 < t3) ws idle)

-- what a tick leaves is sound: it was a tick of the machine, or changed nothing
pub tick_sound : {E : Type 0} (r : Result Ticked E) (old new : GatewayState) → IfOk r (λ ticked. IsTicked old ticked new) → OnErr r (new ≡ old) → IsSoundState old → IsSoundState new
tick_sound (Ok ticked) old new is same whole =
    ∥∥₁_elim whole ∥∥₁_prop (λ before. merely (subst (λ r. IsSound r new.node) (sym is.role) (tick_stays_sound old.role old.node is.ticks.moves is.out new.node before is.ticks.step)))
tick_sound (Err fault) old new is same whole = subst IsSoundState (sym same) whole
