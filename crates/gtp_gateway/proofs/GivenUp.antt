-- Requests that a tick gives up, as the machine's moves.
use Rattle.std.proofs.Common.{◌≡◌, inl, inr, ℕ, Bool, true, false, cond, List, [], ◌∷◌, ◌++◌, map, Option, Some, None, refl, sym, ◌∙◌, ap, subst}
use Rattle.std.specs.Prelude.{filter, not, ◌||◌, ◌&&◌, ◌==◌}
use Rattle.std.specs.List.{AllByRecursion, filter_map, cons_option}
use Rattle.std.proofs.lemmas.List.Elements.{All-from_recursion, recursion_from_All}
use Rattle.std.specs.FinMap.{get, from_entries}
use Rattle.std.specs.Ordering.{nat_cmp}
use Rattle.gtp_values.specs.declared.address.Ip.{Ip}
use Rattle.gtp_values.specs.FiniteMap.{Among}
use Rattle.gtp_reliable.specs.declared.waiting.NextTick.{NextTick}
use Rattle.gtp_reliable.specs.declared.waiting.NextTick.TheVariants.{GivenUp}
use Rattle.gtp_reliable.proofs.Requests.{distinct_filter}
use Rattle.gtp_reliable.proofs.Told.{filter_twice}
use Rattle.gtp_reliable.specs.Pending.{AreDistinct}
use Rattle.gtp_reliable.specs.Waiting.{Waiting, next_tick, after_tick, after_tick_by, given_up, given_up_by}
use Rattle.gtp_machine.specs.Input.{Ticked, Move, Give_up, Out, nothing}
use Rattle.gtp_machine.specs.Node.{PendingRequest, Node}
use Rattle.gtp_machine.specs.Removal.{on, finished_about, finished}
use Rattle.gtp_machine.specs.Tick.{TickStep, AreGiveUps}
use Rattle.gtp_machine.proofs.Basics.FiniteMaps.{found-kept, found-remove}
use Rattle.gtp_machine.proofs.Changes.Shrinking.{Shrunk-finished}
use Rattle.gtp_values.proofs.Tests.{itself}
use Rattle.gtp_machine.proofs.Basics.Facts.{one_value}
use Rattle.gtp_gateway.specs.declared.command.purpose.Purpose.{Purpose}
use Rattle.gtp_gateway.specs.Parts.{pending_of, pending_in}
use Rattle.gtp_gateway.specs.messages.Spelled.{IsAsked, AreAsked}
use Rattle.gtp_gateway.specs.GatewayState.{GatewayState}
use Rattle.gtp_gateway.specs.Tick.{GivesUpOne, GivesUpEach}
use Rattle.gtp_gateway.specs.user.Receive.{RequestsWaitOn}
use Rattle.gtp_gateway.proofs.UserRows.{all_wait}
use Rattle.gtp_gateway.proofs.Requests.{stands_there}

-- ---- the moves

pub are_moves : (numbers : List ℕ) (old : Node) (told : List ℕ) (new : Node) → GivesUpEach old numbers told new → AreGiveUps old numbers (map Give_up told)
are_moves [] old told new each = ap (map Give_up) each.0
are_moves (number ∷ numbers) old told new (inl (absent, each)) = inl (absent, are_moves numbers old told new each)
are_moves (number ∷ numbers) old told new (inr (at, (others, each, is))) = inr (at, (map Give_up others, are_moves numbers (finished old number at.pending) others new each, ap (map Give_up) is))

pub giving_up : (numbers : List ℕ) (old : Node) (told : List ℕ) (new : Node) (moves : List Move) (rest : Out) (last : Node) → GivesUpEach old numbers told new → TickStep new moves rest last
    → TickStep old (map Give_up told ++ moves) (record rest { gave_up = told ++ rest.gave_up }) last
giving_up [] old told new moves rest last each tick =
    subst (λ (n : Node). TickStep n (map Give_up told ++ moves) (record rest { gave_up = told ++ rest.gave_up }) last) each.1
    (subst (λ (t : List ℕ). TickStep new (map Give_up t ++ moves) (record rest { gave_up = t ++ rest.gave_up }) last) (sym each.0) tick)
giving_up (number ∷ numbers) old told new moves rest last (inl (absent, each)) tick = giving_up numbers old told new moves rest last each tick
giving_up (number ∷ numbers) old told new moves rest last (inr (at, (others, each, is))) tick =
    subst (λ (t : List ℕ). TickStep old (map Give_up t ++ moves) (record rest { gave_up = t ++ rest.gave_up }) last) (sym is) (
      record { out = record nothing { gave_up = number ∷ [] }; outcome = Ticked; node = finished old number at.pending },
      record rest { gave_up = others ++ rest.gave_up },
      record { at = at; gives = refl },
      giving_up numbers (finished old number at.pending) others new moves rest last each tick,
      refl,
    )

-- ---- a run of give-ups, one by one

-- no more
pub ends : (old : Node) → GivesUpEach old [] [] old
ends old = (refl, refl)

-- the first of them, and then the others
pub goes_on : (number : ℕ) (numbers : List ℕ) (b : Bool) (old mid : Node) (others : List ℕ) (new : Node) → GivesUpOne old number b mid
    → GivesUpEach mid numbers others new → GivesUpEach old (number ∷ numbers) (cond b (number ∷ []) [] ++ others) new
goes_on number numbers true old mid others new (at, is) each = inr (at, (others, subst (λ (n : Node). GivesUpEach n numbers others new) is each, refl))
goes_on number numbers false old mid others new (absent, is) each = inl (absent, subst (λ (n : Node). GivesUpEach n numbers others new) is each)

-- ---- what was due to be given up waits no more

not_first : (a b : Bool) → a ≡ true → not (a || b) ≡ true → ⊥
not_first true b is h = cc
not_first false b is h = cc

not_second : (a b : Bool) → b ≡ true → not (a || b) ≡ true → ⊥
not_second false true is h = cc
not_second a b is h = cc

gone_about : (node : Node) (number : ℕ) (session bearer : Option ℕ) (p : PendingRequest) → p.session ≡ session → p.bearer ≡ bearer
    → get node.pending number ≡ Some p → (q : PendingRequest) → get (finished_about node number session bearer).pending number ≡ Some q → ⊥
gone_about node number session (Some t) p s b waits q still =
    let found = found-kept (λ n (x : PendingRequest). not (on (λ k. false) x.session || on (λ k. k == t) x.bearer)) node.pending number q still in
    let same = one_value (get node.pending number) q p found.1 waits in
    not_second (on (λ k. false) q.session) (on (λ k. k == t) q.bearer) (ap (on (λ k. k == t)) (ap (λ (x : PendingRequest). x.bearer) same ∙ b) ∙ itself t) found.0
gone_about node number (Some t) None p s b waits q still =
    let found = found-kept (λ n (x : PendingRequest). not (on (λ k. k == t) x.session || on (λ k. false) x.bearer)) node.pending number q still in
    let same = one_value (get node.pending number) q p found.1 waits in
    not_first (on (λ k. k == t) q.session) (on (λ k. false) q.bearer) (ap (on (λ k. k == t)) (ap (λ (x : PendingRequest). x.session) same ∙ s) ∙ itself t) found.0
gone_about node number None None p s b waits q still = (found-remove node.pending number number q still).0 refl

-- what waits after the give-ups waited before
still_waits : (numbers : List ℕ) (old : Node) (told : List ℕ) (new : Node) → GivesUpEach old numbers told new → (n : ℕ) (p : PendingRequest) → get new.pending n ≡ Some p → get old.pending n ≡ Some p
still_waits [] old told new each n p waits = ap (λ (x : Node). get x.pending n) (sym each.1) ∙ waits
still_waits (number ∷ numbers) old told new (inl (absent, each)) n p waits = still_waits numbers old told new each n p waits
still_waits (number ∷ numbers) old told new (inr (at, (others, each, is))) n p waits =
    (Shrunk-finished old number at.pending.session at.pending.bearer).pending n p
    (still_waits numbers (finished old number at.pending) others new each n p waits)

pub none_waits : (numbers : List ℕ) (old : Node) (told : List ℕ) (new : Node) → GivesUpEach old numbers told new → (n : ℕ) → Among n numbers → (p : PendingRequest) → get new.pending n ≡ Some p → ⊥
none_waits [] old told new each n among p waits = among
none_waits (number ∷ numbers) old told new (inl (absent, each)) n (inl is) p waits =
    absent (record { pending = p; waits = still_waits numbers old told new each number p (ap (λ (k : ℕ). get new.pending k) (sym is) ∙ waits) })
none_waits (number ∷ numbers) old told new (inl (absent, each)) n (inr there) p waits = none_waits numbers old told new each n there p waits
none_waits (number ∷ numbers) old told new (inr (at, (others, each, told_is))) n (inl is) p waits =
    gone_about old number at.pending.session at.pending.bearer at.pending refl refl at.waits p
    (still_waits numbers (finished old number at.pending) others new each number p (ap (λ (k : ℕ). get new.pending k) (sym is) ∙ waits))
none_waits (number ∷ numbers) old told new (inr (at, (others, each, told_is))) n (inr there) p waits = none_waits numbers (finished old number at.pending) others new each n there p waits

-- ---- the requests that are left

filtered : (stays : Waiting Purpose → Bool) (ws : List (Waiting Purpose)) (w : Waiting Purpose) → Among w (filter stays ws) → Among w ws
filtered stays [] w among = among
filtered stays (v ∷ ws) w among = by (stays v) (filtered stays ws w) among
  where
    by : (b : Bool) → (Among w (filter stays ws) → Among w ws) → Among w (cond b (v ∷ filter stays ws) (filter stays ws)) → Among w (v ∷ ws)
    by true later (inl is) = inl is
    by true later (inr there) = inr (later there)
    by false later there = inr (later there)

-- the numbers that are due to be given up
abbrev pub give_ups_in : ℕ → ℕ → List (Waiting Purpose) → List ℕ
give_ups_in t3 n3 ws = map (λ (g : ℕ × Purpose). g.0) (filter_map (given_up t3 n3) ws)

is_due : (t3 n3 : ℕ) (ws : List (Waiting Purpose)) (w : Waiting Purpose) → Among w ws → next_tick t3 n3 w ≡ GivenUp → Among w.seq (give_ups_in t3 n3 ws)
is_due t3 n3 [] w among up = among
is_due t3 n3 (v ∷ ws) w (inl is) up =
    subst (λ (t : NextTick). Among w.seq (map (λ (g : ℕ × Purpose). g.0) (cons_option (given_up_by t v) (filter_map (given_up t3 n3) ws))))
    (sym (ap (next_tick t3 n3) (sym is) ∙ up)) (inl (ap (λ (x : Waiting Purpose). x.seq) is))
is_due t3 n3 (v ∷ ws) w (inr there) up = by (next_tick t3 n3 v) (is_due t3 n3 ws w there up)
  where
    by : (t : NextTick) → Among w.seq (give_ups_in t3 n3 ws) → Among w.seq (map (λ (g : ℕ × Purpose). g.0) (cons_option (given_up_by t v) (filter_map (given_up t3 n3) ws)))
    by GivenUp later = inr later
    by t later = later

-- nothing more is given up of what waits on
none_due : (t3 n3 : ℕ) (ws : List (Waiting Purpose)) → AreDistinct ws → (stays : Waiting Purpose → Bool) (old : Node) (told : List ℕ) (new : Node)
    → GivesUpEach old (give_ups_in t3 n3 ws) told new → new.pending ≡ pending_in (filter stays ws) → (w : Waiting Purpose) → Among w (filter stays ws)
    → next_tick t3 n3 w ≡ GivenUp → ⊥
none_due t3 n3 ws distinct stays old told new each pending w among up =
    none_waits (give_ups_in t3 n3 ws) old told new each w.seq (is_due t3 n3 ws w (filtered stays ws w among) up) (pending_of w).1
    ((λ i. get (pending i) w.seq) ∙ stands_there (filter stays ws) w (distinct_filter stays ws distinct) among)

same_pending : (t3 n3 : ℕ) (ws : List (Waiting Purpose)) → ((w : Waiting Purpose) → Among w ws → next_tick t3 n3 w ≡ GivenUp → ⊥)
    → map pending_of ws ≡ map pending_of (filter_map (after_tick t3 n3) ws)
same_pending t3 n3 [] none = refl
same_pending t3 n3 (w ∷ ws) none = by (next_tick t3 n3 w) refl (same_pending t3 n3 ws (λ v among. none v (inr among)))
  where
    by : (t : NextTick) → next_tick t3 n3 w ≡ t → map pending_of ws ≡ map pending_of (filter_map (after_tick t3 n3) ws)
        → pending_of w ∷ map pending_of ws ≡ map pending_of (cons_option (after_tick_by t w) (filter_map (after_tick t3 n3) ws))
    by GivenUp is later = absurd (none w (inl refl) is)
    by t is later = λ i. pending_of w ∷ later i

-- what waits on is pending as it was, once the tick has been counted
pub pending_stays : (t3 n3 : ℕ) (ws : List (Waiting Purpose)) → AreDistinct ws → (stays : Waiting Purpose → Bool) (old : Node) (told : List ℕ) (new : Node)
    → GivesUpEach old (give_ups_in t3 n3 ws) told new → new.pending ≡ pending_in (filter stays ws)
    → pending_in (filter stays ws) ≡ pending_in (filter_map (after_tick t3 n3) (filter stays ws))
pending_stays t3 n3 ws distinct stays old told new each pending =
    ap (λ es. from_entries {R = nat_cmp} es) (same_pending t3 n3 (filter stays ws) (none_due t3 n3 ws distinct stays old told new each pending))

asked_each : (peer : Ip) (t3 n3 : ℕ) (ws : List (Waiting Purpose)) → AllByRecursion (IsAsked peer) ws → AllByRecursion (IsAsked peer) (filter_map (after_tick t3 n3) ws)
asked_each peer t3 n3 [] each = each
asked_each peer t3 n3 (w ∷ ws) each = by (next_tick t3 n3 w) (asked_each peer t3 n3 ws each.1)
  where
    by : (t : NextTick) → AllByRecursion (IsAsked peer) (filter_map (after_tick t3 n3) ws) → AllByRecursion (IsAsked peer) (cons_option (after_tick_by t w) (filter_map (after_tick t3 n3) ws))
    by GivenUp later = later
    by t later = (record { to = each.0.to; octets = each.0.octets; purpose = each.0.purpose }, later)

-- what waits on is kept as it is spelled
pub asked_on : (peer : Ip) (t3 n3 : ℕ) (ws : List (Waiting Purpose)) → AreAsked peer ws → AreAsked peer (filter_map (after_tick t3 n3) ws)
asked_on peer t3 n3 ws each = All-from_recursion (IsAsked peer) _ (asked_each peer t3 n3 ws (recursion_from_All (IsAsked peer) ws each))

-- ---- what waits on, through one change and then another

pub wait_on : (a b c : GatewayState) → RequestsWaitOn a b → RequestsWaitOn b c → RequestsWaitOn a c
wait_on a b c first second =
    record {
      stays = λ w. first.stays w && second.stays w;
      queues =
          second.queues ∙ ((λ i. record (first.queues i) { waiting = filter second.stays (first.queues i).waiting })
          ∙ (λ i. record a.queues { waiting = filter_twice second.stays first.stays a.queues.waiting i }));
      pending = second.pending;
    }

-- which requests wait on, where only some are given up
pub ruleset waiting = (all_wait, wait_on)
