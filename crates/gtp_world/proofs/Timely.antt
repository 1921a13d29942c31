-- Where no delivery was late, none was of any request.
use Rattle.std.proofs.Common.{◌≡◌, inl, inr, ℕ, List, [], ◌∷◌, refl, sym, ◌∙◌, subst}
use Rattle.gtp_values.specs.FiniteMap.{Among}
use Rattle.gtp_machine.specs.Config.{Addresses, Config}
use Rattle.gtp_machine.specs.Input.{Input, Effect}
use Rattle.gtp_machine.specs.Message.{Message}
use Rattle.gtp_machine.specs.Node.{Arrival}
use Rattle.gtp_machine.specs.Step.{Done, tick_steps}
use Rattle.gtp_machine.specs.Tick.{ticked}
use Rattle.gtp_machine.specs.declared.role.Role.{Role}
use Rattle.gtp_machine.specs.declared.role.Role.TheVariants.{Serving, Packet}
use Rattle.gtp_machine.specs.World.{World, Event, Does, Tick, Deliver, Cut, Restart, Ticked, Restarted, No_such_datagram, Cut_too_long, Restarts_used}
use Rattle.gtp_machine.specs.World.{Note, note_of, note_of_both, quiet_note, next_counter, Happens, ComesTo, Delivers, Moves, MovesTwice, TicksOn}
use Rattle.gtp_machine.specs.World.{Run, start, side_of, moved, noted, logged, marked_late, restarted, with_side, with_steps}
use Rattle.gtp_machine.proofs.Basics.Facts.{one_more}

-- where no delivery was late, none is kept as late
abbrev pub NoneLate : World → Type 0
NoneLate w = w.late ≡ 0 → (role : Role) (a : Arrival) → Among a (side_of w role).late_requests → ⊥

stays : (old new : World) → new.late ≡ old.late → ((role : Role) → (side_of new role).late_requests ≡ (side_of old role).late_requests) → NoneLate old → NoneLate new
stays old new late same timely none role a has = timely (sym late ∙ none) role a (subst (λ l. Among a l) (same role) has)

-- the world after a step of a gateway
abbrev after : World → Role → Effect → Note → List Done → World
after w role e note steps = logged (noted (moved w role e) note) role steps

late_after : (w : World) (role : Role) (e : Effect) (note : Note) (steps : List Done) → (after w role e note steps).late ≡ w.late
late_after w Serving e note steps = refl
late_after w Packet e note steps = refl

came_after : (w : World) (role : Role) (e : Effect) (note : Note) (steps : List Done) (r : Role) → (side_of (after w role e note steps) r).late_requests ≡ (side_of w r).late_requests
came_after w Serving e note steps Serving = refl
came_after w Serving e note steps Packet = refl
came_after w Packet e note steps Serving = refl
came_after w Packet e note steps Packet = refl

after_timely : (w : World) (role : Role) (e : Effect) (note : Note) (steps : List Done) → NoneLate w → NoneLate (after w role e note steps)
after_timely w role e note steps timely = stays w (after w role e note steps) (late_after w role e note steps) (came_after w role e note steps) timely

moves_timely : (old : World) (role : Role) (input : Input) (new : World) → NoneLate old → Moves old role input new → NoneLate new
moves_timely old role input new timely m =
    let steps : List Done = record { before = (side_of old role).node; input = input; effect = m.effect } ∷ [] in
    subst NoneLate (sym m.becomes) (after_timely old role m.effect (note_of m.effect.outcome m.effect.out) steps timely)

-- two steps leave as many late deliveries as one
came_moved : (w : World) (role : Role) (e : Effect) (r : Role) → (side_of (moved w role e) r).late_requests ≡ (side_of w r).late_requests
came_moved w Serving e Serving = refl
came_moved w Serving e Packet = refl
came_moved w Packet e Serving = refl
came_moved w Packet e Packet = refl

moved_timely : (w : World) (role : Role) (e : Effect) → NoneLate w → NoneLate (moved w role e)
moved_timely w Serving e timely = stays w (moved w Serving e) refl (came_moved w Serving e) timely
moved_timely w Packet e timely = stays w (moved w Packet e) refl (came_moved w Packet e) timely

moves_twice_timely : (old : World) (role : Role) (first second : Input) (new : World) → NoneLate old → MovesTwice old role first second new → NoneLate new
moves_twice_timely old role first second new timely m =
    subst NoneLate (sym m.becomes)
    (after_timely (moved old role m.effect) role m.next (note_of_both m.effect m.next) _ (moved_timely old role m.effect timely))

ticks_timely : (old : World) (role : Role) (new : World) → NoneLate old → TicksOn old role new → NoneLate new
ticks_timely old role new timely t =
    let steps = tick_steps (side_of old role).node t.moves t.out t.after t.tick in
    subst NoneLate (sym t.becomes) (after_timely old role (ticked t.out t.after) (note_of Ticked t.out) steps timely)

same_noted : (w : World) (note : Note) (r : Role) → (side_of (noted w note) r).late_requests ≡ (side_of w r).late_requests
same_noted w note Serving = refl
same_noted w note Packet = refl

noted_timely : (w : World) (note : Note) → NoneLate w → NoneLate (noted w note)
noted_timely w note timely = stays w (noted w note) refl (same_noted w note) timely

-- one was late
late_timely : (w : World) (role : Role) (a : Arrival) → NoneLate (marked_late w role a)
late_timely w role a none = absurd (one_more w.late none)

restarted_timely : (w : World) (role : Role) (note : Note) → NoneLate w → NoneLate (with_steps (noted (with_side w role (restarted (side_of w role))) note) role [])
restarted_timely w Serving note timely none Serving a has = absurd has
restarted_timely w Serving note timely none Packet a has = timely none Packet a has
restarted_timely w Packet note timely none Serving a has = timely none Serving a has
restarted_timely w Packet note timely none Packet a has = absurd has

comes_timely : (old : World) (role : Role) (from : Addresses) (datagram : List Message) (new : World) → NoneLate old → ComesTo old role from datagram new → NoneLate new
comes_timely old role from datagram new timely (inl whole) = moves_timely old role _ new timely whole.1
comes_timely old role from datagram new timely (inr pair) = moves_twice_timely old role _ _ new timely pair.1

delivers_timely : (old : World) (sender : Role) (datagram : List Message) (new : World) → NoneLate old → Delivers old sender datagram new → NoneLate new
delivers_timely old sender datagram new timely (inl on_time) = comes_timely old _ _ datagram new timely on_time.1
delivers_timely old sender datagram new timely (inr late) = comes_timely _ _ _ datagram new (late_timely old _ _) late.1

happens_timely : (old : World) (event : Event) (new : World) → NoneLate old → Happens old event new → NoneLate new
happens_timely old (Does role command) new timely m = moves_timely old role _ new timely m
happens_timely old (Tick role) new timely t = ticks_timely old role new timely t
happens_timely old (Deliver number) new timely (inl none) = subst NoneLate (sym none.1) (noted_timely old (quiet_note No_such_datagram) timely)
happens_timely old (Deliver number) new timely (inr (found, d)) = delivers_timely old found.sent.role found.sent.what new timely d
happens_timely old (Cut number count) new timely (inl none) = subst NoneLate (sym none.1) (noted_timely old (quiet_note No_such_datagram) timely)
happens_timely old (Cut number count) new timely (inr (found, inl long)) = subst NoneLate (sym long.1) (noted_timely old (quiet_note Cut_too_long) timely)
happens_timely old (Cut number count) new timely (inr (found, inr (short, c))) = moves_timely old _ _ new timely c
happens_timely old (Restart role) new timely (inl used) = subst NoneLate (sym used.1) (noted_timely old (quiet_note Restarts_used) timely)
happens_timely old (Restart role) new timely (inr (few, is)) = subst NoneLate (sym is) (restarted_timely old role (quiet_note (Restarted (next_counter (side_of old role)))) timely)

runs_timely : (old : World) (events : List Event) (new : World) → NoneLate old → Run old events new → NoneLate new
runs_timely old [] new timely is = subst NoneLate (sym is) timely
runs_timely old (event ∷ events) new timely r = runs_timely r.0 events new (happens_timely old event r.0 timely r.1) r.2

-- in each run
pub always_timely : (serving packet : Config) (serving_counter packet_counter : ℕ) (events : List Event) (w : World) → Run (start serving packet serving_counter packet_counter) events w → NoneLate w
always_timely serving packet serving_counter packet_counter events w r = runs_timely (start serving packet serving_counter packet_counter) events w none r
  where
    none : NoneLate (start serving packet serving_counter packet_counter)
    none is Serving a has = absurd has
    none is Packet a has = absurd has
