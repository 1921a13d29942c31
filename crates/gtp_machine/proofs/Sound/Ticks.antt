-- A tick leaves a sound gateway sound, and what is due can be done.
use Rattle.std.proofs.Common.{◌≡◌, inl, inr, ⊎_elim, ℕ, List, [], ◌∷◌, ◌++◌, map, refl, sym, ◌∙◌, ap, subst, append_assoc}
use Rattle.gtp_values.specs.FiniteMap.{Among}
use Rattle.gtp_machine.specs.Config.{control_end}
use Rattle.gtp_machine.specs.Node.{Arrival, Held, Node}
use Rattle.gtp_machine.specs.Input.{Move, Resend, Give_up, Forget, Moves_on, Effect, Ticked, nothing, says, Out}
use Rattle.gtp_machine.specs.Choice.{HasPending}
use Rattle.gtp_machine.specs.Removal.{finished}
use Rattle.gtp_machine.specs.Move.{MoveStep}
use Rattle.gtp_machine.specs.Tick.{joined, TickStep, ticked, AreGiveUps}
use Rattle.gtp_machine.specs.Sound.{IsSound, IsNotEmpty, CanMove, AreDistinct, TickStaysSound, AlwaysTicks, GivesUpDue}
use Rattle.gtp_machine.proofs.Changes.Forgetting.{leaves}
use Rattle.gtp_machine.proofs.Changes.Shrinking.{Shrunk-finished}
use Rattle.gtp_machine.proofs.Sound.Rows.{stays_sound}
use Rattle.gtp_machine.proofs.Sound.Steps.{some_left}

pub tick_stays_sound : TickStaysSound
tick_stays_sound role old [] out new sound tick = subst (λ n. IsSound role n) (sym tick.1) sound
tick_stays_sound role old (move ∷ moves) out new sound (e, rest, step, others, is) = tick_stays_sound role e.node moves rest new (stays_sound role old (Moves_on move) e sound tt step) others

-- these moves can be made
abbrev CanGo : Node → List Move → Type 0
CanGo node moves = IsNotEmpty (λ (e : Effect). TickStep node moves e.out e.node)

-- one move, and then others
goes : (node : Node) (move : Move) (moves : List Move) (e : Effect) → MoveStep node move e → CanGo e.node moves → CanGo node (move ∷ moves)
goes node move moves e step rest none = rest (λ f later. none (ticked (joined e.out f.out) f.node) (e, f.out, step, later, refl))

resends : (numbers : List ℕ) (node : Node) (moves : List Move) → ((number : ℕ) → Among number numbers → HasPending node number) → CanGo node moves → CanGo node (map Resend numbers ++ moves)
resends [] node moves waits rest = rest
resends (number ∷ numbers) node moves waits rest =
    let at = waits number (inl refl) in
    goes node (Resend number) (map Resend numbers ++ moves)
    (record { out = says (control_end node.config.peer.control) at.pending.request; outcome = Ticked; node = node })
    (record { at = at; gives = refl })
    (resends numbers node moves (λ k among. waits k (inr among)) rest)

-- each in turn that still waits is given up, and what is held stays
gives_up : (numbers : List ℕ) (node : Node) (moves : List Move) → ((later : Node) → later.held ≡ node.held → CanGo later moves)
    → IsNotEmpty (λ (given_up : List Move). AreGiveUps node numbers given_up × CanGo node (given_up ++ moves))
gives_up [] node moves rest none = none [] (refl, rest node refl)
gives_up (number ∷ numbers) node moves rest none = gives_up numbers node moves rest (λ g found. none g (inl (absent (λ later back. gives_up numbers later moves back), found.0), found.1))
  where
    absent : ((later : Node) → ((last : Node) → last.held ≡ later.held → CanGo last moves)
        → IsNotEmpty (λ (given_up : List Move). AreGiveUps later numbers given_up × CanGo later (given_up ++ moves))) → HasPending node number → ⊥
    absent others at = others (finished node number at.pending) (λ later same. rest later (same ∙ (Shrunk-finished node number at.pending.session at.pending.bearer).held))
        (λ g found. none (Give_up number ∷ g) (
          inr (at, (g, found.0, refl)),
          goes node (Give_up number) (g ++ moves)
              (record { out = record nothing { gave_up = number ∷ [] }; outcome = Ticked; node = finished node number at.pending })
              (record { at = at; gives = refl }) found.1,
        ))

forgets : (requests : List Arrival) (node : Node) → ((request : Arrival) → Among request requests → CanMove node (Forget request)) → AreDistinct requests → CanGo node (map Forget requests)
forgets [] node held once none = none (ticked nothing node) (refl, refl)
forgets (request ∷ requests) node held once none =
    some_left request node.held (λ left are.
    goes node (Forget request) (map Forget requests) (record { out = record nothing { forgot = request ∷ [] }; outcome = Ticked; node = record node { held = left } })
    (let h = held request (inl refl) in record { held = h.0; stood = h.1; same = h.2; rest = left; left = are; gives = refl })
    (forgets requests (record node { held = left }) (λ r among. let h = held r (inr among) in (
      h.0,
      ⊎_elim (λ stays. stays) (λ same. absurd (once.0 (subst (λ k. Among k requests) (sym h.2 ∙ same) among))) ((leaves request node.held left are).others h.0 h.1),
      h.2,
    )) once.1)
    none)

pub always_ticks : AlwaysTicks
always_ticks node due can none =
    gives_up due.give_ups node (map Forget due.forgets) (λ later same.
    forgets due.forgets later (λ r among. let h = can.held r among in (h.0, subst (λ (hs : List Held). Among h.0 hs) (sym same) h.1, h.2)) can.once)
    (λ g found. resends due.resends node (g ++ map Forget due.forgets) can.waits found.1 (λ e step. none e (record {
      moves = map Resend due.resends ++ (g ++ map Forget due.forgets);
      are = record { given_up = g; gives_up = found.0; all = sym (append_assoc (map Resend due.resends) g (map Forget due.forgets)) };
      step = step;
    })))

-- the numbers that moves give up
abbrev given_up_in : List Move → List ℕ
given_up_in [] = []
given_up_in (Resend number ∷ moves) = given_up_in moves
given_up_in (Give_up number ∷ moves) = number ∷ given_up_in moves
given_up_in (Forget request ∷ moves) = given_up_in moves

-- the moves tell what they give up
told_up : (moves : List Move) (old : Node) (out : Out) (new : Node) → TickStep old moves out new → out.gave_up ≡ given_up_in moves
told_up [] old out new tick = ap (λ (o : Out). o.gave_up) tick.0
told_up (Resend number ∷ moves) old out new (e, rest, step, others, is) =
    ap (λ (o : Out). o.gave_up) is ∙ ap (λ (f : Effect). f.out.gave_up ++ rest.gave_up) step.gives ∙ told_up moves e.node rest new others
told_up (Give_up number ∷ moves) old out new (e, rest, step, others, is) =
    ap (λ (o : Out). o.gave_up) is ∙ ap (λ (f : Effect). f.out.gave_up ++ rest.gave_up) step.gives
    ∙ ap (λ k. number ∷ k) (told_up moves e.node rest new others)
told_up (Forget request ∷ moves) old out new (e, rest, step, others, is) =
    ap (λ (o : Out). o.gave_up) is ∙ ap (λ (f : Effect). f.out.gave_up ++ rest.gave_up) step.gives ∙ told_up moves e.node rest new others

after_resends : (numbers : List ℕ) (moves : List Move) → given_up_in (map Resend numbers ++ moves) ≡ given_up_in moves
after_resends [] moves = refl
after_resends (number ∷ numbers) moves = after_resends numbers moves

none_forgotten : (requests : List Arrival) → given_up_in (map Forget requests) ≡ []
none_forgotten [] = refl
none_forgotten (request ∷ requests) = none_forgotten requests

-- each that is given up is due and waits
each_due : (numbers : List ℕ) (node : Node) (given_up : List Move) (requests : List Arrival) → AreGiveUps node numbers given_up → (number : ℕ)
    → Among number (given_up_in (given_up ++ map Forget requests)) → Among number numbers × HasPending node number
each_due [] node given_up requests are number among = absurd (subst (λ k. Among number k) (ap (λ g. given_up_in (g ++ map Forget requests)) are ∙ none_forgotten requests) among)
each_due (first ∷ numbers) node given_up requests (inl (absent, are)) number among =
    let later = each_due numbers node given_up requests are number among in
    (inr later.0, later.1)
each_due (first ∷ numbers) node given_up requests (inr (at, (others, are, is))) number among =
    ⊎_elim
    (λ here. (inl here, subst (λ k. HasPending node k) (sym here) at))
    (λ there. let later = each_due numbers (finished node first at.pending) others requests are number there in (
      inr later.0,
      record { pending = later.1.pending; waits = (Shrunk-finished node first at.pending.session at.pending.bearer).pending number later.1.pending later.1.waits },
    ))
    (subst (λ k. Among number k) (ap (λ g. given_up_in (g ++ map Forget requests)) is) among)

pub gives_up_due : GivesUpDue
gives_up_due old due out new t number among =
    let told = told_up t.moves old out new t.step in
    let all = ap given_up_in (t.are.all ∙ append_assoc (map Resend due.resends) t.are.given_up (map Forget due.forgets)) ∙ after_resends due.resends (t.are.given_up ++ map Forget due.forgets) in
    each_due due.give_ups old t.are.given_up due.forgets t.are.gives_up number (subst (λ k. Among number k) (told ∙ all) among)
