-- What a tick forgets is what is due to be forgotten.
use Rattle.std.proofs.Common.{◌≡◌, inl, inr, ℕ, List, [], ◌∷◌, ◌++◌, map, refl, ◌∙◌, ap, append_assoc}
use Rattle.gtp_machine.specs.Input.{Move, Resend, Give_up, Forget, Effect, Out}
use Rattle.gtp_machine.specs.Node.{Arrival, Node}
use Rattle.gtp_machine.specs.Removal.{finished}
use Rattle.gtp_machine.specs.Tick.{TickStep, Due, AreGiveUps, Ticks}

-- the requests that these moves forget
abbrev forgotten_by : List Move → List Arrival
forgotten_by [] = []
forgotten_by (Resend number ∷ moves) = forgotten_by moves
forgotten_by (Give_up number ∷ moves) = forgotten_by moves
forgotten_by (Forget request ∷ moves) = request ∷ forgotten_by moves

told : (old : Node) (moves : List Move) (out : Out) (new : Node) → TickStep old moves out new → out.forgot ≡ forgotten_by moves
told old [] out new t = ap (λ (o : Out). o.forgot) t.0
told old (Resend number ∷ moves) out new (e, rest, step, others, is) = ap (λ (o : Out). o.forgot) is ∙ ap (λ (k : Effect). k.out.forgot ++ rest.forgot) step.gives ∙ told e.node moves rest new others
told old (Give_up number ∷ moves) out new (e, rest, step, others, is) = ap (λ (o : Out). o.forgot) is ∙ ap (λ (k : Effect). k.out.forgot ++ rest.forgot) step.gives ∙ told e.node moves rest new others
told old (Forget request ∷ moves) out new (e, rest, step, others, is) =
    ap (λ (o : Out). o.forgot) is ∙ ap (λ (k : Effect). k.out.forgot ++ rest.forgot) step.gives
    ∙ ap (λ l. request ∷ l) (told e.node moves rest new others)

none_resent : (numbers : List ℕ) (moves : List Move) → forgotten_by (map Resend numbers ++ moves) ≡ forgotten_by moves
none_resent [] moves = refl
none_resent (n ∷ numbers) moves = none_resent numbers moves

none_given_up : (old : Node) (numbers : List ℕ) (given : List Move) → AreGiveUps old numbers given → (moves : List Move) → forgotten_by (given ++ moves) ≡ forgotten_by moves
none_given_up old [] given is moves = ap (λ l. forgotten_by (l ++ moves)) is
none_given_up old (n ∷ numbers) given (inl gone) moves = none_given_up old numbers given gone.1 moves
none_given_up old (n ∷ numbers) given (inr (at, (others, are, is))) moves = ap (λ l. forgotten_by (l ++ moves)) is ∙ none_given_up (finished old n at.pending) numbers others are moves

all_forgotten : (requests : List Arrival) → forgotten_by (map Forget requests) ≡ requests
all_forgotten [] = refl
all_forgotten (r ∷ requests) = ap (λ l. r ∷ l) (all_forgotten requests)

pub forgets_due : (old : Node) (due : Due) (out : Out) (new : Node) → Ticks old due out new → out.forgot ≡ due.forgets
forgets_due old due out new t =
    told old t.moves out new t.step
    ∙ ap forgotten_by t.are.all
    ∙ ap forgotten_by (append_assoc (map Resend due.resends) t.are.given_up (map Forget due.forgets))
    ∙ none_resent due.resends (t.are.given_up ++ map Forget due.forgets)
    ∙ none_given_up old due.give_ups t.are.given_up t.are.gives_up (map Forget due.forgets)
    ∙ all_forgotten due.forgets
