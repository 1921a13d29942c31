-- Moves, and ticks.
use Rattle.std.proofs.Common.{◌≡◌, inl, inr, ℕ, List, [], ◌∷◌, ◌++◌, map, sym, ◌∙◌, ap, subst}
use Rattle.gtp_machine.specs.Node.{Arrival, Held, Node}
use Rattle.gtp_machine.specs.Input.{Move, Resend, Give_up, Forget, Out, Effect}
use Rattle.gtp_machine.specs.Removal.{finished}
use Rattle.gtp_machine.specs.Move.{AreLeft, MoveStep}
use Rattle.gtp_machine.specs.Tick.{TickStep, AreGiveUps}
use Rattle.gtp_machine.specs.Determined.{OneTick}
use Rattle.gtp_machine.proofs.Basics.Facts.{one_value}

left_one : (request : Arrival) (held left right : List Held) → AreLeft request held left → AreLeft request held right → left ≡ right
left_one request [] left right r s = r ∙ sym s
left_one request (h ∷ held) left right (inl r) (inl s) = left_one request held left right r.1 s.1
left_one request (h ∷ held) left right (inl r) (inr s) = absurd (s.0 r.0)
left_one request (h ∷ held) left right (inr r) (inl s) = absurd (r.0 s.0)
left_one request (h ∷ held) left right (inr r) (inr s) = r.1.2 ∙ (ap (λ k. h ∷ k) (left_one request held r.1.0 s.1.0 r.1.1 s.1.1) ∙ sym s.1.2)

pub move_made : (old : Node) (move : Move) (e f : Effect) → MoveStep old move e → MoveStep old move f → e ≡ f
move_made old (Resend number) e f r s = let pending : r.at.pending ≡ s.at.pending = one_value _ _ _ r.at.waits s.at.waits in cc
move_made old (Give_up number) e f r s = let pending : r.at.pending ≡ s.at.pending = one_value _ _ _ r.at.waits s.at.waits in cc
move_made old (Forget request) e f r s = let rest : r.rest ≡ s.rest = left_one request old.held r.rest s.rest r.left s.left in cc

moves_made : (old : Node) (moves : List Move) (out other : Out) (new node : Node) → TickStep old moves out new → TickStep old moves other node → (out ≡ other) × (new ≡ node)
moves_made old [] out other new node r s = (r.0 ∙ sym s.0, r.1 ∙ sym s.1)
moves_made old (move ∷ moves) out other new node (e, rest, step, steps, is) (f, rest2, step2, steps2, is2) =
    let one : f ≡ e = move_made old move f e step2 step in
    let after = moves_made e.node moves rest rest2 new node steps (subst (λ (k : Effect). TickStep k.node moves rest2 node) one steps2) in
    let same : rest ≡ rest2 = after.0 in
    (cc, after.1)

give_ups_one : (old : Node) (numbers : List ℕ) (moves others : List Move) → AreGiveUps old numbers moves → AreGiveUps old numbers others → moves ≡ others
give_ups_one old [] moves others r s = r ∙ sym s
give_ups_one old (number ∷ numbers) moves others (inl r) (inl s) = give_ups_one old numbers moves others r.1 s.1
give_ups_one old (number ∷ numbers) moves others (inl r) (inr s) = absurd (r.0 s.0)
give_ups_one old (number ∷ numbers) moves others (inr r) (inl s) = absurd (s.0 r.0)
give_ups_one old (number ∷ numbers) moves others (inr r) (inr s) =
    let pending : s.0.pending ≡ r.0.pending = one_value _ _ _ s.0.waits r.0.waits in
    let rest : r.1.0 ≡ s.1.0 = give_ups_one (finished old number r.0.pending) numbers r.1.0 s.1.0 r.1.1 (subst (λ k. AreGiveUps (finished old number k) numbers s.1.0) pending s.1.1) in
    r.1.2 ∙ (ap (λ k. Give_up number ∷ k) rest ∙ sym s.1.2)

pub one_tick : OneTick
one_tick old due out other new node r s =
    let given_up : s.are.given_up ≡ r.are.given_up = give_ups_one old due.give_ups s.are.given_up r.are.given_up s.are.gives_up r.are.gives_up in
    let moves : s.moves ≡ r.moves = s.are.all ∙ (ap (λ k. map Resend due.resends ++ k ++ map Forget due.forgets) given_up ∙ sym r.are.all) in
    moves_made old r.moves out other new node r.step (subst (λ k. TickStep old k other node) moves s.step)
