-- Answers that a tick forgets, as the machine's moves.
use Rattle.std.proofs.Common.{◌≡◌, inl, inr, ℕ, ◌+◌, Bool, true, false, cond, List, [], ◌∷◌, map, Some, None, nat_lt, refl, sym, ap}
use Rattle.std.specs.List.{AllByRecursion, filter_map, cons_option}
use Rattle.std.proofs.lemmas.List.Elements.{All-from_recursion, recursion_from_All}
use Rattle.gtp_values.specs.declared.address.Endpoint.{Endpoint}
use Rattle.gtp_values.specs.FiniteMap.{Among}
use Rattle.gtp_reliable.specs.Held.{HeldPair, forgotten, after_tick, IsHeld, AreApart}
use Rattle.gtp_machine.specs.Node.{Arrival, Held, Node}
use Rattle.gtp_machine.specs.Input.{Ticked, Forget, Out, nothing}
use Rattle.gtp_machine.specs.Move.{AreLeft}
use Rattle.gtp_machine.specs.Tick.{TickStep}
use Rattle.gtp_gateway.specs.Parts.{arrival_of, held_of}
use Rattle.gtp_gateway.specs.messages.Spelled.{IsKept, AreAnswered}
use Rattle.gtp_gateway.specs.Tick.{asked_by}
use Rattle.gtp_gateway.proofs.Answers.{none_held}

-- the requests that are forgotten
abbrev pub gone_in : ℕ → List HeldPair → List Arrival
gone_in hold ps = map asked_by (filter_map (forgotten hold) ps)

-- the answers that are held after the tick
abbrev pub left_in : ℕ → List HeldPair → List Held
left_in hold ps = map held_of (filter_map (after_tick hold) ps)

-- these requests are forgotten, one after the other
abbrev ForgetsEach : List Arrival → List Held → List Held → Type 0
ForgetsEach [] held new = new ≡ held
ForgetsEach (request ∷ requests) held new = (h : Held) × Among h held × (h.request ≡ request) × ((rest : List Held) × AreLeft request held rest × ForgetsEach requests rest new)

-- an answer in front of the others, to none of these requests
under : (h : Held) (requests : List Arrival) (held new : List Held) → (Among h.request requests → ⊥) → ForgetsEach requests held new → ForgetsEach requests (h ∷ held) (h ∷ new)
under h [] held new other is = ap (λ (l : List Held). h ∷ l) is
under h (request ∷ requests) held new other (k, among, same, (rest, left, later)) =
    (k, inr among, same, (h ∷ rest, inr (λ is. other (inl is), (rest, left, refl)), under h requests rest new (λ there. other (inr there)) later))

-- of answers that are none to the request all are left
all_left : (request : Arrival) (held : List Held) → ((h : Held) → Among h held → h.request ≡ request → ⊥) → AreLeft request held held
all_left request [] none = refl
all_left request (h ∷ held) none = inr (none h (inl refl), (held, all_left request held (λ k among. none k (inr among)), refl))

-- a request that is forgotten has an answer that is held
was_held : (hold : ℕ) (ps : List HeldPair) (source : Endpoint) (request : List ℕ) → Among (arrival_of source request) (gone_in hold ps) → IsHeld source request ps
was_held hold [] source request among = among
was_held hold (p ∷ ps) source request among = by (nat_lt (p.age + 1) hold) (was_held hold ps source request) among
  where
    by : (b : Bool) → (Among (arrival_of source request) (gone_in hold ps) → IsHeld source request ps) → Among (arrival_of source request)
        (map asked_by (cons_option (cond b None (Some (record { source = p.source; octets = p.request }))) (filter_map (forgotten hold) ps)))
        → IsHeld source request (p ∷ ps)
    by true later among = inr (later among)
    by false later (inl is) = inl (ap (λ (a : Arrival). a.source) (sym is), ap (λ (a : Arrival). a.octets) (sym is))
    by false later (inr there) = inr (later there)

forgets_each : (hold : ℕ) (ps : List HeldPair) → AreApart ps → ForgetsEach (gone_in hold ps) (map held_of ps) (left_in hold ps)
forgets_each hold [] apart = refl
forgets_each hold (p ∷ ps) apart = by (nat_lt (p.age + 1) hold) (forgets_each hold ps apart.1)
  where
    by : (b : Bool) → ForgetsEach (gone_in hold ps) (map held_of ps) (left_in hold ps) → ForgetsEach
        (map asked_by (cons_option (cond b None (Some (record { source = p.source; octets = p.request }))) (filter_map (forgotten hold) ps)))
        (held_of p ∷ map held_of ps)
        (map held_of (cons_option (cond b (Some (record p { age = p.age + 1 })) None) (filter_map (after_tick hold) ps)))
    by true later = under (held_of p) (gone_in hold ps) (map held_of ps) (left_in hold ps) (λ among. apart.0 (was_held hold ps p.source p.request among)) later
    by false later = (held_of p, inl refl, refl, (map held_of ps, inl (refl, all_left (arrival_of p.source p.request) (map held_of ps) (none_held ps p.source p.request apart.0)), later))

-- what is told of these requests
abbrev pub forgot : List Arrival → Out
forgot requests = record nothing { forgot = requests }

moves_each : (requests : List Arrival) (node : Node) (held new : List Held) → ForgetsEach requests held new
    → TickStep (record node { held = held }) (map Forget requests) (forgot requests) (record node { held = new })
moves_each [] node held new is = (refl, ap (λ (l : List Held). record node { held = l }) is)
moves_each (request ∷ requests) node held new (h, among, same, (rest, left, later)) = (
  record { out = forgot (request ∷ []); outcome = Ticked; node = record node { held = rest } },
  forgot requests,
  record { held = h; stood = among; same = same; rest = rest; left = left; gives = refl },
  moves_each requests node rest new later,
  refl,
)

-- the moves that forget, in order of keeping
pub forgetting : (node : Node) (hold : ℕ) (ps : List HeldPair) → AreApart ps
    → TickStep (record node { held = map held_of ps }) (map Forget (gone_in hold ps)) (forgot (gone_in hold ps))
    (record node { held = left_in hold ps })
forgetting node hold ps apart = moves_each (gone_in hold ps) node (map held_of ps) (left_in hold ps) (forgets_each hold ps apart)

-- what is left is kept as it is spelled
spelled_left : (hold : ℕ) (ps : List HeldPair) → AllByRecursion IsKept ps → AllByRecursion IsKept (filter_map (after_tick hold) ps)
spelled_left hold [] each = each
spelled_left hold (p ∷ ps) each = by (nat_lt (p.age + 1) hold) (spelled_left hold ps each.1)
  where
    by : (b : Bool) → AllByRecursion IsKept (filter_map (after_tick hold) ps)
        → AllByRecursion IsKept (cons_option (cond b (Some (record p { age = p.age + 1 })) None) (filter_map (after_tick hold) ps))
    by true later = (record { answer = each.0.answer; alone = each.0.alone }, later)
    by false later = later

pub answered_left : (hold : ℕ) (ps : List HeldPair) → AreAnswered ps → AreAnswered (filter_map (after_tick hold) ps)
answered_left hold ps each = All-from_recursion IsKept _ (spelled_left hold ps (recursion_from_All IsKept ps each))
