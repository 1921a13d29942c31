-- Answers that are held, as the machine's list.
use Rattle.std.proofs.Common.{◌≡◌, ◌<◌, ◌≤◌, inl, inr, ℕ, length, arith, List, [], ◌∷◌, ◌++◌, map, refl, sym, ◌∙◌, ap}
use Rattle.std.proofs.lemmas.List.{map_push, length-map}
use Rattle.gtp_values.specs.declared.address.Endpoint.{Endpoint}
use Rattle.gtp_values.specs.FiniteMap.{Among}
use Rattle.gtp_reliable.specs.Held.{HeldPair, IsHeld, HasAnswer}
use Rattle.gtp_machine.specs.Node.{Arrival, Held}
use Rattle.gtp_gateway.specs.Parts.{arrival_of, held_of}
use Rattle.gtp_gateway.specs.messages.Spelled.{messages_in}

-- one more answer
pub held_push : (ps : List HeldPair) (p : HeldPair) (h : Held) → held_of p ≡ h → map held_of (ps ++ p ∷ []) ≡ map held_of ps ++ (h ∷ [])
held_push ps p h is = map_push held_of ps p ∙ ap (λ (x : Held). map held_of ps ++ (x ∷ [])) is

-- an answer that is held for a request from there, by its octets
pub record Repeated (held : List Held) (request : Arrival) (octets : List ℕ) : Type 0 where
  pub pair : Held
  pub stands : Among pair held
  pub same : pair.request ≡ request
  pub answer : pair.answer ≡ messages_in octets

pub repeats : (ps : List HeldPair) (source : Endpoint) (request answer : List ℕ) → HasAnswer source request answer ps → Repeated (map held_of ps) (arrival_of source request) answer
repeats [] source request answer has = absurd has
repeats (p ∷ ps) source request answer (inl here) = record { pair = held_of p; stands = inl refl; same = λ i. arrival_of (here.0.0 i) (here.0.1 i); answer = ap messages_in here.1 }
repeats (p ∷ ps) source request answer (inr there) =
    let later = repeats ps source request answer there in
    record { pair = later.pair; stands = inr later.stands; same = later.same; answer = later.answer }

-- where there is an answer one is held
pub is_held : (ps : List HeldPair) (source : Endpoint) (request answer : List ℕ) → HasAnswer source request answer ps → IsHeld source request ps
is_held [] source request answer has = absurd has
is_held (p ∷ ps) source request answer (inl here) = inl here.0
is_held (p ∷ ps) source request answer (inr there) = inr (is_held ps source request answer there)

-- no answer is held for the request
pub none_held : (ps : List HeldPair) (source : Endpoint) (request : List ℕ) → (IsHeld source request ps → ⊥) → (h : Held) → Among h (map held_of ps) → h.request ≡ arrival_of source request → ⊥
none_held [] source request none h among same = among
none_held (p ∷ ps) source request none h (inl is) same =
    none (inl (ap (λ (x : Held). x.request.source) (sym is) ∙ ap (λ (a : Arrival). a.source) same, ap (λ (x : Held). x.request.octets) (sym is) ∙ ap (λ (a : Arrival). a.octets) same))
none_held (p ∷ ps) source request none h (inr there) same = none_held ps source request (λ later. none (inr later)) h there same

-- room for one more answer, or none
pub held_few : (ps : List HeldPair) → (4096 ≤ length ps → ⊥) → length (map held_of ps) < 4096
held_few ps not = omega (arith, length-map ps held_of, not)

pub held_many : (ps : List HeldPair) → 4096 ≤ length ps → length (map held_of ps) < 4096 → ⊥
held_many ps many few = omega (arith, length-map ps held_of, many, few)
