-- What is asked of a gateway whose answers are determined, and what its steps tell.
use Rattle.std.proofs.Common.{◌≡◌, ◌≢◌, inl, inr, ℕ, Bool, true, false, List, [], ◌∷◌, map, Option, Some, None, option_map, refl, sym, ◌∙◌, ap, subst}
use Rattle.std.proofs.Math.Nat.{ℕ_set}
use mathlib.Core.Logic.{∥∥₁_elim}
use Rattle.gtp_values.specs.FiniteMap.{Among}
use Rattle.gtp_values.specs.declared.counter.Counter.{Counter}
use Rattle.gtp_reliable.specs.Held.{HeldPair, AreApart}
use Rattle.gtp_machine.specs.Node.{Arrival, Held, Node}
use Rattle.gtp_machine.specs.Input.{Came_to, Entry}
use Rattle.gtp_machine.specs.declared.outcome.Outcome.{Outcome}
use Rattle.gtp_machine.specs.Determined.{OneAnswerPerRequest}
use Rattle.gtp_machine.proofs.Determined.Alike.{Fits, sound_fits}
use Rattle.gtp_gateway.specs.user.Accepted.{Accepted}
use Rattle.gtp_gateway.specs.Determined.{packet_of}
use Rattle.gtp_gateway.specs.Parts.{held_of}
use Rattle.gtp_gateway.specs.GatewayState.{GatewayState, NodeMatchesQueues, IsSoundState}
use Rattle.gtp_gateway.specs.receive.Taken.{made_for}
use Rattle.gtp_gateway.specs.user.Receive.{AreEntries}
use Rattle.gtp_gateway.proofs.Answers.{none_held}

-- ---- what is asked of a gateway

pub whole_fits : (s : GatewayState) → IsSoundState s → Fits s.node
whole_fits s whole = record {
  apart = ∥∥₁_elim whole (hlevel ℕ_set) (λ sound. (sound_fits s.role s.node sound).apart);
  sessions = ∥∥₁_elim whole (hlevel) (λ sound. (sound_fits s.role s.node sound).sessions);
  bearers = ∥∥₁_elim whole (hlevel) (λ sound. (sound_fits s.role s.node sound).bearers);
}

same_answer : (ps : List HeldPair) → AreApart ps → (g h : Held) → Among g (map held_of ps) → Among h (map held_of ps) → g.request ≡ h.request → g.answer ≡ h.answer
same_answer [] apart g h none also same = absurd none
same_answer (p ∷ ps) apart g h (inl g_is) (inl h_is) same = ap (λ (k : Held). k.answer) (g_is ∙ sym h_is)
same_answer (p ∷ ps) apart g h (inl g_is) (inr there) same = absurd (none_held ps p.source p.request apart.0 h there (sym same ∙ ap (λ (k : Held). k.request) g_is))
same_answer (p ∷ ps) apart g h (inr there) (inl h_is) same = absurd (none_held ps p.source p.request apart.0 g there (same ∙ ap (λ (k : Held). k.request) h_is))
same_answer (p ∷ ps) apart g h (inr g_in) (inr h_in) same = same_answer ps apart.1 g h g_in h_in same

pub held_once : (s : GatewayState) → NodeMatchesQueues s → AreApart s.queues.held → OneAnswerPerRequest s.node
held_once s tied apart = record {
  once = λ g h g_in h_in. same_answer s.queues.held apart g h (subst (Among g) tied.held g_in) (subst (Among h) tied.held h_in);
}

-- ---- what is told

pub same_outcome : (a b : Outcome) → Came_to a ≡ Came_to b → a ≡ b
same_outcome a b e = cc

-- what is told by a number that tells all of it
one_told : {X : Type 0} (number : X → ℕ) → ((x y : X) → number x ≡ number y → x ≡ y) → (a b : Option X) → option_map number a ≡ option_map number b → a ≡ b
one_told number all None None e = refl
one_told number all (Some x) (Some y) e = let same : number x ≡ number y = cc in ap (λ k. Some k) (all x y same)
one_told number all a b e = cc

pub same_heard : (a b : Option Counter) → option_map (λ (c : Counter). c.0) a ≡ option_map (λ (c : Counter). c.0) b → a ≡ b
same_heard = one_told (λ (c : Counter). c.0) (λ c d same. ap (λ (k : ℕ). let n : Counter = record { 0 = k } in n) same)

pub same_made : (request : Arrival) (a b : Bool) → made_for request a ≡ made_for request b → a ≡ b
same_made request true true e = refl
same_made request false false e = refl
same_made request a b e = cc

pub is_made : (request : Arrival) (made : Bool) (arrivals : List Arrival) → made_for request made ≡ arrivals → arrivals ≢ [] → made ≡ true
is_made request true arrivals e some = refl
is_made request false arrivals e some = absurd (some (sym e))

pub same_packet : (node : Node) (a b : Option Accepted) (entries : List Entry) → AreEntries node a entries → AreEntries node b entries → packet_of a ≡ packet_of b
same_packet node None None entries r s = refl
same_packet node None (Some b) entries r (n, of, is) = cc
same_packet node (Some a) None entries (m, of, is) s = cc
same_packet node (Some a) (Some b) entries (m, of_a, is_a) (n, of_b, is_b) =
    let same : m ≡ n = cc in
    let target : a.bearer ≡ b.bearer = sym (ap (λ (k : Entry). k.target) of_a.is) ∙ (ap (λ (k : Entry). k.target) same ∙ ap (λ (k : Entry). k.target) of_b.is) in
    let payload : a.payload ≡ b.payload = sym (ap (λ (k : Entry). k.payload) of_a.is) ∙ (ap (λ (k : Entry). k.payload) same ∙ ap (λ (k : Entry). k.payload) of_b.is) in
    cc
