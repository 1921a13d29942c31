-- Judging a datagram decides whether it spells a message, where further types of extension headers are understood.
use Rattle.std.proofs.Common.{◌≡◌, ◌<◌, ℕ, List, length, Result, Ok, Err, refl, ap, sym, subst, ◌∙◌}
use Rattle.std.specs.Prelude.{IfOk, IfErr}
use Rattle.gtp_values.specs.Steps.{◌>>=◌, Gives}
use Rattle.gtp_values.specs.Decides.{Decides}
use Rattle.gtp_values.proofs.Outcomes.{apart, err_same}
use Rattle.gtp_values.proofs.Decided.{decide_map, decide_as, bind_at, bind_at_err}
use Rattle.gtp_user.specs.declared.fault.UserFault.{UserFault}
use Rattle.gtp_user.specs.Headed.{Headed}
use Rattle.gtp_user.specs.Message.{Content, MessageValue}
use Rattle.gtp_user.specs.Datagram.{IsUserMessageBy, IsUserFaultBy}
use Rattle.gtp_user.specs.reading.Headed.{header_at}
use Rattle.gtp_user.specs.reading.Walk.{Chained, chain_by, tail_by, front_by}
use Rattle.gtp_user.specs.reading.Message.{body_at, message_of, message_with, judged}
use Rattle.gtp_user.proofs.Chains.{SoFarBy, chained, chain_by_decided, stops}
use Rattle.gtp_user.proofs.Messages.{message_with_decided}

-- ---- the loop

pub tail_stops : (understood : List ℕ) (end first kind : ℕ) (octets rest : List ℕ) (f : UserFault) → SoFarBy understood first octets kind rest → 0 < kind
    → front_by understood end kind rest ≡ Err f → tail_by understood end first octets ≡ Err f
unfolding tail_by
tail_stops understood end first kind octets rest f so_far some h =
    bind_at_err (chain_by understood end first octets) (λ c. Ok c.rest) f (stops understood end first kind octets rest so_far f some h)

pub tail_ends : (understood : List ℕ) (end first : ℕ) (octets rest : List ℕ) → SoFarBy understood first octets 0 rest → tail_by understood end first octets ≡ Ok rest
unfolding tail_by
tail_ends understood end first octets rest (es, chain) =
    bind_at (chain_by understood end first octets) (λ c. Ok c.rest) (chained es rest) ((chain_by_decided understood end first octets).is (chained es rest) chain)

-- ---- the whole datagram

abbrev passed : Result (Unit {0}) UserFault
passed = Ok tt

-- what is judged is that a message is read
judged_same : (understood octets : List ℕ) → judged understood octets ≡ (message_with understood octets >>= λ m. passed)
unfolding judged message_with tail_by
judged_same understood octets = by_header (header_at octets) where
  by_body : (h : Headed) (c : Chained) (r : Result Content UserFault) → (r >>= λ content. passed) ≡ ((r >>= λ content. Ok (message_of h c content)) >>= λ m. passed)
  by_body h c (Ok content) = refl
  by_body h c (Err f) = refl

  by_chain : (h : Headed) (r : Result Chained UserFault)
      → ((r >>= λ c. Ok c.rest) >>= λ tail. body_at (length octets) h.kind h.teid tail >>= λ content. passed)
      ≡ ((r >>= λ c. body_at (length octets) h.kind h.teid c.rest >>= λ content. Ok (message_of h c content)) >>= λ m. passed)
  by_chain h (Ok c) = by_body h c (body_at (length octets) h.kind h.teid c.rest)
  by_chain h (Err f) = refl

  by_header : (r : Result Headed UserFault)
      → (r >>= λ h. (chain_by understood (length octets) h.first h.rest >>= λ c. Ok c.rest) >>= λ tail. body_at (length octets) h.kind h.teid tail >>= λ content. passed)
      ≡ ((r >>= λ h. chain_by understood (length octets) h.first h.rest >>= λ c. body_at (length octets) h.kind h.teid c.rest >>= λ content. Ok (message_of h c content)) >>= λ m. passed)
  by_header (Ok h) = by_chain h (chain_by understood (length octets) h.first h.rest)
  by_header (Err f) = refl

judged_decided : (understood octets : List ℕ)
    → Decides (judged understood octets) (λ u. (m : MessageValue) × IsUserMessageBy understood octets m) (IsUserFaultBy understood octets)
judged_decided understood octets =
    subst (λ (r : Result (Unit {0}) UserFault). Decides r (λ u. (m : MessageValue) × IsUserMessageBy understood octets m) (IsUserFaultBy understood octets))
    (sym (judged_same understood octets))
    (decide_as (message_with understood octets >>= λ m. Ok tt) (λ u. (m : MessageValue) × IsUserMessageBy understood octets m × (u ≡ tt))
    (λ u. (m : MessageValue) × IsUserMessageBy understood octets m) (IsUserFaultBy understood octets) (IsUserFaultBy understood octets)
    (λ u p. (p.0, p.1)) (λ u p. (p.0, p.1, refl)) (λ f q. q) (λ f q. q)
    (decide_map (message_with understood octets) (λ m. tt) (IsUserMessageBy understood octets) (IsUserFaultBy understood octets) (message_with_decided understood octets)))

-- ---- what a caller of judge is told

module _ (understood octets : List ℕ) where
  pub passes : (r : Result (Unit {0}) UserFault) → Gives (λ u. u) r (judged understood octets) → IfOk r (λ u. (m : MessageValue) × IsUserMessageBy understood octets m)
  passes (Ok u) gives = (judged_decided understood octets).ok u gives
  passes (Err f) gives = tt

  pub only : (r : Result (Unit {0}) UserFault) → Gives (λ u. u) r (judged understood octets) → (m : MessageValue) → IsUserMessageBy understood octets m → r ≡ Ok tt
  only (Ok u) gives m is = refl
  only (Err f) gives m is = absurd (apart tt f (sym ((judged_decided understood octets).is tt (m, is)) ∙ gives))

  pub fault : (r : Result (Unit {0}) UserFault) → Gives (λ u. u) r (judged understood octets) → IfErr r (λ f. IsUserFaultBy understood octets f)
  fault (Ok u) gives = tt
  fault (Err f) gives = (judged_decided understood octets).err f gives

  pub first : (r : Result (Unit {0}) UserFault) → Gives (λ u. u) r (judged understood octets) → (f : UserFault) → IsUserFaultBy understood octets f → r ≡ Err f
  first (Ok u) gives f is = absurd (apart tt f (sym gives ∙ (judged_decided understood octets).fails f is))
  first (Err g) gives f is = ap (λ (e : UserFault). Err e) (err_same (Unit {0}) g f (sym gives ∙ (judged_decided understood octets).fails f is))
