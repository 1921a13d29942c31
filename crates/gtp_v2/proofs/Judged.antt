-- Judging a datagram by what is asked of each type decides whether it spells messages that have that.
use Rattle.std.proofs.Common.{◌≡◌, ℕ, ◌+◌, ◌≤◌, List, length, Option, Some, None, Result, Ok, Err, inl, inr, refl, ap, sym, subst, ◌∙◌, arith}
use Rattle.std.specs.Prelude.{IfOk, IfErr}
use Rattle.gtp_values.specs.Steps.{◌>>=◌, Gives}
use Rattle.gtp_values.proofs.Outcomes.{apart, err_same}
use Rattle.gtp_values.proofs.Decided.{bind_at, bind_at_err}
use Rattle.gtp_v2.specs.declared.fault.V2Fault.{V2Fault}
use Rattle.gtp_v2.specs.declared.fault.V2Fault.TheVariants as faults
use Rattle.gtp_v2.specs.declared.fault.RowFault.{RowFault}
use Rattle.gtp_v2.specs.declared.fault.RowFault.TheVariants as row_faults
use Rattle.gtp_v2.specs.declared.fault.Head.{Head}
use Rattle.gtp_v2.specs.Asks.{Asks}
use Rattle.gtp_v2.specs.Headed.{Headed}
use Rattle.gtp_v2.specs.Message.{with_head, with_content}
use Rattle.gtp_v2.specs.Instances.{IsOfOctets}
use Rattle.gtp_v2.specs.Datagram.{FailsAsked, IsFaultBy}
use Rattle.gtp_v2.specs.Pair.{DatagramValue, moved, SecondFailsBy, IsDatagramBy, IsDatagramFaultBy}
use Rattle.gtp_v2.specs.reading.Checked.{forgotten}
use Rattle.gtp_v2.specs.reading.Headed.{header_at}
use Rattle.gtp_v2.specs.reading.Message.{content_by, message_by}
use Rattle.gtp_v2.specs.reading.Pair.{datagram_by}
use Rattle.gtp_v2.specs.reading.Places.{place_of_fault}
use Rattle.gtp_v2.proofs.Checks.{was_read, was_fault}
use Rattle.gtp_v2.proofs.Told.{message_by_decided}
use Rattle.gtp_v2.proofs.Pairs.{opened, datagram_by_decided}
use Rattle.gtp_v2.proofs.Places.{fault_by_up_to}
use Rattle.gtp_v2.proofs.Instances.{header_of_octets}

-- the fault of what follows a header tells a place in the octets, or at their end
pub content_up_to : (asked : ℕ → Option Asks) (first kind high low : ℕ) (rest : List ℕ) (h : Headed) (r : Result (Unit {0}) V2Fault)
    → header_at (opened first kind high low rest) ≡ Ok h → Gives (λ u. u) r (forgotten (content_by (asked h.kind) h)) → IfErr r (λ f. place_of_fault f ≤ 4 + length rest)
unfolding message_by
content_up_to asked first kind high low rest h (Ok u) headed gives = tt
content_up_to asked first kind high low rest h (Err f) headed gives =
    let octets = opened first kind high low rest in
    let fails : message_by asked octets ≡ Err f =
    bind_at (header_at octets) (λ x. content_by (asked x.kind) x >>= λ content. Ok (with_content x content)) h headed
    ∙ bind_at_err (content_by (asked h.kind) h) (λ content. Ok (with_content h content)) f (was_fault (content_by (asked h.kind) h) f gives) in
    let within = fault_by_up_to asked octets f ((message_by_decided asked octets).err f fails) in
    omega (arith, within)

-- ---- faults that octets can have

row_of_octets : (head : Head) (f : RowFault) → IsOfOctets (with_head head f)
row_of_octets head (row_faults.Missing kind instance conditional group) = tt
row_of_octets head (row_faults.Element fault) = tt

body_of_octets : (asks : Option Asks) (h : Headed) (f : V2Fault) → FailsAsked asks h f → IsOfOctets f
body_of_octets None h f fails = absurd fails
body_of_octets (Some asks) h f fails = elim fails [
  | inl form ↦ subst IsOfOctets (sym form.1) tt
  | inr list ↦ elim list.1 [ inl cut ↦ subst IsOfOctets (sym cut.2) tt | inr later ↦ let row = later.2 in subst IsOfOctets (sym row.2.2) (row_of_octets _ row.0) ]
]

message_of_octets : (asked : ℕ → Option Asks) (octets : List ℕ) (f : V2Fault) → IsFaultBy asked octets f → IsOfOctets f
message_of_octets asked octets f is = elim is [ inl header ↦ header_of_octets octets f header | inr body ↦ body_of_octets (asked body.0.kind) body.0 f body.2 ]

moved_of_octets : (place : ℕ) (f : V2Fault) → IsOfOctets f → IsOfOctets (moved place f)
moved_of_octets place (faults.Short n) of = tt
moved_of_octets place (faults.Version n) of = tt
moved_of_octets place (faults.BadPiggyback at) of = tt
moved_of_octets place (faults.Length stated held) of = tt
moved_of_octets place (faults.FlagT kind) of = tt
moved_of_octets place (faults.Missing kind instance conditional None head) of = tt
moved_of_octets place (faults.Missing kind instance conditional (Some at) head) of = tt
moved_of_octets place (faults.Element fault head) of = tt
moved_of_octets place faults.Memory of = of
moved_of_octets place faults.TooLong of = of

second_of_octets : (asked : ℕ → Option Asks) (place : ℕ) (back : List ℕ) (f : V2Fault) → SecondFailsBy asked place back f → IsOfOctets f
second_of_octets asked place back f (inl p) = subst IsOfOctets (sym p.1) tt
second_of_octets asked place back f (inr (some, (g, fails, is))) = subst IsOfOctets (sym is) (moved_of_octets place g (message_of_octets asked back g fails))

datagram_of_octets : (asked : ℕ → Option Asks) (octets : List ℕ) (f : V2Fault) → IsDatagramFaultBy asked octets f → IsOfOctets f
datagram_of_octets asked octets f (inl p) = message_of_octets asked octets f p.1
datagram_of_octets asked octets f (inr (inl (flags, kind, high, low, held, begins, more, is))) = subst IsOfOctets (sym is) tt
datagram_of_octets asked octets f (inr (inr (front, back, announces, inl first))) = message_of_octets asked front f first
datagram_of_octets asked octets f (inr (inr (front, back, announces, inr (a, is, second)))) = second_of_octets asked (length front) back f second

-- ---- what a caller of judge is told

pub passes : (asked : ℕ → Option Asks) (octets : List ℕ) (r : Result (Unit {0}) V2Fault) → Gives (λ u. u) r (forgotten (datagram_by asked octets))
    → IfOk r (λ u. (d : DatagramValue) × IsDatagramBy asked octets d)
passes asked octets (Ok u) gives = let d = was_read (datagram_by asked octets) gives in (d.0, (datagram_by_decided asked octets).ok d.0 d.1)
passes asked octets (Err f) gives = tt

pub only : (asked : ℕ → Option Asks) (octets : List ℕ) (r : Result (Unit {0}) V2Fault) → Gives (λ u. u) r (forgotten (datagram_by asked octets)) → (d : DatagramValue)
    → IsDatagramBy asked octets d → r ≡ Ok tt
only asked octets (Ok u) gives d is = refl
only asked octets (Err f) gives d is = absurd (apart tt f (ap forgotten (sym ((datagram_by_decided asked octets).is d is)) ∙ gives))

pub first : (asked : ℕ → Option Asks) (octets : List ℕ) (r : Result (Unit {0}) V2Fault) → Gives (λ u. u) r (forgotten (datagram_by asked octets)) → (f : V2Fault)
    → IsDatagramFaultBy asked octets f → r ≡ Err f
first asked octets (Ok u) gives f is = absurd (apart tt f (sym gives ∙ ap forgotten ((datagram_by_decided asked octets).fails f is)))
first asked octets (Err g) gives f is = ap (λ (e : V2Fault). Err e) (err_same (Unit {0}) g f (sym gives ∙ ap forgotten ((datagram_by_decided asked octets).fails f is)))

pub fault : (asked : ℕ → Option Asks) (octets : List ℕ) (r : Result (Unit {0}) V2Fault) → Gives (λ u. u) r (forgotten (datagram_by asked octets))
    → IfErr r (λ f. IsDatagramFaultBy asked octets f)
fault asked octets (Ok u) gives = tt
fault asked octets (Err f) gives = (datagram_by_decided asked octets).err f (was_fault (datagram_by asked octets) f gives)

pub of_octets : (asked : ℕ → Option Asks) (octets : List ℕ) (r : Result (Unit {0}) V2Fault) → IfErr r (λ f. IsDatagramFaultBy asked octets f) → IfErr r IsOfOctets
of_octets asked octets (Ok u) is = tt
of_octets asked octets (Err f) is = datagram_of_octets asked octets f is
