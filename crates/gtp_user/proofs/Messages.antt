-- Reading a datagram decides which message it spells.
use Rattle.std.proofs.Common.{◌≡◌, ◌≢◌, ℕ, Bool, true, false, cond, List, [], length, Option, Some, None, Result, Ok, Err, ◌⊎◌, inl, inr, refl, sym, ap, subst, ◌∙◌, arith}
use Rattle.std.specs.Prelude.{◌==◌}
use Rattle.std.proofs.lemmas.Bool.Decides.{nat_tests}
use Rattle.std.proofs.lemmas.Option.{same_Some}
use Rattle.gtp_values.specs.declared.address.Ip.{Ip}
use Rattle.gtp_user.specs.declared.fault.UserFault.{UserFault}
use Rattle.gtp_user.specs.declared.fault.UserFault.TheVariants as faults
use Rattle.gtp_values.specs.Steps.{◌>>=◌}
use Rattle.gtp_values.specs.Decides.{Decides, First_or_later}
use Rattle.gtp_user.specs.Chain.{Extension, IsChainBy, ChainFailsBy}
use Rattle.gtp_user.specs.reading.Walk.{Chained, chain_by}
use Rattle.gtp_user.specs.Headed.{Headed}
use Rattle.gtp_user.specs.reading.Headed.{header_at}
use Rattle.gtp_user.specs.Header.{IsHeaded, HeaderFails}
use Rattle.gtp_user.specs.Element.{Element, AreElements, IsCut, has_recovery, first_teid, first_peer, first_types}
use Rattle.gtp_user.specs.reading.Elements.{Found, found_in, elements_at}
use Rattle.gtp_user.specs.reading.Gathered.{found_at}
use Rattle.gtp_user.specs.Message.{Content, EchoRequest, EchoResponse, ErrorIndication, Notification, EndMarker, Packet, Other, MessageValue, numbered}
use Rattle.gtp_user.specs.reading.Message.{needed, echo_response, error_indication, notification, body_at, message_of, message_at, message_with}
use Rattle.gtp_user.specs.Datagram.{Carries, Lacks, CarriesNone, IsUserMessageBy, FailsAfterHeaderBy, IsUserFaultBy, IsUserMessage, IsUserFault}
use Rattle.gtp_values.proofs.Decided.{decide_bind, decide_map, decide_ok, decide_as, known_ok, known_err}
use Rattle.gtp_user.proofs.Headers.{header_decided}
use Rattle.gtp_user.proofs.Chains.{IsChainedBy, chained, chain_by_decided}
use Rattle.gtp_user.proofs.Spanned.{elements_decided}
use Rattle.gtp_values.proofs.Outcomes.{none_some}

-- ---- elements that a message must have

abbrev IsAbsent : {X : Type 0} → ℕ → Option X → UserFault → Type 0
IsAbsent kind o f = (o ≡ None) × (f ≡ faults.Missing kind)

needed_decided : {X : Type 0} (kind : ℕ) (o : Option X) → Decides (needed kind o) (λ x. o ≡ Some x) (IsAbsent kind o)
needed_decided kind (Some x) = known_ok x (λ y. Some x ≡ Some y) (IsAbsent kind (Some x)) refl (λ y h. sym (same_Some x y h)) (λ f h. none_some x (sym h.0))
needed_decided kind None = known_err (faults.Missing kind) (λ y. None ≡ Some y) (IsAbsent kind None) (refl, refl) (λ y h. none_some y h) (λ f h. h.1)

-- elements, and then what they must have
with_elements : (end : ℕ) (octets : List ℕ) (k : Found → Result Content UserFault) (P : List Element → Content → Type 0) (F : List Element → UserFault → Type 0)
    → ((es : List Element) → Decides (k (found_in es)) (P es) (F es))
    → Decides (found_at end octets >>= k) (λ c. (es : List Element) × AreElements octets es × P es c) (First_or_later (AreElements octets) (IsCut end octets) F)
unfolding found_at
with_elements end octets k P F d =
    subst (λ r. Decides r (λ c. (es : List Element) × AreElements octets es × P es c) (First_or_later (AreElements octets) (IsCut end octets) F)) (sym (bind_bind (elements_at end octets)))
    (decide_bind (elements_at end octets) (λ es. k (found_in es)) (AreElements octets) (IsCut end octets) P F (elements_decided end octets) d)
  where
    bind_bind : (r : Result (List Element) UserFault) → (r >>= (λ es. Ok (found_in es)) >>= k) ≡ (r >>= λ es. k (found_in es))
    bind_bind (Ok es) = refl
    bind_bind (Err f) = refl

response_decided : (es : List Element) → Decides (echo_response (found_in es)) (λ c. (has_recovery es ≡ true) × (c ≡ EchoResponse)) (λ f. (has_recovery es ≡ false) × (f ≡ faults.Missing 14))
unfolding found_in
response_decided es = by_test (has_recovery es) where
  by_test : (b : Bool) → Decides (cond b (Ok EchoResponse) (Err (faults.Missing 14))) (λ c. (b ≡ true) × (c ≡ EchoResponse)) (λ f. (b ≡ false) × (f ≡ faults.Missing 14))
  by_test true = known_ok EchoResponse (λ c. (true ≡ true) × (c ≡ EchoResponse)) (λ f. (true ≡ false) × (f ≡ faults.Missing 14)) (refl, refl) (λ c h. h.1) (λ f h. let e = h.0 in cc)
  by_test false = known_err (faults.Missing 14) (λ c. (false ≡ true) × (c ≡ EchoResponse)) (λ f. (false ≡ false) × (f ≡ faults.Missing 14)) (refl, refl) (λ c h. let e = h.0 in cc) (λ f h. h.1)

abbrev Indicates : List Element → Content → Type 0
Indicates es c = (teid : ℕ) × (first_teid es ≡ Some teid) × ((peer : Ip) × (first_peer es ≡ Some peer) × (c ≡ ErrorIndication teid peer))

abbrev IndicatesNone : List Element → UserFault → Type 0
IndicatesNone es = First_or_later (λ (teid : ℕ). first_teid es ≡ Some teid) (IsAbsent 16 (first_teid es)) (λ teid. IsAbsent 133 (first_peer es))

indication_decided : (es : List Element) → Decides (error_indication (found_in es)) (Indicates es) (IndicatesNone es)
unfolding found_in
indication_decided es =
    decide_bind (needed 16 (first_teid es)) (λ teid. needed 133 (first_peer es) >>= λ peer. Ok (ErrorIndication teid peer)) (λ (teid : ℕ). first_teid es ≡ Some teid) (IsAbsent 16 (first_teid es))
    (λ teid c. (peer : Ip) × (first_peer es ≡ Some peer) × (c ≡ ErrorIndication teid peer)) (λ teid. IsAbsent 133 (first_peer es))
    (needed_decided 16 (first_teid es)) (λ teid.
    decide_map (needed 133 (first_peer es)) (λ peer. ErrorIndication teid peer) (λ peer. first_peer es ≡ Some peer) (IsAbsent 133 (first_peer es))
    (needed_decided 133 (first_peer es)))

notification_decided : (es : List Element) → Decides (notification (found_in es)) (λ c. (types : List ℕ) × (first_types es ≡ Some types) × (c ≡ Notification types)) (IsAbsent 141 (first_types es))
unfolding found_in
notification_decided es =
    decide_map (needed 141 (first_types es)) (λ types. Notification types) (λ types. first_types es ≡ Some types) (IsAbsent 141 (first_types es))
    (needed_decided 141 (first_types es))

-- ---- by the type of the message

-- one of two readings, by the type
decide_kind : {X E : Type 0} (kind n : ℕ) (r s : Result X E) (P Q : X → Type 0) (F G : E → Type 0) → Decides r P F → Decides s Q G
    → Decides (cond (kind == n) r s) (λ x. ((kind ≡ n) × P x) ⊎ ((kind ≢ n) × Q x)) (λ f. ((kind ≡ n) × F f) ⊎ ((kind ≢ n) × G f))
decide_kind kind n r s P Q F G d e = by_test (kind == n) refl where
  by_test : (b : Bool) → (kind == n) ≡ b → Decides (cond b r s) (λ x. ((kind ≡ n) × P x) ⊎ ((kind ≢ n) × Q x)) (λ f. ((kind ≡ n) × F f) ⊎ ((kind ≢ n) × G f))
  by_test true t =
      let is : kind ≡ n = grind (arith, nat_tests) in
      decide_as r P (λ x. ((kind ≡ n) × P x) ⊎ ((kind ≢ n) × Q x)) F (λ f. ((kind ≡ n) × F f) ⊎ ((kind ≢ n) × G f)) (λ x p. inl (is, p))
      (λ x p. elim p [ inl q ↦ q.1 | inr q ↦ absurd (q.0 is) ]) (λ f p. inl (is, p)) (λ f p. elim p [ inl q ↦ q.1 | inr q ↦ absurd (q.0 is) ]) d
  by_test false t =
      let is_not : kind ≢ n = grind (arith, nat_tests) in
      decide_as s Q (λ x. ((kind ≡ n) × P x) ⊎ ((kind ≢ n) × Q x)) G (λ f. ((kind ≡ n) × F f) ⊎ ((kind ≢ n) × G f)) (λ x p. inr (is_not, p))
      (λ x p. elim p [ inl q ↦ absurd (is_not q.0) | inr q ↦ q.1 ]) (λ f p. inr (is_not, p))
      (λ f p. elim p [ inl q ↦ absurd (is_not q.0) | inr q ↦ q.1 ]) e

abbrev said : Content → Result Content UserFault
said c = Ok c

abbrev Never : UserFault → Type 0
Never f = ⊥

abbrev Either : (kind n : ℕ) → Type 0 → Type 0 → Type 0
Either kind n P Q = ((kind ≡ n) × P) ⊎ ((kind ≢ n) × Q)

abbrev Responds : List ℕ → Content → Type 0
Responds octets c = (es : List Element) × AreElements octets es × ((has_recovery es ≡ true) × (c ≡ EchoResponse))

abbrev RespondsNone : ℕ → List ℕ → UserFault → Type 0
RespondsNone end octets = First_or_later (AreElements octets) (IsCut end octets) (λ es f. (has_recovery es ≡ false) × (f ≡ faults.Missing 14))

abbrev IndicatesIn : List ℕ → Content → Type 0
IndicatesIn octets c = (es : List Element) × AreElements octets es × Indicates es c

abbrev IndicatesNoneIn : ℕ → List ℕ → UserFault → Type 0
IndicatesNoneIn end octets = First_or_later (AreElements octets) (IsCut end octets) IndicatesNone

abbrev Notifies : List ℕ → Content → Type 0
Notifies octets c = (es : List Element) × AreElements octets es × ((types : List ℕ) × (first_types es ≡ Some types) × (c ≡ Notification types))

abbrev NotifiesNone : ℕ → List ℕ → UserFault → Type 0
NotifiesNone end octets = First_or_later (AreElements octets) (IsCut end octets) (λ es. IsAbsent 141 (first_types es))

-- the readings from a type on, the last one first
abbrev Is255 : ℕ → ℕ → List ℕ → Content → Type 0
Is255 kind teid octets c = Either kind 255 (c ≡ Packet teid octets) (c ≡ Other kind teid octets)

abbrev Fails255 : ℕ → UserFault → Type 0
Fails255 kind f = Either kind 255 (Never f) (Never f)

abbrev Is254 : ℕ → ℕ → List ℕ → Content → Type 0
Is254 kind teid octets c = Either kind 254 (c ≡ EndMarker teid) (Is255 kind teid octets c)

abbrev Fails254 : ℕ → UserFault → Type 0
Fails254 kind f = Either kind 254 (Never f) (Fails255 kind f)

abbrev Is31 : ℕ → ℕ → List ℕ → Content → Type 0
Is31 kind teid octets c = Either kind 31 (Notifies octets c) (Is254 kind teid octets c)

abbrev Fails31 : ℕ → ℕ → List ℕ → UserFault → Type 0
Fails31 end kind octets f = Either kind 31 (NotifiesNone end octets f) (Fails254 kind f)

abbrev Is26 : ℕ → ℕ → List ℕ → Content → Type 0
Is26 kind teid octets c = Either kind 26 (IndicatesIn octets c) (Is31 kind teid octets c)

abbrev Fails26 : ℕ → ℕ → List ℕ → UserFault → Type 0
Fails26 end kind octets f = Either kind 26 (IndicatesNoneIn end octets f) (Fails31 end kind octets f)

abbrev Is2 : ℕ → ℕ → List ℕ → Content → Type 0
Is2 kind teid octets c = Either kind 2 (Responds octets c) (Is26 kind teid octets c)

abbrev Fails2 : ℕ → ℕ → List ℕ → UserFault → Type 0
Fails2 end kind octets f = Either kind 2 (RespondsNone end octets f) (Fails26 end kind octets f)

abbrev Is1 : ℕ → ℕ → List ℕ → Content → Type 0
Is1 kind teid octets c = Either kind 1 (c ≡ EchoRequest) (Is2 kind teid octets c)

abbrev Fails1 : ℕ → ℕ → List ℕ → UserFault → Type 0
Fails1 end kind octets f = Either kind 1 (Never f) (Fails2 end kind octets f)

abbrev read255 : ℕ → ℕ → List ℕ → Result Content UserFault
read255 kind teid octets = cond (kind == 255) (Ok (Packet teid octets)) (Ok (Other kind teid octets))

abbrev read254 : ℕ → ℕ → List ℕ → Result Content UserFault
read254 kind teid octets = cond (kind == 254) (Ok (EndMarker teid)) (read255 kind teid octets)

abbrev read31 : ℕ → ℕ → ℕ → List ℕ → Result Content UserFault
read31 end kind teid octets = cond (kind == 31) (found_at end octets >>= λ f. notification f) (read254 kind teid octets)

abbrev read26 : ℕ → ℕ → ℕ → List ℕ → Result Content UserFault
read26 end kind teid octets = cond (kind == 26) (found_at end octets >>= λ f. error_indication f) (read31 end kind teid octets)

abbrev read2 : ℕ → ℕ → ℕ → List ℕ → Result Content UserFault
read2 end kind teid octets = cond (kind == 2) (found_at end octets >>= λ f. echo_response f) (read26 end kind teid octets)

read255_decided : (kind teid : ℕ) (octets : List ℕ) → Decides (read255 kind teid octets) (Is255 kind teid octets) (Fails255 kind)
read255_decided kind teid octets =
    decide_kind kind 255 (said (Packet teid octets)) (said (Other kind teid octets)) (λ c. c ≡ Packet teid octets) (λ c. c ≡ Other kind teid octets)
    Never Never (decide_ok {E = UserFault} (Packet teid octets)) (decide_ok {E = UserFault} (Other kind teid octets))

read254_decided : (kind teid : ℕ) (octets : List ℕ) → Decides (read254 kind teid octets) (Is254 kind teid octets) (Fails254 kind)
read254_decided kind teid octets =
    decide_kind kind 254 (said (EndMarker teid)) (read255 kind teid octets) (λ c. c ≡ EndMarker teid) (Is255 kind teid octets) Never (Fails255 kind)
    (decide_ok {E = UserFault} (EndMarker teid)) (read255_decided kind teid octets)

read31_decided : (end kind teid : ℕ) (octets : List ℕ) → Decides (read31 end kind teid octets) (Is31 kind teid octets) (Fails31 end kind octets)
read31_decided end kind teid octets =
    decide_kind kind 31 (found_at end octets >>= λ f. notification f) (read254 kind teid octets) (Notifies octets) (Is254 kind teid octets) (NotifiesNone end octets) (Fails254 kind)
    (with_elements end octets notification (λ es c. (types : List ℕ) × (first_types es ≡ Some types) × (c ≡ Notification types))
    (λ es. IsAbsent 141 (first_types es)) notification_decided) (read254_decided kind teid octets)

read26_decided : (end kind teid : ℕ) (octets : List ℕ) → Decides (read26 end kind teid octets) (Is26 kind teid octets) (Fails26 end kind octets)
read26_decided end kind teid octets =
    decide_kind kind 26 (found_at end octets >>= λ f. error_indication f) (read31 end kind teid octets) (IndicatesIn octets) (Is31 kind teid octets)
    (IndicatesNoneIn end octets) (Fails31 end kind octets)
    (with_elements end octets error_indication Indicates IndicatesNone indication_decided) (read31_decided end kind teid octets)

read2_decided : (end kind teid : ℕ) (octets : List ℕ) → Decides (read2 end kind teid octets) (Is2 kind teid octets) (Fails2 end kind octets)
read2_decided end kind teid octets =
    decide_kind kind 2 (found_at end octets >>= λ f. echo_response f) (read26 end kind teid octets) (Responds octets) (Is26 kind teid octets) (RespondsNone end octets) (Fails26 end kind octets)
    (with_elements end octets echo_response (λ es c. (has_recovery es ≡ true) × (c ≡ EchoResponse))
    (λ es f. (has_recovery es ≡ false) × (f ≡ faults.Missing 14)) response_decided) (read26_decided end kind teid octets)

-- ---- in the words of the grammar

to_carries : (kind teid : ℕ) (octets : List ℕ) (c : Content) → Is1 kind teid octets c → Carries kind teid octets c
to_carries kind teid octets c (inl (k, e)) = subst (Carries kind teid octets) (sym e) k
to_carries kind teid octets c (inr (a, inl (k, (es, are, (has, e))))) = subst (Carries kind teid octets) (sym e) (k, (es, are, has))
to_carries kind teid octets c (inr (a, inr (b, inl (k, (es, are, (data_teid, t, (peer, p, e))))))) = subst (Carries kind teid octets) (sym e) (k, (es, are, t, p))
to_carries kind teid octets c (inr (a, inr (b, inr (d, inl (k, (es, are, (types, t, e))))))) = subst (Carries kind teid octets) (sym e) (k, (es, are, t))
to_carries kind teid octets c (inr (a, inr (b, inr (d, inr (f, inl (k, e)))))) = subst (Carries kind teid octets) (sym e) (k, refl)
to_carries kind teid octets c (inr (a, inr (b, inr (d, inr (f, inr (g, inl (k, e))))))) = subst (Carries kind teid octets) (sym e) (k, refl, refl)
to_carries kind teid octets c (inr (a, inr (b, inr (d, inr (f, inr (g, inr (h, e))))))) = subst (Carries kind teid octets) (sym e) ((a, b, d, f, g, h), refl, refl, refl)

from_carries : (kind teid : ℕ) (octets : List ℕ) (c : Content) → Carries kind teid octets c → Is1 kind teid octets c
from_carries kind teid octets EchoRequest k = inl (k, refl)
from_carries kind teid octets EchoResponse (k, (es, are, has)) = inr (λ e. omega (arith, e, k), inl (k, (es, are, (has, refl))))
from_carries kind teid octets (ErrorIndication t peer) (k, (es, are, is, p)) = inr (λ e. omega (arith, e, k), inr (λ e. omega (arith, e, k), inl (k, (es, are, (t, is, (peer, p, refl))))))
from_carries kind teid octets (Notification types) (k, (es, are, is)) =
    inr (λ e. omega (arith, e, k), inr (λ e. omega (arith, e, k), inr (λ e. omega (arith, e, k), inl (k, (es, are, (types, is, refl))))))
from_carries kind teid octets (EndMarker t) (k, e) =
    inr
    (λ e. omega (arith, e, k), inr (λ e. omega (arith, e, k), inr (λ e. omega (arith, e, k), inr (λ e. omega (arith, e, k), inl (k, ap EndMarker e)))))
from_carries kind teid octets (Packet t payload) (k, e, o) =
    inr (
      λ e. omega (arith, e, k),
      inr (
        λ e. omega (arith, e, k),
        inr (
          λ e. omega (arith, e, k),
          inr (λ e. omega (arith, e, k), inr (λ e. omega (arith, e, k), inl (k, ap (λ (n : ℕ). Packet n payload) e ∙ ap (Packet teid) o))),
        ),
      ),
    )
from_carries kind teid octets (Other k t os) ((a, b, d, f, g, h), e, i, o) =
    inr (a, inr (b, inr (d, inr (f, inr (g, inr (h, ap (λ (n : ℕ). Other n t os) e ∙ (ap (λ (n : ℕ). Other kind n os) i ∙ ap (Other kind teid) o)))))))

to_none : (end kind : ℕ) (octets : List ℕ) (f : UserFault) → Fails1 end kind octets f → CarriesNone end kind octets f
to_none end kind octets f (inl (k, n)) = absurd n
to_none end kind octets f (inr (a, inl (k, inl cut))) = (inl k, inl cut)
to_none end kind octets f (inr (a, inl (k, inr (es, are, (has, e))))) = (inl k, inr (es, are, inl (k, has, e)))
to_none end kind octets f (inr (a, inr (b, inl (k, inl cut)))) = (inr (inl k), inl cut)
to_none end kind octets f (inr (a, inr (b, inl (k, inr (es, are, inl (n, e)))))) = (inr (inl k), inr (es, are, inr (inl (k, n, e))))
to_none end kind octets f (inr (a, inr (b, inl (k, inr (es, are, inr (t, is, (n, e))))))) = (inr (inl k), inr (es, are, inr (inr (inl (k, (t, is), n, e)))))
to_none end kind octets f (inr (a, inr (b, inr (d, inl (k, inl cut))))) = (inr (inr k), inl cut)
to_none end kind octets f (inr (a, inr (b, inr (d, inl (k, inr (es, are, (n, e))))))) = (inr (inr k), inr (es, are, inr (inr (inr (k, n, e)))))
to_none end kind octets f (inr (a, inr (b, inr (d, inr (g, inl (k, n)))))) = absurd n
to_none end kind octets f (inr (a, inr (b, inr (d, inr (g, inr (h, inl (k, n))))))) = absurd n
to_none end kind octets f (inr (a, inr (b, inr (d, inr (g, inr (h, inr (i, n))))))) = absurd n

lacks_2 : (end kind : ℕ) (octets : List ℕ) (f : UserFault) (es : List Element) → kind ≡ 2 → AreElements octets es → Lacks kind es f → Fails1 end kind octets f
lacks_2 end kind octets f es k are (inl (j, has, e)) = inr (λ e. omega (arith, e, k), inl (k, inr (es, are, (has, e))))
lacks_2 end kind octets f es k are (inr (inl (j, n, e))) = absurd (omega (arith, j, k))
lacks_2 end kind octets f es k are (inr (inr (inl (j, t, n, e)))) = absurd (omega (arith, j, k))
lacks_2 end kind octets f es k are (inr (inr (inr (j, n, e)))) = absurd (omega (arith, j, k))

lacks_26 : (end kind : ℕ) (octets : List ℕ) (f : UserFault) (es : List Element) → kind ≡ 26 → AreElements octets es → Lacks kind es f → Fails1 end kind octets f
lacks_26 end kind octets f es k are (inl (j, has, e)) = absurd (omega (arith, j, k))
lacks_26 end kind octets f es k are (inr (inl (j, n, e))) = inr (λ e. omega (arith, e, k), inr (λ e. omega (arith, e, k), inl (k, inr (es, are, inl (n, e)))))
lacks_26 end kind octets f es k are (inr (inr (inl (j, (t, is), n, e)))) = inr (λ e. omega (arith, e, k), inr (λ e. omega (arith, e, k), inl (k, inr (es, are, inr (t, is, (n, e))))))
lacks_26 end kind octets f es k are (inr (inr (inr (j, n, e)))) = absurd (omega (arith, j, k))

lacks_31 : (end kind : ℕ) (octets : List ℕ) (f : UserFault) (es : List Element) → kind ≡ 31 → AreElements octets es → Lacks kind es f → Fails1 end kind octets f
lacks_31 end kind octets f es k are (inl (j, has, e)) = absurd (omega (arith, j, k))
lacks_31 end kind octets f es k are (inr (inl (j, n, e))) = absurd (omega (arith, j, k))
lacks_31 end kind octets f es k are (inr (inr (inl (j, t, n, e)))) = absurd (omega (arith, j, k))
lacks_31 end kind octets f es k are (inr (inr (inr (j, n, e)))) = inr (λ e. omega (arith, e, k), inr (λ e. omega (arith, e, k), inr (λ e. omega (arith, e, k), inl (k, inr (es, are, (n, e))))))

from_none : (end kind : ℕ) (octets : List ℕ) (f : UserFault) → CarriesNone end kind octets f → Fails1 end kind octets f
from_none end kind octets f (inl k, inl cut) = inr (λ e. omega (arith, e, k), inl (k, inl cut))
from_none end kind octets f (inl k, inr (es, are, lacks)) = lacks_2 end kind octets f es k are lacks
from_none end kind octets f (inr (inl k), inl cut) = inr (λ e. omega (arith, e, k), inr (λ e. omega (arith, e, k), inl (k, inl cut)))
from_none end kind octets f (inr (inl k), inr (es, are, lacks)) = lacks_26 end kind octets f es k are lacks
from_none end kind octets f (inr (inr k), inl cut) = inr (λ e. omega (arith, e, k), inr (λ e. omega (arith, e, k), inr (λ e. omega (arith, e, k), inl (k, inl cut))))
from_none end kind octets f (inr (inr k), inr (es, are, lacks)) = lacks_31 end kind octets f es k are lacks

pub body_decided : (end kind teid : ℕ) (octets : List ℕ) → Decides (body_at end kind teid octets) (Carries kind teid octets) (CarriesNone end kind octets)
unfolding body_at
body_decided end kind teid octets =
    decide_as (cond (kind == 1) (said EchoRequest) (read2 end kind teid octets)) (Is1 kind teid octets) (Carries kind teid octets) (Fails1 end kind octets) (CarriesNone end kind octets)
    (to_carries kind teid octets) (from_carries kind teid octets) (to_none end kind octets) (from_none end kind octets)
    (decide_kind kind 1 (said EchoRequest) (read2 end kind teid octets) (λ c. c ≡ EchoRequest) (Is2 kind teid octets) Never (Fails2 end kind octets)
    (decide_ok {E = UserFault} EchoRequest) (read2_decided end kind teid octets))

-- ---- the whole datagram

abbrev pub message_by : Option ℕ → Option ℕ → List Extension → Content → MessageValue
message_by seq npdu ext content = record { seq = seq; npdu = npdu; ext = ext; content = content }

-- what is read after a header
abbrev IsAfterHeader : List ℕ → Headed → MessageValue → Type 0
IsAfterHeader understood h m =
    (c : Chained) × IsChainedBy understood h.first h.rest c × ((content : Content) × Carries h.kind h.teid c.rest content × (m ≡ message_of h c content))

abbrev FailsByReading : List ℕ → ℕ → Headed → UserFault → Type 0
FailsByReading understood end h = First_or_later (IsChainedBy understood h.first h.rest) (ChainFailsBy understood end h.first h.rest) (λ c. CarriesNone end h.kind c.rest)

rest_decided : (understood : List ℕ) (end : ℕ) (h : Headed)
    → Decides (chain_by understood end h.first h.rest >>= λ c. body_at end h.kind h.teid c.rest >>= λ content. Ok (message_of h c content)) (IsAfterHeader understood h)
    (FailsByReading understood end h)
rest_decided understood end h =
    decide_bind (chain_by understood end h.first h.rest) (λ c. body_at end h.kind h.teid c.rest >>= λ content. Ok (message_of h c content))
    (IsChainedBy understood h.first h.rest) (ChainFailsBy understood end h.first h.rest)
    (λ c m. (content : Content) × Carries h.kind h.teid c.rest content × (m ≡ message_of h c content)) (λ c. CarriesNone end h.kind c.rest)
    (chain_by_decided understood end h.first h.rest)
    (λ c. decide_map (body_at end h.kind h.teid c.rest) (message_of h c) (Carries h.kind h.teid c.rest) (CarriesNone end h.kind c.rest)
    (body_decided end h.kind h.teid c.rest))

-- the same in the words of the grammar
abbrev AfterHeader : List ℕ → Headed → MessageValue → Type 0
AfterHeader understood h m =
    (tail : List ℕ) × IsChainBy understood h.first h.rest m.ext tail × Carries h.kind h.teid tail m.content × (m.seq ≡ numbered m.content h.seq) × (m.npdu ≡ h.npdu)

to_after_header : (understood : List ℕ) (h : Headed) (m : MessageValue) → IsAfterHeader understood h m → AfterHeader understood h m
to_after_header understood h m (c, chain, (content, carries, e)) = subst (AfterHeader understood h) (sym e) (c.rest, chain, carries, refl, refl)

from_after_header : (understood : List ℕ) (h : Headed) (m : MessageValue) → AfterHeader understood h m → IsAfterHeader understood h m
from_after_header understood h m (tail, chain, carries, seq, npdu) =
    (chained m.ext tail, chain, (m.content, carries, ap (λ n. message_by n m.npdu m.ext m.content) seq ∙ ap (λ n. message_by (numbered m.content h.seq) n m.ext m.content) npdu))

to_fails : (understood : List ℕ) (end : ℕ) (h : Headed) (f : UserFault) → FailsByReading understood end h f → FailsAfterHeaderBy understood end h f
to_fails understood end h f (inl p) = inl p
to_fails understood end h f (inr (c, chain, p)) = inr (c.headers, c.rest, chain, p)

from_fails : (understood : List ℕ) (end : ℕ) (h : Headed) (f : UserFault) → FailsAfterHeaderBy understood end h f → FailsByReading understood end h f
from_fails understood end h f (inl p) = inl p
from_fails understood end h f (inr (es, tail, chain, p)) = inr (chained es tail, chain, p)

-- reading a datagram decides which message it spells
pub message_with_decided : (understood octets : List ℕ) → Decides (message_with understood octets) (IsUserMessageBy understood octets) (IsUserFaultBy understood octets)
unfolding message_with
message_with_decided understood octets =
    decide_bind (header_at octets)
    (λ h. chain_by understood (length octets) h.first h.rest >>= λ c. body_at (length octets) h.kind h.teid c.rest >>= λ content. Ok (message_of h c content))
    (IsHeaded octets) (HeaderFails octets)
    (AfterHeader understood) (FailsAfterHeaderBy understood (length octets)) (header_decided octets)
    (λ h. decide_as (chain_by understood (length octets) h.first h.rest >>= λ c. body_at (length octets) h.kind h.teid c.rest >>= λ content. Ok
    (message_of h c content)) (IsAfterHeader understood h) (AfterHeader understood h) (FailsByReading understood (length octets) h)
    (FailsAfterHeaderBy understood (length octets) h) (to_after_header understood h) (from_after_header understood h) (to_fails understood (length octets) h)
    (from_fails understood (length octets) h) (rest_decided understood (length octets) h))

-- where no type from 128 on is understood
message_same : (octets : List ℕ) → message_at octets ≡ message_with [] octets
unfolding message_at message_with
message_same octets = refl

pub message_decided : (octets : List ℕ) → Decides (message_at octets) (IsUserMessage octets) (IsUserFault octets)
message_decided octets = subst (λ (r : Result MessageValue UserFault). Decides r (IsUserMessage octets) (IsUserFault octets)) (sym (message_same octets)) (message_with_decided [] octets)
