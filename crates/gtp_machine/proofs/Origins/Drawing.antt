-- TEIDs are drawn once, over all restarts, and counters tell the start that they are of.
use Rattle.std.proofs.Common.{◌≡◌, ◌≢◌, ◌⊎◌, inl, inr, ⊎_elim, ℕ, ◌+◌, ◌%◌, ◌<◌, ◌≤◌, List, [], ◌∷◌, ◌++◌, Some, refl, sym, ◌∙◌, ap, subst, arith}
use Rattle.gtp_values.specs.FiniteMap.{Among}
use Rattle.gtp_machine.specs.Element.{IsAccepting, teid_in}
use Rattle.gtp_machine.specs.Message.{Message, CreateSessionResponse, GivenBearer, CreateBearerResponse, Create_session_request}
use Rattle.gtp_machine.specs.Message.{Create_session_response, Create_bearer_request, Create_bearer_response, Owns, recovery_of, first_created}
use Rattle.gtp_machine.specs.Message.{first_given}
use Rattle.gtp_machine.specs.Node.{Arrival, Role, Serving, Packet, Node}
use Rattle.gtp_machine.specs.Input.{Effect, messages}
use Rattle.gtp_machine.specs.Choice.{IsFree, counter_of}
use Rattle.gtp_machine.specs.World.{other, By, Sent, Side, HasBy, HasSent, signed, restarted, stepped}
use Rattle.gtp_machine.specs.Laws.{IsOfStart}
use Rattle.gtp_machine.proofs.Basics.FiniteMaps.{Among-left, Among-right, Among-cases}
use Rattle.gtp_machine.proofs.Basics.Datagrams.{ArePair, among_signed}

-- nothing that was sent is lost
pub record Extends (before after : List Sent) : Type 0 where
  pub keeps : (role : Role) (m : Message) → HasSent before role m → HasSent after role m

-- the counter of an earlier start of the gateway
pub record IsEarlier (side : Side) (counter : ℕ) : Type 0 where
  pub start : ℕ
  pub before : start < side.restarts
  pub is : counter ≡ (side.first + start) % 256

-- a Create Session Request, or its response: they tell the counter of their sender
abbrev pub TellsStart : Message → Type 0
TellsStart (Create_session_request q) = Unit {0}
TellsStart (Create_session_response a) = Unit {0}
TellsStart _ = ⊥

-- a Create Session Response names both TEIDs where it accepts, and not one for both
pub record ProperSession (a : CreateSessionResponse) : Type 0 where
  pub control : IsAccepting a.cause → (t : ℕ) × (teid_in a.control ≡ Some t)
  pub user : IsAccepting a.cause → (t : ℕ) × (first_created a.contexts ≡ Some t)
  pub apart : (t : ℕ) → teid_in a.control ≡ Some t → first_created a.contexts ≡ Some t → ⊥

-- a Create Bearer Response names a TEID where both causes accept
pub record ProperBearer (x : CreateBearerResponse) : Type 0 where
  pub user : (c : GivenBearer) → x.contexts ≡ c ∷ [] → IsAccepting x.cause → IsAccepting c.cause → (t : ℕ) × (first_given x.contexts ≡ Some t)

-- what holds of each request for a session and of each response that a gateway makes
abbrev pub IsProper : Role → Message → Type 0
IsProper role (Create_session_request q) = q.control.teid ≢ q.context.user.teid
IsProper role (Create_session_response a) = (role ≡ Packet) × ProperSession a
IsProper role (Create_bearer_response x) = (role ≡ Serving) × ProperBearer x
IsProper role _ = Unit {0}

-- what holds of a gateway's draws and of the counters that it tells
pub record Drawing (side : Side) (role : Role) (history : List Sent) : Type 0 where
  pub counter : side.node.counter ≡ (side.first + side.restarts) % 256
  pub few : side.restarts ≤ 127
  pub present : (t : ℕ) → Among t side.node.drawn → counter_of t ≡ side.node.counter
  pub drawn : (m : Message) (t : ℕ) → HasSent history role m → Owns m t → Among t side.node.drawn ⊎ IsEarlier side (counter_of t)
  pub once : (m n : Message) (t : ℕ) → HasSent history role m → HasSent history role n → Owns m t → Owns n t → m ≡ n
  pub told : (m : Message) (r : ℕ) → HasSent history role m → recovery_of m ≡ Some r → IsOfStart side r
  pub dated : (m : Message) (t : ℕ) → HasSent history role m → TellsStart m → Owns m t → recovery_of m ≡ Some (counter_of t)
  pub proper : (m : Message) → HasSent history role m → IsProper role m

-- a message that is made in this step: its own TEIDs are drawn now, it tells the present counter, and it is proper
pub record IsMadeNow (history : List Sent) (role : Role) (old new : Node) (m : Message) : Type 0 where
  pub free : (t : ℕ) → Owns m t → IsFree old t
  pub drawn : (t : ℕ) → Owns m t → Among t new.drawn
  pub told : (r : ℕ) → recovery_of m ≡ Some r → r ≡ old.counter
  pub tells : (t : ℕ) → TellsStart m → Owns m t → recovery_of m ≡ Some old.counter
  pub proper : IsProper role m

-- two messages of one step: they own no TEID in common, and the first gives no bearer
pub record AreApart (m n : Message) : Type 0 where
  pub none_owned : (t : ℕ) → Owns m t → Owns n t → ⊥
  pub no_grant : (x : CreateBearerResponse) → m ≡ Create_bearer_response x → ⊥

-- what a step does with draws
pub record Draws (history : List Sent) (role : Role) (old new : Node) (sent : List Message) : Type 0 where
  pub config : new.config ≡ old.config
  pub counter : new.counter ≡ old.counter
  pub extends : (t : ℕ) → Among t old.drawn → Among t new.drawn
  pub present : (t : ℕ) → Among t new.drawn → Among t old.drawn ⊎ (counter_of t ≡ old.counter)
  pub each : (m : Message) → Among m sent → HasSent history role m ⊎ IsMadeNow history role old new m
  pub one : (m n : Message) → Among m sent → Among n sent → (m ≡ n) ⊎ AreApart m n

-- of one TEID more, or of two, each is of this start where those drawn now are
pub one_more_drawn : (counter user : ℕ) (drawn : List ℕ) → counter_of user ≡ counter → (t : ℕ) → Among t (user ∷ drawn) → Among t drawn ⊎ (counter_of t ≡ counter)
one_more_drawn counter user drawn counted t (inl is) = inr (ap counter_of is ∙ counted)
one_more_drawn counter user drawn counted t (inr stood) = inl stood

pub two_more_drawn : (counter user control : ℕ) (drawn : List ℕ) → counter_of user ≡ counter → counter_of control ≡ counter → (t : ℕ)
    → Among t (user ∷ control ∷ drawn) → Among t drawn ⊎ (counter_of t ≡ counter)
two_more_drawn counter user control drawn counted both t (inl is) = inr (ap counter_of is ∙ counted)
two_more_drawn counter user control drawn counted both t (inr others) = one_more_drawn counter control drawn both t others

pub starts_apart : (first i j : ℕ) → i < j → j ≤ 127 → (first + i) % 256 ≡ (first + j) % 256 → ⊥
starts_apart first i j before few same = omega arith

-- what is signed is in the list
pub signed_among : {X : Type 0} (role by : Role) (list : List X) (x : X) → HasBy (signed by list) role x → (role ≡ by) × Among x list
signed_among role by [] x none = absurd none
signed_among {X} role by (y ∷ list) x (inl here) = (ap (λ (s : By X). s.role) here, inl (ap (λ (s : By X). s.what) here))
signed_among role by (y ∷ list) x (inr there) = let rest = signed_among role by list x there in (rest.0, inr rest.1)

pub by_before : {X : Type 0} (log : List (By X)) (role by : Role) (list : List X) (x : X) → HasBy log role x → HasBy (log ++ signed by list) role x
by_before log role by list x h = Among-left _ log (signed by list) h

pub Extends-signed : (history : List Sent) (role : Role) (sent : List Message) → Extends history (history ++ signed role sent)
Extends-signed history role sent = record { keeps = λ r m. by_before history r role sent m }

pub by_now : {X : Type 0} (log : List (By X)) (role : Role) (list : List X) (x : X) → Among x list → HasBy (log ++ signed role list) role x
by_now log role list x h = Among-right _ log (signed role list) (among_signed role list x h)

pub by_cases : {X : Type 0} (log : List (By X)) (role by : Role) (list : List X) (x : X) → HasBy (log ++ signed by list) role x → HasBy log role x ⊎ ((role ≡ by) × Among x list)
by_cases log role by list x h = ⊎_elim (λ l. inl l) (λ r. inr (signed_among role by list x r)) (Among-cases _ log (signed by list) h)

not_other : (role : Role) → role ≡ other role → ⊥
not_other Serving e = cc
not_other Packet e = cc

-- what the log has of one gateway is as before, where it grows by the other's
pub by_other : {X : Type 0} (log : List (By X)) (role : Role) (list : List X) (x : X) → HasBy (log ++ signed (other role) list) role x → HasBy log role x
by_other log role list x h = ⊎_elim (λ l. l) (λ r. absurd (not_other role r.0)) (by_cases log role (other role) list x h)

module _ (side : Side) (role : Role) (history : List Sent) (drawing : Drawing side role history) where
  -- nothing that was sent owns what may be drawn now
  pub unowned : (m : Message) (t : ℕ) → HasSent history role m → Owns m t → IsFree side.node t → ⊥
  unowned m t was owns free = elim (drawing.drawn m t was owns) [
    | inl drawn ↦ free.undrawn drawn
    | inr earlier ↦ starts_apart side.first earlier.start side.restarts earlier.before drawing.few (sym earlier.is ∙ free.counted ∙ drawing.counter)
  ]

  pub Drawing-step : (e : Effect) → Draws history role side.node e.node (messages e.out.sent) → Drawing (stepped side e) role (history ++ signed role (messages e.out.sent))
  Drawing-step e draws = record {
    counter = draws.counter ∙ drawing.counter;
    few = drawing.few;
    present = λ t among. ⊎_elim (λ was. drawing.present t was ∙ sym draws.counter) (λ now. now ∙ sym draws.counter) (draws.present t among);
    drawn = λ m t has owns. ⊎_elim (λ was. before m t was owns) (λ now. inl (now.1.drawn t owns)) (cases m has);
    once = λ m n t m_has n_has m_owns n_owns. same m n t m_owns n_owns (cases m m_has) (cases n n_has);
    told =
        λ m r has tells. ⊎_elim (λ was. at_start r (drawing.told m r was tells))
        (λ now. record { start = side.restarts; by_now = omega arith; is = now.1.told r tells ∙ drawing.counter }) (cases m has);
    dated = λ m t has is owns. ⊎_elim (λ was. drawing.dated m t was is owns) (λ now. now.1.tells t is owns ∙ ap (λ c. Some c) (sym (now.1.free t owns).counted)) (cases m has);
    proper = λ m has. ⊎_elim (λ was. drawing.proper m was) (λ now. now.1.proper) (cases m has);
  }
    where
      at_start : (r : ℕ) → IsOfStart side r → IsOfStart (stepped side e) r
      at_start r s = record { start = s.start; by_now = s.by_now; is = s.is }

      before : (m : Message) (t : ℕ) → HasSent history role m → Owns m t → Among t e.node.drawn ⊎ IsEarlier (stepped side e) (counter_of t)
      before m t was owns = ⊎_elim (λ drawn. inl (draws.extends t drawn)) (λ earlier. inr (record { start = earlier.start; before = earlier.before; is = earlier.is })) (drawing.drawn m t was owns)

      cases : (m : Message) → HasSent (history ++ signed role (messages e.out.sent)) role m → HasSent history role m ⊎ (Among m (messages e.out.sent) × IsMadeNow history role side.node e.node m)
      cases m has = elim (by_cases history role role (messages e.out.sent) m has) [
        | inl was ↦ inl was
        | inr now ↦ ⊎_elim (λ was. inl was) (λ fresh. inr (now.1, fresh)) (draws.each m now.1)
      ]

      same : (m n : Message) (t : ℕ) → Owns m t → Owns n t
          → HasSent history role m ⊎ (Among m (messages e.out.sent) × IsMadeNow history role side.node e.node m)
          → HasSent history role n ⊎ (Among n (messages e.out.sent) × IsMadeNow history role side.node e.node n) → m ≡ n
      same m n t m_owns n_owns (inl m_was) (inl n_was) = drawing.once m n t m_was n_was m_owns n_owns
      same m n t m_owns n_owns (inl m_was) (inr n_now) = absurd (unowned m t m_was m_owns (n_now.1.free t n_owns))
      same m n t m_owns n_owns (inr m_now) (inl n_was) = absurd (unowned n t n_was n_owns (m_now.1.free t m_owns))
      same m n t m_owns n_owns (inr m_now) (inr n_now) = ⊎_elim (λ is. is) (λ apart. absurd (apart.none_owned t m_owns n_owns)) (draws.one m n m_now.0 n_now.0)

  pub Drawing-elsewhere : (sent : List Message) → Drawing side role (history ++ signed (other role) sent)
  Drawing-elsewhere sent = record {
    counter = drawing.counter;
    few = drawing.few;
    present = drawing.present;
    drawn = λ m t has owns. drawing.drawn m t (by_other history role sent m has) owns;
    once = λ m n t m_has n_has. drawing.once m n t (by_other history role sent m m_has) (by_other history role sent n n_has);
    told = λ m r has. drawing.told m r (by_other history role sent m has);
    dated = λ m t has. drawing.dated m t (by_other history role sent m has);
    proper = λ m has. drawing.proper m (by_other history role sent m has);
  }

  pub Drawing-restart : side.restarts < 127 → Drawing (restarted side) role history
  Drawing-restart room = record {
    counter = refl;
    few = omega arith;
    present = λ t none. absurd none;
    drawn =
        λ m t has owns. inr (⊎_elim (λ drawn. record { start = side.restarts; before = omega arith; is = drawing.present t drawn ∙ drawing.counter })
        (λ earlier. record { start = earlier.start; before = omega (arith, earlier.before); is = earlier.is }) (drawing.drawn m t has owns));
    once = drawing.once;
    told = λ m r has tells. let s = drawing.told m r has tells in record { start = s.start; by_now = omega (arith, s.by_now); is = s.is };
    dated = drawing.dated;
    proper = drawing.proper;
  }

  -- a late delivery that is noted changes nothing of this
  pub Drawing-marked : (a : Arrival) → Drawing (record side { late_requests = a ∷ side.late_requests }) role history
  Drawing-marked a = record {
    counter = drawing.counter;
    few = drawing.few;
    present = drawing.present;
    drawn = λ m t has owns. ⊎_elim (λ drawn. inl drawn) (λ earlier. inr (record { start = earlier.start; before = earlier.before; is = earlier.is })) (drawing.drawn m t has owns);
    once = drawing.once;
    told = λ m r has tells. let s = drawing.told m r has tells in record { start = s.start; by_now = s.by_now; is = s.is };
    dated = drawing.dated;
    proper = drawing.proper;
  }

pub only_one : (m : Message) (a b : Message) → Among a (m ∷ []) → Among b (m ∷ []) → a ≡ b
only_one m a b (inl x) (inl y) = x ∙ sym y
only_one m a b (inr none) y = absurd none
only_one m a b (inl x) (inr none) = absurd none

-- a step that draws nothing, and sends messages again
pub Draws-again : (history : List Sent) (role : Role) (old new : Node) (sent : List Message) → new.config ≡ old.config → new.counter ≡ old.counter
    → new.drawn ≡ old.drawn → ((m : Message) → Among m sent → HasSent history role m)
    → ((m n : Message) → Among m sent → Among n sent → (m ≡ n) ⊎ AreApart m n) → Draws history role old new sent
Draws-again history role old new sent config counter same was one = record {
  config = config;
  counter = counter;
  extends = λ t stood. subst (Among t) (sym same) stood;
  present = λ t now. inl (subst (Among t) same now);
  each = λ m among. inl (was m among);
  one = one;
}

-- a step that sends nothing and draws nothing
pub Draws-nothing : (history : List Sent) (role : Role) (old new : Node) → new.config ≡ old.config → new.counter ≡ old.counter → new.drawn ≡ old.drawn → Draws history role old new []
Draws-nothing history role old new config counter same = Draws-again history role old new [] config counter same (λ m none. absurd none) (λ m n none. absurd none)

-- of two messages that are apart, any two are one or apart
pub two_apart : (m n : Message) → AreApart m n → AreApart n m → (a b : Message) → Among a (m ∷ n ∷ []) → Among b (m ∷ n ∷ []) → (a ≡ b) ⊎ AreApart a b
two_apart m n there back a b (inl x) (inl y) = inl (x ∙ sym y)
two_apart m n there back a b (inl x) (inr (inl y)) = inr (subst (λ k. AreApart k b) (sym x) (subst (AreApart m) (sym y) there))
two_apart m n there back a b (inr (inl x)) (inl y) = inr (subst (λ k. AreApart k b) (sym x) (subst (AreApart n) (sym y) back))
two_apart m n there back a b (inr (inl x)) (inr (inl y)) = inl (x ∙ sym y)
two_apart m n there back a b (inr (inr none)) y = absurd none
two_apart m n there back a b (inl x) (inr (inr none)) = absurd none
two_apart m n there back a b (inr (inl x)) (inr (inr none)) = absurd none

-- a pair of which no TEID is owned twice is apart
pub pair_apart : (m n : Message) → ArePair m n → ((t : ℕ) → Owns m t → Owns n t → ⊥) → (a b : Message) → Among a (m ∷ n ∷ []) → Among b (m ∷ n ∷ []) → (a ≡ b) ⊎ AreApart a b
pair_apart m n pair none = two_apart m n
    (record { none_owned = none; no_grant = λ x is. let never : Create_session_response pair.answer ≡ Create_bearer_response x = sym pair.first ∙ is in absurd (cc never) })
    (record { none_owned = λ t x y. none t y x; no_grant = λ x is. let never : Create_bearer_request pair.request ≡ Create_bearer_response x = sym pair.second ∙ is in absurd (cc never) })

-- a step that draws some TEIDs and sends one message, which was sent before, or is made now and owns no other
pub Draws-new : (history : List Sent) (role : Role) (old new : Node) (m : Message) → new.config ≡ old.config → new.counter ≡ old.counter → ((t : ℕ) → Among t old.drawn → Among t new.drawn)
    → ((t : ℕ) → Among t new.drawn → Among t old.drawn ⊎ (counter_of t ≡ old.counter))
    → HasSent history role m ⊎ IsMadeNow history role old new m → Draws history role old new (m ∷ [])
Draws-new history role old new m config counter extends present is = record {
  config = config;
  counter = counter;
  extends = extends;
  present = present;
  each = only;
  one = λ a b a_in b_in. inl (only_one m a b a_in b_in);
}
  where
    only : (n : Message) → Among n (m ∷ []) → HasSent history role n ⊎ IsMadeNow history role old new n
    only n (inl e) = subst (λ k. HasSent history role k ⊎ IsMadeNow history role old new k) (sym e) is
    only n (inr none) = absurd none

-- a step that draws nothing, and sends one message
pub Draws-one : (history : List Sent) (role : Role) (old new : Node) (m : Message) → new.config ≡ old.config → new.counter ≡ old.counter → new.drawn ≡ old.drawn
    → HasSent history role m ⊎ IsMadeNow history role old new m → Draws history role old new (m ∷ [])
Draws-one history role old new m config counter same = Draws-new history role old new m config counter (λ t was. subst (Among t) (sym same) was) (λ t now. inl (subst (Among t) same now))

-- a message that owns no TEID and tells the present counter, if any
pub Made-plain : (history : List Sent) (role : Role) (old new : Node) (m : Message) → ((t : ℕ) → Owns m t → ⊥)
    → ((r : ℕ) → recovery_of m ≡ Some r → r ≡ old.counter) → IsProper role m → IsMadeNow history role old new m
Made-plain history role old new m none told proper =
    record {
      free = λ t owns. absurd (none t owns);
      drawn = λ t owns. absurd (none t owns);
      told = told;
      tells = λ t is owns. absurd (none t owns);
      proper = proper;
    }
