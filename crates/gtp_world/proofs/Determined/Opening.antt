-- A Create Session Response makes no bearer: where none stood before, none stands after it.
use Rattle.std.proofs.Common.{◌≡◌, inl, inr, ⊎_elim, ℕ, false, Option, Some, None, refl, sym, ◌∙◌, ap, subst}
use Rattle.std.specs.FinMap.{get}
use Rattle.gtp_values.specs.Counter.{age_of}
use Rattle.gtp_values.specs.declared.counter.Age.{Age}
use Rattle.gtp_values.specs.declared.counter.Age.TheVariants.{Same, Later, Earlier}
use Rattle.gtp_machine.specs.Message.{CreateSessionResponse, Create_session_response}
use Rattle.gtp_machine.specs.Node.{Arrival, Bearer, PendingRequest, Node}
use Rattle.gtp_machine.specs.Input.{Control_came, Control_message, Effect}
use Rattle.gtp_machine.specs.Recovery.{peer_restarted, Judges, Weighs, Hears}
use Rattle.gtp_machine.specs.Removal.{finished, is_opened}
use Rattle.gtp_machine.specs.Serving.{opened_bearer, CreateSessionAnswered, ServingTakes}
use Rattle.gtp_machine.specs.Step.{Step}
use Rattle.gtp_machine.specs.declared.role.Role.TheVariants.{Serving}
use Rattle.gtp_machine.proofs.Basics.FiniteMaps.{found-insert}
use Rattle.gtp_machine.proofs.Changes.Shrinking.{Shrunk, Shrunk-without, Shrunk-finished}

-- each bearer that stands in the one stood in the other
abbrev pub BearersFrom : Node → Node → Type 0
BearersFrom old new = (t : ℕ) (b : Bearer) → get new.bearers t ≡ Some b → (was : Bearer) × (get old.bearers t ≡ Some was)

shrunk_from : (old new : Node) → Shrunk old new → BearersFrom old new
shrunk_from old new s t b stands = let was = s.shrinks.bearers t b stands in (was.before, was.stood)

itself : (old : Node) → BearersFrom old old
itself old t b stands = (b, stands)

to : (old : Node) (e f : Effect) → e ≡ f → BearersFrom old f.node → BearersFrom old e.node
to old e f is from = subst (λ (k : Effect). BearersFrom old k.node) (sym is) from

finished_from : (old : Node) (number : ℕ) (p : PendingRequest) → BearersFrom old (finished old number p)
finished_from old number p = shrunk_from old (finished old number p) (Shrunk-finished old number p.session p.bearer)

answered : (a : CreateSessionResponse) (old : Node) (e : Effect) → CreateSessionAnswered a old e → BearersFrom old e.node
answered a old e (inl f) = to old e _ f.1 (itself old)
answered a old e (inr (b, inl f)) = to old e _ f.1 (itself old)
answered a old e (inr (b, inr (c, inl f))) = to old e _ f.1 (finished_from old a.number b.pending)
answered a old e (inr (b, inr (c, inr (d, inl f)))) = to old e _ f.1 (itself old)
answered a old e (inr (b, inr (c, inr (d, inr (g, inl f))))) = to old e _ f.1 (finished_from old a.number b.pending)
answered a old e (inr (b, inr (c, inr (d, inr (g, inr (h, r)))))) = to old e _ r.gives (λ t x stands. ⊎_elim
    (λ here. (r.default.bearer, ap (λ k. get old.bearers k) here.0 ∙ r.default.stands))
    (λ there. (x, there.1))
    (found-insert old.bearers c.request.context.user.teid (opened_bearer r.default.bearer a) t x stands))

-- hearing the counter first takes bearers away
restarted_from : (old : Node) (counter : ℕ) → BearersFrom old (peer_restarted old counter)
restarted_from old counter =
    shrunk_from (record old { known = Some counter }) (peer_restarted old counter)
    (Shrunk-without (λ t. is_opened (get old.sessions t)) (λ t. false) (record old { known = Some counter }))

after : (old mid new : Node) → BearersFrom old mid → BearersFrom mid new → BearersFrom old new
after old mid new first second t b stands = let was = second t b stands in first t was.0 was.1

module _ (request : Arrival) (a : CreateSessionResponse) where
  takes : (old : Node) (e : Effect) → ServingTakes request (Create_session_response a) old e → BearersFrom old e.node
  takes old e r = answered a old e r

  judged : (old : Node) (c : ℕ) (age : Age) (e : Effect) → Judges (ServingTakes request (Create_session_response a)) old c age e → BearersFrom old e.node
  judged old c Same e r = takes old e r
  judged old c Later e r = after old (peer_restarted old c) e.node (restarted_from old c) (takes (peer_restarted old c) e r)
  judged old c Earlier e r = to old e _ r (itself old)

  weighed : (old : Node) (c : ℕ) (known : Option ℕ) (e : Effect) → Weighs (ServingTakes request (Create_session_response a)) old c known e → BearersFrom old e.node
  weighed old c None e r = takes (record old { known = Some c }) e r
  weighed old c (Some k) e r = judged old c (age_of k c) e r

  heard : (old : Node) (o : Option ℕ) (e : Effect) → Hears (ServingTakes request (Create_session_response a)) old o e → BearersFrom old e.node
  heard old None e r = takes old e r
  heard old (Some c) e r = to old e _ r.2 (weighed old c old.known r.0 r.1)

  pub bearers_from : (old : Node) (e : Effect) → Step Serving old (Control_came request (Control_message (Create_session_response a))) e → BearersFrom old e.node
  bearers_from old e (inl f) = to old e _ f.1 (itself old)
  bearers_from old e (inr (peer, inl r)) = to old e _ r.gives (itself old)
  bearers_from old e (inr (peer, inr (new, inl f))) = to old e _ f.1 (itself old)
  bearers_from old e (inr (peer, inr (new, inr (kind, r)))) = heard old a.recovery e r

-- where none stood, none stands
pub none_from : (old new : Node) → BearersFrom old new → (t : ℕ) → get old.bearers t ≡ None → get new.bearers t ≡ None
none_from old new from t none = by (get new.bearers t) refl
  where
    never : (was : Bearer) → get old.bearers t ≡ Some was → ⊥
    never was stood = cc

    by : (o : Option Bearer) → o ≡ get new.bearers t → get new.bearers t ≡ None
    by None is = sym is
    by (Some b) is = let was = from t b (sym is) in absurd (never was.0 was.1)
