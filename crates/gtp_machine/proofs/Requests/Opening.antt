-- What the serving gateway does with a Create Session Response, and what both do with a message of a type that none takes: nothing is sent, drawn or made, and no
-- answer comes to be held or goes, but where the octets are those of a request that came before.
use Rattle.std.proofs.Common.{◌≡◌, ◌⊎◌, inl, inr, ℕ, List, [], Option, Some, ◌∙◌, ap}
use Rattle.gtp_machine.specs.Message.{CreateSessionResponse, Create_session_response, Other_control}
use Rattle.gtp_machine.specs.Node.{Role, Serving, PendingRequest, Arrival, Held, Node}
use Rattle.gtp_machine.specs.Input.{Sending, Outcome, Control_came, Control_message, Effect}
use Rattle.gtp_machine.specs.Recovery.{peer_restarted, Hears}
use Rattle.gtp_machine.specs.Response.{finishing}
use Rattle.gtp_machine.specs.Answer.{Repeats}
use Rattle.gtp_machine.specs.Serving.{CreateSessionAnswered, ServingTakes}
use Rattle.gtp_machine.specs.Step.{Step}
use Rattle.gtp_machine.proofs.Basics.Finishing.{on_session_answered, on_hears, on_control, by_rule}
use Rattle.gtp_machine.proofs.Changes.Shrinking.{Shrunk-finished}

-- what is sent and told of this, and what is kept
pub record Trace : Type 0 where
  pub sent : List Sending
  pub forgot : List Arrival
  pub made : List Arrival
  pub held : List Held
  pub drawn : List ℕ

abbrev pub trace_of : Effect → Trace
trace_of e = record { sent = e.out.sent; forgot = e.out.forgot; made = e.out.made; held = e.node.held; drawn = e.node.drawn }

-- nothing is sent, forgotten or made, and what is held and drawn stays so
abbrev pub IsMute : Node → Effect → Type 0
IsMute old e = trace_of e ≡ record { sent = []; forgot = []; made = []; held = old.held; drawn = old.drawn }

finished_mute : (old : Node) (number : ℕ) (p : PendingRequest) (outcome : Outcome) (e : Effect) → e ≡ finishing old number p outcome → IsMute old e
finished_mute old number p outcome e gives =
    let s = Shrunk-finished old number p.session p.bearer in
    ap trace_of gives ∙ (λ i. record { sent = []; forgot = []; made = []; held = s.held i; drawn = s.drawn i })

answered_mute : (a : CreateSessionResponse) (old : Node) (e : Effect) → CreateSessionAnswered a old e → IsMute old e
answered_mute a old e r =
    on_session_answered old e
    (λ outcome f. ap trace_of f)
    a
    (λ at outcome f. finished_mute old a.number at.pending outcome e f)
    (λ at fits accepts new both r. ap trace_of r.gives)
    r

-- hearing the counter first changes nothing of this
module _ (Takes : Node → Effect → Type 0) (takes : (old : Node) (e : Effect) → Takes old e → IsMute old e) where
  heard : (old : Node) (o : Option ℕ) (e : Effect) → Hears Takes old o e → IsMute old e
  heard old =
      on_hears (IsMute old) Takes old (takes old)
      (λ c. takes (record old { known = Some c }))
      (λ c. takes (peer_restarted old c))
      (λ e outcome gives. ap trace_of gives)
      (λ taken heard learned mute. mute)

pub opening : (request : Arrival) (a : CreateSessionResponse) (old : Node) (e : Effect)
    → Step Serving old (Control_came request (Control_message (Create_session_response a))) e → IsMute old e ⊎ Repeats old request e
opening request a old e =
    on_control old e (λ _ f. inl (ap trace_of f)) request (λ r. inr r) (λ new. by_rule (λ f. inl (ap trace_of f))
    (λ kind r. inl (heard (ServingTakes request (Create_session_response a)) (λ mid f s. answered_mute a mid f s) old a.recovery e r)))

pub foreign : (role : Role) (request : Arrival) (kind : ℕ) (old : Node) (e : Effect)
    → Step role old (Control_came request (Control_message (Other_control kind))) e → IsMute old e ⊎ Repeats old request e
foreign role request kind old e = on_control old e (λ _ f. inl (ap trace_of f)) request (λ r. inr r) (λ new. by_rule (λ f. inl (ap trace_of f)) (λ takes r. absurd (cc takes)))

module _ (old : Node) (request : Arrival) (e : Effect) where
  -- no answer is forgotten
  pub none_forgotten : IsMute old e ⊎ Repeats old request e → e.out.forgot ≡ []
  none_forgotten (inl mute) = ap (λ (t : Trace). t.forgot) mute
  none_forgotten (inr r) = ap (λ (f : Effect). f.out.forgot) r.gives

  -- and the same are held
  pub same_held : IsMute old e ⊎ Repeats old request e → e.node.held ≡ old.held
  same_held (inl mute) = ap (λ (t : Trace). t.held) mute
  same_held (inr r) = ap (λ (f : Effect). f.node.held) r.gives

  -- no TEID is drawn
  pub same_drawn : IsMute old e ⊎ Repeats old request e → e.node.drawn ≡ old.drawn
  same_drawn (inl mute) = ap (λ (t : Trace). t.drawn) mute
  same_drawn (inr r) = ap (λ (f : Effect). f.node.drawn) r.gives

  -- and no context is made
  pub none_made : IsMute old e ⊎ Repeats old request e → e.out.made ≡ []
  none_made (inl mute) = ap (λ (t : Trace). t.made) mute
  none_made (inr r) = ap (λ (f : Effect). f.out.made) r.gives
