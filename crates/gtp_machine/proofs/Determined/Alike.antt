-- Two effects of one rule: how they are alike, and how rules that are tried in order keep that.
use Rattle.std.proofs.Common.{◌≡◌, ◌≢◌, inl, inr, ℕ, List, [], length, Some, None, sym, ◌∙◌, ap, subst}
use Rattle.std.specs.FinMap.{get, insert}
use Rattle.gtp_values.specs.FiniteMap.{FiniteMap, Among}
use Rattle.gtp_tables.specs.declared.pool.IpVersion.{IpVersion}
use Rattle.gtp_tables.specs.Part.{part_of}
use Rattle.gtp_machine.specs.Ordered.{Unless}
use Rattle.gtp_machine.specs.Message.{CreateBearerRequest, Create_bearer_request}
use Rattle.gtp_machine.specs.Node.{Role, Serving, Packet, Session, Bearer, PendingRequest, Arrival, Node}
use Rattle.gtp_machine.specs.Input.{Command, ControlReading, Commanded, Control_came, Input, Effect}
use Rattle.gtp_machine.specs.Choice.{HasPending}
use Rattle.gtp_machine.specs.Sound.{AreApart, IsSound}
use Rattle.gtp_machine.specs.Determined.{unchosen, unsent, destinations, TellAlike}

-- what is asked of a gateway: an identity names one bearer of a session, and contexts stand under TEIDs that were drawn
pub record Fits (node : Node) : Type 0 where
  pub apart : AreApart node.bearers
  pub sessions : (t : ℕ) (s : Session) → get node.sessions t ≡ Some s → (Among t node.drawn → ⊥) → ⊥
  pub bearers : (t : ℕ) (b : Bearer) → get node.bearers t ≡ Some b → (Among t node.drawn → ⊥) → ⊥

pub sound_fits : (role : Role) (node : Node) → IsSound role node → Fits node
sound_fits role node sound = record {
  apart = sound.contexts.apart;
  sessions = λ t s stands free. free (sound.contexts.each_session t s stands).own;
  bearers = λ t b stands free. free (sound.contexts.each_bearer t b stands).own;
}

-- x came under t, beside others that were there before, if they have changed
pub record ComesBeside {X : Type 0} (old new others : FiniteMap X) (t : ℕ) (x : X) : Type 0 where
  pub absent : get old t ≡ None
  pub stood : (key : ℕ) → get old key ≡ None → get others key ≡ None
  pub is : new ≡ insert others t x

-- a request for a bearer with a new TEID waits under the number, beside others
pub record WaitsBeside (drawn : List ℕ) (new others : FiniteMap PendingRequest) (number : ℕ) (p : PendingRequest) : Type 0 where
  pub request : CreateBearerRequest
  pub asked : p.request ≡ Create_bearer_request request
  pub undrawn : Among request.context.user.teid drawn → ⊥
  pub absent : get others number ≡ None
  pub is : new ≡ insert others number p

-- The same was chosen: the TEIDs; where a request came, and a context was made for it, each part of the address of a packet gateway's session that both
-- gave, the identity of a serving gateway's bearer, and the number of a packet gateway's request for a bearer; and for a command the number of a new request.
pub record PickAlike (role : Role) (old : Node) (input : Input) (e f : Effect) : Type 0 where
  pub drawn : e.node.drawn ≡ f.node.drawn
  pub addresses : (request : Arrival) (reading : ControlReading) → input ≡ Control_came request reading → role ≡ Packet → e.out.made ≢ []
      → (others : FiniteMap Session) (t : ℕ) (a b : Session) → ComesBeside old.sessions e.node.sessions others t a
      → ComesBeside old.sessions f.node.sessions others t b → (version : IpVersion) (x y : List ℕ) → part_of version a.address ≡ Some x
      → part_of version b.address ≡ Some y → x ≡ y
  pub identities : (request : Arrival) (reading : ControlReading) → input ≡ Control_came request reading → role ≡ Serving → e.out.made ≢ []
      → (others : FiniteMap Bearer) (t : ℕ) (a b : Bearer) → ComesBeside old.bearers e.node.bearers others t a
      → ComesBeside old.bearers f.node.bearers others t b → a.session ≡ b.session → a.identity ≡ b.identity
  pub numbers : (command : Command) → input ≡ Commanded command → (number : ℕ) → get old.pending number ≡ None → HasPending e.node number → HasPending f.node number
  pub wanted : (request : Arrival) (reading : ControlReading) → input ≡ Control_came request reading → role ≡ Packet → e.out.made ≢ []
      → (others : FiniteMap PendingRequest) (m n : ℕ) (p q : PendingRequest) → WaitsBeside old.drawn e.node.pending others m p
      → WaitsBeside old.drawn f.node.pending others n q → m ≡ n

-- they tell the same, and where the same was chosen they are the same
pub record Alike (role : Role) (old : Node) (input : Input) (e f : Effect) : Type 0 where
  pub tell : TellAlike input e f
  pub one : PickAlike role old input e f → e ≡ f

-- any two effects that the rule allows are so
abbrev pub Determines : (Effect → Effect → Type 0) → (Effect → Type 0) → Type 0
Determines So Rule = (e f : Effect) → Rule e → Rule f → So e f

-- ---- rules that are tried in order

module _ {So : Effect → Effect → Type 0} {P : Type 0} {Fails : Effect → Type 0} where
  unless : {Next : P → Effect → Type 0} → Determines So Fails → ((p q : P) (e f : Effect) → Next p e → Next q f → So e f) → Determines So (λ e. Unless P (Fails e) (λ p. Next p e))
  unless fails next e f (inl r) (inl s) = fails e f r.1 s.1
  unless fails next e f (inl r) (inr s) = absurd (r.0 s.0)
  unless fails next e f (inr r) (inl s) = absurd (s.0 r.0)
  unless fails next e f (inr r) (inr s) = next r.0 s.0 e f r.1 s.1

  -- what comes next does not use the reason why P holds
  pub unless_plain : {Next : Effect → Type 0} → Determines So Fails → Determines So Next → Determines So (λ e. Unless P (Fails e) (λ p. Next e))
  unless_plain fails next = unless fails (λ p q. next)

  -- what comes next is the same for any two reasons
  pub unless_moved : {Next : P → Effect → Type 0} → ((p q : P) (f : Effect) → Next q f → Next p f) → Determines So Fails → ((p : P) → Determines So (Next p))
      → Determines So (λ e. Unless P (Fails e) (λ p. Next p e))
  unless_moved moves fails next = unless fails (λ p q e f r s. next p e f r (moves p q f s))

  -- there is one reason
  pub unless_one : {Next : P → Effect → Type 0} → ((p q : P) → p ≡ q) → Determines So Fails → ((p : P) → Determines So (Next p)) → Determines So (λ e. Unless P (Fails e) (λ p. Next p e))
  unless_one {Next = Next} one = unless_moved (λ p q f s. subst (λ k. Next k f) (one q p) s)

-- ---- rules that say the effect

pub is_one : {x : Effect} → Determines ◌≡◌ (λ e. e ≡ x)
is_one e f a b = a ∙ sym b

module _ {role : Role} {old : Node} {input : Input} where
  pub the_same : (e f : Effect) → e ≡ f → Alike role old input e f
  the_same e f same = record {
    tell = record {
      outcome = ap (λ (k : Effect). unchosen input k.outcome) same;
      told = ap (λ (k : Effect). unsent k.out) same;
      places = ap (λ (k : Effect). destinations k.out.sent) same;
      known = ap (λ (k : Effect). k.node.known) same;
      counter = ap (λ (k : Effect). k.node.counter) same;
      draws = ap (λ (k : Effect). length k.node.drawn) same;
    };
    one = λ picked. same;
  }

  pub says_it : {x : Effect} → Determines (Alike role old input) (λ e. e ≡ x)
  says_it e f a b = the_same e f (a ∙ sym b)

  -- effects that are known
  pub by_effects : (x y e f : Effect) → e ≡ x → f ≡ y → Alike role old input x y → Alike role old input e f
  by_effects x y e f a b alike = subst (λ k. Alike role old input k f) (sym a) (subst (λ k. Alike role old input x k) (sym b) alike)
