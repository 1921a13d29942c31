-- What a gateway finds under a key is one thing.
use Rattle.std.proofs.Common.{◌≡◌, ℕ, Option, Some, None, refl, sym, ◌∙◌, ap, subst}
use Rattle.std.proofs.Math.Path.{path_j}
use Rattle.std.specs.FinMap.{get}
use Rattle.gtp_values.specs.FiniteMap.{Among}
use Rattle.gtp_machine.specs.Node.{Session, Bearer, Node}
use Rattle.gtp_machine.specs.Choice.{IsFree, HasSession, HasBearer, HasPending}
use Rattle.gtp_machine.specs.Command.{NamesBearer}
use Rattle.gtp_machine.specs.Sound.{AreApart}
use Rattle.gtp_machine.proofs.Changes.Shrinking.{NodeShrinks}

-- what an option holds
abbrev Found : {X : Type 0} → Option X → Type 0
Found {X} o = (x : X) × (o ≡ Some x)

-- what o holds is x, found so
abbrev IsFound : {X : Type 0} (x : X) (o : Option X) → Some x ≡ o → Type 0
IsFound x None b = Unit {0}
IsFound x (Some y) b = ◌≡◌ {A = Found (Some x)} (x, refl) (y, b)

-- whatever else is found is that
abbrev IsOnly : {X : Type 0} (o found : Option X) → o ≡ found → Type 0
IsOnly o None a = Unit {0}
IsOnly {X} o (Some x) a = (y : X) (b : o ≡ Some y) → ◌≡◌ {A = Found o} (x, a) (y, b)

only_itself : {X : Type 0} (o : Option X) → IsOnly o o refl
only_itself None = tt
only_itself (Some x) = λ y b. path_j (IsFound x) refl b

one_found : {X : Type 0} (o : Option X) (p q : Found o) → p ≡ q
one_found o p q = path_j (IsOnly o) (only_itself o) p.1 q.0 q.1

module _ (node : Node) (key : ℕ) where
  pub one_session : (p q : HasSession node key) → p ≡ q
  one_session p q =
      let found : Found (get node.sessions key) → HasSession node key = λ k. record { session = k.0; stands = k.1 } in
      ap found (one_found (get node.sessions key) (p.session, p.stands) (q.session, q.stands))

  pub one_bearer : (p q : HasBearer node key) → p ≡ q
  one_bearer p q =
      let found : Found (get node.bearers key) → HasBearer node key = λ k. record { bearer = k.0; stands = k.1 } in
      ap found (one_found (get node.bearers key) (p.bearer, p.stands) (q.bearer, q.stands))

  pub one_pending : (p q : HasPending node key) → p ≡ q
  one_pending p q =
      let found : Found (get node.pending key) → HasPending node key = λ k. record { pending = k.0; waits = k.1 } in
      ap found (one_found (get node.pending key) (p.pending, p.waits) (q.pending, q.waits))

-- an identity names one bearer of a session
pub one_named : (node : Node) (session identity : ℕ) → AreApart node.bearers → (p q : NamesBearer node session identity) → p.key ≡ q.key
one_named node session identity apart p q = apart p.key q.key p.at.bearer q.at.bearer identity p.at.stands q.at.stands (p.of ∙ sym q.of) p.has q.has

-- what is left of a gateway: contexts may have gone, and nothing was drawn
pub record IsLeft (old node : Node) : Type 0 where
  pub shrinks : NodeShrinks old node
  pub drawn : node.drawn ≡ old.drawn

pub was_session : (old node : Node) → IsLeft old node → (t : ℕ) (s : Session) → get node.sessions t ≡ Some s → (was : Session) × (get old.sessions t ≡ Some was)
was_session old node left t s stands = let w = left.shrinks.sessions t s stands in (w.before, w.stood)

pub was_bearer : (old node : Node) → IsLeft old node → (t : ℕ) (b : Bearer) → get node.bearers t ≡ Some b → (was : Bearer) × (get old.bearers t ≡ Some was)
was_bearer old node left t b stands = let w = left.shrinks.bearers t b stands in (w.before, w.stood)

pub undrawn_before : (old node : Node) (t : ℕ) → IsLeft old node → IsFree node t → Among t old.drawn → ⊥
undrawn_before old node t left free among = free.undrawn (subst (Among t) (sym left.drawn) among)

pub apart_left : (old node : Node) → NodeShrinks old node → AreApart old.bearers → AreApart node.bearers
apart_left old node shrinks apart s t a b identity x y same a_has b_has =
    let was = shrinks.bearers s a x in
    let also = shrinks.bearers t b y in
    apart s t was.before also.before identity was.stood also.stood (sym was.same.session ∙ (same ∙ also.same.session)) (sym was.same.identity ∙ a_has) (sym also.same.identity ∙ b_has)
