-- What a step changes of sessions and bearers.
use Rattle.std.specs.Prelude.{◌≡◌, ℕ, ◌<◌, Bool, true, false, List, [], ◌∷◌, ◌++◌, IsSome}
use Rattle.std.specs.FinMap.{get, insert, len}
use Rattle.gtp_values.specs.FiniteMap.{FiniteMap, Each}
use Rattle.gtp_tables.specs.Drawn.{Drawn, drawn_up_to}
use Rattle.gtp_tables.specs.BySession.{IsInPlace}
use Rattle.gtp_machine.specs.Node.{Node}
use Rattle.gtp_machine.specs.Removal.{without_session, session_closing}
use Rattle.gtp_gateway.specs.declared.tables.change.Change.{Change}
use Rattle.gtp_gateway.specs.declared.tables.change.Change.TheVariants.{Stays, Replaces, MakesBearer, MakesSession, ClosesSession, RemovesSession}

-- the node after a change
abbrev pub changed_by : Change → Node → Node
changed_by Stays node = node
changed_by (Replaces teid bearer) node = record node { bearers = insert node.bearers teid bearer }
changed_by (MakesBearer draws teid bearer) node = record node { drawn = teid ∷ node.drawn; bearers = insert node.bearers teid bearer }
changed_by (MakesSession draws control session user bearer) node = record node {
  drawn = user ∷ control ∷ node.drawn;
  sessions = insert node.sessions control session;
  bearers = insert node.bearers user bearer;
}
changed_by (ClosesSession teid session) node = session_closing node teid session
changed_by (RemovesSession session) node = without_session node session

-- whether all requests wait on after a change
abbrev pub keeps_requests : Change → Bool
keeps_requests Stays = true
keeps_requests (Replaces teid bearer) = true
keeps_requests (MakesBearer draws teid bearer) = true
keeps_requests (MakesSession draws control session user bearer) = true
keeps_requests (ClosesSession teid session) = true
keeps_requests (RemovesSession session) = false

-- these are the draws that the node has made, and then these TEIDs
pub record AreDraws (draws : Drawn) (teids : List ℕ) (node : Node) : Type 0 where
  pub counter : draws.counter ≡ node.counter
  pub drawn : drawn_up_to draws.counter draws.count ≡ teids ++ node.drawn

-- the TEID is above all those in the table
abbrev pub IsAbove : {X : Type 0} → FiniteMap X → ℕ → Type 0
IsAbove table teid = Each (λ key x. key < teid) table

-- there is room for a session, and its TEIDs are above all others
pub record CanMakeSession (draws : Drawn) (control user : ℕ) (node : Node) : Type 0 where
  pub draws_are : AreDraws draws (user ∷ control ∷ []) node
  pub room : len node.sessions < 1000
  pub control_above : IsAbove node.sessions control
  pub user_above : IsAbove node.bearers user

-- what a change needs: a bearer is put in the place of one with the same remote, and a session that closes stands
abbrev pub CanChange : Change → Node → Type 0
CanChange Stays node = Unit {0}
CanChange (Replaces teid bearer) node = IsInPlace node.bearers teid bearer
CanChange (MakesBearer draws teid bearer) node = AreDraws draws (teid ∷ []) node × IsAbove node.bearers teid
CanChange (MakesSession draws control session user bearer) node = CanMakeSession draws control user node
CanChange (ClosesSession teid session) node = IsSome (get node.sessions teid)
CanChange (RemovesSession session) node = Unit {0}
