-- TEIDs for what a gateway makes.
use Rattle.std.specs.Prelude.{◌≢◌, ◌<◌, [], ◌∷◌}
use Rattle.gtp_machine.specs.Choice.{IsFree, HasDraws}
use Rattle.gtp_machine.specs.Node.{Node}
use Rattle.gtp_gateway.specs.declared.tables.teids.OneDrawn.{OneDrawn}
use Rattle.gtp_gateway.specs.declared.tables.teids.TwoDrawn.{TwoDrawn}
use Rattle.gtp_gateway.specs.tables.Change.{AreDraws, IsAbove}

-- a TEID that may be drawn: it is free, and above those in the tables
pub record IsOneDrawn (d : OneDrawn) (node : Node) : Type 0 where
  pub left : HasDraws node 1
  pub are : AreDraws d.draws (d.teid ∷ []) node
  pub free : IsFree node d.teid
  pub above : IsAbove node.bearers d.teid

-- two TEIDs that may be drawn, and are apart
pub record AreTwoDrawn (d : TwoDrawn) (node : Node) : Type 0 where
  pub left : HasDraws node 2
  pub are : AreDraws d.draws (d.user ∷ d.control ∷ []) node
  pub control_free : IsFree node d.control
  pub user_free : IsFree node d.user
  pub apart : d.control ≢ d.user
  pub control_above : IsAbove node.sessions d.control
  pub user_above : IsAbove node.bearers d.user

-- a third TEID that may be drawn after two: it is free, is none of the two, and is above them and those in the tables
pub record IsThirdDrawn (two : TwoDrawn) (d : OneDrawn) (node : Node) : Type 0 where
  pub left : HasDraws node 3
  pub are : AreDraws d.draws (d.teid ∷ two.user ∷ two.control ∷ []) node
  pub free : IsFree node d.teid
  pub control_apart : d.teid ≢ two.control
  pub user_apart : d.teid ≢ two.user
  pub later : two.user < d.teid
  pub above : IsAbove node.bearers d.teid
