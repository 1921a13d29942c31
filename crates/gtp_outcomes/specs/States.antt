-- The words of the states of contexts.
use Rattle.std.specs.Prelude.{ℕ, List, codes}
use Rattle.gtp_tables.specs.declared.context.State.{State}
use Rattle.gtp_machine.specs.Node.{Pending, Active, Closing}

abbrev pub state_word : State → List ℕ
state_word Pending = codes "pending"
state_word Active = codes "active"
state_word Closing = codes "closing"
