-- What goes with an Error Indication.
use Rattle.std.specs.Prelude.{ℕ, Bool, ◌||◌}
use Rattle.std.specs.FinMap.{get}
use Rattle.gtp_values.specs.FiniteMap.{FiniteMap}
use Rattle.gtp_tables.specs.Index.{names}
use Rattle.gtp_machine.specs.Node.{Bearer}
use Rattle.gtp_machine.specs.Removal.{on}
use Rattle.gtp_machine.specs.User.{default_among}
use Rattle.gtp_gateway.specs.declared.command.purpose.Purpose.{Purpose}
use Rattle.gtp_gateway.specs.command.Purpose.{session_of, bearer_of}

-- whether a request is about a session whose default bearer has the remote, or about a bearer that has it
abbrev pub goes_with_remote : FiniteMap Bearer → ℕ → Purpose → Bool
goes_with_remote bearers remote purpose = on (λ t. default_among remote t bearers) (session_of purpose) || on (λ t. names remote (get bearers t)) (bearer_of purpose)
