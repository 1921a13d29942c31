use Rattle.std.proofs.Common.{◌≢◌, ◌<◌, ℕ, Some}
use Rattle.gtp_lines.specs.Named.{name_in}
use Rattle.gtp_commands.proofs.flags.control_kind.Given as goal

-- no type before has the name
abbrev pub invariant-loop-kind : goal.invariant-loop-kind
invariant-loop-kind l = (kind : ℕ) → kind < l.kind → name_in l.names kind ≢ Some l.word
