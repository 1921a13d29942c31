use Rattle.std.proofs.Common.{◌≢◌, ◌<◌, ℕ, Some}
use Rattle.gtp_lines.specs.User.{user_name}
use Rattle.gtp_commands.proofs.flags.user_kind.Given as goal

-- no type before has the name
abbrev pub invariant-loop-kind : goal.invariant-loop-kind
invariant-loop-kind l = (kind : ℕ) → kind < l.kind → user_name kind ≢ Some l.word
