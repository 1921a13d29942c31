-- Texts appended one after the other.
use Rattle.std.proofs.Common.{append_assoc}
use Rattle.std.proofs.lemmas.List.{append-nil}

pub ruleset appending = (append_assoc, append-nil)
