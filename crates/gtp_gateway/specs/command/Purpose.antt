-- What a request that waits is about.
use Rattle.std.specs.Prelude.{ℕ, Option}
use Rattle.gtp_gateway.specs.declared.command.purpose.Purpose.{Purpose}

-- the session that a request is about
abbrev pub session_of : Purpose → Option ℕ
session_of purpose = purpose.session

-- the dedicated bearer that it is about, where it is not about a whole session
abbrev pub bearer_of : Purpose → Option ℕ
bearer_of purpose = purpose.bearer
