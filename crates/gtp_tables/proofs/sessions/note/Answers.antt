use Rattle.std.proofs.Common.{subst}
use Rattle.gtp_tables.specs.PoolPlaces.{AreCountedIn}
use Rattle.gtp_tables.proofs.sessions.note.Goals as goal

pub returns-in-Some : goal.returns-in-Some
returns-in-Some c = λ others is. c.note.ensures others (subst (AreCountedIn others) c.in-Some.is is)
