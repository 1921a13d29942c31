-- What the requests that are forgotten stand for.
use Rattle.gtp_reliable.specs.declared.held.Request.{Request}
use Rattle.gtp_reliable.specs.Held.{Question}

abbrev pub question_of : Request → Question
question_of r = record { source = r.source; octets = r.octets.items }
