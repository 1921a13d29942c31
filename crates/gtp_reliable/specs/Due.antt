-- What the code's answers stand for.
use Rattle.gtp_reliable.specs.declared.pending.Resend.{Resend}
use Rattle.gtp_reliable.specs.Waiting.{Message}

abbrev pub message_of : Resend → Message
message_of r = record { seq = r.seq; to = r.to; octets = r.octets.items }
