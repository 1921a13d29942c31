-- What the program tells, as replies.
use Rattle.std.specs.Prelude.{map, option_map}
use Rattle.gtp_gateway.specs.messages.Sent.{datagram_by}
use Rattle.gtp_gateway.specs.Tick.{arrivals_of}
use Rattle.gtp_world.specs.Record.{outcome_of}
use Rattle.gtp_serve.specs.declared.reply.Told.{Told}
use Rattle.gtp_serve.specs.Replies.{Reply, packet_of}

abbrev pub reply_by : Told → Reply
reply_by t =
    record {
      outcome = outcome_of t.outcome;
      second = t.second;
      learned = option_map (λ c. c.0) t.learned;
      sent = map datagram_by t.sent.now;
      accepted = option_map (λ a. packet_of a.now) t.accepted;
      gave_up = t.gave_up.now;
      forgot = arrivals_of t.forgotten.now;
    }
