use Rattle.std.proofs.Common.{◌≡◌, refl, subst}
use Rattle.std.specs.Io.KnownBytes.{Appends}
use Rattle.gtp_counted.specs.Counts.{inner_of}
use Rattle.gtp_counted.specs.Streams.{WritesFront}
use Rattle.gtp_replay.specs.Told.{Tells, HasNoCapture}
use Rattle.gtp_replay.specs.Faults.{IsMemoryOr}
use Rattle.gtp_replay.specs.declared.verdict.ReplayFault.TheVariants.{NoPacket}
use Rattle.gtp_replay.proofs.Lacking.{passed_is}
use Rattle.gtp_replay.proofs.Limits.{told_for_all, front_for_all, lacks_for_all}
use Rattle.gtp_replay.proofs.replaying.replay.Goals as goal

pub returns-in_err-write_octets-clause-front : goal.returns-in_err-write_octets-clause-front
returns-in_err-write_octets-clause-front g c failed =
    front_for_all c.args.form (g.R.Read.remaining (inner_of c.args.reader.now)) c.in_ok-octets.octets.items c.in_ok-text.text.items
    c.in_ok-text.verdict (g.W.Write.contents (inner_of c.args.writer.now)) (g.W.Write.contents (inner_of c.write_octets.new.writer))
    c.in_ok-octets.ensures.octets
    (subst (λ o. Tells c.args.form o c.in_ok-text.text.items c.in_ok-text.verdict) c.deref.ensures.value c.in_ok-text.ensures.told)
    (subst (λ text. WritesFront (g.W.Write.contents (inner_of c.args.writer.now)) (g.W.Write.contents (inner_of c.write_octets.new.writer)) text)
    c.deref-2.ensures.value c.in_err-write_octets.ensures.front)

pub returns-clause-written : goal.returns-clause-written
returns-clause-written g c =
    told_for_all c.args.form (g.R.Read.remaining (inner_of c.args.reader.now)) c.in_ok-octets.octets.items c.in_ok-text.text.items
    c.in_ok-text.verdict (g.W.Write.contents (inner_of c.args.writer.now)) (g.W.Write.contents (inner_of c.write_octets.new.writer))
    c.in_ok-octets.ensures.octets
    (subst (λ o. Tells c.args.form o c.in_ok-text.text.items c.in_ok-text.verdict) c.deref.ensures.value c.in_ok-text.ensures.told)
    (subst (λ text. Appends (g.W.Write.contents (inner_of c.args.writer.now)) (g.W.Write.contents (inner_of c.write_octets.new.writer)) text) c.deref-2.ensures.value c.in_ok-write_octets.ensures.ok)

pub returns-in_err-text-clause-no_packet : goal.returns-in_err-text-clause-no_packet
returns-in_err-text-clause-no_packet g c number is =
    let same : c.in_err-text.field-0.0 ≡ NoPacket number = passed_is c.from_residual-in_err-text.result c.in_err-text.field-0.0 (NoPacket number) c.from_residual-in_err-text.ensures.1 is in (
      refl,
      lacks_for_all c.args.form (g.R.Read.remaining (inner_of c.args.reader.now)) c.in_ok-octets.octets.items number
          c.in_ok-octets.ensures.octets
          (subst (λ o. HasNoCapture c.args.form o number) c.deref.ensures.value
          (subst (λ e. IsMemoryOr e (HasNoCapture c.args.form c.deref.result.now)) same c.in_err-text.ensures.fault)),
    )
