use Rattle.std.proofs.Common.{map, refl}
use Rattle.gtp_world.specs.Record.{sent_by, told_by}
use Rattle.gtp_replay.proofs.Captured.{all_fitting}
use Rattle.gtp_replay.proofs.capturing.capture.Goals as goal

pub write_capture-requires : goal.write_capture-requires
write_capture-requires c =
    all_fitting c.in_ok-frames.frames.items c.deref.result.now (map sent_by c.datagrams-datagrams.result.now) (map told_by c.outcomes.result.now)
    (c.in_default.ensures.none refl) c.deref.ensures.value c.in_ok-frames.ensures
