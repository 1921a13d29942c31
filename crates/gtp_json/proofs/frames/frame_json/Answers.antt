use Rattle.std.proofs.Common.{refl}
use Rattle.gtp_capture.specs.Seen.{seen_of}
use Rattle.gtp_capture.specs.reading.Packet.{packet_of}
use Rattle.gtp_json.specs.Frames.{frame_members, IsFrameJson}
use Rattle.gtp_json.proofs.Shallow.{frame_within, rest_within}
use Rattle.gtp_json.proofs.Reading.{object_line}
use Rattle.gtp_json.proofs.frames.frame_json.Goals as goal

pub returns : goal.returns
returns c =
    let d = seen_of c.args.captured.now in
    let found = c.in_ok-faulty.ensures in
    let faulty = c.in_ok-faulty.faulty in
    let line =
    object_line (λ j. IsFrameJson c.args.members d j faulty) (frame_members d) found.0 c.new-out.result c.begin_object.new.self c.put_frame.new.out
    c.put_rest.new.out c.end_object.new.self c.in_ok-text.text.items c.new-out.ensures
    c.in_ok-begin_object.ensures.ok c.in_ok-put_frame.ensures.ok found.2 c.in_ok-end_object.ensures.ok c.in_ok-text.ensures.text
    c.into_line.ensures.reads_back (frame_within d) (rest_within c.args.members (packet_of c.args.captured.now.packet) found.0 faulty found.1)
    (found.0, found.1, refl) in
    record { text = line.0; reads_back = line.1 }
