use Rattle.std.proofs.Common.{refl}
use Rattle.gtp_json.specs.Datagram.{plane_member, IsDatagramJson}
use Rattle.gtp_json.proofs.Shallow.{plane_within, whole_within}
use Rattle.gtp_json.proofs.Reading.{object_line}
use Rattle.gtp_json.proofs.datagram.datagram_json.Goals as goal

pub returns : goal.returns
returns c =
    let a = c.args in
    let found = c.in_ok-faulty.ensures in
    let faulty = c.in_ok-faulty.faulty in
    let line =
    object_line (λ j. IsDatagramJson a.members a.plane a.octets.now j faulty) (plane_member a.plane) found.0 c.new-out.result c.begin_object.new.self
    c.put_plane.new.out c.put_members.new.out c.end_object.new.self c.in_ok-text.text.items c.new-out.ensures
    c.in_ok-begin_object.ensures.ok c.in_ok-put_plane.ensures.ok found.2 c.in_ok-end_object.ensures.ok c.in_ok-text.ensures.text
    c.into_line.ensures.reads_back (plane_within a.plane) (whole_within a.members a.plane a.octets.now found.0 faulty found.1)
    (found.0, found.1, refl) in
    record { text = line.0; reads_back = line.1 }
