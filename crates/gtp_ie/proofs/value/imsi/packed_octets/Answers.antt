use Rattle.gtp_ie.proofs.Packing.{pack_step}
use Rattle.gtp_ie.proofs.value.imsi.packed_octets.Goals as goal

pub loop-left-preserved : goal.loop-left-preserved
loop-left-preserved c =
    let inv = c.loop-left.invariant in
    let step = pack_step c.loop-left.octets c.push.new.self c.loop-left.left.now _ c.in-len2-up.len_at_least inv.text inv.room inv.decimal c.push.ensures in
    record { text = step.text; room = step.room; decimal = step.decimal }
