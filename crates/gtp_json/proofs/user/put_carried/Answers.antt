use Rattle.gtp_json.proofs.user.put_carried.Goals as goal

pub returns-in-Packet : goal.returns-in-Packet
returns-in-Packet c = record { ok = rw c.in-Packet.is c.hex_member-in-Packet.ensures.ok }
