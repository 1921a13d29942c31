-- A place may go to another thread where what stands behind it may.
use denote.Struct.Struct.{exits_of}
use denote.Struct.Owning.{shape, fields, to}
use denote.Param.Send.{IsSend, AllSend, owning_send, struct_send, sendable}
use Rattle.gtp_c.specs.contracts.gateway_with_queue.GatewayWithQueue.{the_row as R}
use Rattle.gtp_c.proofs.gateway_with_queue.GatewayWithQueue.TheSendSync.{the_send as value}
use Rattle.gtp_c.specs.contracts.owned_pointer.OwnedPointer.{the_row, the_type}
use Rattle.gtp_c.proofs.Crossing.{quiet, holds}

pub send : IsSend the_row
send =
    let all : AllSend (fields the_type) = (search sendable, tt) in
    owning_send the_type all (λ d. holds R value d.at d.value)
    (λ k. quiet (to the_type) (exits_of k (fields the_type)) ((struct_send (shape the_type) all).leaving k))
