use Rattle.std.proofs.Common.{refl, ◌∙◌, ap}
use Rattle.std.proofs.lemmas.List.Elements.{All-same, All-push}
use Rattle.gtp_values.specs.declared.address.Ip.{Ip}
use Rattle.gtp_machine.specs.Config.{control_end}
use Rattle.gtp_reliable.specs.Waiting.{Waiting, just_sent}
use Rattle.gtp_gateway.specs.declared.command.purpose.Purpose.{Purpose}
use Rattle.gtp_gateway.specs.command.SendRequest.{about}
use Rattle.gtp_gateway.specs.Parts.{pending_in, node_of}
use Rattle.gtp_gateway.specs.messages.Spelled.{message_in, IsAsked}
use Rattle.gtp_gateway.proofs.Requests.{pending_push}
use Rattle.gtp_gateway.proofs.parts.Parts.begin_kept.Goals as goal

pub returns-clause-node : goal.returns-clause-node
returns-clause-node c =
    let old = c.args.self.now in
    let w : Waiting Purpose = just_sent c.args.seq c.control_end_of-to.result c.args.octets.items c.args.purpose in
    let pushed = ap pending_in c.begin.ensures.waiting ∙ pending_push old.pending.waiting w (about c.args.purpose (message_in c.args.octets.items)) c.requires.prepared.number.free refl in
    λ i. record (node_of old) { pending = pushed i }

-- and is for its purpose
pub invariant_of-self-clause-asked : goal.invariant_of-self-clause-asked
invariant_of-self-clause-asked c =
    let old = c.args.self.now in
    let peer : Ip = old.config.config.peer.control in
    let w : Waiting Purpose = just_sent c.args.seq c.control_end_of-to.result c.args.octets.items c.args.purpose in
    let asked : IsAsked peer w = record {
      to = c.control_end_of-to.ensures ∙ ap control_end c.peer.ensures.control;
      octets = c.requires.spelled;
      purpose = c.requires.meant;
    } in
    All-same (IsAsked peer) _ _ c.begin.ensures.waiting (All-push (IsAsked peer) old.pending.waiting w old.asked asked)
