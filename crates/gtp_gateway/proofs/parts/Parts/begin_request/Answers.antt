use Rattle.std.proofs.Common.{◌≡◌, List, [], ◌∷◌, ◌++◌, sym, ◌∙◌, ap, subst}
use Rattle.std.proofs.lemmas.List.Elements.{All-same, All-push}
use Rattle.gtp_values.specs.declared.address.Ip.{Ip}
use Rattle.gtp_machine.specs.Config.{control_end}
use Rattle.std.specs.FinMap.{insert}
use Rattle.gtp_reliable.specs.Waiting.{Waiting, just_sent}
use Rattle.gtp_machine.specs.Message.{Message}
use Rattle.gtp_machine.specs.Node.{Node}
use Rattle.gtp_machine.specs.Reading.{control_message}
use Rattle.gtp_gateway.specs.declared.command.purpose.Purpose.{Purpose}
use Rattle.gtp_gateway.specs.command.SendRequest.{about}
use Rattle.gtp_gateway.specs.Parts.{pending_in, node_of}
use Rattle.gtp_gateway.specs.Settings.{Settings}
use Rattle.gtp_gateway.specs.messages.Spelled.{message_in, is_for, IsAsked, AreSpelled}
use Rattle.gtp_gateway.proofs.Requests.{pending_push}
use Rattle.gtp_gateway.proofs.parts.Parts.begin_request.Goals as goal

-- the request is kept by its octets, which read as it
pub returns-clause-node : goal.returns-clause-node
returns-clause-node c =
    let seq = c.args.seq in
    let purpose = c.args.purpose in
    let ws = c.args.self.now.pending.waiting in
    let request : Message = control_message c.args.message.now in
    let said : message_in c.in_ok-kept.kept.items ≡ request = ap message_in (c.in_ok-kept.ensures.items ∙ c.as_slice.ensures.value) ∙ c.in_ok-octets.ensures.read in
    let w : Waiting Purpose = just_sent seq c.control_end_of-to.result c.in_ok-kept.kept.items purpose in
    let same : c.apply.new.self.pending.waiting ≡ ws = ap (λ r. r.waiting) (c.in_ok-apply.ensures.pending c.requires.keeps) in
    let pushed : pending_in c.begin.new.self.waiting ≡ insert (pending_in ws) seq (about purpose request) =
    ap pending_in (c.begin.ensures.waiting ∙ ap (λ (l : List (Waiting Purpose)). l ++ w ∷ []) same)
    ∙ pending_push ws w (about purpose request) c.requires.prepared.number.free (λ i. about purpose (said i)) in
    (λ i. record (node_of c.apply.new.self) { pending = pushed i })
    ∙ ap (λ (n : Node). record n { pending = insert (pending_in ws) seq (about purpose request) }) c.in_ok-apply.ensures.node

-- and is for its purpose
pub invariant_of-self-clause-asked : goal.invariant_of-self-clause-asked
invariant_of-self-clause-asked c =
    let left = c.apply.new.self in
    let peer : Ip = left.config.config.peer.control in
    let same = c.in_ok-kept.ensures.items ∙ c.as_slice.ensures.value in
    let w : Waiting Purpose = just_sent c.args.seq c.control_end_of-to.result c.in_ok-kept.kept.items c.args.purpose in
    let asked : IsAsked peer w =
    record {
      to = c.control_end_of-to.ensures ∙ ap control_end (c.peer.ensures.control ∙ ap (λ (s : Settings). s.config.peer.control) (sym c.apply.ensures.only.config));
      octets = subst AreSpelled (sym same) c.in_ok-octets.ensures.kept;
      purpose = (λ i. is_for c.args.purpose ((ap message_in same ∙ c.in_ok-octets.ensures.read) i)) ∙ c.requires.meant;
    } in
    All-same (IsAsked peer) _ _ c.begin.ensures.waiting (All-push (IsAsked peer) left.pending.waiting w left.asked asked)
