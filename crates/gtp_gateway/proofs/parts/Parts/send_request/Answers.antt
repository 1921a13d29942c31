use Rattle.std.proofs.Common.{[], ◌∷◌, refl, ◌∙◌, ap}
use Rattle.gtp_machine.specs.Config.{Config, control_end}
use Rattle.gtp_machine.specs.Command.{asks}
use Rattle.gtp_machine.specs.Spelling.{datagram_of}
use Rattle.gtp_gateway.specs.command.SendRequest.{about, asking, after_begun}
use Rattle.gtp_gateway.specs.command.Command.{request_number}
use Rattle.gtp_gateway.specs.command.Request.{request_by}
use Rattle.gtp_gateway.specs.tables.Change.{changed_by}
use Rattle.gtp_gateway.specs.Parts.{node_of}
use Rattle.gtp_gateway.specs.GatewayState.{GatewayState}
use Rattle.gtp_gateway.proofs.QueuesAfter.{tied_of}
use Rattle.gtp_gateway.proofs.Requests.{none_pending, small_number}
use Rattle.gtp_gateway.proofs.SentBack.{one_sent}
use Rattle.gtp_gateway.proofs.parts.Parts.send_request.Goals as goal

pub returns-clause-done : goal.returns-clause-done
returns-clause-done c =
    let old = c.args.self.now in
    let node = node_of old in
    let seq = c.args.seq in
    let r = request_by c.args.request.now in
    let same = c.reserve_request.ensures.same in
    let config = ap (λ (s : GatewayState). s.node.config) same in
    record {
      effect = asks node seq (about r.purpose r.message) r.teid (changed_by r.change node);
      room = c.requires.room;
      asks = record { number_free = record { unused = none_pending old.pending.waiting seq c.requires.number.free; small = small_number _ _ seq c.requires.number }; gives = refl };
      sent =
          one_sent node.config _ _ (c.in_ok-out.ensures.sent
          ∙ ap (λ (k : Config). datagram_of k (record { destination = control_end k.peer.control; messages = r.message ∷ [] })) config)
          c.in_ok-out.ensures.back;
      outcome = refl;
      becomes = c.in_ok-out.ensures.node ∙ ap (λ (s : GatewayState). asking r.change seq r.purpose r.message s.node) same;
      role = c.begin_request.ensures.role ∙ ap (λ (s : GatewayState). s.role) same;
    }

pub returns-clause-next : goal.returns-clause-next
returns-clause-next c =
    let out = c.in_ok-out.out in
    let purpose = c.args.request.now.purpose in
    record {
      number = c.args.seq;
      free = c.requires.number;
      sent = ap request_number c.in_ok-out.ensures.read ∙ c.requires.ready.numbered;
      purpose = purpose;
      queues = c.in_ok-out.ensures.queues ∙ ap (λ (s : GatewayState). after_begun c.args.seq purpose out.to out.octets.items s.queues) c.reserve_request.ensures.same;
      tied = tied_of c.begin_request.new.self;
    }
