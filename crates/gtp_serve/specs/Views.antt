-- What the program's values stand for, without where they lie in memory.
use Rattle.gtp_world.specs.Commands.{command_of}
use Rattle.gtp_serve.specs.declared.head.Head as declared
use Rattle.gtp_serve.specs.declared.request.Request as request
use Rattle.gtp_serve.specs.declared.request.Request.TheVariants as requests
use Rattle.gtp_serve.specs.declared.node_head.NodeHead as node_head
use Rattle.gtp_serve.specs.declared.node_request.NodeRequest as node_request
use Rattle.gtp_serve.specs.declared.node_request.NodeRequest.TheVariants as node_requests
use Rattle.gtp_serve.specs.Heads.{Head}
use Rattle.gtp_serve.specs.NodeHeads.{NodeHead}
use Rattle.gtp_serve.specs.NodeAnswers.{NodeRequest, OfPeer, Routes, Adds}
use Rattle.gtp_serve.specs.Requests.{Request, Commands, Receives, Ticks, Lists}

abbrev pub head_by : declared.Head → Head
head_by h = record { role = h.role; settings = h.config; counter = h.counter.0 }

abbrev pub request_by : request.Request → Request
request_by (requests.Command event) = Commands (command_of event)
request_by (requests.Receive plane source octets) = Receives plane source octets.items
request_by requests.Tick = Ticks
request_by requests.Contexts = Lists

abbrev pub node_by : node_head.NodeHead → NodeHead
node_by h = record { role = h.role; counter = h.counter.0; settings = h.configs.items }

abbrev pub node_request_by : node_request.NodeRequest → NodeRequest
node_request_by (node_requests.OfPeer place request) = OfPeer place (request_by request)
node_request_by (node_requests.Route plane source octets) = Routes plane source octets.items
node_request_by (node_requests.Add peer) = Adds peer
