-- Requests that lines to a node ask.
use Rattle.gtp_serve.specs.Asked.{IsAsked}
use Rattle.gtp_serve.specs.declared.node_request.NodeRequest.{NodeRequest}
use Rattle.gtp_serve.specs.declared.node_request.NodeRequest.TheVariants.{OfPeer}

abbrev pub IsNodeAsked : NodeRequest → Type 0
IsNodeAsked (OfPeer place request) = IsAsked request
IsNodeAsked request = Unit {0}
