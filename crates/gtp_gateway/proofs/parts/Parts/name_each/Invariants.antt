use Rattle.std.proofs.Common.{◌≡◌, [], map, take}
use Rattle.gtp_gateway.specs.receive.DeleteBearerRequest.{NamesEach, identity_named, number_in}
use Rattle.gtp_gateway.specs.Parts.{node_of}
use Rattle.gtp_gateway.proofs.parts.Parts.name_each.Given as goal

-- those so far are named
abbrev pub invariant-loop-identity : goal.invariant-loop-identity
invariant-loop-identity l =
    record {
      identities : map identity_named l.named.items ≡ map number_in (take l.identity-index l.identities);
      names : NamesEach (node_of l.self) l.session [] l.named.items;
    }
