use Rattle.std.proofs.Common.{[], refl, sym, subst}
use Rattle.gtp_json.specs.declared.datagram.Members.{Members}
use Rattle.gtp_json.specs.Datagram.{BeforeFault}
use Rattle.gtp_json.proofs.Tokens.{none_written}
use Rattle.gtp_json.proofs.datagram.put_before.Goals as goal

pub returns-in-Plain-default : goal.returns-in-Plain-default
returns-in-Plain-default c = record { ok = ([], subst (λ (m : Members). BeforeFault m c.args.plane c.args.octets.now []) (sym c.in-Plain-default.is-0) refl, none_written c.args.out.now) }
