use Rattle.std.specs.Prelude.{Result, Ok, Err, IfOk, IfErr}
use Rattle.std.proofs.Common.{List, ℕ}
use Rattle.gtp_v2.specs.declared.fault.V2Fault.{V2Fault}
use Rattle.gtp_v2.specs.declared.viewing.DatagramView.{DatagramView}
use Rattle.gtp_v2.specs.Instances.{InstanceIsSmall, IsOfOctets}
use Rattle.gtp_v2.specs.Marks.{MeetsMarks}
use Rattle.gtp_v2.specs.Pair.{IsDatagram, IsDatagramFault, OfEach, datagram_seen}
use Rattle.gtp_v2.proofs.Answered.{found, only, first, fault, fault_is_small, fault_of_datagram, datagram_marked, seen_marked}
use Rattle.gtp_v2.proofs.viewing.view.Goals as goal

pub returns-clause-found : goal.returns-clause-found
returns-clause-found c = found datagram_seen c.view_datagram.result c.args.octets.now c.view_datagram.ensures.messages

pub returns-clause-only : goal.returns-clause-only
returns-clause-only c = only datagram_seen c.view_datagram.result c.args.octets.now c.view_datagram.ensures.messages

pub returns-clause-first : goal.returns-clause-first
returns-clause-first c = first datagram_seen c.view_datagram.result c.args.octets.now c.view_datagram.ensures.messages

pub returns-clause-fault : goal.returns-clause-fault
returns-clause-fault c = fault datagram_seen c.view_datagram.result c.args.octets.now c.view_datagram.ensures.messages

small : (r : Result DatagramView V2Fault) (octets : List ℕ) → IfErr r (λ f. IsDatagramFault octets f) → IfErr r InstanceIsSmall
small (Ok v) octets h = tt
small (Err f) octets h = fault_is_small octets f h

of_octets : (r : Result DatagramView V2Fault) (octets : List ℕ) → IfErr r (λ f. IsDatagramFault octets f) → IfErr r IsOfOctets
of_octets (Ok v) octets h = tt
of_octets (Err f) octets h = fault_of_datagram octets f h

marked : (r : Result DatagramView V2Fault) (octets : List ℕ) → IfOk r (λ v. IsDatagram octets (datagram_seen v)) → IfOk r (λ v. OfEach (λ s. MeetsMarks s.message) v.message v.second)
marked (Ok v) octets h = seen_marked v.message v.second (datagram_marked octets (datagram_seen v) h)
marked (Err f) octets h = tt

pub returns-clause-instance : goal.returns-clause-instance
returns-clause-instance c = small c.view_datagram.result c.args.octets.now (fault datagram_seen c.view_datagram.result c.args.octets.now c.view_datagram.ensures.messages)

pub returns-clause-of_octets : goal.returns-clause-of_octets
returns-clause-of_octets c = of_octets c.view_datagram.result c.args.octets.now (fault datagram_seen c.view_datagram.result c.args.octets.now c.view_datagram.ensures.messages)

pub returns-clause-marks : goal.returns-clause-marks
returns-clause-marks c = marked c.view_datagram.result c.args.octets.now (found datagram_seen c.view_datagram.result c.args.octets.now c.view_datagram.ensures.messages)
