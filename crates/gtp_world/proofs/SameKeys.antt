-- Where `==` of two keys is true, they stand for the same.
use Rattle.std.proofs.Common.{◌≡◌, ℕ, List, Option, refl, ap}
use Rattle.std.specs.Bool.{Decides}
use Rattle.std.specs.Prelude.{nat_eq}
use Rattle.std.specs.Cmp.Lexicographic.{bytes_decides}
use Rattle.std.proofs.lemmas.Bool.Decides.{Decides-eqb}
use Rattle.gtp_values.proofs.Same.{app, and_then, whole_by, options_same, endpoint_same}
use Rattle.gtp_machine.specs.Input.{Entry as Packet}
use Rattle.gtp_gateway.specs.Parts.{arrival_of}
use Rattle.gtp_machine.specs.World.{By, other}
use Rattle.gtp_machine.specs.declared.role.Role.{Role}
use Rattle.gtp_machine.specs.declared.role.Role.TheVariants.{Serving, Packet as PacketGateway}
use Rattle.gtp_machine.specs.contracts.role.RolePartialEq.TheImpl as roles
use Rattle.gtp_world.specs.Indexes.{asked, owed_by}
use Rattle.gtp_world.specs.declared.request_key.RequestKey.{RequestKey}
use Rattle.gtp_world.specs.declared.log.Entry.{Entry}
use Rattle.gtp_world.specs.contracts.request_key.RequestKeyPartialEq.TheImpl as requests
use Rattle.gtp_world.specs.contracts.log.EntryPartialEq.TheImpl as entries

pub asked_same : (a b : RequestKey) → Decides ((requests.ghosts).eq a b) (asked a ≡ asked b)
asked_same a b =
    whole_by (λ e. app (ap arrival_of e.0) e.1) (λ e. (ap (λ k. k.source) e, ap (λ k. k.octets) e))
    (and_then (endpoint_same a.source b.source) (bytes_decides a.octets.items b.octets.items))

other_same : (a b : Role) → Decides ((roles.ghosts).eq a b) (other a ≡ other b)
other_same Serving Serving = (λ e. refl, λ e. refl)
other_same PacketGateway PacketGateway = (λ e. refl, λ e. refl)
other_same a b = (λ e. absurd cc, λ e. absurd cc)

abbrev packet : Role → ℕ → List ℕ → List ℕ → List ℕ → Option ℕ → By Packet
packet role target payload imsi access_point identity = record { role = role; what = record { target = target; payload = payload; imsi = imsi; access_point = access_point; identity = identity } }

pub entry_same : (a b : Entry) → Decides ((entries.ghosts).eq a b) (owed_by a ≡ owed_by b)
entry_same a b =
    whole_by (λ e. app (app (app (app (app (ap packet e.0) e.1.0) e.1.1.0) e.1.1.1.0) e.1.1.1.1.0) e.1.1.1.1.1)
    (λ e. (ap (λ p. p.role) e, (ap (λ p. p.what.target) e, (ap (λ p. p.what.payload) e, (ap (λ p. p.what.imsi) e, (ap (λ p. p.what.access_point) e, ap (λ p. p.what.identity) e))))))
    (and_then (other_same a.node b.node) (and_then (Decides-eqb a.teid b.teid) (and_then (bytes_decides a.payload.items b.payload.items)
    (and_then (bytes_decides a.imsi b.imsi) (and_then (bytes_decides a.apn b.apn) (options_same nat_eq Decides-eqb a.ebi b.ebi))))))
