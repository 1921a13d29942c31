use Rattle.std.proofs.Common.{◌≡◌, ◌<◌, ℕ, length, sym, ◌∙◌, ap, subst, refl}
use Rattle.std.proofs.lemmas.Option.{slice_get_read}
use Rattle.std.proofs.lemmas.Result.{on_ok_weaker}
use Rattle.gtp_machine.specs.World.{Deliver}
use Rattle.gtp_world.specs.Record.{WorldRecord, Log, world_record_of, log_of}
use Rattle.gtp_world.specs.Stepped.{EventLeaves}
use Rattle.gtp_world.proofs.Finding.{there, delivered, octets_at}
use Rattle.gtp_world.proofs.simulation.Simulation.deliver.Goals as goal

pub returns-clause-comes : goal.returns-clause-comes
returns-clause-comes c =
    let old = c.args.self.now in
    let room = c.make_room.new.self in
    let v : WorldRecord = record (world_record_of old) { log = log_of room } in
    let same : v ≡ world_record_of old = ap (λ (l : Log). record (world_record_of old) { log = l }) c.in_ok-make_room.ensures.same in
    let is = c.in-Some.ensures.some in
    let i = c.in-Some.index in
    let datagrams = room.datagrams.items in
    let within = subst (λ n. n < length datagrams) (sym is.0) is.1 in
    let d = c.index.result.now in
    let found = there datagrams i within in
    let at = slice_get_read datagrams _ i d refl within c.index.ensures in
    let new = world_record_of c.deliver_octets.new.self in
    let long = c.len-count.ensures ∙ d.sent.octets.ok.0 ∙ sym (octets_at datagrams i d found at) in
    on_ok_weaker c.deliver_octets.result (λ brings.
    subst (λ (n : ℕ). EventLeaves (world_record_of old) (Deliver n) new) is.0
    (subst (λ (k : WorldRecord). EventLeaves k (Deliver i) new) same
    (delivered v i c.len-count.result new found long (brings found))))
    c.deliver_octets.ensures.brings
