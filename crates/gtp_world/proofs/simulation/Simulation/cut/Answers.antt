use Rattle.std.proofs.Common.{◌≡◌, ◌<◌, inl, inr, ℕ, length, sym, ◌∙◌, ap, subst, refl, arith}
use Rattle.std.proofs.lemmas.Option.{slice_get_read}
use Rattle.std.proofs.lemmas.Result.{on_ok_weaker}
use Rattle.gtp_machine.specs.World.{Cut}
use Rattle.gtp_world.specs.Record.{WorldRecord, Log, world_record_of, log_of}
use Rattle.gtp_world.specs.Stepped.{EventLeaves}
use Rattle.gtp_world.proofs.Finding.{there, octets_at, cut_short}
use Rattle.gtp_world.proofs.simulation.Simulation.cut.Goals as goal

pub returns-then-count-length-clause-comes : goal.returns-then-count-length-clause-comes
returns-then-count-length-clause-comes c =
    let old = c.args.self.now in
    let room = c.make_room.new.self in
    let v : WorldRecord = record (world_record_of old) { log = log_of room } in
    let same : v ≡ world_record_of old = ap (λ (l : Log). record (world_record_of old) { log = l }) c.in_ok-make_room.ensures.same in
    let is = c.in-Some.ensures.some in
    let i = c.in-Some.index in
    let datagrams = room.datagrams.items in
    let within = subst (λ n. n < length datagrams) (sym is.0) is.1 in
    let d = c.index.result.now in
    let found = there datagrams i within in
    let at = slice_get_read datagrams _ i d refl within c.index.ensures in
    let long = c.len-length.ensures ∙ d.sent.octets.ok.0 ∙ sym (octets_at datagrams i d found at) in
    let past : c.args.count < length found.sent.what.octets → ⊥ = λ short. omega (arith, c.if-count-length.true, long, short) in
    let new : WorldRecord = record (world_record_of old) { log = log_of c.record_outcome-then-count-length.new.self } in
    subst (λ (n : ℕ). EventLeaves (world_record_of old) (Cut n c.args.count) new) is.0
    (subst (λ (k : WorldRecord). EventLeaves k (Cut i c.args.count) new) same
    (inr (found, inl (past, ap (λ (l : Log). record (world_record_of old) { log = l }) c.record_outcome-then-count-length.ensures.log))))

pub returns-clause-comes : goal.returns-clause-comes
returns-clause-comes c =
    let old = c.args.self.now in
    let room = c.make_room.new.self in
    let v : WorldRecord = record (world_record_of old) { log = log_of room } in
    let same : v ≡ world_record_of old = ap (λ (l : Log). record (world_record_of old) { log = l }) c.in_ok-make_room.ensures.same in
    let is = c.in-Some.ensures.some in
    let i = c.in-Some.index in
    let datagrams = room.datagrams.items in
    let within = subst (λ n. n < length datagrams) (sym is.0) is.1 in
    let d = c.index.result.now in
    let found = there datagrams i within in
    let at = slice_get_read datagrams _ i d refl within c.index.ensures in
    let long = c.len-length.ensures ∙ d.sent.octets.ok.0 ∙ sym (octets_at datagrams i d found at) in
    let short : c.args.count < length found.sent.what.octets = omega (arith, c.if-count-length.false, long) in
    let new = world_record_of c.deliver_octets.new.self in
    on_ok_weaker c.deliver_octets.result (λ brings.
    subst (λ (n : ℕ). EventLeaves (world_record_of old) (Cut n c.args.count) new) is.0
    (subst (λ (k : WorldRecord). EventLeaves k (Cut i c.args.count) new) same
    (inr (found, inr (short, cut_short v found.sent c.args.count new (brings found))))))
    c.deliver_octets.ensures.brings
