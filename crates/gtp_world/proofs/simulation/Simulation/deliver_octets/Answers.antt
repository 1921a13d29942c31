use Rattle.std.proofs.Common.{◌≡◌, ◌⊎◌, ◌↔◌, Bool, true, false, inl, inr, ◌<◌, ◌≤◌, ◌-◌, List, ℕ, length, take, sym, ◌∙◌, ap, subst, arith, refl, Bor}
use Rattle.std.specs.Prelude.{IsTrue}
use Rattle.std.proofs.lemmas.List.{take_all}
use Rattle.std.proofs.lemmas.Option.{slice_get_read}
use Rattle.gtp_gateway.specs.Parts.{arrival_of}
use Rattle.gtp_world.specs.Gateways.{with_side}
use Rattle.gtp_world.specs.Record.{gateway_in, world_record_of}
use Rattle.gtp_world.specs.Stepped.{IsGivenUp, TakesOn}
use Rattle.gtp_world.proofs.Finding.{brought}
use Rattle.gtp_world.proofs.Sidewise.{was_at, brought_at}
use Rattle.gtp_world.proofs.simulation.Simulation.deliver_octets.Goals as goal
use Rattle.gtp_world.proofs.simulation.Simulation.deliver_octets.Goals.{in-Some, in-None, then-whole+in_ok-late, else-whole}

from_front : (count : ℕ) → count - 0 ≡ count
from_front count = omega arith

few : (count : ℕ) (l : List ℕ) → (count < 0) ⊎ (length l < count) → length l ≤ count
few count l (inl none) = omega (arith, none)
few count l (inr past) = omega (arith, past)

-- what is brought is so much of the datagram
reads : (c : goal.After-record_step) → c.match-get.octets.now ≡ take c.args.count c.index-datagram.result.now.sent.octets.items
reads c = elim c.match-get.branch [
  | in-Some w ↦ ap (λ (b : Bor (List ℕ)). b.now) w.octets-is ∙ w.in-Some.ensures.lookup.0.2
      ∙ ap (λ n. take n c.as_slice.result.now) (from_front c.args.count) ∙ ap (take c.args.count) c.as_slice.ensures.value
  | in-None w ↦ ap (λ (b : Bor (List ℕ)). b.now) w.octets-is ∙ w.as_slice-octets.ensures.value ∙ sym (take_all c.args.count _ (few c.args.count _
      (subst (λ (l : List ℕ). (c.args.count < 0) ⊎ (length l < c.args.count)) c.as_slice.ensures.value w.in-None.ensures.lookup.0)))
]

-- a gateway takes it
taken : (c : goal.After-record_step)
    → TakesOn (world_record_of c.args.self.now) c.other-node.result c.index-datagram.result.now.sent.plane c.index-datagram.result.now.sent.from
    c.match-get.octets.now c.if-whole.late (world_record_of record
    { gateways = with_side c.other-node.result c.args.self.now.gateways c.receive.new.self; records = c.record_step.new.self })
taken c =
    let old = c.args.self.now in
    let sent = c.index-datagram.result.now.sent in
    brought_at old c.other-node.result c.get_mut-gateway.result.now c.receive.new.self c.get_mut-gateway.ensures.value old.records c.record_step.new.self refl
    sent.plane sent.from c.match-get.octets.now c.in_ok-came.came c.if-whole.late c.in_ok-came.ensures.taken c.record_step.ensures.log

late_now : (whole late given : Bool) (P : Type 0) → whole ≡ true → late ≡ given → (IsTrue given ↔ P) → IsTrue late ↔ IsTrue whole × P
late_now whole late given P all is so = ((λ yes. (all, so.0 (sym is ∙ yes))), (λ both. is ∙ so.1 both.1))

never_late : (whole late : Bool) (P : Type 0) → whole ≡ false → late ≡ false → IsTrue late ↔ IsTrue whole × P
never_late whole late P part is = ((λ yes. let e : false ≡ true = sym is ∙ yes in absurd (cc e)), (λ both. let e : false ≡ true = sym part ∙ both.0 in absurd (cc e)))

-- it is late where all of it comes and its answer was given up
judged : (c : goal.After-record_step) → IsTrue c.if-whole.late
    ↔ IsTrue c.args.whole × IsGivenUp (gateway_in (world_record_of c.args.self.now) c.other-node.result) c.index-datagram.result.now.sent.plane
    (arrival_of c.index-datagram.result.now.sent.from c.last_message-last.result.now)
judged c =
    let old = c.args.self.now in
    let node = c.other-node.result in
    let sent = c.index-datagram.result.now.sent in
    let request = arrival_of sent.from c.last_message-last.result.now in
    elim c.if-whole.branch [
      | then-whole+in_ok-late w ↦ late_now c.args.whole c.if-whole.late _ _ w.if-whole.true w.late-is
          (subst (λ h. IsTrue w.in_ok-late.late ↔ IsGivenUp h sent.plane request) (was_at old node w.get-gateway.result.now w.get-gateway.ensures)
          w.in_ok-late.ensures)
      | else-whole w ↦ never_late c.args.whole c.if-whole.late _ w.if-whole.false w.late-is
    ]

pub returns-clause-brings : goal.returns-clause-brings
returns-clause-brings c = λ found.
    let old = c.args.self.now in
    let d = c.index-datagram.result.now in
    let node = c.other-node.result in
    let at = slice_get_read old.records.datagrams.items _ c.args.index d refl c.requires.there c.index-datagram.ensures in
    let is =
    subst
    (λ o. IsTrue c.if-whole.late ↔ IsTrue c.args.whole × IsGivenUp (gateway_in (world_record_of old) node) d.sent.plane (arrival_of d.sent.from o))
    c.last_message-last.ensures (judged c) in
    brought (world_record_of old) c.if-whole.late c.args.whole _ c.args.count node c.match-get.octets.now old.records.datagrams.items c.args.index d
    found at c.other-node.ensures (reads c) is (taken c)
