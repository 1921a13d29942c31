use Rattle.std.proofs.Common.{rules, ◌≡◌, ◌<◌, ◌∙◌, Some, None, nat_eq, length, get_or, sym, ap, arith}
use Rattle.std.specs.Map.{lookup}
use Rattle.gtp_reliable.specs.Rows.{rows_of, number_where, slot_of}
use Rattle.gtp_reliable.proofs.Slots.{AreCut, cut_at, cut_none, cut_all, cut_none_first, cut_step}
use Rattle.gtp_reliable.proofs.rows.cut_where.Goals.{in-Some+in-Some-1, in-Some+in-None-1, in_default}
use Rattle.gtp_reliable.proofs.rows.cut_where.Goals as goal

pub loop-at-init : goal.loop-at-init
loop-at-init g c =
    let asked = c.requires.1.1.1.1 in
    record {
      slots = cut_none_first g.meets c.args.slots.now.items;
      named = asked.0;
      apart = asked.1.0;
      count = asked.1.1;
      len = search rules;
      capacity = search rules;
      room = omega arith;
    }

pub loop-at-preserved : goal.loop-at-preserved
loop-at-preserved g c =
    let slots = c.args.slots.now.items in
    let k = c.loop-at.at in
    let slot = c.index.result.now in
    let before = c.loop-at.invariant in
    let cut : AreCut g.meets k slots c.loop-at.names.entries c.args.first c.loop-at.slots.items = record { is_cut = before.slots; named = before.named; apart = before.apart; count = before.count } in
    let lt : k < length slots = search rules in
    elim c.match-number_where.branch [
      | in-Some+in-Some-1 w ↦
          let goes : number_where g.meets slot ≡ Some w.in-Some.number = sym c.number_where.ensures ∙ w.in-Some.is in
          let after =
          cut_step g.meets k slots c.loop-at.slots.items c.loop-at.names.entries w.take_out.new.names.entries c.args.first slot w.in-Some.number
          w.take_out.result cut lt c.index.ensures goes w.take_out.ensures.slot w.take_out.ensures.names w.take_out.ensures.count in
          record {
            slots = ap (λ d. d.items) w.slots-is ∙ after.is_cut;
            named = λ n. ap (λ m. lookup (nat_eq n) m.entries) w.names-is ∙ (after.named n ∙ ap (λ d. slot_of n c.args.first d.items) (sym w.slots-is));
            apart = rw w.slots-is after.apart;
            count = rw (w.slots-is, w.names-is) after.count;
            len = rw w.slots-is before.len;
            capacity = rw w.slots-is before.capacity;
            room = rw w.names-is (omega (arith, before.room, w.take_out.ensures.room));
          }
      | in-Some+in-None-1 w ↦
          let goes : number_where g.meets slot ≡ Some w.in-Some.number = sym c.number_where.ensures ∙ w.in-Some.is in
          let after =
          cut_step g.meets k slots c.loop-at.slots.items c.loop-at.names.entries w.take_out.new.names.entries c.args.first slot w.in-Some.number
          w.take_out.result cut lt c.index.ensures goes w.take_out.ensures.slot w.take_out.ensures.names w.take_out.ensures.count in
          record {
            slots = ap (λ d. d.items) w.slots-is ∙ after.is_cut;
            named = λ n. ap (λ m. lookup (nat_eq n) m.entries) w.names-is ∙ (after.named n ∙ ap (λ d. slot_of n c.args.first d.items) (sym w.slots-is));
            apart = rw w.slots-is after.apart;
            count = rw (w.slots-is, w.names-is) after.count;
            len = rw w.slots-is before.len;
            capacity = rw w.slots-is before.capacity;
            room = rw w.names-is (omega (arith, before.room, w.take_out.ensures.room));
          }
      | in_default w ↦
          let stays : number_where g.meets slot ≡ None = search rules in
          let same = cut_none g.meets k slots slot lt (c.index.ensures ∙ (ap (λ l. get_or l k slot) before.slots ∙ cut_at g.meets k slots slot)) stays in
          record {
            slots = ap (λ d. d.items) w.slots-is ∙ (before.slots ∙ sym same);
            named = λ n. ap (λ m. lookup (nat_eq n) m.entries) w.names-is ∙ (before.named n ∙ ap (λ d. slot_of n c.args.first d.items) (sym w.slots-is));
            apart = rw w.slots-is before.apart;
            count = rw (w.slots-is, w.names-is) before.count;
            len = rw w.slots-is before.len;
            capacity = rw w.slots-is before.capacity;
            room = rw w.names-is before.room;
          }
    ]

pub returns-clause-rows : goal.returns-clause-rows
returns-clause-rows g c =
    ap rows_of c.loop-at.invariant.slots ∙ cut_all g.meets c.loop-at.at c.args.slots.now.items (search rules)
