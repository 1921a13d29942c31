use Rattle.std.proofs.Common.{◌≡◌, ◌<◌, ◌+◌, ◌-◌, ◌∷◌, [], ◌++◌, map, length, drop, option_map, refl, sym, ap, subst, ◌∙◌, arith}
use Rattle.std.proofs.lemmas.List.{map-append, length-append, length-map}
use Rattle.std.specs.List.{flat_map}
use Rattle.gtp_scenario.specs.Entries.{events_in}
use Rattle.gtp_scenario.specs.Past.{Happen}
use Rattle.gtp_scenario.specs.Named.{delivery}
use Rattle.gtp_scenario.specs.Views.{entry, past}
use Rattle.gtp_scenario.proofs.Happened.{delivers_on, delivers_happen, delivered_events, first_is, none_is, not_none}
use Rattle.gtp_scenario.proofs.items.deliver_all.Goals as goal

pub loop-number-preserved : goal.loop-number-preserved
loop-number-preserved c =
    let l = c.loop-number in
    let so_far = l.invariant in
    let n = c.in-Some.number in
    let expect = option_map (λ s. s.now) c.args.expect in
    let one : delivery expect n ≡ entry c.in_ok-delivery.field-0 = (let e = c.in_ok-delivery.ensures in cc) in
    let as_many : length l.entries.items ≡ length so_far.numbers = sym (length-map l.entries.items entry) ∙ (ap length so_far.entries ∙ length-map so_far.numbers (delivery expect)) in
    let longer = length-append so_far.numbers (n ∷ []) in
    record {
      numbers = so_far.numbers ++ (n ∷ []);
      delivered =
          delivers_on (past c.args.past.now) so_far.numbers (past l.past) n (drop 1 l.past.waiting.items) (past c.happen.new.self) so_far.delivered
          (first_is n l.past.waiting.items c.in-Some.ensures) c.in_ok-happen.ensures;
      entries =
          ap (map entry) c.in_ok-push.ensures.items ∙ (map-append entry l.entries.items _
          ∙ ((λ i. so_far.entries i ++ (sym one i ∷ [])) ∙ sym (map-append (delivery expect) so_far.numbers (n ∷ []))));
      few = grind (arith, as_many, longer, c.len.ensures, c.if-len-room.false, so_far.few);
    }

pub returns-clause-read : goal.returns-clause-read
returns-clause-read c =
    let l = c.loop-number in
    (l.invariant.numbers, past l.past, l.invariant.delivered, none_is l.past.waiting.items c.in_default.ensures, l.invariant.few, l.invariant.entries)

pub returns-clause-followed : goal.returns-clause-followed
returns-clause-followed c =
    let l = c.loop-number in
    let expect = option_map (λ s. s.now) c.args.expect in
    subst (λ es. Happen (past c.args.past.now) es (past l.past)) (sym (ap (flat_map events_in) l.invariant.entries ∙ delivered_events expect l.invariant.numbers))
    (delivers_happen (past c.args.past.now) l.invariant.numbers (past l.past) l.invariant.delivered)

pub returns-then-len-room-clause-read : goal.returns-then-len-room-clause-read
returns-then-len-room-clause-read c =
    let l = c.loop-number in
    let so_far = l.invariant in
    let expect = option_map (λ s. s.now) c.args.expect in
    let as_many : length l.entries.items ≡ length so_far.numbers = sym (length-map l.entries.items entry) ∙ (ap length so_far.entries ∙ length-map so_far.numbers (delivery expect)) in
    (so_far.numbers, past l.past, so_far.delivered, not_none c.in-Some.number l.past.waiting.items c.in-Some.ensures, grind (arith, as_many, c.len.ensures, c.if-len-room.true), refl)

pub loop-number-smaller : goal.loop-number-smaller
loop-number-smaller c =
    let l = c.loop-number in
    let so_far = l.invariant in
    let expect = option_map (λ s. s.now) c.args.expect in
    let as_many : length l.entries.items ≡ length so_far.numbers = sym (length-map l.entries.items entry) ∙ (ap length so_far.entries ∙ length-map so_far.numbers (delivery expect)) in
    let longer : length c.push.new.self.items ≡ length l.entries.items + 1 = ap length c.in_ok-push.ensures.items ∙ length-append l.entries.items _ in
    let less : c.args.room - length c.push.new.self.items < c.args.room - length l.entries.items = grind (arith, longer, as_many, c.len.ensures, c.if-len-room.false, so_far.few) in
    less
