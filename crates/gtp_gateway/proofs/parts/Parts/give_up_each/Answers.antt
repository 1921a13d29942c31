use Rattle.std.proofs.Common.{◌≡◌, ℕ, ◌+◌, ◌≤◌, Bool, not, is_ok, vec_len, length-drop, true, false, cond, List, [], ◌∷◌, ◌++◌, map, drop, refl, sym, ◌∙◌, ap, subst, append_assoc, append-nil, arith}
use Rattle.std.proofs.lemmas.List.{drop_more, at_drop_all}
use Rattle.gtp_gateway.specs.declared.command.purpose.Purpose.{Purpose}
use Rattle.gtp_gateway.specs.Parts.{node_of}
use Rattle.gtp_gateway.specs.GatewayState.{state_of}
use Rattle.gtp_gateway.specs.Tick.{GivesUpEach}
use Rattle.gtp_gateway.proofs.GivenUp.{ends, goes_on, wait_on}
use Rattle.gtp_gateway.proofs.Stays.{only_tables, only_tables_twice}
use Rattle.gtp_gateway.proofs.UserRows.{all_wait}
use Rattle.gtp_gateway.proofs.parts.Parts.give_up_each.Goals as goal
use Rattle.gtp_gateway.proofs.parts.Parts.give_up_each.Goals.{else-give_up-via-then-give_up+else-is_err, else-give_up-via-else-give_up}

abbrev number : ℕ × Purpose → ℕ
number g = g.0

pushed : (items new : List ℕ) (x : ℕ) (ok b : Bool) → new ≡ cond ok (items ++ x ∷ []) items → ok ≡ true → b ≡ true → new ≡ items ++ cond b (x ∷ []) []
pushed items new x ok b is went up = is ∙ (ap (λ o. cond o (items ++ x ∷ []) items) went ∙ sym (ap (λ o. items ++ cond o (x ∷ []) []) up))

not_pushed : (items : List ℕ) (x : ℕ) (b : Bool) → b ≡ false → items ≡ items ++ cond b (x ∷ []) []
not_pushed items x b stayed = sym (ap (λ o. items ++ cond o (x ∷ []) []) stayed ∙ append-nil items)

one_more : (ok : Bool) (n m : ℕ) → m ≡ cond ok (n + 1) n → m ≤ n + 1
one_more true n m is = omega (arith, is)
one_more false n m is = omega (arith, is)

pub loop-entry-init : goal.loop-entry-init
loop-entry-init c =
    record {
      each = λ others new given. subst (λ (items : List ℕ). GivesUpEach (node_of c.args.self.now) (map number c.args.due.now) (items ++ others) new) (sym c.requires.empty) given;
      waits = all_wait (state_of c.args.self.now) (state_of c.args.self.now) refl refl;
      room = c.requires.room;
      only = only_tables c.args.self.now c.args.self.now refl refl refl;
    }

pub loop-entry-preserved : goal.loop-entry-preserved
loop-entry-preserved c =
    let at = c.loop-entry in
    let due = c.args.due.now in
    let seq : ℕ = c.entry-item.result.0 in
    let rest = map number (drop (at.entry-index + 1) due) in
    let first : map number (drop at.entry-index due) ≡ seq ∷ rest =
    ap (map number) (drop_more due at.entry-index c.entry-item.result c.loop-entry-test.true) ∙ ap (λ g. number g ∷ rest) (sym c.entry-item.is) in
    let one : List ℕ = cond c.give_up.result (seq ∷ []) [] in
    let told : c.else-give_up.gave_up.items ≡ at.gave_up.items ++ one = elim c.else-give_up.branch [
      | else-give_up-via-then-give_up+else-is_err w ↦ ap (λ v. v.items) w.gave_up-is
          ∙ pushed at.gave_up.items w.push.new.self.items seq (is_ok w.push.result) c.give_up.result w.push.ensures.items
          (w.is_err.ensures.negation ∙ ap not w.if-is_err.false) w.if-give_up.true
      | else-give_up-via-else-give_up w ↦ ap (λ v. v.items) w.gave_up-is ∙ not_pushed at.gave_up.items seq c.give_up.result w.if-give_up.false
    ] in
    let before = length-drop at.entry-index due in
    let after = length-drop (at.entry-index + 1) due in
    record {
      each = λ others new given.
          subst (λ (l : List ℕ). GivesUpEach (node_of c.args.self.now) (map number due) l new) (sym (append_assoc at.gave_up.items one others) ∙ ap (λ (l : List ℕ). l ++ others) (sym told))
          (at.invariant.each (one ++ others) new
          (subst (λ (l : List ℕ). GivesUpEach (node_of at.self) l (one ++ others) new) (sym first)
          (goes_on seq rest c.give_up.result (node_of at.self) (node_of c.give_up.new.self) others new c.give_up.ensures.node given)));
      waits = wait_on (state_of c.args.self.now) (state_of at.self) (state_of c.give_up.new.self) at.invariant.waits c.give_up.ensures.waits;
      room = elim c.else-give_up.branch [
        | else-give_up-via-then-give_up+else-is_err w ↦ rw w.gave_up-is
            (let more = one_more (is_ok w.push.result) (vec_len at.gave_up) (vec_len w.push.new.self) w.push.ensures.len in
            omega (arith, more, before, after, at.invariant.room, w.push.ensures.capacity, c.loop-entry-test.true))
        | else-give_up-via-else-give_up w ↦ rw w.gave_up-is (omega (arith, before, after, at.invariant.room))
      ];
      only = only_tables_twice c.args.self.now at.self c.give_up.new.self at.invariant.only c.give_up.ensures.only;
    }

pub returns : goal.returns
returns c =
    let at = c.loop-entry in
    let none : map number (drop at.entry-index c.args.due.now) ≡ [] = at_drop_all (map number) c.args.due.now at.entry-index c.loop-entry-test.false in
    record {
      each = subst (λ (l : List ℕ). GivesUpEach (node_of c.args.self.now) (map number c.args.due.now) l (node_of at.self)) (append-nil at.gave_up.items)
          (at.invariant.each [] (node_of at.self) (subst (λ (l : List ℕ). GivesUpEach (node_of at.self) l [] (node_of at.self)) (sym none) (ends (node_of at.self))));
      waits = at.invariant.waits;
      only = at.invariant.only;
    }
