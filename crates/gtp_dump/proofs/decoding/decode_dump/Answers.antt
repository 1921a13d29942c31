use Rattle.std.proofs.Common.{◌<◌, ◌≡◌, ◌∙◌, [], ◌∷◌, List, ℕ, inl, inr, Err, length, ap, refl, sym, subst, arith, rules}
use Rattle.std.specs.Prelude.{⊤}
use Rattle.std.proofs.lemmas.List.{nil_from_length}
use Rattle.gtp_counted.specs.Counts.{inner_of}
use Rattle.gtp_counted.proofs.Lines.{lasts_none, lasts_more}
use Rattle.gtp_dump.specs.Held.{Stands, Moves, MovesInPart}
use Rattle.gtp_dump.proofs.Ending.{none_kept}
use Rattle.gtp_dump.proofs.Going.{Any, begins, goes_end, goes_take, ends, first_told, in_part, part_end, part_take, else_written, any_next, that_next}
use Rattle.gtp_dump.proofs.decoding.decode_dump.Goals as goal

pub loop-init : goal.loop-init
loop-init g c =
    let read = g.R.Read.remaining c.args.reader.now.inner in
    let out = g.W.Write.contents c.args.out.now.inner in
    let err = g.E.Write.contents c.args.err.now.inner in
    record {
      goes = rw c.nothing_read.ensures (begins c.args.asked read out err);
      lasts = lasts_none read;
      reads = search rules;
      writes = search rules;
      errors = search rules;
      lines = rw c.nothing_read.ensures refl;
      datagrams = rw c.nothing_read.ensures (omega arith);
    }

pub returns-in-Err-clause-first : goal.returns-in-Err-clause-first
returns-in-Err-clause-first g c other unclosed =
    first_told c.args.asked _ _ Any c.loop.progress _ _ _ _ _ _ c.loop.invariant.goes (any_next _) refl refl

pub returns-in-Err-clause-front : goal.returns-in-Err-clause-front
returns-in-Err-clause-front g c =
    in_part _ c.args.asked _ _ _ _ (first_told c.args.asked _ _ Any c.loop.progress _ _ _ _ _ _ c.loop.invariant.goes (any_next _) refl refl)

pub returns-in-Err-end_held-clause-first : goal.returns-in-Err-end_held-clause-first
returns-in-Err-end_held-clause-first g c other unclosed =
    let asked = c.args.asked in
    let out = g.W.Write.contents in
    let err = g.E.Write.contents in
    let same = c.in-Err-end_held.ensures.memory (elim c.in-Err-end_held.ensures.kind [ inl is ↦ ap Err is | inr (inl is) ↦ absurd (other is) | inr (inr is) ↦ absurd (unclosed is) ]) in
    first_told asked _ _ Any c.loop.progress _ _ _ _ _ _ c.loop.invariant.goes (any_next _) (ap (λ w. out (inner_of w)) (sym same.0)) (ap (λ w. err (inner_of w)) (sym same.1))

pub returns-in-Err-end_held-clause-front : goal.returns-in-Err-end_held-clause-front
returns-in-Err-end_held-clause-front g c =
    let asked = c.args.asked in
    let out = g.W.Write.contents in
    let err = g.E.Write.contents in
    let items = c.next_line.new.line.items in
    elim c.in-Err-end_held.ensures.kind [
      | inl is ↦
          let same = c.in-Err-end_held.ensures.memory (ap Err is) in
          in_part _ asked _ _ _ _
          (first_told asked _ _ Any c.loop.progress _ _ _ _ _ _ c.loop.invariant.goes (any_next _) (ap (λ w. out (inner_of w)) (sym same.0))
          (ap (λ w. err (inner_of w)) (sym same.1)))
      | inr is ↦
          part_end asked _ _ items c.loop.progress _ _ _ _ _ _ c.loop.invariant.goes c.in_default.ensures.held
          (subst (λ l. (held : List (List ℕ)) → Stands asked.join c.loop.progress.tally.lines c.loop.progress.kept held
          → MovesInPart asked c.loop.progress held [] (λ n. n ≡ l) (out c.loop.out.inner) (out c.end_held.new.out.inner) (err c.loop.err.inner)
          (err c.end_held.new.err.inner)) c.deref.ensures.value (c.in-Err-end_held.ensures.front (else_written _ is)))
    ]

pub returns-in-Err-take_line-clause-first : goal.returns-in-Err-take_line-clause-first
returns-in-Err-take_line-clause-first g c other unclosed =
    let asked = c.args.asked in
    let out = g.W.Write.contents in
    let err = g.E.Write.contents in
    let items = c.next_line.new.line.items in
    let ended = goes_end asked _ _ items c.loop.progress c.in-Ok.after _ _ _ _ _ _ c.loop.invariant.goes
    (subst (λ l. (held : List (List ℕ)) → Stands asked.join c.loop.progress.tally.lines c.loop.progress.kept held
    → Moves asked c.loop.progress held [] (λ n. n ≡ l) c.in-Ok.after (out c.loop.out.inner) (out c.end_held.new.out.inner) (err c.loop.err.inner)
    (err c.end_held.new.err.inner)) c.deref.ensures.value c.in-Ok.ensures.moves) in
    let same = c.in-Err-take_line.ensures.memory (elim c.in-Err-take_line.ensures.kind [ inl is ↦ ap Err is | inr (inl is) ↦ absurd (other is) | inr (inr is) ↦ absurd (unclosed is) ]) in
    first_told asked _ _ (λ n. n ≡ items) c.in-Ok.after _ _ _ _ _ _ ended (that_next _ items c.in_default.ensures.held)
    (ap (λ w. out (inner_of w)) (sym same.0)) (ap (λ w. err (inner_of w)) (sym same.1))

pub returns-in-Err-take_line-clause-front : goal.returns-in-Err-take_line-clause-front
returns-in-Err-take_line-clause-front g c =
    let asked = c.args.asked in
    let out = g.W.Write.contents in
    let err = g.E.Write.contents in
    let items = c.next_line.new.line.items in
    let some : 0 < length items = search rules in
    let ended = goes_end asked _ _ items c.loop.progress c.in-Ok.after _ _ _ _ _ _ c.loop.invariant.goes
    (subst (λ l. (held : List (List ℕ)) → Stands asked.join c.loop.progress.tally.lines c.loop.progress.kept held
    → Moves asked c.loop.progress held [] (λ n. n ≡ l) c.in-Ok.after (out c.loop.out.inner) (out c.end_held.new.out.inner) (err c.loop.err.inner)
    (err c.end_held.new.err.inner)) c.deref.ensures.value c.in-Ok.ensures.moves) in
    elim c.in-Err-take_line.ensures.kind [
      | inl is ↦
          let same = c.in-Err-take_line.ensures.memory (ap Err is) in
          in_part _ asked _ _ _ _ (first_told asked _ _ (λ n. n ≡ items) c.in-Ok.after _ _ _ _ _ _ ended (that_next _ items c.in_default.ensures.held)
          (ap (λ w. out (inner_of w)) (sym same.0)) (ap (λ w. err (inner_of w)) (sym same.1)))
      | inr is ↦
          part_take asked _ _ _ items c.in-Ok.after _ _ _ _ _ _ ended c.in_default.ensures.held c.in_default.ensures.rest some
          (subst (λ l. (held : List (List ℕ)) → Stands asked.join c.in-Ok.after.tally.lines c.in-Ok.after.kept held
          → MovesInPart asked c.in-Ok.after held (l ∷ []) (λ n. ⊤) (out c.end_held.new.out.inner) (out c.take_line.new.out.inner)
          (err c.end_held.new.err.inner) (err c.take_line.new.err.inner)) c.deref-in-loop.ensures.value
          (c.in-Err-take_line.ensures.front (else_written _ is)))
    ]

pub returns-then-is_empty-clause-all : goal.returns-then-is_empty-clause-all
returns-then-is_empty-clause-all g c =
    let asked = c.args.asked in
    let out = g.W.Write.contents in
    let err = g.E.Write.contents in
    let items = c.next_line.new.line.items in
    let empty : length items ≡ 0 = search rules in
    let ended = goes_end asked _ _ items c.loop.progress c.in-Ok.after _ _ _ _ _ _ c.loop.invariant.goes
    (subst (λ l. (held : List (List ℕ)) → Stands asked.join c.loop.progress.tally.lines c.loop.progress.kept held
    → Moves asked c.loop.progress held [] (λ n. n ≡ l) c.in-Ok.after (out c.loop.out.inner) (out c.end_held.new.out.inner) (err c.loop.err.inner)
    (err c.end_held.new.err.inner)) c.deref.ensures.value c.in-Ok.ensures.moves) in
    let none = none_kept c.in-Ok.after.kept c.deref.result.now (c.deref.ensures.value ∙ nil_from_length items empty) c.in-Ok.ensures.goes in
    ends asked _ _ items c.in-Ok.after _ _ _ _ ended c.in_default.ensures.held none (c.in_default.ensures.end empty)

pub returns-clause-first : goal.returns-clause-first
returns-clause-first g c other unclosed =
    first_told c.args.asked _ _ Any c.loop.progress _ _ _ _ _ _ c.loop.invariant.goes (any_next _) refl refl

pub returns-clause-front : goal.returns-clause-front
returns-clause-front g c =
    in_part _ c.args.asked _ _ _ _ (first_told c.args.asked _ _ Any c.loop.progress _ _ _ _ _ _ c.loop.invariant.goes (any_next _) refl refl)

pub loop-preserved : goal.loop-preserved
loop-preserved g c =
    let asked = c.args.asked in
    let out = g.W.Write.contents in
    let err = g.E.Write.contents in
    let items = c.next_line.new.line.items in
    let read = g.R.Read.remaining in
    let some : 0 < length items = search rules in
    let ended = goes_end asked _ _ items c.loop.progress c.in-Ok.after _ _ _ _ _ _ c.loop.invariant.goes
    (subst (λ l. (held : List (List ℕ)) → Stands asked.join c.loop.progress.tally.lines c.loop.progress.kept held
    → Moves asked c.loop.progress held [] (λ n. n ≡ l) c.in-Ok.after (out c.loop.out.inner) (out c.end_held.new.out.inner) (err c.loop.err.inner)
    (err c.end_held.new.err.inner)) c.deref.ensures.value c.in-Ok.ensures.moves) in
    record {
      goes = goes_take asked _ _ _ items c.in-Ok.after c.in-Ok-take_line.after _ _ _ _ _ _ ended c.in_default.ensures.held c.in_default.ensures.rest some
          (subst (λ l. (held : List (List ℕ)) → Stands asked.join c.in-Ok.after.tally.lines c.in-Ok.after.kept held
          → Moves asked c.in-Ok.after held (l ∷ []) (λ n. ⊤) c.in-Ok-take_line.after (out c.end_held.new.out.inner) (out c.take_line.new.out.inner)
          (err c.end_held.new.err.inner) (err c.take_line.new.err.inner)) c.deref-in-loop.ensures.value c.in-Ok-take_line.ensures.moves);
      lasts =
          lasts_more 1048577 c.loop.counter (read c.args.reader.now.inner) (read c.loop.reader.inner) (read c.next_line.new.reader.inner) items
          c.loop.invariant.lasts c.in_default.ensures.held c.in_default.ensures.rest some;
      reads = search rules;
      writes = search rules;
      errors = search rules;
      lines = omega (arith, c.in-Ok-take_line.ensures.number, c.in-Ok.ensures.number, c.loop.invariant.lines);
      datagrams = omega (arith, c.in-Ok-take_line.ensures.number, c.in-Ok.ensures.number, c.in-Ok-take_line.ensures.count, c.in-Ok.ensures.count, c.loop.invariant.datagrams);
    }
