use Rattle.std.proofs.Common.{rules, ◌≡◌, ◌∙◌, [], ◌∷◌, ◌++◌, Some, None, arith, refl, ap, subst}
use Rattle.std.specs.Prelude.{⊤}
use Rattle.gtp_counted.proofs.Lines.{none_yet}
use Rattle.gtp_dump.specs.Entries.{StandsAlone}
use Rattle.gtp_dump.specs.Held.{reading_of, Stands, GoesOnAfter}
use Rattle.gtp_dump.proofs.Ending.{told_alone, only_held, stands_more, stands_first}
use Rattle.gtp_dump.proofs.decoding.take_line.Goals as goal

pub returns-in-Some-clause-moves : goal.returns-in-Some-clause-moves
returns-in-Some-clause-moves g c held stands =
    let tally = c.args.before.tally in
    let line = c.args.line.now in
    let kept : Stands c.args.asked.join tally.lines (Some c.in-Some.kept) held = subst (λ k. Stands c.args.asked.join tally.lines k held) c.in-Some.is stands in
    let goes : GoesOnAfter (Some c.in-Some.kept) line = subst (λ k. GoesOnAfter k line) c.in-Some.is c.requires.goes in
    let more = rw c.in-Some.is at c.in_ok-add.ensures.held in
    let kind = rw c.in-Some.is at c.in_ok-add.ensures.kind in
    record {
      left = held ++ line ∷ [];
      text = [];
      errors = [];
      lines = only_held c.args.asked tally held (line ∷ []) (λ n. ⊤) (held ++ line ∷ []) refl;
      stands = stands_more c.args.asked.join tally.lines c.in-Some.kept c.in_ok-add.field-0 held line kept goes.0 kind (more tally.lines held (omega arith) kept.0);
      output = none_yet (g.W.Write.contents c.args.out.now.inner);
      error = none_yet (g.E.Write.contents c.args.err.now.inner);
    }

pub returns-in-Some-opening-clause-moves : goal.returns-in-Some-opening-clause-moves
returns-in-Some-opening-clause-moves g c held stands =
    let tally = c.args.before.tally in
    let line = c.args.line.now in
    let none : c.args.before.kept ≡ None = search rules in
    let empty : held ≡ [] = subst (λ k. Stands c.args.asked.join tally.lines k held) none stands in
    let begins = c.in-Some-opening.ensures.some in
    record {
      left = line ∷ [];
      text = [];
      errors = [];
      lines = only_held c.args.asked tally held (line ∷ []) (λ n. ⊤) (line ∷ []) (ap (λ l. l ++ line ∷ []) empty);
      stands = stands_first c.args.asked.join c.in-Some-opening.is_joined tally.lines c.in_ok-add-2.field-0 line begins.0 begins.1 begins.2
          (c.in_ok-add-2.ensures.kind ∙ c.none.ensures.kind) (c.in_ok-add-2.ensures.held tally.lines [] (omega (arith, c.none.ensures.lines)) (c.none.ensures.held tally.lines));
      output = none_yet (g.W.Write.contents c.args.out.now.inner);
      error = none_yet (g.E.Write.contents c.args.err.now.inner);
    }

pub returns-in-Ok-clause-moves : goal.returns-in-Ok-clause-moves
returns-in-Ok-clause-moves g c held stands =
    let tally = c.args.before.tally in
    let line = c.args.line.now in
    let none : c.args.before.kept ≡ None = search rules in
    let empty : held ≡ [] = subst (λ k. Stands c.args.asked.join tally.lines k held) none stands in
    let alone : StandsAlone c.args.asked.join line = search rules in
    let told = c.in-Ok.ensures.told in
    record {
      left = [];
      text = told.text;
      errors = told.errors;
      lines = told_alone c.args.asked tally c.in-Ok.tally held line (reading_of c.in_ok-reading.reading) told.text told.errors empty alone c.in_ok-reading.ensures told.tells;
      stands = refl;
      output = told.output;
      error = told.error;
    }

pub returns-clause-front : goal.returns-clause-front
returns-clause-front g c other held stands =
    let tally = c.args.before.tally in
    let line = c.args.line.now in
    let none : c.args.before.kept ≡ None = search rules in
    let empty : held ≡ [] = subst (λ k. Stands c.args.asked.join tally.lines k held) none stands in
    let alone : StandsAlone c.args.asked.join line = search rules in
    let told = c.in-Err.ensures.front other in
    record {
      left = [];
      after = told.after;
      text = told.text;
      errors = told.errors;
      lines = told_alone c.args.asked tally told.after held line (reading_of c.in_ok-reading.reading) told.text told.errors empty alone c.in_ok-reading.ensures told.tells;
      output = told.output;
      error = told.error;
    }
