use Rattle.std.proofs.Common.{◌≡◌, ◌∙◌, [], Some, refl, subst, append-nil}
use Rattle.gtp_counted.proofs.Lines.{none_yet}
use Rattle.gtp_dump.specs.Held.{reading_of, Stands}
use Rattle.gtp_dump.proofs.Ending.{ended, only_held}
use Rattle.gtp_dump.proofs.decoding.end_held.Goals as goal

pub returns-in-None-clause-moves : goal.returns-in-None-clause-moves
returns-in-None-clause-moves g c held stands =
    let tally = c.args.before.tally in
    let empty : held ≡ [] = subst (λ k. Stands c.args.asked.join tally.lines k held) c.in-None.is stands in
    record {
      left = [];
      text = [];
      errors = [];
      lines = only_held c.args.asked tally held [] (λ n. n ≡ c.args.line.now) [] (append-nil held ∙ empty);
      stands = refl;
      output = none_yet (g.W.Write.contents c.args.out.now.inner);
      error = none_yet (g.E.Write.contents c.args.err.now.inner);
    }

pub returns-then-goes_on-clause-moves : goal.returns-then-goes_on-clause-moves
returns-then-goes_on-clause-moves g c held stands =
    let tally = c.args.before.tally in
    let kept : Stands c.args.asked.join tally.lines (Some c.in-Some.kept) held = subst (λ k. Stands c.args.asked.join tally.lines k held) c.in-Some.is stands in
    record {
      left = held;
      text = [];
      errors = [];
      lines = only_held c.args.asked tally held [] (λ n. n ≡ c.args.line.now) held (append-nil held);
      stands = rw c.in-Some.is kept;
      output = none_yet (g.W.Write.contents c.args.out.now.inner);
      error = none_yet (g.E.Write.contents c.args.err.now.inner);
    }

pub returns-in-Ok-clause-moves : goal.returns-in-Ok-clause-moves
returns-in-Ok-clause-moves g c held stands =
    let tally = c.args.before.tally in
    let kept : Stands c.args.asked.join tally.lines (Some c.in-Some.kept) held = subst (λ k. Stands c.args.asked.join tally.lines k held) c.in-Some.is stands in
    let stops = rw c.in-Some.is at (c.goes_on.ensures.no c.if-goes_on.false) in
    let told = rw c.in-Some.is at c.in-Ok.ensures.told in
    let gives = rw c.in-Some.is at c.in_ok-reading-in-Some.ensures in
    record {
      left = [];
      text = told.text;
      errors = told.errors;
      lines = ended c.args.asked tally c.in-Ok.tally c.in-Some.kept held c.args.line.now (reading_of c.in_ok-reading-in-Some.reading) told.text told.errors kept stops (gives held kept.0) told.tells;
      stands = refl;
      output = told.output;
      error = told.error;
    }

pub returns-clause-front : goal.returns-clause-front
returns-clause-front g c other held stands =
    let tally = c.args.before.tally in
    let kept : Stands c.args.asked.join tally.lines (Some c.in-Some.kept) held = subst (λ k. Stands c.args.asked.join tally.lines k held) c.in-Some.is stands in
    let stops = rw c.in-Some.is at (c.goes_on.ensures.no c.if-goes_on.false) in
    let told = rw c.in-Some.is at (c.in-Err.ensures.front other) in
    let gives = rw c.in-Some.is at c.in_ok-reading-in-Some.ensures in
    record {
      left = [];
      after = told.after;
      text = told.text;
      errors = told.errors;
      lines = ended c.args.asked tally told.after c.in-Some.kept held c.args.line.now (reading_of c.in_ok-reading-in-Some.reading) told.text told.errors kept stops (gives held kept.0) told.tells;
      output = told.output;
      error = told.error;
    }
