use Rattle.std.proofs.Common.{ap, ◌∙◌, rules}
use Rattle.std.proofs.lemmas.List.{nil_from_length}
use Rattle.gtp_dump.specs.Text.{from_digit}
use Rattle.gtp_dump.proofs.Walk.{passes_prefix, ends_at_comment, stops, passes, ends}
use Rattle.gtp_dump.proofs.text.from_digit.Goals as goal

pub loop-first-preserved-then-begins_prefix : goal.loop-first-preserved-then-begins_prefix
loop-first-preserved-then-begins_prefix c =
    let passed = passes_prefix _ _ c.in-Some.first.now c.in-Some.after.now c.loop-first.invariant.digit c.in-Some.ensures.cases.0 (search rules) in
    record { digit = ap from_digit c.split_at.ensures.back ∙ passed; within = search rules }

pub returns-then-first-eq35 : goal.returns-then-first-eq35
returns-then-first-eq35 c =
    record {
      value =
          ends_at_comment _ _ c.in-Some.first.now c.in-Some.after.now c.loop-first.invariant.digit c.in-Some.ensures.cases.0 (search rules) (search rules);
      within = search rules;
    }

pub returns-then-not-is_between : goal.returns-then-not-is_between
returns-then-not-is_between c =
    record {
      value = stops _ _ c.in-Some.first.now c.in-Some.after.now c.loop-first.invariant.digit c.in-Some.ensures.cases.0 (search rules) (search rules)
          (search rules);
      within = search rules;
    }

pub loop-first-preserved : goal.loop-first-preserved
loop-first-preserved c =
    record {
      digit = passes _ _ c.in-Some.first.now c.in-Some.after.now c.loop-first.invariant.digit c.in-Some.ensures.cases.0 (search rules) (search rules)
          (search rules);
      within = search rules;
    }

pub returns : goal.returns
returns c = record { value = ends _ _ c.loop-first.invariant.digit (nil_from_length _ c.in_default.ensures.cases); within = search rules }
