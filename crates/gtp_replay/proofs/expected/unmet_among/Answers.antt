use Rattle.std.proofs.Common.{◌∙◌, sym, not, option_map, string_bytes, rules, tests}
use Rattle.std.proofs.lemmas.Iterator.{YieldsList-from_slice}
use Rattle.std.proofs.lemmas.Iterator.Search.{position_from_yields_List}
use Rattle.gtp_world.specs.Record.{EventRecord, told_by}
use Rattle.gtp_world.specs.declared.log.Note.{Note}
use Rattle.gtp_replay.specs.Expected.{told_is_met}
use Rattle.gtp_replay.proofs.Unmet.{position_mapped, position_below}
use Rattle.gtp_replay.proofs.expected.unmet_among.Goals as goal

pub returns : goal.returns
returns c =
    let unmet = λ (told : EventRecord). not (told_is_met (option_map (λ s. string_bytes s) c.args.expect.now) told) in
    let here = λ (note : Note). unmet (told_by note) in
    let is = position_from_yields_List here _ _ _ c.position.ensures.ran (YieldsList-from_slice c.args.notes.now cc) (λ x b q k. search (rules, tests)) in
    record { value = is ∙ sym (position_mapped unmet told_by c.args.notes.now); among = position_below here c.args.notes.now c.position.result is }
