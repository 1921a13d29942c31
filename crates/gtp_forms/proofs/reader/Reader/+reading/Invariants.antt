use Rattle.std.proofs.Common.{◌≡◌, ◌+◌, ◌-◌, ◌*◌, drop}
use Rattle.gtp_forms.specs.Reading.{items, item, stops, reads, tables_of, all_steps}
use Rattle.gtp_forms.proofs.reader.Reader.+reading.Given as goal

-- what is left to be read from here on gives what all of it gives from the start
abbrev pub invariant-read_items-loop-turn : goal.invariant-read_items-loop-turn
invariant-read_items-loop-turn l =
    let one = item (reads (tables_of l.forms) l.depth) l.name l.form in
    items one (stops l.to_end) (l.count - l.turn) l.self ≡ items one (stops l.to_end) l.count l.initial.self

abbrev pub invariant-read_form-loop-step : goal.invariant-read_form-loop-step
invariant-read_form-loop-step l =
    let form = reads (tables_of l.forms) (l.depth - 1) in
    all_steps form (drop l.step-index l.steps) l.self ≡ all_steps form l.steps l.initial.self

abbrev pub decreases-read_form : goal.decreases-read_form
decreases-read_form l = 6 * l.depth

abbrev pub decreases-read_item : goal.decreases-read_item
decreases-read_item l = 6 * l.depth + 1

abbrev pub decreases-read_part : goal.decreases-read_part
decreases-read_part l = 6 * l.depth + 1

abbrev pub decreases-read_items : goal.decreases-read_items
decreases-read_items l = 6 * l.depth + 2

abbrev pub decreases-read_sized : goal.decreases-read_sized
decreases-read_sized l = 6 * l.depth + 2

abbrev pub decreases-read_case : goal.decreases-read_case
decreases-read_case l = 6 * l.depth + 2

abbrev pub decreases-read_list : goal.decreases-read_list
decreases-read_list l = 6 * l.depth + 3

abbrev pub decreases-read_step : goal.decreases-read_step
decreases-read_step l = 6 * l.depth + 4
