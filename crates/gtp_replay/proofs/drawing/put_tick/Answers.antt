use Rattle.std.proofs.Common.{rules, ◌≡◌, ◌∙◌, List, ℕ, ◌++◌, ap, sym, codes, length}
use Rattle.std.proofs.lemmas.Result.{on_ok_weaker}
use Rattle.gtp_world.proofs.Logs.{as_many_arrivals}
use Rattle.gtp_lines.proofs.Appends.{twice}
use Rattle.gtp_gateway.specs.Tick.{arrivals_of}
use Rattle.gtp_replay.specs.Diagram.{some_of}
use Rattle.gtp_replay.proofs.drawing.put_tick.Goals as goal

pub returns : goal.returns
returns c =
    let note = c.args.note.now in
    let before = c.args.label.now.items in
    let sends = some_of (codes ", sends again ") note.sent in
    let gives : ℕ → List ℕ = some_of (codes ", gives up ") in
    let forgets : ℕ → List ℕ = some_of (codes ", forgets ") in
    let first = c.put.new.out.items in
    let second = c.put_some_of.new.label.items in
    let third = c.put_some_of-2.new.label.items in
    let last = c.put_some_of-3.new.label.items in
    let given : c.len.result ≡ length note.gave_up.items = search rules in
    let forgotten : c.len-2.result ≡ length note.forgotten.items = search rules in
    let gave = c.in_ok-put_some_of-2.ensures.ok ∙ ap (λ n. second ++ gives n) given in
    let G = gives (length note.gave_up.items) in
    let F = forgets (length (arrivals_of note.forgotten.items)) in
    let T : List ℕ = codes "tick" in
    let one = twice before first second T sends c.in_ok-put.ensures.ok c.in_ok-put_some_of.ensures.ok in
    let two = twice before second third (T ++ sends) G one gave in
    record {
      ok = on_ok_weaker c.put_some_of-3.result
          (λ is. twice before third last ((T ++ sends) ++ G) F two (is ∙ ap (λ n. third ++ forgets n) (forgotten ∙ sym (as_many_arrivals note.forgotten.items))))
          c.put_some_of-3.ensures.ok;
    }
