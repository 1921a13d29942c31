use Rattle.std.proofs.Common.{◌≡◌, List, map, subst, Some, arith}
use Rattle.std.specs.List.{enumerate_from}
use Rattle.json.specs.Token.{Token}
use Rattle.json.specs.Json.{document}
use Rattle.json.specs.Print.{print}
use Rattle.gtp_world.specs.Events.{event_of}
use Rattle.gtp_world.specs.Record.{sent_by, told_by}
use Rattle.gtp_json.proofs.Tokens.{whole}
use Rattle.gtp_json.proofs.Reading.{reads}
use Rattle.gtp_run_json.specs.Happened.{head_members, left_members, event_json}
use Rattle.gtp_run_json.specs.Run.{ReadsAsItself}
use Rattle.gtp_run_json.proofs.Depths.{event_depth}
use Rattle.gtp_run_json.proofs.Objects.{if_ok}
use Rattle.gtp_run_json.proofs.happened.event_line.Goals as goal

pub returns-clause-reads_back : goal.returns-clause-reads_back
returns-clause-reads_back c =
    let event = event_of c.args.event.now in
    let told = told_by c.args.note.now in
    let sent = enumerate_from c.args.first (map sent_by c.args.sent.now) in
    let j = event_json c.args.place sent event told in
    let all = whole c.new-out.result c.begin_object.new.self c.put_head.new.out c.put_left.new.out c.end_object.new.self (head_members c.args.place event told) (left_members sent told)
    c.new-out.ensures c.in_ok-begin_object.ensures.ok c.in_ok-put_head.ensures.ok c.in_ok-put_left.ensures.ok c.in_ok-end_object.ensures.ok in
    let deep = event_depth c.args.place sent event told in
    let found = reads j c.end_object.new.self all c.into_line.ensures.reads_back (omega (arith, deep)) in
    let back : ReadsAsItself j = subst (λ (ts : List Token). document (print ts) ≡ Some j) all found in
    if_ok c.into_line.result (λ text is. back) c.into_line.ensures.text
