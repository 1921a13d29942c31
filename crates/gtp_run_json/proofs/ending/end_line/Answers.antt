use Rattle.std.proofs.Common.{rules, ◌≡◌, ◌++◌, ◌∙◌, List, Some, subst, arith, refl, ap, codes}
use Rattle.json.specs.Token.{Token}
use Rattle.json.specs.Json.{document}
use Rattle.json.specs.Print.{print}
use Rattle.gtp_json.specs.Tree.{member, object_of, array_of, line_of}
use Rattle.gtp_json.specs.reading.Tokens.{written}
use Rattle.gtp_json.proofs.Tokens.{whole}
use Rattle.gtp_json.proofs.Reading.{reads}
use Rattle.gtp_run_json.specs.Ending.{IsEndJson}
use Rattle.gtp_run_json.specs.Run.{ReadsAsItself}
use Rattle.gtp_run_json.proofs.Depths.{end_depth}
use Rattle.gtp_run_json.specs.Members.{number_member}
use Rattle.gtp_run_json.specs.Contexts.{sessions_members, bearers_members}
use Rattle.gtp_run_json.proofs.Objects.{four_times, if_ok}
use Rattle.gtp_run_json.proofs.ending.end_line.Goals as goal

pub returns : goal.returns
returns c =
    let v = c.args.world.now in
    let pairs = c.in_ok-put_mutual.ensures.ok in
    let packets = c.in_ok-put_accepted.ensures.ok in
    let naming = member (codes "mutual") (array_of pairs.0) in
    let accepted = member (codes "accepted") (array_of packets.0) in
    let late = number_member (codes "late") v.log.late in
    let counted : c.number_member.new.self ≡ c.put_accepted.new.out ++ written late = search rules in
    let rest = four_times c.put_sessions.new.out c.put_bearers.new.out c.put_mutual.new.out c.put_accepted.new.out c.number_member.new.self (bearers_members v) naming accepted late
    c.in_ok-put_bearers.ensures.ok pairs.2 packets.2 counted in
    let others = bearers_members v ++ (naming ++ (accepted ++ late)) in
    let all = whole c.new-out.result c.begin_object.new.self c.put_sessions.new.out c.number_member.new.self c.end_object.new.self (sessions_members v) others
    c.new-out.ensures c.in_ok-begin_object.ensures.ok c.in_ok-put_sessions.ensures.ok rest c.in_ok-end_object.ensures.ok in
    let j = object_of (sessions_members v ++ others) in
    let line : print c.end_object.new.self ++ codes "\n" ≡ line_of j = ap (λ (ts : List Token). print ts ++ codes "\n") all in
    let is_end : IsEndJson v j = record { pairs = pairs.0; agreeing = pairs.1; packets = packets.0; owed = packets.1; whole = refl } in
    let deep = end_depth v j is_end in
    let found = reads j c.end_object.new.self all c.into_line.ensures.reads_back (omega (arith, deep)) in
    let back : ReadsAsItself j = subst (λ (ts : List Token). document (print ts) ≡ Some j) all found in
    if_ok c.into_line.result (λ text is. (j, is_end, back, is ∙ line)) c.into_line.ensures.text
