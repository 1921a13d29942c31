use Rattle.std.proofs.Common.{rules, ◌≡◌, ◌++◌, codes}
use Rattle.json.specs.Json.{boolean}
use Rattle.gtp_outcomes.specs.States.{state_word}
use Rattle.gtp_json.specs.Tree.{member}
use Rattle.gtp_json.specs.reading.Tokens.{written}
use Rattle.gtp_run_json.specs.Members.{where_some, word_member, number_member, teid_member}
use Rattle.gtp_run_json.proofs.Objects.{four_times, on_ok}
use Rattle.gtp_run_json.proofs.contexts.put_bearer_members.Goals as goal

pub returns : goal.returns
returns c =
    let b = c.args.bearer.now in
    let named : c.put_some_number.new.out ≡ c.put_teid.new.out ++ written (where_some (number_member (codes "ebi")) b.identity) = search rules in
    let told : c.string_member.new.self ≡ c.put_some_number.new.out ++ written (word_member (codes "state") (state_word b.state)) = search rules in
    record {
      ok = on_ok c.bool_member.result (four_times c.args.out.now c.put_teid.new.out c.put_some_number.new.out c.string_member.new.self c.bool_member.new.self
          (teid_member (codes "session") b.session) (where_some (number_member (codes "ebi")) b.identity) (word_member (codes "state") (state_word b.state)) (member (codes "ended") (boolean b.ended))
          c.in_ok-put_teid.ensures.ok named told) c.bool_member.ensures.ok;
    }
