use Rattle.std.proofs.Common.{◌++◌, ◌∙◌, ℕ, List, codes, ap}
use Rattle.json.specs.Json.{string}
use Rattle.gtp_ie.specs.View.{element_of}
use Rattle.gtp_lines.specs.Named.{group_name}
use Rattle.gtp_json.specs.Tree.{member}
use Rattle.gtp_json.specs.reading.Tokens.{written}
use Rattle.gtp_json.specs.Named.{group_octets}
use Rattle.gtp_json.proofs.Tokens.{twice}
use Rattle.gtp_json.proofs.named.put_group_head.Goals as goal

pub returns : goal.returns
returns c =
    let octets = group_octets (element_of c.args.view.now) in
    let middle = c.put_group_octets.new.out in
    let named = λ (name : List ℕ). member (codes "name") (string name) in
    let name = c.group_name.ensures ∙ ap group_name c.row_of-row.ensures in
    let second = c.in_ok-string_member.ensures.ok ∙ ap (λ (text : List ℕ). middle ++ written (named text)) name in
    record { ok = twice c.args.out.now middle c.string_member.new.self octets _ c.in_ok-put_group_octets.ensures.ok second }
