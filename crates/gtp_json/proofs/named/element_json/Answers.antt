use Rattle.std.proofs.Common.{◌≡◌, ◌∙◌, ◌++◌, false, List, refl, ap, arith}
use Rattle.json.specs.Token.{Token}
use Rattle.json.specs.Print.{print}
use Rattle.json.specs.Tree.{json_tokens}
use Rattle.gtp_ie.specs.View.{element_of}
use Rattle.gtp_json.specs.Named.{named_json}
use Rattle.gtp_json.proofs.Shallow.{named_depth}
use Rattle.gtp_json.proofs.Reading.{reads}
use Rattle.gtp_json.proofs.named.element_json.Goals as goal

pub returns-clause-reads_back : goal.returns-clause-reads_back
returns-clause-reads_back c =
    let e = element_of c.args.element.now in
    let value = named_json false c.args.names.now c.args.message e in
    let all : c.put_named.new.out ≡ json_tokens value = c.in_ok-put_named.ensures.ok ∙ ap (λ (ts : List Token). ts ++ json_tokens value) c.new-out.ensures in
    let within = named_depth false c.args.names.now c.args.message e in
    (value, refl, (print c.put_named.new.out, c.in_ok-text.ensures.text, reads value c.put_named.new.out all c.into_line.ensures.reads_back (omega (arith, within))))
