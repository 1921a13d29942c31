use Rattle.std.proofs.Common.{◌++◌, ◌∙◌, ℕ, List, Option, refl, subst, ap}
use Rattle.json.specs.Json.{Json}
use Rattle.gtp_lines.specs.All.{IsFront}
use Rattle.gtp_lines.specs.reading.Header.{headed_of}
use Rattle.gtp_lines.specs.Named.{name_in}
use Rattle.gtp_json.specs.Control.{header_members}
use Rattle.gtp_json.specs.Named.{named_elements}
use Rattle.gtp_json.specs.All.{rest_members}
use Rattle.gtp_json.specs.reading.Tokens.{written}
use Rattle.gtp_json.proofs.Tokens.{twice}
use Rattle.gtp_json.proofs.all.put_message.Goals as goal

pub returns : goal.returns
returns c =
    let header = c.args.header.now in
    let found = c.front_elements-elements.result in
    let front = subst (λ (n : ℕ). IsFront n header.rest.now found.0 found.1.now) c.place.ensures.place c.front_elements-elements.ensures in
    let h = headed_of header in
    let titled : Option (List ℕ) → List (List ℕ × Json) = λ name. header_members name h.kind h.teid h.seq h.priority in
    let first : List (List ℕ × Json) = titled (name_in c.args.names.now h.kind) in
    let shown = c.in_ok-put_head_members.ensures.ok ∙ ap (λ (name : Option (List ℕ)). c.args.out.now ++ written (titled name)) c.name_in.ensures in
    let list : List (List ℕ × Json) = named_elements c.args.places c.args.names.now h.kind found.0 ++ rest_members found.1.now in
    record {
      ok = (
        first ++ list,
        (found.0, found.1.now, front, refl),
        twice c.args.out.now c.put_head_members.new.out c.put_list.new.out first list shown c.in_ok-put_list.ensures.ok,
      );
    }
