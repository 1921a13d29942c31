use Rattle.std.proofs.Common.{◌++◌, ◌∙◌, ℕ, List, refl, subst, ap}
use Rattle.std.specs.List.{flat_map}
use Rattle.gtp_lines.specs.Control.{first_line}
use Rattle.gtp_lines.specs.Named.{title_in, named_lines}
use Rattle.gtp_lines.specs.All.{IsFront, rest_line}
use Rattle.gtp_lines.specs.reading.Header.{headed_of}
use Rattle.gtp_lines.proofs.Appends.{twice}
use Rattle.gtp_lines.proofs.all.put_message.Goals as goal

pub returns : goal.returns
returns c =
    let names = c.args.names.now in
    let header = c.args.header.now in
    let head = headed_of header in
    let found = c.front_elements-elements.result in
    let front = subst (λ (n : ℕ). IsFront n header.rest.now found.0 found.1.now) c.place.ensures.place c.front_elements-elements.ensures in
    let titled : List ℕ → List ℕ = λ title. first_line title head.kind head.teid head.seq head.priority in
    let first : List ℕ = titled (title_in names head.kind) in
    let shown = c.in_ok-put_first_line.ensures.ok ∙ ap (λ (title : List ℕ). c.args.out.now.items ++ titled title) c.title_in-title.ensures in
    let list : List ℕ = flat_map (named_lines names head.kind) found.0 ++ rest_line found.1.now in
    record {
      ok = (
        first ++ list,
        (found.0, found.1.now, front, refl),
        twice c.args.out.now.items c.put_first_line.new.out.items c.put_list.new.out.items first list shown c.in_ok-put_list.ensures.ok,
      );
    }
