use Rattle.std.proofs.Common.{◌∙◌, [], ◌∷◌, List, option_map, map, sym, ap}
use Rattle.std.proofs.lemmas.List.{map-append}
use Rattle.gtp_user.specs.Chain.{Extension, extension_of}
use Rattle.gtp_user.specs.declared.extension.ExtensionHeader.{ExtensionHeader}
use Rattle.gtp_lines.specs.Fronts.{header_of, after_headers, front_of}
use Rattle.gtp_lines.specs.reading.Header.{begun_seen}
use Rattle.gtp_lines.proofs.Fronts.{header_small, front_step, front_end, onto, all_of}
use Rattle.gtp_lines.proofs.extension_front.chain_front.Goals as goal

pub loop-begun-smaller : goal.loop-begun-smaller
loop-begun-smaller c =
    let found = sym c.header_of.ensures ∙ ap (option_map begun_seen) c.in-Some.is in
    header_small c.loop-begun.kind c.loop-begun.rest.now (begun_seen c.in-Some.begun) found

pub loop-begun-preserved : goal.loop-begun-preserved
loop-begun-preserved c =
    let kind = c.loop-begun.kind in
    let begun = begun_seen c.in-Some.begun in
    let items = c.loop-begun.headers.items in
    let header : ExtensionHeader = record { kind = kind; content = c.in-Some.begun.content } in
    let others = front_of begun.next begun.rest in
    let found = sym c.header_of.ensures ∙ ap (option_map begun_seen) c.in-Some.is in
    let step = front_step kind c.loop-begun.rest.now begun found in
    record {
      front = ap (λ (hs : List ExtensionHeader). after_headers (map extension_of hs) others) c.in_ok-push.ensures.items
          ∙ (ap (λ (es : List Extension). after_headers es others) (map-append extension_of items (header ∷ []))
          ∙ (onto (map extension_of items) (extension_of header) others ∙ (ap (after_headers (map extension_of items)) (sym step) ∙ c.loop-begun.invariant.front)));
    }

pub returns : goal.returns
returns c =
    let kind = c.loop-begun.kind in
    let rest = c.loop-begun.rest.now in
    let es = map extension_of c.loop-begun.headers.items in
    let none = sym c.header_of.ensures ∙ ap (option_map begun_seen) c.in_default.is in
    sym (all_of es kind rest) ∙ (ap (after_headers es) (sym (front_end kind rest none)) ∙ c.loop-begun.invariant.front)
