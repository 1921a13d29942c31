use Rattle.std.proofs.Common.{rules, ◌≡◌, ◌++◌, ◌∙◌, map, codes, List, ap, sym, append_assoc}
use Rattle.json.specs.Token.{Token}
use Rattle.gtp_forms.specs.Event.{Event}
use Rattle.gtp_forms.specs.Told.{event_of}
use Rattle.gtp_forms.specs.Reading.{told_by}
use Rattle.gtp_forms.specs.Tokens.{tokens_of, bracketed}
use Rattle.gtp_names.specs.Parts.{tables_in}
use Rattle.gtp_json.specs.reading.Tokens.{keyed}
use Rattle.gtp_json.proofs.Told.{fields_written}
use Rattle.gtp_json.proofs.named.put_fields.Goals as goal

pub returns : goal.returns
returns c =
    let out = c.args.out.now in
    let names = c.args.names.now in
    let key = keyed (codes "fields") in
    let events = map event_of c.deref.result.now in
    let told : events ≡ told_by (tables_in names) c.args.form c.args.body.now = search rules in
    let fields = ap (λ (es : List Event). key ++ bracketed (tokens_of es)) told ∙ sym (fields_written names c.args.form c.args.body.now) in
    record {
      ok = c.in_ok-told_object.ensures.ok
          ∙ (ap (λ (ts : List Token). ts ++ bracketed (tokens_of events)) c.in_ok-key.ensures.ok
          ∙ (append_assoc out key (bracketed (tokens_of events)) ∙ ap (λ (ts : List Token). out ++ ts) fields));
    }
