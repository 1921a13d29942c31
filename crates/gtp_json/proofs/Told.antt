-- What a body tells is one object.
use Rattle.std.proofs.Common.{◌≡◌, ◌∙◌, ℕ, List, ◌++◌, codes, ap}
use Rattle.json.specs.Token.{Token}
use Rattle.gtp_forms.specs.Reading.{told_by}
use Rattle.gtp_forms.specs.Tokens.{tokens_of, bracketed, told_json}
use Rattle.gtp_forms.proofs.AsMembers.{is_object}
use Rattle.gtp_names.specs.declared.names.Names.{Names}
use Rattle.gtp_names.specs.Parts.{tables_in}
use Rattle.gtp_json.specs.Named.{fields_member}
use Rattle.gtp_json.specs.reading.Tokens.{written, keyed}
use Rattle.gtp_json.proofs.Tokens.{member_tokens_are}

pub fields_written : (names : Names) (form : ℕ) (body : List ℕ)
    → written (fields_member names form body) ≡ keyed (codes "fields") ++ bracketed (tokens_of (told_by (tables_in names) form body))
unfolding fields_member
fields_written names form body =
    let forms = tables_in names in
    member_tokens_are (codes "fields") (told_json (told_by forms form body))
    ∙ ap (λ (ts : List Token). keyed (codes "fields") ++ ts) (is_object forms form body).0
