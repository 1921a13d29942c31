use Rattle.std.proofs.Common.{◌≡◌, ℕ, ◌≤◌, ◌/◌, ◌%◌, List, [], ◌∷◌, ◌++◌, ◌∙◌, ap, length, arith, append_assoc}
use Rattle.gtp_ie.specs.Text.{element_encoding}
use Rattle.gtp_ie.specs.Value.{encoding_of}
use Rattle.gtp_ie.proofs.writing.put_value.Goals as goal

-- one octet states a length of at most 255
headed : (out text : List ℕ) (kind size instance : ℕ) → size ≡ length text → size ≤ 255 → (out ++ (kind ∷ 0 ∷ size ∷ instance ∷ [])) ++ text ≡ out ++ element_encoding kind instance text
headed out text kind size instance of small =
    let high : 0 ≡ (length text / 256) % 256 = omega (arith, of, small) in
    let low : size ≡ length text % 256 = omega (arith, of, small) in
    append_assoc out (kind ∷ 0 ∷ size ∷ instance ∷ []) text ∙ (λ i. out ++ (kind ∷ high i ∷ low i ∷ instance ∷ text))

pub returns-clause-ok : goal.returns-clause-ok
returns-clause-ok g c =
    let text = encoding_of (g.T.IeValue.value c.args.value.now) in
    let before : List ℕ = c.args.out.now.items in
    c.in_default.ensures.ok ∙ ap (λ (xs : List ℕ). xs ++ text) c.in_ok-extend_from_slice.ensures.items
    ∙ ap (λ (kind : ℕ). (before ++ (kind ∷ 0 ∷ c.body_length.result ∷ c.args.instance ∷ [])) ++ text) c.KIND.ensures
    ∙ headed before text g.T.IeValue.KIND c.body_length.result c.args.instance c.body_length.ensures.length c.body_length.ensures.most
