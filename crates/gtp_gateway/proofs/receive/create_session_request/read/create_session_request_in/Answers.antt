use Rattle.std.proofs.Common.{◌≡◌, List, [], ◌∷◌, map, refl, sym, ◌∙◌, ap}
use Rattle.gtp_ie.specs.Value.{OfAmbr}
use Rattle.gtp_v2.specs.Viewed.{has_row, row_of}
use Rattle.gtp_machine.specs.Decoded.{row_in, ambr_in, octets_at, number_at, end_at, requested}
use Rattle.gtp_machine.specs.MessageType.{type_at}
use Rattle.gtp_machine.proofs.Octets.Readings.{create_session_request_read}
use Rattle.gtp_gateway.specs.receive.CreateSessionRequest.{default_values}
use Rattle.gtp_gateway.proofs.InPlace.{row_said}
use Rattle.gtp_gateway.proofs.receive.create_session_request.read.create_session_request_in.Goals as goal

same_first : {A : Type 0} (x y : A) (xs ys : List A) → x ∷ xs ≡ y ∷ ys → (x ≡ y) × (xs ≡ ys)
same_first x y xs ys is = (cc, cc)

none_mapped : {A B : Type 0} (f : A → B) (xs ys : List A) → xs ≡ ys → map f xs ≡ [] → ys ≡ []
none_mapped f [] ys same none = sym same
none_mapped f (x ∷ xs) ys same none = absurd cc

pub returns : goal.returns
unfolding row_in
returns c =
    let m = c.args.view.now.message in
    let q = create_session_request_read c.requires.spelled.0 m c.requires.spelled.1 (ap type_at c.requires.of) in
    let d = c.requested_default in
    let contexts = same_first q.0 (default_values d.result) q.1 d.ensures.further (sym q.3 ∙ d.ensures.contexts) in (
      _,
      q.2,
      record {
        number = sym c.seq.ensures;
        imsi = ap octets_at c.needed.ensures.row;
        control = ap end_at c.needed-2.ensures.row;
        access_point = ap octets_at c.needed-3.ensures.row;
        pdn = ap number_at c.needed-4.ensures.row;
        ambr = row_said OfAmbr ambr_in (λ a. refl) (row_of 72 0 m) c.value.result (c.value.ensures.row (ap (λ k. has_row k 72 0) c.requires.of));
        context = ap requested contexts.0;
        alone = (λ is. ap (map requested) (contexts.1 ∙ d.ensures.alone.0 is), λ none. d.ensures.alone.1 (none_mapped requested q.1 d.ensures.further contexts.1 none));
      },
    )
