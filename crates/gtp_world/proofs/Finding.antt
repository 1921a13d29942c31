-- Datagrams by their numbers.
use Rattle.std.proofs.Common.{◌≡◌, Option, Result, Ok, Err, ◌↔◌, inl, inr, ℕ, ◌<◌, ◌≤◌, Bool, true, false, take, List, [], ◌∷◌, map, length, Some}
use Rattle.std.proofs.Common.{None, option_map, refl, sym, ◌∙◌, ap, subst, slice_get, get_or}
use Rattle.std.proofs.Math.Nat.{not-suc-le-zero}
use Rattle.std.proofs.Math.Seq.{take-length}
use Rattle.std.proofs.lemmas.List.{length-map}
use Rattle.std.proofs.lemmas.Option.{slice_get-map, slice_get-get_or, slice_get_past, same_Some}
use Rattle.std.specs.Result.{is_ok, is_err}
use Rattle.std.specs.Prelude.{IsTrue, IfSome, OnOk, OnErr}
use Rattle.gtp_machine.specs.declared.role.Role.{Role}
use Rattle.gtp_machine.specs.Spelling.{Datagram as Sent}
use Rattle.gtp_machine.specs.Ordered.{Unless}
use Rattle.gtp_machine.specs.World.{By, other, Deliver}
use Rattle.gtp_gateway.specs.Parts.{arrival_of}
use Rattle.gtp_world.specs.Record.{WorldRecord, gateway_in, sent_by}
use Rattle.gtp_world.specs.Last.{last_octets}
use Rattle.gtp_world.specs.Stepped.{IsThere, IsGivenUp, IsLate, TakesOn, Brings, BringsFirst, EventLeaves}
use Rattle.gtp_world.specs.declared.log.Datagram.{Datagram}

pub there : (datagrams : List Datagram) (number : ℕ) → number < length datagrams → IsThere (map sent_by datagrams) number
there [] number within = absurd (not-suc-le-zero within)
there (d ∷ ds) number within =
    record { sent = sent_by (get_or (d ∷ ds) number d); is = slice_get-map sent_by (d ∷ ds) number ∙ ap (option_map sent_by) (slice_get-get_or (d ∷ ds) number d within) }

pub none_there : (datagrams : List Datagram) (number : ℕ) → length datagrams ≤ number → IsThere (map sent_by datagrams) number → ⊥
none_there datagrams number past found =
    let past_all = subst (λ n. n ≤ number) (sym (length-map datagrams sent_by)) past in
    let e : None ≡ Some found.sent = sym (slice_get_past (map sent_by datagrams) number past_all) ∙ found.is in
    cc e

-- the datagram that stands there
pub found_at : (datagrams : List Datagram) (number : ℕ) (d : Datagram) (found : IsThere (map sent_by datagrams) number) → slice_get datagrams number ≡ Some d → found.sent ≡ sent_by d
found_at datagrams number d found is = same_Some found.sent (sent_by d) (sym found.is ∙ slice_get-map sent_by datagrams number ∙ ap (option_map sent_by) is)

-- what comes of a datagram that was brought, by the datagram that stands there
pub brought : (old : WorldRecord) (late whole : Bool) (new : WorldRecord) (count : ℕ) (node : Role) (octets : List ℕ) (datagrams : List Datagram) (index : ℕ)
    (d : Datagram) (found : IsThere (map sent_by datagrams) index) → slice_get datagrams index ≡ Some d → node ≡ other d.node
    → octets ≡ take count d.sent.octets.items
    → (IsTrue late ↔ IsTrue whole × IsGivenUp (gateway_in old node) d.sent.plane (arrival_of d.sent.from (last_octets octets)))
    → TakesOn old node d.sent.plane d.sent.from octets late new → BringsFirst old found.sent count whole new
brought old late whole new count node octets datagrams index d found at goes reads is t =
    let first = take count d.sent.octets.items in
    subst (λ (x : By Sent). BringsFirst old x count whole new) (sym (found_at datagrams index d found at))
    (record {
      late = late;
      is = subst (λ (r : Role). IsTrue late ↔ IsTrue whole × IsGivenUp (gateway_in old r) d.sent.plane (arrival_of d.sent.from (last_octets first))) goes
          (subst (λ (o : List ℕ). IsTrue late ↔ IsTrue whole × IsGivenUp (gateway_in old node) d.sent.plane (arrival_of d.sent.from (last_octets o))) reads is);
      brings = subst (λ (r : Role). TakesOn old r d.sent.plane d.sent.from first late new) goes (subst (λ (o : List ℕ). TakesOn old node d.sent.plane d.sent.from o late new) reads t);
    })

-- how long it is
pub octets_at : (datagrams : List Datagram) (index : ℕ) (d : Datagram) (found : IsThere (map sent_by datagrams) index) → slice_get datagrams index ≡ Some d
    → length found.sent.what.octets ≡ length d.sent.octets.items
octets_at datagrams index d found at = ap (λ (x : By Sent). length x.what.octets) (found_at datagrams index d found at)

-- a delivery: as many octets come as there are
pub delivered : (old : WorldRecord) (number count : ℕ) (new : WorldRecord) (found : IsThere old.log.datagrams number) → count ≡ length found.sent.what.octets
    → BringsFirst old found.sent count true new → EventLeaves old (Deliver number) new
delivered old number count new found long b = inr (found, by b.late b.is b.brings)
  where
    octets : List ℕ
    octets = found.sent.what.octets

    whole : take count octets ≡ octets
    whole = ap (λ n. take n octets) long ∙ take-length octets

    by : (late : Bool) → (IsTrue late ↔ IsTrue true × IsGivenUp (gateway_in old (other found.sent.role)) found.sent.what.plane
        (arrival_of found.sent.what.from (last_octets (take count octets)))) → Brings old found.sent (take count octets) late new
        → Unless (IsLate (gateway_in old (other found.sent.role)) found.sent.what) (Brings old found.sent octets false new)
        (λ late. Brings old found.sent octets true new)
    by true is t =
        inr (
          subst (λ o. IsGivenUp (gateway_in old (other found.sent.role)) found.sent.what.plane (arrival_of found.sent.what.from (last_octets o))) whole
              (is.0 refl).1,
          subst (λ (o : List ℕ). Brings old found.sent o true new) whole t,
        )
    by false is t =
        inl (
          (λ late.
              let e : false ≡ true =
              is.1 (
                refl,
                subst (λ o. IsGivenUp (gateway_in old (other found.sent.role)) found.sent.what.plane (arrival_of found.sent.what.from (last_octets o)))
                    (sym whole) late,
              ) in
              absurd (cc e)),
          subst (λ (o : List ℕ). Brings old found.sent o false new) whole t,
        )

-- and where fewer come it is not late
pub cut_short : (old : WorldRecord) (sent : By Sent) (count : ℕ) (new : WorldRecord) → BringsFirst old sent count false new → Brings old sent (take count sent.what.octets) false new
cut_short old sent count new b = by b.late b.is b.brings
  where
    by : (late : Bool) → (IsTrue late ↔ IsTrue false
        × IsGivenUp (gateway_in old (other sent.role)) sent.what.plane (arrival_of sent.what.from (last_octets (take count sent.what.octets))))
        → Brings old sent (take count sent.what.octets) late new → Brings old sent (take count sent.what.octets) false new
    by true is t = let e : false ≡ true = (is.0 refl).0 in absurd (cc e)
    by false is t = t

-- what holds where there is a value, where there is one
pub on_ok : {X E : Type 0} (r : Result X E) (P : Type 0) → is_ok r ≡ true → OnOk r P → P
on_ok (Ok x) P is p = p
on_ok (Err e) P is p = absurd (cc is)

-- and where there is an error
pub on_err : {X E : Type 0} (r : Result X E) (P : Type 0) → is_err r ≡ true → OnErr r P → P
on_err (Ok x) P is p = absurd (cc is)
on_err (Err e) P is p = p

-- what holds of a value that is there, by what is known of it
pub so_on_some : {X : Type 0} (r : Option X) (P Q : X → Type 0) → ((x : X) → P x → Q x) → IfSome r P → IfSome r Q
so_on_some None P Q so p = p
so_on_some (Some x) P Q so p = so x p

-- what holds in any case, where there is an error
pub if_err : {X E : Type 0} (r : Result X E) (P : Type 0) → P → OnErr r P
if_err (Ok x) P p = tt
if_err (Err e) P p = p
