-- The sender's end for control messages.
use Rattle.std.proofs.Common.{◌≡◌, ℕ, Bool, true, false, cond, List, Option, Some, None, Result, Ok, Err, refl, sym, ap, subst}
use Rattle.std.specs.Prelude.{option_map, ◌==◌}
use Rattle.gtp_values.specs.TunnelEnd.{TunnelEnd}
use Rattle.gtp_ie.specs.declared.fault.ReadFault.{ReadFault}
use Rattle.gtp_ie.specs.Element.{Element, first_of}
use Rattle.gtp_ie.specs.Value.{Value, OfFTeid, fteid_in, value_at}
use Rattle.gtp_ie.specs.Spelling.{Spells, Says as BodySays}
use Rattle.gtp_ie.proofs.Spelled.{value_decided}
use Rattle.gtp_v2.specs.Viewed.{value_or_none, welcome, optional_at}
use Rattle.gtp_v2.specs.reading.Message.{end_in, sender_of}
use Rattle.gtp_v2.specs.Datagram.{EndIs, SenderIs}
use Rattle.gtp_ie.specs.Form.{number_of}
use Rattle.gtp_ie.specs.declared.form.Form.TheVariants as forms

-- the end that a value was made of
pub same_end : (o : Option TunnelEnd) → o ≡ end_in (option_map OfFTeid o)
same_end None = refl
same_end (Some e) = refl

-- what an element of this type spells is a tunnel end
spelled_end : (body : List ℕ) (v : Value) → Spells (number_of forms.FTeid) body v → v ≡ OfFTeid (fteid_in body)
unfolding BodySays
spelled_end body v s = s.says.1

end_is : (es : List Element) (o : Option Element) → first_of (number_of forms.FTeid) 0 es ≡ o → EndIs es (end_in (welcome (number_of forms.FTeid) o))
end_is es None h = λ v s. cc
end_is es (Some e) h = by_reading (value_at (number_of forms.FTeid) e.body) refl where
  by_reading : (r : Result Value ReadFault) → value_at (number_of forms.FTeid) e.body ≡ r → EndIs es (end_in (value_or_none r))
  by_reading (Ok v) r =
      let s = (value_decided (number_of forms.FTeid) e.body).ok v r in
      let t = spelled_end e.body v s in
      subst (λ (w : Value). EndIs es (end_in (Some w))) (sym t) (e, h, subst (λ (w : Value). Spells (number_of forms.FTeid) e.body w) t s)
  by_reading (Err f) r = λ v p. let q = (value_decided (number_of forms.FTeid) p.0.body).is v p.2 in cc

one_end : (es : List Element) (a b : Option TunnelEnd) → EndIs es a → EndIs es b → a ≡ b
one_end es None None p q = refl
one_end es None (Some e) p q = absurd (p (OfFTeid e) q)
one_end es (Some e) None p q = absurd (q (OfFTeid e) p)
one_end es (Some x) (Some y) p q =
    let r = (value_decided (number_of forms.FTeid) p.0.body).is (OfFTeid x) p.2 in
    let s = (value_decided (number_of forms.FTeid) q.0.body).is (OfFTeid y) q.2 in
    let t : OfFTeid x ≡ OfFTeid y = cc in
    let u : x ≡ y = cc in ap (λ (e : TunnelEnd). Some e) u

-- what is told is the sender
pub sender_is : (kind : ℕ) (es : List Element) → SenderIs kind es (sender_of kind es)
unfolding sender_of optional_at
sender_is kind es = by_kind (kind == 32) where
  by_kind : (b : Bool) → cond b (EndIs es (cond b (end_in (welcome (number_of forms.FTeid) (first_of (number_of forms.FTeid) 0 es))) None))
      (cond b (end_in (welcome (number_of forms.FTeid) (first_of (number_of forms.FTeid) 0 es))) None ≡ None)
  by_kind true = end_is es (first_of (number_of forms.FTeid) 0 es) refl
  by_kind false = refl

pub sender_only : (kind : ℕ) (es : List Element) (sender : Option TunnelEnd) → SenderIs kind es sender → sender ≡ sender_of kind es
unfolding sender_of optional_at
sender_only kind es sender is = by_kind (kind == 32) is where
  by_kind : (b : Bool) → cond b (EndIs es sender) (sender ≡ None) → sender ≡ cond b (end_in (welcome (number_of forms.FTeid) (first_of (number_of forms.FTeid) 0 es))) None
  by_kind true h = one_end es sender (end_in (welcome (number_of forms.FTeid) (first_of (number_of forms.FTeid) 0 es))) h (end_is es (first_of (number_of forms.FTeid) 0 es) refl)
  by_kind false h = h
