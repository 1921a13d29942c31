-- `empty` makes a place that owns nothing.
use Rattle.std.proofs.Common.{List, [], ◌∷◌, refl, lit<}
use Rattle.std.specs.Prelude.{None}
use Rattle.std.proofs.raw_atomic.Walks.{proved}
use mir.Val.{Val, vstruct, vcons, vnil}
use base.Fml.{ftrue}
use types.Kit.{‵, raw, ◌$◌, ◌∵◌, !, qed, done, drop, join, fjoin, feq_i, fpack, suffices}
use types.Part.{agg}
use types.Run.{enter, lit, no_more, and_then, returns}
use types.ByLocal.{alloc_all, pass_all, free_all, look_at, sets}
use denote.Builtin.{RawPtr}
use denote.RattleType.{Valss}
use denote.RawPtr.{null_ptr, ptr_val}
use denote.Steps.{nothing}
use denote.Struct.Owning.{shape}
use denote.Struct.Struct.{within}
use denote.Triple.Entry.{on_entry}
use denote.Triple.Walked.{Stays, walk_of, says, ends_at}
use Rattle.gtp_c.specs.contracts.places_pointer.PlacesPointer.empty as f
use Rattle.gtp_c.proofs.places_pointer.PlacesPointer.empty.Statement.{statement}
use Rattle.gtp_c.proofs.places_pointer.PlacesPointer.empty.Code as code
use Rattle.gtp_c.specs.contracts.places_pointer.PlacesPointer.{the_type as the_place}

abbrev stayed : Stays f.ended.signature.params f.ended.kept
stayed = tt

pub empty_spec : {M : Type 1} → statement M
empty_spec 𝓤 𝓛 𝓜 𝓡 wired =
    let c = f.clauses 𝓛 𝓜.mem 𝓡.returns in let W = walk_of 𝓛 f.ended stayed c in
    proved 𝓛 f.ended stayed c 𝓜 𝓡 tt
    f.Key.name code.function (code.unfolded 𝓤 𝓛.H 𝓜 𝓡 wired)
    (λ κs. tt) (λ κs. tt) (λ κs qs bounds a _ are.
    let v : Val = ptr_val null_ptr in let w : Val = vstruct (vcons v vnil) in
    let y : W.Ghost = ((κs, qs, bounds, a, tt), tt) in
    qed 𝓛 (raw (on_entry 𝓛 f.signature κs qs a y.0.4) ∷ ‵ ftrue ∷ []) ∵ drop ! $ drop ! $
    enter ! _ _ _ _ _ $ alloc_all ! (λ l. pass_all ! refl tt $
    sets ! (agg ! (and_then ! (lit ! tt) (no_more !))) refl (tt, (record { fits = lit< tt }, tt)) $
    returns ! (look_at ! 0 refl) $ free_all ! refl $
    suffices ! _ (ends_at 𝓛 f.ended stayed c y w (record { at = null_ptr; value = None }) tt tt) $ says ! refl $
    nothing ! $ nothing ! $ feq_i ! (List Val) (v ∷ []) (v ∷ []) refl $ fjoin ! $ feq_i ! (List Val) (w ∷ []) (w ∷ []) refl $ fjoin ! $
    fpack ! (Valss (RawPtr ∷ [])) (within (shape the_place) (null_ptr, tt) (w ∷ [])) (v ∷ [], tt) $ fjoin ! $
    nothing ! $ join ! $ nothing ! $ join ! $ done !))
