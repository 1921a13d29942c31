-- `of` takes what a `DetachedBox` owns into a place.
use Rattle.std.proofs.Common.{◌≡◌, List, [], ◌∷◌, ◌++◌, refl, sym, subst}
use Rattle.std.specs.Prelude.{Some}
use Rattle.std.proofs.raw_atomic.Walks.{proved_at, leaves}
use mir.Val.{Val, vptr, vstruct, vcons, vnil}
use base.Logic.{SProp, ent, emp, id⊢}
use base.Fml.{ftrue}
use prog.Wp.{WpFn}
use contract.Monad.{fact, fact_i}
use contract.Running.{tables}
use types.Kit.{‵, raw, ◌⊛◌, ◌$◌, ◌∵◌, !, qed, by, move, keep, drop, use0, split, fsplit, fjoin, feq_i, fpack, suffices}
use types.Part.{whole, sub, agg}
use types.Run.{enter, of_opd, stop, fld, no_more, and_then, returns}
use types.ByLocal.{alloc_all, pass_all, free_all, look_at, get, get_in, sets}
use denote.Builtin.{RawPtr}
use denote.Exit.{yes}
use denote.RattleType.{owns, Valss}
use denote.RawPtr.{block_ptr}
use denote.Signature.{plain, types_at}
use denote.Steps.{nothing}
use denote.Struct.Owning.{shape}
use denote.Struct.Struct.{within}
use denote.Triple.Walked.{Stays, walk_of, stay_dropped, Goes-dropped}
use Rattle.std.specs.contracts.alloc.Global.{the_row as Z}
use Rattle.std.proofs.alloc.Global.TheLaws.{the_row_laws as LZ}
use Rattle.std.specs.contracts.impls.GlobalAllocator.TheImpl.{ghosts}
use Rattle.std.specs.Global.{Global}
use Rattle.gtp_c.specs.Held.{boxed}
use Rattle.gtp_c.specs.contracts.places_pointer.PlacesPointer.of as f
use Rattle.gtp_c.proofs.places_pointer.PlacesPointer.of.Statement.{statement}
use Rattle.gtp_c.proofs.places_pointer.PlacesPointer.of.Code as code
use Rattle.gtp_c.specs.contracts.places_pointer.PlacesPointer.{the_type as the_place}
use Rattle.gtp_c.specs.contracts.address_places.AddressPlaces.{the_row as R}
use Rattle.gtp_c.proofs.Shapes.{both, DetachedBox, loose_good, loose_out}

abbrev stayed : Stays f.ended.signature.params f.ended.kept
stayed = (stay_dropped (plain (λ _. DetachedBox R Z LZ ghosts)) yes, tt)

pub of_spec : {M : Type 1} → statement M
of_spec 𝓤 𝓛 𝓜 𝓡 wired =
    let H = 𝓛.H in let c = f.clauses 𝓛 𝓜.mem 𝓡.returns in let W = walk_of 𝓛 f.ended stayed c in let 𝓣 = tables 𝓤 H 𝓜 𝓡 𝓡.env in let fn = code.function in
    proved_at 𝓛 f.ended stayed c 𝓜 𝓡 (Goes-dropped 𝓛 0 (plain (λ _. DetachedBox R Z LZ ghosts)) yes (λ κs x g. refl), tt)
    f.Key.name fn (code.unfolded 𝓤 H 𝓜 𝓡 wired) (λ z are.
    let l = z.0.3.0 in
    let Post : Val → SProp 𝓤 = W.post z in let Run : List Val → SProp 𝓤 = λ ws. WpFn 𝓤 H 𝓣.C 𝓣.Λ fn ws Post in
    qed 𝓛 ((‵ ftrue ⊛ ‵ (owns (types_at f.ended.signature.params z.0.0) z.0.3 z.0.4)) ∷ raw ((c z.0.0 z.0.3).requires z.1) ∷ []) ∵ split ! $ move ! (1 ∷ []) $ fsplit ! $
    -- [the `DetachedBox`; nothing; the tokens; nothing]
    loose_out R Z LZ ghosts ! l z.0.4.0 (λ b o h e ws fits. move ! (1 ∷ []) $ drop ! $
    -- [the box; nothing; the tokens; nothing]
    let v : Val = vptr b o in let w : Val = vstruct (vcons v vnil) in let Vs : List Val = both v h ∷ [] in
    let typed = loose_good R Z LZ ghosts b o h fits in
    suffices ! (Run Vs) (subst (λ (us : List Val). ent 𝓤 (Run Vs) (Run us)) (sym (λ i. ws i ++ [])) (id⊢ 𝓤 (Run Vs))) $
    enter ! 𝓣.C 𝓣.Λ fn Vs Post $ alloc_all ! (λ n. pass_all ! refl (typed, tt) $
    sets ! (of_opd ! (get_in ! (fld ! refl (stop !)) (sub ! 0 refl (whole !)))) refl (tt, tt) $
    sets ! (of_opd ! (get ! refl)) refl (tt, tt) $
    sets ! (agg ! (and_then ! (get ! refl) (no_more !))) refl (tt, (tt, tt)) $
    fpack ! Global (boxed R (block_ptr b o) l.value) l.alloc $ nothing ! $ feq_i ! (List Val) (v ∷ []) (v ∷ []) refl $ fjoin ! $ feq_i ! (List Val) (w ∷ []) (w ∷ []) refl $ fjoin ! $
    fpack ! (Valss (RawPtr ∷ [])) (within (shape the_place) (block_ptr b o, tt) (w ∷ [])) (v ∷ [], tt) $ fjoin ! $
    use0 𝓛 (raw (fact 𝓤 (Some l.value ≡ Some l.value))) (fact_i 𝓤 (Some l.value ≡ Some l.value) (emp 𝓤) refl) $ nothing ! $ nothing ! $ fjoin ! $
    -- [what is left of the parameter; the fact; the place; nothing; the tokens; nothing]
    returns ! (look_at ! 0 refl) $ free_all ! refl $ keep ! (4 ∷ 0 ∷ 2 ∷ 1 ∷ []) $
    by ! (leaves 𝓛 f.ended stayed c z w (record { at = block_ptr b o; value = Some l.value }) (tt, tt) (tt, tt)))))
