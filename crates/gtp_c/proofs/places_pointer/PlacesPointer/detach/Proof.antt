-- `detach` hands what the pointer owns to a `DetachedBox`.
use Rattle.std.proofs.Common.{◌≡◌, List, [], ◌∷◌, ◌++◌, refl, sym, ap, ◌∙◌, subst}
use Rattle.std.proofs.raw_atomic.Walks.{proved_at, leaves}
use Rattle.std.proofs.alloc.Calls.{Al, handle_tells}
use mir.Syntax.{impl, tnil, dnil}
use mir.Val.{Val, vptr, vstruct, vcons, vnil}
use base.Logic.{SProp, ent, emp, id⊢}
use base.Fml.{ftrue}
use prog.Wp.{WpFn}
use contract.Monad.{fact, fact_i}
use contract.Running.{tables}
use types.Kit.{‵, raw, ◌⊛◌, ◌$◌, ◌∵◌, !, qed, by, move, keep, drop, use0, split, fsplit, fjoin, suffices}
use types.Part.{whole, sub, agg}
use types.Run.{enter, of_opd, stop, fld, no_more, and_then, returns}
use types.ByLocal.{alloc_all, pass_all, free_all, look_at, get, get_in, sets}
use denote.Exit.{yes}
use denote.Laws.{shows}
use denote.RattleType.{owns}
use denote.RawPtr.{Ptr, block_ptr}
use denote.Signature.{plain, types_at}
use denote.Steps.{nothing, heard, peeks}
use denote.Triple.Walked.{Stays, walk_of, stay_dropped, Goes-dropped}
use Rattle.std.specs.contracts.alloc.Global.{the_row as Z}
use Rattle.std.proofs.alloc.Global.TheLaws.{the_row_laws as LZ}
use Rattle.std.specs.contracts.impls.GlobalAllocator.TheImpl.{ghosts}
use Rattle.gtp_c.specs.contracts.places_pointer.PlacesPointer.detach as f
use Rattle.gtp_c.proofs.places_pointer.PlacesPointer.detach.Statement.{statement}
use Rattle.gtp_c.proofs.places_pointer.PlacesPointer.detach.Code as code
use Rattle.gtp_c.specs.contracts.places_pointer.PlacesPointer.{the_row as B}
use Rattle.gtp_c.specs.contracts.address_places.AddressPlaces.{the_row as R}
use Rattle.gtp_c.proofs.places_pointer.PlacesPointer.TheLaws.{lowers}
use Rattle.std.specs.Prelude.{IsSome, Some}
use Rattle.gtp_c.proofs.Shapes.{both, full, held_out, loose_good, loose_in}

abbrev stayed : Stays f.ended.signature.params f.ended.kept
stayed = (stay_dropped (plain (λ _. B)) yes, (stay_dropped (plain (λ _. Z)) yes, tt))

abbrev al : Al
al = record { row = Z; laws = LZ; g = ghosts; d = impl [] tnil dnil; drops = impl [] tnil dnil }

pub detach_spec : {M : Type 1} → statement M
detach_spec 𝓤 𝓛 𝓜 𝓡 wired =
    let H = 𝓛.H in let c = f.clauses 𝓛 𝓜.mem 𝓡.returns in let W = walk_of 𝓛 f.ended stayed c in let 𝓣 = tables 𝓤 H 𝓜 𝓡 𝓡.env in let fn = code.function in
    proved_at 𝓛 f.ended stayed c 𝓜 𝓡 (Goes-dropped 𝓛 0 (plain (λ _. B)) yes (λ κs x g. refl), (Goes-dropped 𝓛 0 (plain (λ _. Z)) yes (λ κs x g. refl), tt))
    f.Key.name fn (code.unfolded 𝓤 H 𝓜 𝓡 wired) (λ z are.
    let h = z.0.3.0 in let a = z.0.3.1.0 in let us = z.0.4.0 in let vs = z.0.4.1.0 in
    let Post : Val → SProp 𝓤 = W.post z in let Run : List Val → SProp 𝓤 = λ ws. WpFn 𝓤 H 𝓣.C 𝓣.Λ fn ws Post in
    qed 𝓛 ((‵ ftrue ⊛ ‵ (owns (types_at f.ended.signature.params z.0.0) z.0.3 z.0.4)) ∷ raw (fact 𝓤 (IsSome h.value)) ∷ []) ∵ move ! (1 ∷ []) $ heard
    ! (IsSome h.value) (λ some. let x = (full R h.value some).0 in let ex = (full R h.value some).1 in split ! $ move ! (1 ∷ []) $ fsplit ! $
    -- [the place; the allocator, in two entries; the tokens]
    peeks ! B _ (shows 𝓛 B) h us (λ is. fsplit ! $ drop ! $ held_out R ! h.at h.value x ex (λ g b o e.
    move ! (1 ∷ []) $ fsplit ! $ handle_tells al ! a vs (λ hv ea fits.
    -- [the allocator; nothing; the box; the tokens]
    let w : Val = vstruct (vcons (vptr b o) vnil) in
    let word : us ≡ w ∷ [] = lowers.val_is h us is ∙ ap (λ (p : Ptr). lowers.lowered (record h { at = p }) ∷ []) e in
    suffices ! (Run (w ∷ hv ∷ [])) (subst (λ (ws : List Val). ent 𝓤 (Run (w ∷ hv ∷ [])) (Run ws)) (sym (λ i. word i ++ (ea i ++ []))) (id⊢ 𝓤 (Run (w ∷ hv ∷ [])))) $
    let made = loose_good R Z LZ ghosts b o hv fits in
    enter ! 𝓣.C 𝓣.Λ fn (w ∷ hv ∷ []) Post $ alloc_all ! (λ l. pass_all ! refl ((tt, (tt, tt)), (fits, tt)) $
    sets ! (of_opd ! (get_in ! (fld ! refl (stop !)) (sub ! 0 refl (whole !)))) refl (tt, tt) $
    sets ! (of_opd ! (get ! refl)) refl (tt, tt) $
    sets ! (agg ! (and_then ! (get ! refl) (and_then ! (get ! refl) (no_more !)))) refl made $
    move ! (2 ∷ 0 ∷ []) $ loose_in R Z LZ ghosts ! b o hv a x $
    use0 𝓛 (raw (fact 𝓤 (Some x ≡ h.value))) (fact_i 𝓤 (Some x ≡ h.value) (emp 𝓤) (sym ex)) $ nothing ! $ nothing ! $ fjoin ! $ nothing ! $ fjoin ! $
    -- [what is left of the parameters; the fact; the `DetachedBox`; nothing; the tokens; nothing]
    returns ! (look_at ! 0 refl) $ free_all ! refl $ keep ! (4 ∷ 0 ∷ 2 ∷ 1 ∷ []) $
    by ! (leaves 𝓛 f.ended stayed c z (both (vptr b o) hv) (record { at = block_ptr b o; alloc = a; value = x }) (tt, (tt, tt)) (tt, (tt, tt)))))))))
