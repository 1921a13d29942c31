-- `get_mut` lends what stands behind the handle, and the handle follows it.
use Rattle.std.proofs.Common.{◌≡◌, ℕ, List, [], ◌∷◌, refl, sym, ap, ◌∙◌}
use Rattle.std.proofs.raw_atomic.Walks.{proved}
use Rattle.std.proofs.VecSteps.Shapes.{after}
use seplogic.Ra.Ura.{Ura}
use mir.Syntax.{named}
use mir.Raw.{raw as bare}
use mir.Val.{Val, vptr}
use base.Fraction.{full_share}
use base.Logic.{ent, sep}
use base.Fml.{Fml, GName, ftrue, fsep, flft}
use contract.Running.{tables}
use types.Logic.{Logic, sem}
use types.Kit.{‵, raw, ◌⊛◌, some, later, at_ret, ◌$◌, ◌∵◌, !, qed, by, move, keep, drop, use1, split, join, fsplit, fsplit3, fjoin, fpack, pick, await, rewrite, suffices, frame, group, done}
use types.Part.{whole, sub, look_in}
use types.Run.{enter, of_opd, addr, load, stop, fld, first, blocks, exec, returns}
use types.ByLocal.{alloc_all, pass_all, free_all, look_at, get, through, sets, sets_last, env}
use denote.Exit.{no}
use denote.Follow.{Part, lends_Part}
use denote.Laws.{shows}
use denote.Memory.{cell_at, part_at, part_of, mem, lone}
use denote.RawPtr.{Ptr, block_ptr}
use denote.Ref.{MutRef, mut_vals, mut_Tells}
use denote.Signature.{plain, mut_ref_to}
use denote.Steps.{nothing, heard, opens, peeks}
use contract.Monad.{fact}
use Rattle.std.specs.Prelude.{IsSome}
use Rattle.gtp_c.specs.Held.{boxed}
use Rattle.gtp_c.proofs.Shapes.{full, held_out}
use denote.Struct.Owning.{shape}
use denote.Struct.Struct.{Struct}
use denote.Triple.Walked.{Stays, walk_of, says, stay_dropped, Goes-spent_ref, ends_at}
use Rattle.std.specs.Global.{Global}
use Rattle.std.specs.contracts.impls.GlobalAllocator.TheImpl.{ghosts}
use Rattle.gtp_c.specs.Pointers.{with_value}
use Rattle.gtp_c.specs.contracts.owned_pointer.OwnedPointer.get_mut as f
use Rattle.gtp_c.proofs.owned_pointer.OwnedPointer.get_mut.Statement.{statement}
use Rattle.gtp_c.proofs.owned_pointer.OwnedPointer.get_mut.Code as code
use Rattle.gtp_c.specs.declared.owned_pointer.OwnedPointer.{OwnedPointer}
use Rattle.gtp_c.specs.contracts.owned_pointer.OwnedPointer.{the_row as B, the_type as the_place}
use Rattle.gtp_c.specs.contracts.gateway_with_queue.GatewayWithQueue.{the_row as R}
use Rattle.gtp_c.proofs.owned_pointer.OwnedPointer.TheLaws.{lowers}

abbrev stayed : Stays f.ended.signature.params f.ended.kept
stayed = (stay_dropped (mut_ref_to (0 ∷ []) tt (plain (λ _. B))) no, tt)

-- all of the place but the value; g is the allocator of the box
abbrev Rest : OwnedPointer → List Val → Global → ℕ → ℕ → ℕ → ℕ → Fml
Rest h us g b o b' o' = fsep (fsep (ghosts.dealloc_token g (bare (lone R.mir)) (block_ptr b' o')) ((Struct (shape the_place)).own_val (h.at, tt) us)) (cell_at full_share B.mir us b o)

module _ {M : Type 1} {𝓤 : Ura M} (𝓛 : Logic 𝓤) (h : OwnedPointer) (us : List Val) (g : Global) (b o b' o' : ℕ) (e : h.at ≡ block_ptr b' o') where
  back : (w : R.Denot) → ent 𝓤 (sep 𝓤 (sem 𝓛 ((mem R).own_at w b' o')) (sem 𝓛 (Rest h us g b o b' o'))) (sem 𝓛 ((mem B).own_at (with_value h w) b o))
  unfolding part_of
  back w =
      qed 𝓛 (‵ (part_at R full_share w b' o') ∷ ‵ (Rest h us g b o b' o') ∷ []) ∵ move ! (1 ∷ []) $ fsplit ! $ fsplit ! $ move ! (3 ∷ 0 ∷ []) $
      fjoin ! $ rewrite ! 0 (λ (p : Ptr). ‵ (boxed R p w g)) (sym e) refl $ fpack ! Global (boxed R h.at w) g $ move ! (1 ∷ 0 ∷ []) $ fjoin ! $ move ! (1 ∷ 0 ∷ []) $ fjoin ! $
      fpack ! (List Val) (λ vs. fsep (cell_at full_share B.mir vs b o) (B.own_val (with_value h w) vs)) us $ done !

pub get_mut_spec : {M : Type 1} → statement M
get_mut_spec 𝓤 𝓛 𝓜 𝓡 wired =
    let c = f.clauses 𝓛 𝓜.mem 𝓡.returns in let W = walk_of 𝓛 f.ended stayed c in let 𝓣 = tables 𝓤 𝓛.H 𝓜 𝓡 𝓡.env in
    proved 𝓛 f.ended stayed c 𝓜 𝓡 (Goes-spent_ref 𝓛 1 (0 ∷ []) tt (plain (λ _. B)), tt)
    f.Key.name code.function (code.unfolded 𝓤 𝓛.H 𝓜 𝓡 wired)
    (λ κs. (mut_vals, tt)) (λ κs. (mut_Tells (named 0) κs.0 B, tt)) (λ κs qs bounds a _ are.
    let κ = κs.0 in let q = qs.0 in let b = a.0.ref_ptr.0 in let o = a.0.ref_ptr.1 in let γ = a.0.ghost_name in let h = a.0.now in let vs = mut_vals a.0 in
    let y : W.Ghost = ((κs, qs, bounds, a, (vs, tt)), tt) in
    qed 𝓛 (((‵ (flft κ q) ⊛ ‵ ftrue) ⊛ ‵ ((MutRef (named 0) κ B).own_val a.0 vs) ⊛ ‵ ftrue) ∷ raw (fact 𝓤 (IsSome h.value)) ∷ []) ∵
    move ! (1 ∷ []) $ heard ! (IsSome h.value) (λ filled. let x = (full R h.value filled).0 in let same = (full R h.value filled).1 in split ! $
    split ! $ move ! (2 ∷ []) $ split ! $ keep ! (0 ∷ 2 ∷ []) $
    enter ! _ _ _ _ _ $ alloc_all ! (λ l. pass_all ! refl ((tt, tt), tt) $
    fsplit3 ! $ drop ! $ opens ! tt B b o (λ us.
    move ! (1 ∷ []) $ peeks ! B _ (shows 𝓛 B) h us (λ is. fsplit ! $ move ! (1 ∷ []) $ held_out R ! h.at h.value x same (λ g b' o' e. fsplit ! $
    -- [the value; the right to free it; what the fields own; the handle's cell; the open borrow, in three entries]
    let word = lowers.val_is h us is ∙ ap (λ (p : Ptr). lowers.lowered (record h { at = p }) ∷ []) e in
    let Cell = λ (ws : List Val). ‵ (cell_at full_share B.mir ws b o) in
    rewrite ! 3 Cell word refl $
    first ! $ blocks ! $
    sets ! (of_opd ! (load ! (through ! refl (fld ! refl (stop !))) (look_in ! 3 (sub ! 0 refl (whole !))))) refl (tt, tt) $
    sets ! (of_opd ! (get ! refl)) refl (tt, tt) $
    sets_last ! (addr ! (through ! refl (stop !))) refl (tt, tt) $
    exec ! 𝓣.C 𝓣.Λ (env code.Mir.locals l) (after 1 (code.function).body) (at_ret _ (W.post y)) $
    sets ! (of_opd ! (get ! refl)) refl (tt, tt) $
    rewrite ! 3 Cell (sym word) refl $
    move ! (1 ∷ 2 ∷ []) $ fjoin ! $ move ! (0 ∷ 2 ∷ []) $ fjoin ! $ move ! (2 ∷ 3 ∷ 4 ∷ 1 ∷ 0 ∷ []) $ group ! 5 $
    use1 𝓛 (later (some (λ (δ : GName). raw (Part 𝓛 B R (with_value h) (named 0) κ q b o b' o' γ (sem 𝓛 (Rest h us g b o b' o')) (back 𝓛 h us g b o b' o' e) x δ))))
    (lends_Part 𝓛 B R (with_value h) (named 0) κ q b o b' o' γ (sem 𝓛 (Rest h us g b o b' o')) (back 𝓛 h us g b o b' o' e) (B.coded.code h) (B.coded.code h) x) $ await ! tt $ pick ! (λ δ.
    returns ! (look_at ! 0 refl) $ free_all ! refl $ keep ! (0 ∷ []) $
    by ! (qed 𝓛 (‵ ((MutRef (named 0) κ R).own_val (record { ref_ptr = (b', o'); ghost_name = δ; now = x }) (vptr b' o' ∷ [])) ∷ ‵ (flft κ q) ∷ ‵ (denote.Follow.follows B R γ δ (with_value h)) ∷ []) ∵
    suffices ! _ (ends_at 𝓛 f.ended stayed c y (vptr b' o') (record { ref_ptr = (b', o'); ghost_name = δ; now = x }) (tt, tt) (tt, tt)) $
    nothing ! $ nothing ! $ fjoin ! $ join ! $ nothing ! $ move ! (2 ∷ 0 ∷ []) $ join ! $ join ! $ frame ! $ says ! (sym same) $ done !))))))))
