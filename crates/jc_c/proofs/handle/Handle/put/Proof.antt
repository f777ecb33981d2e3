-- `put` opens the handle over a loose box.
use Rattle.jc_c.proofs.Steps.{List, [], ◌∷◌, ◌≡◌, refl, full_share, ftrue, flft, named, Val, vunit, tables, ‵, prop, ◌⊛◌, ◌$◌, ◌∵◌, !, qed, done, move, keep, drop, split, join, fsplit, fsplit3, fjoin, feq_i, feq_l, rewrite, regoal, suffices, frame, group, enter, of_opd, unit_lit, stop, fld, assigns, returns, alloc_all, pass_all, free_all, look_at, get, through, sets, shows, Ptr, RawPtr, block_ptr, in_a_block, MutRef, mut_vals, mut_Tells, plain, nothing, opens, closes, peeks, bool, yes, Stays, walk_of, says, stay_ref, stay_dropped, Goes-ref, Goes-dropped, ends_at}
use Rattle.std.proofs.Common.{◌++◌, subst}
use Rattle.std.proofs.raw_atomic.Walks.{proved_at}
use Rattle.std.specs.Prelude.{true}
use prog.Wp.{WpFn}
use mir.Val.{vptr, vbool, vstruct, vcons, vnil, of_list}
use mir.Raw.{raw as bare}
use base.Logic.{never, fst∗}
use types.Logic.{sem}
use types.Kit.{fpack, fpick}
use types.Run.{true_lit}
use types.ByLocal.{get_in}
use types.Part.{whole, sub, store_in}
use denote.Laws.{Is}
use denote.RattleType.{RattleType, Valss}
use denote.RawPtr.{null_ptr, ptr_val}
use denote.Memory.{cell_at, lone}
use denote.Struct.Struct.{within}
use denote.Struct.Owning.{shape}
use Rattle.std_heap.specs.contracts.Global as HP
use Rattle.std_heap.specs.contracts.GlobalAllocator.TheImpl.{ghosts}
use Rattle.std_heap.proofs.Handle.{heap_val, heap_Tells}
use Rattle.jc_parcel.specs.contracts.Loose as loose
use Rattle.jc_c.specs.contracts.rooms.DeskRooms as desk
use Rattle.jc_c.specs.Handles.{handle_owns, heap}
use Rattle.jc_c.specs.contracts.handle.Handle.put as f
use Rattle.jc_c.proofs.handle.Handle.put.Statement.{statement}
use Rattle.jc_c.proofs.handle.Handle.put.Code as code
use Rattle.jc_c.specs.contracts.handle.Handle.{the_row as R, the_type as R-type}
use Rattle.jc_c.proofs.handle.Handle.TheLaws.{lowers}

abbrev L : RattleType
L = loose.the_row desk.the_row HP.the_row ghosts

abbrev stayed : Stays f.ended.signature.params f.ended.kept
stayed = (stay_ref (0 ∷ []) tt (plain (λ _. R)), (stay_dropped _ yes, tt))

pub put_spec : {M : Type 1} → statement M
put_spec 𝓤 𝓛 𝓜 𝓡 wired =
    let c = f.clauses 𝓛 𝓜.mem 𝓡.returns in let W = walk_of 𝓛 f.ended stayed c in let 𝓣 = tables 𝓤 𝓛.H 𝓜 𝓡 𝓡.env in
    proved_at 𝓛 f.ended stayed c 𝓜 𝓡 (Goes-ref 𝓛 1 0 tt (plain (λ _. R)), (Goes-dropped 𝓛 1 (plain (λ _. L)) yes (λ κs x w. refl), tt))
    f.Key.name code.function (code.unfolded 𝓤 𝓛.H 𝓜 𝓡 wired) (λ z are.
    let κs = z.0.0 in let qs = z.0.1 in let a = z.0.3 in let vss = z.0.4 in
    let b = a.0.ref_ptr.0 in let o = a.0.ref_ptr.1 in let h = a.0.now in let d = a.1.0 in
    let e0 : vss.0 ≡ mut_vals a.0 = mut_Tells (named 0) κs.0 R a.0 vss.0 are.0 in
    qed 𝓛 (((‵ (flft κs.0 qs.0) ⊛ ‵ ftrue) ⊛ ‵ ((MutRef (named 0) κs.0 R).own_val a.0 vss.0) ⊛ ‵ (L.own_val d vss.1.0) ⊛ ‵ ftrue) ∷ ‵ ftrue ∷ []) ∵
    split ! $ split ! $ move ! (2 ∷ []) $ split ! $ move ! (1 ∷ []) $ split ! $ keep ! (0 ∷ 2 ∷ 3 ∷ []) $
    -- [the loose box; the reference; the token]
    fsplit ! $ fpick ! (λ us. fsplit ! $ feq_l ! (λ ev. fsplit ! $ feq_l ! (λ ep. fsplit ! $ peeks ! HP.the_row (Is HP.the_row) (shows 𝓛 HP.the_row) d.alloc us.1.0 (λ ia.
    drop ! $ drop ! $
    in_a_block ! d.at (λ p. handle_owns true p d.value) (fst∗ 𝓤 (never 𝓤) (sem 𝓛 (ghosts.dealloc_token heap (bare (lone (desk.the_row).mir)) null_ptr))) (λ b' o' e.
    -- [the box; the reference; the token]
    let ea : us.1.0 ≡ heap_val ∷ [] = heap_Tells d.alloc us.1.0 ia in
    let w : Val = vstruct (vcons (vptr b' o') (vcons heap_val vnil)) in
    let ew : vss.1.0 ≡ w ∷ [] = subst (λ (p : Ptr). vss.1.0 ≡ vstruct (of_list (ptr_val p ∷ heap_val ∷ [])) ∷ []) e
    (subst (λ (ws : List Val). vss.1.0 ≡ vstruct (of_list (ptr_val d.at ∷ (ws ++ []))) ∷ []) ea (subst (λ (ps : List Val). vss.1.0 ≡ vstruct (of_list (ps ++ (us.1.0 ++ []))) ∷ []) ep ev)) in
    regoal ! (λ (ws : List Val). prop (WpFn 𝓤 𝓛.H 𝓣.C 𝓣.Λ code.function ws (W.post z))) (λ i. e0 i ++ (ew i ++ [])) refl $
    move ! (1 ∷ 2 ∷ []) $
    enter ! _ _ _ _ _ $ alloc_all ! (λ l. pass_all ! refl ((tt, tt), ((tt, (tt, (((tt, tt), tt), tt))), tt)) $
    fsplit3 ! $ move ! (1 ∷ 2 ∷ 3 ∷ []) $ opens ! tt R b o (λ cs.
    move ! (1 ∷ []) $ peeks ! R _ (shows 𝓛 R) h cs (λ is. drop ! $
    -- [the handle's cell; the open borrow, in three; the reference's first part; the box]
    let Cell = λ (ws : List Val). ‵ (cell_at full_share R.mir ws b o) in
    rewrite ! 0 Cell (lowers.val_is h cs is) refl $
    sets ! (of_opd ! (get_in ! (fld ! refl (stop !)) (sub ! 0 refl (whole !)))) refl (tt, tt) $
    sets ! (of_opd ! (get ! refl)) refl (tt, tt) $
    assigns ! (of_opd ! (get ! refl)) (through ! refl (fld ! refl (stop !))) (store_in ! 0 (sub ! 0 refl (whole !)) (tt, tt)) $
    assigns ! (of_opd ! (true_lit !)) (through ! refl (fld ! refl (stop !))) (store_in ! 0 (sub ! 1 refl (whole !)) (tt, tt)) $
    sets ! (of_opd ! (unit_lit !)) refl (tt, tt) $
    move ! (5 ∷ []) $
    let new : R.Denot = record { at = block_ptr b' o'; is_open = true; desk = d.value } in
    let v : Val = lowers.lowered new in
    nothing ! $ feq_i ! (List Val) (vbool true ∷ []) (vbool true ∷ []) refl $ fjoin ! $ feq_i ! (List Val) (vptr b' o' ∷ []) (vptr b' o' ∷ []) refl $ fjoin ! $
    feq_i ! (List Val) (v ∷ []) (v ∷ []) refl $ fjoin ! $
    fpack ! (Valss (RawPtr ∷ bool ∷ [])) (within (shape R-type) (block_ptr b' o', (true, tt)) (v ∷ [])) (vptr b' o' ∷ [], (vbool true ∷ [], tt)) $ fjoin ! $
    move ! (1 ∷ 0 ∷ []) $ closes ! tt R new (v ∷ []) b o $
    returns ! (look_at ! 0 refl) $ free_all ! refl $ move ! (3 ∷ []) $
    suffices ! _ (ends_at 𝓛 f.ended stayed c z vunit tt (new, (tt, tt)) (tt, (tt, tt))) $ says ! (refl, refl) $
    group ! 3 $ nothing ! $ nothing ! $ join ! $ move ! (1 ∷ 0 ∷ []) $ join ! $ nothing ! $ move ! (2 ∷ 0 ∷ []) $ join ! $ frame ! $ frame ! $
    feq_i ! _ (vunit ∷ []) _ refl $ done !)))))))))
