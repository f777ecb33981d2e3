-- `take` shuts the handle, and its box is loose again.
use Rattle.jc_c.proofs.Steps.{List, [], ◌∷◌, ◌≡◌, refl, ap, ◌∙◌, proved, full_share, ftrue, flft, named, Val, ‵, raw, ◌⊛◌, ◌$◌, ◌∵◌, !, qed, done, move, keep, drop, split, join, fsplit, fsplit3, fjoin, feq_i, rewrite, suffices, frame, group, enter, of_opd, load, stop, fld, no_more, and_then, assigns, returns, alloc_all, pass_all, free_all, look_at, get, through, sets, shows, Ptr, RawPtr, block_ptr, in_a_block, MutRef, mut_vals, mut_Tells, plain, nothing, opens, closes, peeks, heard, bool, yes, fact, Stays, walk_of, says, stay_ref, stay_dropped, Goes-ref, Goes-dropped, ends_at}
use Rattle.std.specs.Prelude.{Bool, true, false}
use mir.Val.{vptr, vbool, vstruct, vcons, vnil}
use mir.Raw.{raw as bare}
use base.Logic.{never, fst∗}
use types.Logic.{sem}
use types.Kit.{fpack}
use types.Run.{false_lit}
use types.Part.{whole, sub, agg, look_in, store_in}
use denote.RattleType.{Valss}
use denote.RawPtr.{null_ptr}
use denote.Memory.{cell_at, lone}
use denote.Struct.Struct.{within}
use denote.Struct.Owning.{shape}
use Rattle.std_heap.specs.contracts.Global as HP
use Rattle.std_heap.specs.contracts.GlobalAllocator.TheImpl.{ghosts}
use Rattle.std_heap.proofs.Handle.{heap_val, heap_Tells}
use Rattle.jc_parcel.specs.contracts.Loose as loose
use Rattle.jc_c.specs.contracts.rooms.DeskRooms as desk
use Rattle.jc_c.specs.Handles.{handle_owns, heap}
use Rattle.jc_c.specs.contracts.handle.Handle.take as f
use Rattle.jc_c.proofs.handle.Handle.take.Statement.{statement}
use Rattle.jc_c.proofs.handle.Handle.take.Code as code
use Rattle.jc_c.specs.contracts.handle.Handle.{the_row as R, the_type as R-type}
use Rattle.jc_c.proofs.handle.Handle.TheLaws.{lowers}

abbrev stayed : Stays f.ended.signature.params f.ended.kept
stayed = (stay_ref (0 ∷ []) tt (plain (λ _. R)), (stay_dropped _ yes, tt))

pub take_spec : {M : Type 1} → statement M
take_spec 𝓤 𝓛 𝓜 𝓡 wired =
    let c = f.clauses 𝓛 𝓜.mem 𝓡.returns in let W = walk_of 𝓛 f.ended stayed c in
    proved 𝓛 f.ended stayed c 𝓜 𝓡 (Goes-ref 𝓛 1 0 tt (plain (λ _. R)), (Goes-dropped 𝓛 1 (plain (λ _. HP.the_row)) yes (λ κs x w. refl), tt))
    f.Key.name code.function (code.unfolded 𝓤 𝓛.H 𝓜 𝓡 wired)
    (λ κs. (mut_vals, ((λ _. heap_val ∷ []), tt))) (λ κs. (mut_Tells (named 0) κs.0 R, (heap_Tells, tt))) (λ κs qs bounds a _ are.
    let b = a.0.ref_ptr.0 in let o = a.0.ref_ptr.1 in let h = a.0.now in let vs = mut_vals a.0 in let g = a.1.0 in
    let y : W.Ghost = ((κs, qs, bounds, a, (vs, (heap_val ∷ [], tt))), tt) in
    qed 𝓛 (((‵ (flft κs.0 qs.0) ⊛ ‵ ftrue) ⊛ ‵ ((MutRef (named 0) κs.0 R).own_val a.0 vs) ⊛ ‵ ((HP.the_row).own_val g (heap_val ∷ [])) ⊛ ‵ ftrue) ∷ raw (fact 𝓤 (h.is_open ≡ true)) ∷ []) ∵
    move ! (1 ∷ []) $ heard ! _ (λ is_open.
    split ! $ split ! $ move ! (2 ∷ []) $ split ! $ move ! (1 ∷ []) $ split ! $ keep ! (2 ∷ 3 ∷ 0 ∷ []) $
    enter ! _ _ _ _ _ $ alloc_all ! (λ l. pass_all ! refl ((tt, tt), ((tt, ((tt, tt), tt)), tt)) $
    fsplit3 ! $ move ! (1 ∷ 2 ∷ 3 ∷ []) $ opens ! tt R b o (λ us.
    move ! (1 ∷ []) $ peeks ! R _ (shows 𝓛 R) h us (λ is. fsplit ! $ drop ! $
    -- [what is handle_owns; the handle's cell; the open borrow, in three entries; the reference's first part; the allocator]
    rewrite ! 0 (λ (z : Bool). ‵ (handle_owns z h.at h.desk)) is_open refl $
    in_a_block ! h.at (λ p. handle_owns true p h.desk) (fst∗ 𝓤 (never 𝓤) (sem 𝓛 (ghosts.dealloc_token heap (bare (lone (desk.the_row).mir)) null_ptr))) (λ b' o' e.
    let word = lowers.val_is h us is ∙ ap (λ (p : Ptr). lowers.lowered (record h { at = p }) ∷ []) e in
    let Cell = λ (ws : List Val). ‵ (cell_at full_share R.mir ws b o) in
    rewrite ! 1 Cell word refl $
    assigns ! (of_opd ! (false_lit !)) (through ! refl (fld ! refl (stop !))) (store_in ! 1 (sub ! 1 refl (whole !)) (tt, tt)) $
    sets ! (of_opd ! (load ! (through ! refl (fld ! refl (stop !))) (look_in ! 1 (sub ! 0 refl (whole !))))) refl (tt, tt) $
    sets ! (of_opd ! (get ! refl)) refl (tt, tt) $
    sets ! (agg ! (and_then ! (get ! refl) (and_then ! (get ! refl) (no_more !)))) refl (tt, (tt, (((tt, tt), tt), tt))) $
    -- the loose box
    move ! (0 ∷ 6 ∷ []) $
    let w : Val = vstruct (vcons (vptr b' o') (vcons heap_val vnil)) in
    let r : (loose.the_row desk.the_row HP.the_row ghosts).Denot = record { at = block_ptr b' o'; alloc = g; value = h.desk } in
    nothing ! $ move ! (2 ∷ 0 ∷ []) $ fjoin ! $ feq_i ! (List Val) (vptr b' o' ∷ []) (vptr b' o' ∷ []) refl $ fjoin ! $ feq_i ! (List Val) (w ∷ []) (w ∷ []) refl $ fjoin ! $
    fpack ! (Valss (RawPtr ∷ HP.the_row ∷ [])) (within (shape (loose.the_type desk.the_row HP.the_row ghosts)) (block_ptr b' o', (g, tt)) (w ∷ [])) (vptr b' o' ∷ [], (heap_val ∷ [], tt)) $ fjoin ! $
    -- the handle, shut: [the cell; the open borrow, in three; the loose box; the reference's first part]
    move ! (1 ∷ 2 ∷ 3 ∷ 4 ∷ []) $
    let new : R.Denot = record h { at = block_ptr b' o'; is_open = false } in
    let v : Val = lowers.lowered new in
    nothing ! $ nothing ! $ feq_i ! (List Val) (vbool false ∷ []) (vbool false ∷ []) refl $ fjoin ! $ feq_i ! (List Val) (vptr b' o' ∷ []) (vptr b' o' ∷ []) refl $ fjoin ! $
    feq_i ! (List Val) (v ∷ []) (v ∷ []) refl $ fjoin ! $
    fpack ! (Valss (RawPtr ∷ bool ∷ [])) (within (shape R-type) (block_ptr b' o', (false, tt)) (v ∷ [])) (vptr b' o' ∷ [], (vbool false ∷ [], tt)) $ fjoin ! $
    move ! (1 ∷ 0 ∷ []) $ closes ! tt R new (v ∷ []) b o $
    -- [the reference's other parts; the token; the loose box; the reference's first part]
    returns ! (look_at ! 0 refl) $ free_all ! refl $ move ! (4 ∷ []) $
    suffices ! _ (ends_at 𝓛 f.ended stayed c y w r (new, (tt, tt)) (tt, (tt, tt))) $ says ! (refl, refl) $
    group ! 3 $ nothing ! $ nothing ! $ join ! $ move ! (1 ∷ 0 ∷ []) $ join ! $ nothing ! $ move ! (2 ∷ 0 ∷ []) $ join ! $ frame ! $ frame ! $ done !))))))
