-- A handle keeps what a box owns: a walk of the MIR by hand.
use Rattle.std.proofs.Common.{◌≡◌, sym, subst, refl, List, [], ◌∷◌, ◌++◌, Some, None}
use Rattle.std.proofs.raw_atomic.Walks.{proved_at}
use base.Fraction.{full_share}
use base.Logic.{SProp, ent, id⊢}
use base.Fml.{fsep, ftrue, flft}
use mir.Syntax.{named}
use mir.Val.{Val, vunit, vptr, vstruct, vcons, vnil}
use contract.Monad.{fact}
use contract.Running.{tables}
use prog.Wp.{WpFn}
use types.Kit.{‵, raw, ◌⊛◌, ◌$◌, ◌∵◌, !, qed, done, move, keep, drop, split, join, fsplit3, fjoin, rewrite, suffices, frame, group, feq_i, fpack}
use types.Part.{whole, sub, store_in}
use types.Run.{enter, of_opd, unit_lit, stop, fld, assigns, returns}
use types.ByLocal.{alloc_all, pass_all, free_all, look_at, get, get_in, through, sets}
use denote.Exit.{yes}
use denote.Laws.{shows}
use denote.Memory.{cell_at}
use denote.RawPtr.{RawPtr, block_ptr}
use denote.RattleType.{Valss}
use denote.Ref.{MutRef, mut_Tells}
use denote.Signature.{plain}
use denote.Struct.Owning.{shape}
use denote.Struct.Struct.{within}
use denote.Steps.{nothing, opens, closes, peeks, heard}
use denote.Triple.Walked.{Stays, walk_of, says, stay_ref, stay_dropped, Goes-ref, Goes-dropped, ends_at}
use Rattle.std_heap.specs.contracts.Global.{the_row as Z}
use Rattle.std_heap.specs.contracts.GlobalAllocator.TheImpl.{ghosts}
use Rattle.std_heap.proofs.Global.TheLaws.{the_row_laws as LZ}
use Rattle.player_c.specs.contracts.owned_player.OwnedPlayer.{the_row as R, the_type}
use Rattle.player_c.specs.declared.owned_player.OwnedPlayer.{OwnedPlayer}
use Rattle.spc_player.specs.Player.{player_row as I}
use Rattle.player_c.specs.contracts.parts.Parts.{the_row as parts_row}
use Rattle.player_c.proofs.owned_player.OwnedPlayer.TheLaws.{lowers}
use Rattle.player_c.proofs.PartsSteps.{both, parts_good, parts_out}
use Rattle.player_c.specs.contracts.owned_player.OwnedPlayer.put_parts as f
use Rattle.player_c.proofs.owned_player.OwnedPlayer.put_parts.Statement.{statement}
use Rattle.player_c.proofs.owned_player.OwnedPlayer.put_parts.Code as code

abbrev stayed : Stays f.ended.signature.params f.ended.kept
stayed = (stay_ref (0 ∷ []) tt (plain (λ _. R)), (stay_dropped (plain (λ _. parts_row I Z ghosts)) yes, tt))

pub put_parts_spec : {M : Type 1} → statement M
put_parts_spec 𝓤 𝓛 𝓜 𝓡 wired =
    let c = f.clauses 𝓛 𝓜.mem 𝓡.returns in let W = walk_of 𝓛 f.ended stayed c in let 𝓣 = tables 𝓤 𝓛.H 𝓜 𝓡 𝓡.env in
    proved_at 𝓛 f.ended stayed c 𝓜 𝓡 (Goes-ref 𝓛 1 0 tt (plain (λ _. R)), (Goes-dropped 𝓛 1 (plain (λ _. parts_row I Z ghosts)) yes (λ κs x w. refl), tt))
    f.Key.name code.function (code.unfolded 𝓤 𝓛.H 𝓜 𝓡 wired) (λ z are.
    let κ = z.0.0.0 in let q = z.0.1.0 in let r = z.0.3.0 in let v = z.0.3.1.0 in let rb = r.ref_ptr.0 in let ro = r.ref_ptr.1 in let h = r.now in
    let is_ref = mut_Tells (named 0) κ R r z.0.4.0 are.0 in
    let Run : List Val → SProp 𝓤 = λ ws. WpFn 𝓤 𝓛.H 𝓣.C 𝓣.Λ code.function ws (W.post z) in
    qed 𝓛 (((‵ (flft κ q) ⊛ ‵ ftrue) ⊛ ‵ (fsep ((MutRef (named 0) κ R).own_val r z.0.4.0) (fsep ((parts_row I Z ghosts).own_val v z.0.4.1.0) ftrue))) ∷ raw (fact 𝓤 (h.playing ≡ None)) ∷ []) ∵
    move ! (1 ∷ []) $ heard ! _ (λ none. split ! $ split ! $ move ! (2 ∷ []) $ fsplit3 ! $ move ! (1 ∷ []) $
    parts_out I Z LZ ghosts ! v z.0.4.1.0 (λ b o hv e is_parts fits.
    -- [what the box owned; the allocator; the reference; nothing; the token; nothing]
    let us : List Val = vptr rb ro ∷ both (vptr b o) hv ∷ [] in
    suffices ! (Run us) (subst (λ (ws : List Val). ent 𝓤 (Run us) (Run ws)) (sym (λ i. is_ref i ++ (is_parts i ++ []))) (id⊢ 𝓤 (Run us))) $
    keep ! (2 ∷ 4 ∷ 0 ∷ []) $ enter ! 𝓣.C 𝓣.Λ code.function us (W.post z) $ alloc_all ! (λ l. pass_all ! refl ((tt, tt), (parts_good I Z LZ ghosts b o hv fits, tt)) $
    fsplit3 ! $ move ! (1 ∷ 2 ∷ 3 ∷ []) $ opens ! tt R rb ro (λ ws.
    move ! (1 ∷ []) $ peeks ! R _ (shows 𝓛 R) h ws (λ is. drop ! $
    let Cell = λ (xs : List Val). ‵ (cell_at full_share R.mir xs rb ro) in
    rewrite ! 0 Cell (lowers.val_is h ws is) refl $
    -- [the handle's cell; the open borrow, in three entries; ..; what the box owned]
    sets ! (of_opd ! (get_in ! (fld ! refl (stop !)) (sub ! 0 refl (whole !)))) refl (tt, tt) $
    sets ! (of_opd ! (get ! refl)) refl (tt, tt) $
    assigns ! (of_opd ! (get ! refl)) (through ! refl (fld ! refl (stop !))) (store_in ! 0 (sub ! 0 refl (whole !)) (tt, tt)) $
    sets ! (of_opd ! (unit_lit !)) refl (tt, tt) $
    let w = vstruct (vcons (vptr b o) vnil) in let kept : OwnedPlayer = record { at = block_ptr b o; playing = Some v.value } in
    -- [the handle's cell; the open borrow, in three entries; what is left of the reference; what the box owned]
    move ! (5 ∷ []) $ nothing ! $ feq_i ! (List Val) (vptr b o ∷ []) (vptr b o ∷ []) refl $ fjoin ! $ feq_i ! (List Val) (w ∷ []) (w ∷ []) refl $ fjoin ! $
    fpack ! (Valss (RawPtr ∷ [])) (within (shape the_type) (block_ptr b o, tt) (w ∷ [])) (vptr b o ∷ [], tt) $ fjoin ! $ move ! (1 ∷ 0 ∷ []) $
    closes ! tt R kept (w ∷ []) rb ro $
    returns ! (look_at ! 0 refl) $ free_all ! refl $ move ! (3 ∷ []) $
    suffices ! _ (ends_at 𝓛 f.ended stayed c z vunit tt (kept, (tt, tt)) (tt, (tt, tt))) $ says ! refl $
    group ! 3 $ nothing ! $ nothing ! $ join ! $ move ! (1 ∷ 0 ∷ []) $ join ! $ nothing ! $ move ! (2 ∷ 0 ∷ []) $ join ! $ frame ! $ frame ! $
    feq_i ! _ (vunit ∷ []) _ refl $ done !))))))
