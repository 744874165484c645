-- A handle gives back what a box owned: a walk of the MIR by hand.
use Rattle.std.proofs.Common.{◌∙◌, ap, sym, refl, List, [], ◌∷◌, Option, None, IsSome}
use Rattle.std.proofs.mem.Facts.{says_two}
use Rattle.std.proofs.raw_atomic.Walks.{proved}
use base.Fraction.{full_share}
use base.Logic.{never, fst∗}
use base.Fml.{fsep, ftrue, flft}
use mir.Raw.{raw as bare}
use mir.Syntax.{named}
use mir.Val.{Val, vptr}
use contract.Monad.{fact}
use contract.Running.{tables}
use types.Logic.{sem}
use types.Kit.{‵, raw, ◌⊛◌, ◌$◌, ◌∵◌, !, qed, done, move, keep, split, join, fsplit, fsplit3, fjoin, rewrite, suffices, frame, group}
use types.Part.{whole, sub, look_in, agg}
use types.Run.{enter, of_opd, load, stop, fld, and_then, no_more, returns}
use types.ByLocal.{alloc_all, pass_all, free_all, look_at, get, through, sets}
use denote.Exit.{yes}
use denote.Laws.{shows}
use denote.Memory.{cell_at, lone}
use denote.RawPtr.{Ptr, block_ptr, null_ptr, in_a_block}
use denote.Ref.{MutRef, mut_vals, mut_Tells}
use denote.Signature.{plain}
use denote.Steps.{nothing, opens, closes, peeks, heard}
use denote.Triple.Walked.{Stays, walk_of, stay_ref, stay_dropped, Goes-ref, Goes-dropped, ends_at}
use Rattle.std_alloc.specs.Box.Ownership.{box_owns}
use Rattle.std_heap.specs.contracts.Global.{the_row as Z}
use Rattle.std_heap.specs.contracts.GlobalAllocator.TheImpl.{ghosts}
use Rattle.std_heap.proofs.Global.TheLaws.{the_row_laws as LZ}
use Rattle.std_heap.proofs.Handle.{heap_val, heap_Tells}
use Rattle.player_c.specs.contracts.owned_player.OwnedPlayer.{the_row as R}
use Rattle.player_c.specs.declared.owned_player.OwnedPlayer.{OwnedPlayer}
use Rattle.spc_player.specs.Player.{SpcPlayer, player_row as I}
use Rattle.player_c.specs.Owned.{chunk, owns_playing}
use Rattle.player_c.proofs.Open.{some_of}
use Rattle.player_c.proofs.owned_player.OwnedPlayer.TheLaws.{lowers}
use Rattle.player_c.proofs.PartsSteps.{both, parts_good, parts_in}
use Rattle.player_c.specs.contracts.owned_player.OwnedPlayer.take_parts as f
use Rattle.player_c.proofs.owned_player.OwnedPlayer.take_parts.Statement.{statement}
use Rattle.player_c.proofs.owned_player.OwnedPlayer.take_parts.Code as code

abbrev stayed : Stays f.ended.signature.params f.ended.kept
stayed = (stay_ref (0 ∷ []) tt (plain (λ _. R)), (stay_dropped (plain (λ _. Z)) yes, tt))

pub take_parts_spec : {M : Type 1} → statement M
take_parts_spec 𝓤 𝓛 𝓜 𝓡 wired =
    let c = f.clauses 𝓛 𝓜.mem 𝓡.returns in let W = walk_of 𝓛 f.ended stayed c in let 𝓣 = tables 𝓤 𝓛.H 𝓜 𝓡 𝓡.env in
    proved 𝓛 f.ended stayed c 𝓜 𝓡 (Goes-ref 𝓛 1 0 tt (plain (λ _. R)), (Goes-dropped 𝓛 1 (plain (λ _. Z)) yes (λ κs x w. refl), tt))
    f.Key.name code.function (code.unfolded 𝓤 𝓛.H 𝓜 𝓡 wired)
    (λ κs. (mut_vals, (λ _. heap_val ∷ [], tt))) (λ κs. (mut_Tells (named 0) κs.0 R, (heap_Tells, tt))) (λ κs qs bounds a _ are.
    let κ = κs.0 in let q = qs.0 in let rb = a.0.ref_ptr.0 in let ro = a.0.ref_ptr.1 in let h = a.0.now in let vs = mut_vals a.0 in
    let z : W.Ghost = ((κs, qs, bounds, a, (vs, (heap_val ∷ [], tt))), tt) in
    let fits = ((LZ.lawful 𝓛).typed a.1.0 (heap_val ∷ []) are.1.0).0 in
    qed 𝓛 (((‵ (flft κ q) ⊛ ‵ ftrue) ⊛ ‵ (fsep ((MutRef (named 0) κ R).own_val a.0 vs) (fsep (Z.own_val a.1.0 (heap_val ∷ [])) ftrue))) ∷ raw (fact 𝓤 (IsSome h.playing)) ∷ []) ∵
    move ! (1 ∷ []) $ heard ! _ (λ opened. let found = some_of h.playing opened in let x = found.0 in
    split ! $ split ! $ move ! (2 ∷ []) $ fsplit3 ! $ keep ! (0 ∷ 3 ∷ 1 ∷ []) $
    enter ! _ _ _ _ _ $ alloc_all ! (λ l. pass_all ! refl ((tt, tt), (fits, tt)) $
    fsplit3 ! $ move ! (1 ∷ 2 ∷ 3 ∷ []) $ opens ! tt R rb ro (λ ws.
    move ! (1 ∷ []) $ peeks ! R _ (shows 𝓛 R) h ws (λ is. fsplit ! $ move ! (1 ∷ []) $
    rewrite ! 0 (λ (it : Option SpcPlayer). ‵ (owns_playing h.at it)) found.1 refl $
    in_a_block ! h.at (λ p. box_owns chunk I p x) (fst∗ 𝓤 (never 𝓤) (sem 𝓛 (chunk (bare (lone I.mir)) null_ptr))) (λ b o e.
    let word = lowers.val_is h ws is ∙ ap (λ (p : Ptr). lowers.lowered (record h { at = p }) ∷ []) e in
    let Cell = λ (us : List Val). ‵ (cell_at full_share R.mir us rb ro) in
    let left : OwnedPlayer = record { at = h.at; playing = None } in
    rewrite ! 2 Cell word refl $
    -- [what a box owns; the fields; the handle's cell; the open borrow, in three entries; what is left of the reference; the allocator]
    sets ! (of_opd ! (load ! (through ! refl (fld ! refl (stop !))) (look_in ! 2 (sub ! 0 refl (whole !))))) refl (tt, tt) $
    sets ! (of_opd ! (get ! refl)) refl (tt, tt) $
    sets ! (agg ! (and_then ! (get ! refl) (and_then ! (get ! refl) (no_more !)))) refl (parts_good I Z LZ ghosts b o heap_val fits) $
    rewrite ! 2 Cell (sym word) refl $ move ! (1 ∷ []) $ nothing ! $ move ! (1 ∷ 0 ∷ []) $ fjoin ! $ move ! (2 ∷ 0 ∷ 3 ∷ 4 ∷ 5 ∷ []) $
    closes ! tt R left ws rb ro $
    returns ! (look_at ! 0 refl) $ free_all ! refl $
    -- [the reference; the token; what a box owns; what is left; the allocator]
    move ! (3 ∷ 5 ∷ []) $ parts_in I Z LZ ghosts ! b o heap_val a.1.0 x $
    suffices ! _ (ends_at 𝓛 f.ended stayed c z (both (vptr b o) heap_val) (record { ptr = block_ptr b o; alloc = a.1.0; value = x }) (left, (tt, tt)) (tt, (tt, tt))) $
    says_two ! (sym found.1, refl) $
    move ! (4 ∷ 1 ∷ 2 ∷ []) $ group ! 3 $ nothing ! $ nothing ! $ join ! $ move ! (1 ∷ 0 ∷ []) $ join ! $ nothing ! $ move ! (3 ∷ 0 ∷ []) $ join ! $ frame ! $ frame ! $ done !))))))
