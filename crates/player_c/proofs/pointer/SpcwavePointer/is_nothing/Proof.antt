-- Whether a pointer is null: a walk of the MIR by hand.
use Rattle.std.proofs.Common.{◌≡◌, sym, subst, refl, List, [], ◌∷◌, Bool, true, false, not, Option, Some, None, is_some}
use Rattle.std.proofs.mem.Facts.{says_two}
use Rattle.std.proofs.raw_atomic.Walks.{proved}
use lib.Dec.{T, lit<}
use seplogic.Ra.Ura.{Ura}
use base.Fraction.{full_share}
use base.Logic.{ent, never, never_e, guard, via, fst∗, snd∗, guard_i}
use base.Fml.{fsep, ftrue, flft}
use mir.Raw.{raw as bare}
use mir.Syntax.{named, ty_ptr, ptr_eq}
use mir.Val.{Val, vbool, vnull, op2_val, has_ty, WT}
use contract.Monad.{fact, fact_use}
use contract.Running.{tables}
use types.Logic.{Logic, sem}
use types.Kit.{‵, raw, given, learn, ◌⊛◌, ◌$◌, ◌∵◌, !, qed, done, move, keep, use1, split, join, fsplit, fsplit3, fjoin, rewrite, suffices, frame, group, feq_i}
use types.Part.{whole, sub, look_in}
use types.Run.{enter, of_opd, load, stop, fld, bin, lit, returns}
use types.ByLocal.{alloc_all, pass_all, free_all, look_at, get, is, through, sets}
use denote.Laws.{shows}
use denote.Memory.{cell_at, lone}
use denote.RawPtr.{Ptr, block_ptr, null_ptr, ptr_val, Testable, tests_null}
use denote.Ref.{MutRef, mut_vals, mut_Tells}
use denote.Signature.{plain}
use denote.Steps.{nothing, opens, closes, peeks, heard}
use denote.Triple.Walked.{Stays, walk_of, stay_ref, Goes-ref, ends_at}
use Rattle.std.specs.Ptr.{points_to}
use Rattle.std_heap.proofs.GlobalToken.{dealloc_token-Testable}
use Rattle.player_c.specs.contracts.pointer.SpcwavePointer.{the_row as R}
use Rattle.player_c.specs.contracts.handle.SpcwavePlayer.{the_row as I}
use Rattle.player_c.specs.declared.handle.SpcwavePlayer.{SpcwavePlayer}
use Rattle.player_c.specs.Owned.{heap, chunk}
use Rattle.player_c.specs.Closing.{IsHandleOrNull}
use Rattle.player_c.specs.Pointers.{owns_handle}
use Rattle.player_c.proofs.pointer.SpcwavePointer.TheLaws.{lowers}
use Rattle.player_c.specs.contracts.pointer.SpcwavePointer.is_nothing as f
use Rattle.player_c.proofs.pointer.SpcwavePointer.is_nothing.Statement.{statement}
use Rattle.player_c.proofs.pointer.SpcwavePointer.is_nothing.Code as code

-- what a comparison with null answers
abbrev null_test : (p : Ptr) → (answer : Bool) × (op2_val ptr_eq (ptr_val p) vnull ≡ vbool answer)
null_test (block_ptr b o) = (false, refl)
null_test null_ptr = (true, refl)

pointer_good : (p : Ptr) → T (has_ty ty_ptr (ptr_val p)) × WT (ptr_val p)
pointer_good (block_ptr b o) = (tt, tt)
pointer_good null_ptr = (tt, record { fits = lit< tt })

-- an address may be compared with null, and it is null where no handle stands
abbrev ShowsHandle : Ptr → Option SpcwavePlayer → Type 0
ShowsHandle at handle = Testable at × ((null_test at).0 ≡ not (is_some handle))

null_shows_handle : (at : Ptr) → at ≡ null_ptr → ShowsHandle at None
null_shows_handle at same = subst (λ (p : Ptr). ShowsHandle p None) (sym same) (lit< tt, refl)

module _ {M : Type 1} {𝓤 : Ura M} (𝓛 : Logic 𝓤) where
  shows_handle : (at : Ptr) (handle : Option SpcwavePlayer) → (handle ≡ None → at ≡ null_ptr) → ent 𝓤 (sem 𝓛 (owns_handle at handle)) (guard 𝓤 (ShowsHandle at handle) (sem 𝓛 (owns_handle at handle)))
  shows_handle at None null = guard_i 𝓤 (ShowsHandle at None) (sem 𝓛 (owns_handle at None)) (null_shows_handle at (null refl))
  shows_handle (block_ptr b o) (Some x) null =
      fact_use 𝓤 (Testable (block_ptr b o))
      (via 𝓤 (sem 𝓛 (chunk (bare (lone I.mir)) (block_ptr b o))) (snd∗ 𝓤 (sem 𝓛 (points_to I (block_ptr b o) x)) (sem 𝓛 (chunk (bare (lone I.mir)) (block_ptr b o)))) (dealloc_token-Testable 𝓛 heap (bare (lone I.mir)) (block_ptr b o)))
      (λ t. guard_i 𝓤 (ShowsHandle (block_ptr b o) (Some x)) (sem 𝓛 (owns_handle (block_ptr b o) (Some x))) (t, refl))
  shows_handle null_ptr (Some x) null = via 𝓤 (never 𝓤) (fst∗ 𝓤 (never 𝓤) (sem 𝓛 (chunk (bare (lone I.mir)) null_ptr))) (never_e 𝓤 _)

abbrev stayed : Stays f.ended.signature.params f.ended.kept
stayed = (stay_ref (0 ∷ []) tt (plain (λ _. R)), tt)

pub is_nothing_spec : {M : Type 1} → statement M
is_nothing_spec 𝓤 𝓛 𝓜 𝓡 wired =
    let c = f.clauses 𝓛 𝓜.mem 𝓡.returns in let W = walk_of 𝓛 f.ended stayed c in let 𝓣 = tables 𝓤 𝓛.H 𝓜 𝓡 𝓡.env in
    proved 𝓛 f.ended stayed c 𝓜 𝓡 (Goes-ref 𝓛 1 0 tt (plain (λ _. R)), tt)
    f.Key.name code.function (code.unfolded 𝓤 𝓛.H 𝓜 𝓡 wired)
    (λ κs. (mut_vals, tt)) (λ κs. (mut_Tells (named 0) κs.0 R, tt)) (λ κs qs bounds a gh are.
    let κ = κs.0 in let q = qs.0 in let rb = a.0.ref_ptr.0 in let ro = a.0.ref_ptr.1 in let h = a.0.now in let vs = mut_vals a.0 in
    let z : W.Ghost = ((κs, qs, bounds, a, (vs, tt)), gh) in let answer : Bool = (null_test h.at).0 in
    qed 𝓛 (((‵ (flft κ q) ⊛ ‵ ftrue) ⊛ ‵ (fsep ((MutRef (named 0) κ R).own_val a.0 vs) ftrue)) ∷ raw (fact 𝓤 (IsHandleOrNull h)) ∷ []) ∵
    move ! (1 ∷ []) $ heard ! _ (λ null. split ! $ split ! $ move ! (2 ∷ []) $ fsplit ! $ keep ! (0 ∷ 2 ∷ []) $
    enter ! _ _ _ _ _ $ alloc_all ! (λ l. pass_all ! refl ((tt, tt), tt) $
    fsplit3 ! $ move ! (1 ∷ 2 ∷ 3 ∷ []) $ opens ! tt R rb ro (λ ws.
    move ! (1 ∷ []) $ peeks ! R _ (shows 𝓛 R) h ws (λ held. fsplit ! $ move ! (1 ∷ []) $
    use1 𝓛 (given (ShowsHandle h.at h.handle) (‵ (owns_handle h.at h.handle))) (shows_handle 𝓛 h.at h.handle null) $ learn ! (λ known.
    let Cell = λ (us : List Val). ‵ (cell_at full_share R.mir us rb ro) in
    rewrite ! 2 Cell (lowers.val_is h ws held) refl $
    -- [what the handle's box owns; the fields; the pointer's cell; the open borrow, in three entries; what is left of the reference]
    sets ! (of_opd ! (load ! (through ! refl (fld ! refl (stop !))) (look_in ! 2 (sub ! 0 refl (whole !))))) refl (pointer_good h.at) $
    sets ! (is ! (bin ! (get ! refl) (lit ! tt) (tests_null h.at known.0)) (null_test h.at).1) refl (tt, tt) $
    rewrite ! 2 Cell (sym (lowers.val_is h ws held)) refl $ move ! (1 ∷ 0 ∷ []) $ fjoin ! $ move ! (1 ∷ 0 ∷ 2 ∷ 3 ∷ 4 ∷ []) $
    closes ! tt R h ws rb ro $
    returns ! (look_at ! 0 refl) $ free_all ! refl $ move ! (3 ∷ []) $
    suffices ! _ (ends_at 𝓛 f.ended stayed c z (vbool answer) answer (h, tt) (tt, tt)) $ says_two ! (known.1, refl) $
    group ! 3 $ nothing ! $ move ! (1 ∷ 0 ∷ []) $ join ! $ nothing ! $ move ! (2 ∷ 0 ∷ []) $ join ! $ frame ! $ frame ! $
    feq_i ! _ (vbool answer ∷ []) _ refl $ done !))))))
