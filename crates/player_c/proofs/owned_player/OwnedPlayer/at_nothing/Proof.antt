-- No player that is owned: a walk of the MIR by hand.
use Rattle.std.proofs.Common.{refl, List, [], ◌∷◌, None}
use Rattle.std.proofs.raw_atomic.Walks.{proved}
use mathlib.Core.Bool.{true, ◌&&◌}
use lib.Dec.{T, lit<}
use base.Fml.{ftrue}
use mir.Val.{Val, vstruct, vcons, vnil, has_ty, WT}
use mir.Syntax.{ty_ptr}
use contract.Running.{tables}
use types.Kit.{‵, raw, ◌$◌, ◌∵◌, !, qed, done, drop, join, fjoin, feq_i, fpack, suffices}
use types.Part.{agg}
use types.Run.{enter, and_then, no_more, returns}
use types.ByLocal.{alloc_all, pass_all, free_all, look_at, get, sets}
use denote.Exit.{yes}
use denote.RattleType.{Valss}
use denote.RawPtr.{Ptr, RawPtr, block_ptr, null_ptr, ptr_val, rawptr_vals, rawptr_Tells}
use denote.Signature.{plain}
use denote.Struct.Owning.{shape}
use denote.Struct.Struct.{within}
use denote.Steps.{nothing}
use denote.Triple.Entry.{on_entry}
use denote.Triple.Walked.{Stays, walk_of, says, stay_dropped, Goes-dropped, ends_at}
use Rattle.player_c.specs.contracts.owned_player.OwnedPlayer.{the_type}
use Rattle.player_c.specs.declared.owned_player.OwnedPlayer.{OwnedPlayer}
use Rattle.player_c.specs.contracts.owned_player.OwnedPlayer.at_nothing as f
use Rattle.player_c.proofs.owned_player.OwnedPlayer.at_nothing.Statement.{statement}
use Rattle.player_c.proofs.owned_player.OwnedPlayer.at_nothing.Code as code

-- a pointer has its type, and so has a struct of it alone
pointer_good : (p : Ptr) → T (has_ty ty_ptr (ptr_val p)) × WT (ptr_val p)
pointer_good (block_ptr b o) = (tt, tt)
pointer_good null_ptr = (tt, record { fits = lit< tt })

alone_good : (p : Ptr) → T (has_ty ty_ptr (ptr_val p) && true) × WT (vstruct (vcons (ptr_val p) vnil))
alone_good (block_ptr b o) = (tt, (tt, tt))
alone_good null_ptr = (tt, (record { fits = lit< tt }, tt))

abbrev stayed : Stays f.ended.signature.params f.ended.kept
stayed = (stay_dropped (plain (λ _. RawPtr)) yes, tt)

pub at_nothing_spec : {M : Type 1} → statement M
at_nothing_spec 𝓤 𝓛 𝓜 𝓡 wired =
    let c = f.clauses 𝓛 𝓜.mem 𝓡.returns in let W = walk_of 𝓛 f.ended stayed c in let 𝓣 = tables 𝓤 𝓛.H 𝓜 𝓡 𝓡.env in
    proved 𝓛 f.ended stayed c 𝓜 𝓡 (Goes-dropped 𝓛 0 (plain (λ _. RawPtr)) yes (λ κs x w. refl), tt)
    f.Key.name code.function (code.unfolded 𝓤 𝓛.H 𝓜 𝓡 wired)
    (λ κs. (rawptr_vals, tt)) (λ κs. (rawptr_Tells, tt)) (λ κs qs bounds a n are.
    let p = a.0 in let v = ptr_val p in let w = vstruct (vcons v vnil) in
    let made : OwnedPlayer = record { at = p; playing = None } in
    let y : W.Ghost = ((κs, qs, bounds, a, (rawptr_vals p, tt)), n) in
    qed 𝓛 (raw (on_entry 𝓛 f.signature κs qs a y.0.4) ∷ ‵ ftrue ∷ []) ∵ drop ! $ drop ! $
    enter ! _ _ _ _ _ $ alloc_all ! (λ l. pass_all ! refl (pointer_good p, tt) $
    sets ! (agg ! (and_then ! (get ! refl) (no_more !))) refl (alone_good p) $
    returns ! (look_at ! 0 refl) $ free_all ! refl $
    suffices ! _ (ends_at 𝓛 f.ended stayed c y w made (tt, tt) (tt, tt)) $ says ! refl $
    nothing ! $ nothing ! $ feq_i ! (List Val) (v ∷ []) (v ∷ []) refl $ fjoin ! $ feq_i ! (List Val) (w ∷ []) (w ∷ []) refl $ fjoin ! $
    fpack ! (Valss (RawPtr ∷ [])) (within (shape the_type) (p, tt) (w ∷ [])) (v ∷ [], tt) $ fjoin ! $
    nothing ! $ nothing ! $ join ! $ nothing ! $ done !))
