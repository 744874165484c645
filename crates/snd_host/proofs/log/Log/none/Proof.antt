-- A history of no calls: a walk of the MIR by hand.
use Rattle.std.proofs.Common.{refl, List, [], ◌∷◌}
use Rattle.std.proofs.raw_atomic.Walks.{proved}
use base.Fml.{ftrue}
use mir.Val.{Val, vstruct, vnil}
use types.Kit.{‵, raw, ◌$◌, ◌∵◌, !, qed, done, drop, fjoin, feq_i, fpack, suffices}
use types.Part.{agg}
use types.Run.{enter, no_more, returns}
use types.ByLocal.{alloc_all, pass_all, free_all, look_at, sets}
use denote.RattleType.{Valss}
use denote.Struct.Owning.{shape}
use denote.Struct.Struct.{within}
use denote.Steps.{nothing}
use denote.Triple.Entry.{on_entry}
use denote.Triple.Walked.{walk_of, says, ends_at}
use Rattle.snd_host.specs.contracts.log.Log.{the_type}
use Rattle.snd_host.specs.declared.log.Log.{Log}
use Rattle.snd_host.specs.contracts.log.Log.none as f
use Rattle.snd_host.proofs.log.Log.none.Statement.{statement}
use Rattle.snd_host.proofs.log.Log.none.Code as code

pub none_spec : {M : Type 1} → statement M
none_spec 𝓤 𝓛 𝓜 𝓡 wired =
    let c = f.clauses 𝓛 𝓜.mem 𝓡.returns in let W = walk_of 𝓛 f.ended tt c in
    proved 𝓛 f.ended tt c 𝓜 𝓡 tt f.Key.name code.function (code.unfolded 𝓤 𝓛.H 𝓜 𝓡 wired)
    (λ κs. tt) (λ κs. tt) (λ κs qs bounds a n are.
    let w = vstruct vnil in
    let made : Log = record { calls = [] } in
    let y : W.Ghost = ((κs, qs, bounds, a, tt), n) in
    qed 𝓛 (raw (on_entry 𝓛 f.signature κs qs a y.0.4) ∷ ‵ ftrue ∷ []) ∵ drop ! $ drop ! $
    enter ! _ _ _ _ _ $ alloc_all ! (λ l. pass_all ! refl tt $
    sets ! (agg ! (no_more !)) refl (tt, tt) $
    returns ! (look_at ! 0 refl) $ free_all ! refl $
    suffices ! _ (ends_at 𝓛 f.ended tt c y w made tt tt) $ says ! refl $
    nothing ! $ nothing ! $ feq_i ! (List Val) (w ∷ []) (w ∷ []) refl $ fjoin ! $
    fpack ! (Valss []) (within (shape the_type) tt (w ∷ [])) tt $ fjoin ! $
    nothing ! $ nothing ! $ done !))
