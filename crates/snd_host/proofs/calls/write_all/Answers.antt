use Rattle.std.proofs.Common.{ℕ, List, [], ◌∷◌, ◌++◌, length, take, ap, ◌∙◌, subst, arith, length-drop}
use Rattle.std.proofs.lemmas.List.{take_rest, take_all}
use Rattle.std.proofs.lemmas.Result.{err_from_is_err_and}
use Rattle.snd_host.specs.Calls.{wrote, not_written}
use Rattle.snd_host.specs.Follows.{AreWrites}
use Rattle.snd_host.proofs.CallsInOrder.{no_writes, since_none, since_more, still_open, writes_cut, writes_more}
use Rattle.snd_host.proofs.calls.write_all.Goals as goal

pub loop-done-init : goal.loop-done-init
loop-done-init g c = record { within = omega arith; made = []; since = since_none _; writes = no_writes _ }

pub write-requires : goal.write-requires
write-requires g c =
    let so_far = c.loop-done.invariant in
    still_open c.args.out.0 _ so_far.made _ _ so_far.since so_far.writes c.args.out.0 c.requires

pub returns-in_err-done : goal.returns-in_err-done
returns-in_err-done g c =
    let so_far = c.loop-done.invariant in
    let p = err_from_is_err_and c.from_residual.result c.from_residual.ensures.1 in
    rw (p.1) (record {
      calls = so_far.made ++ not_written c.args.out.0 _ ∷ [];
      since = since_more so_far.made (not_written c.args.out.0 _) _ _ _ so_far.since c.in_err-done.ensures.made;
      does = writes_cut c.args.out.0 c.loop-done.done c.args.piece.now _ so_far.made (take_rest c.args.piece.now c.loop-done.done) (omega arith) so_far.writes;
    })

pub returns : goal.returns
returns g c =
    let so_far = c.loop-done.invariant in
    record {
      calls = so_far.made;
      since = so_far.since;
      does = subst (λ (l : List ℕ). AreWrites c.args.out.0 l so_far.made) (take_all _ _ (omega arith)) so_far.writes;
    }

pub loop-done-preserved : goal.loop-done-preserved
loop-done-preserved g c =
    let so_far = c.loop-done.invariant in
    let fits = c.in_ok-done.ensures.within in
    let rest = ap (length {A = ℕ}) (take_rest c.args.piece.now c.loop-done.done) ∙ length-drop c.loop-done.done c.args.piece.now in
    let some = c.in_ok-done.ensures.progress (omega (arith, rest)) in
    record {
      within = omega (arith, simp (take_rest, length-drop) at c.in_ok-done.ensures.within);
      made = so_far.made ++ wrote c.args.out.0 (take c.in_ok-done.field-0 _) ∷ [];
      since = since_more so_far.made _ _ _ _ so_far.since c.in_ok-done.ensures.made;
      writes = writes_more c.args.out.0 c.loop-done.done c.in_ok-done.field-0 c.args.piece.now _ so_far.made (take_rest c.args.piece.now c.loop-done.done) fits some so_far.writes;
    }
