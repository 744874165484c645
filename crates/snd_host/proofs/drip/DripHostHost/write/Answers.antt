use Rattle.std.proofs.Common.{◌≡◌, ◌≤◌, ℕ, List, ◌∷◌, length, take, Some, subst, Result, Ok, Err, refl, ap, ◌∙◌, arith, length-take}
use Rattle.std.specs.Prelude.{IfOk}
use Rattle.std.proofs.lemmas.Grind.{common_steps}
use Rattle.snd_host.specs.Calls.{write_call, wrote}
use Rattle.snd_host.specs.Host.{HostState}
use Rattle.snd_host.specs.History.{rooms_after}
use Rattle.snd_host.specs.Follows.{Makes}
use Rattle.snd_host.specs.Memory.{memory_state}
use Rattle.snd_host.specs.Drip.{drip_state}
use Rattle.snd_host.specs.declared.drip.DripHost.{DripHost}
use Rattle.snd_host.specs.declared.host.Failed.{Failed}
use Rattle.snd_host.proofs.drip.DripHostHost.write.Goals as goal

-- the write of a piece, by that of its front
drip_writes : (host : DripHost) (b j : HostState) (file : ℕ) (piece front : List ℕ) (result : Result ℕ Failed) → ((count : ℕ) → result ≡ Ok count → take count front ≡ take count piece) → length front ≤ length piece →
    b.calls ≡ write_call file piece result ∷ host.log.calls → b.holds ≡ j.holds → b.steady ≡ j.steady → Makes (write_call file front result) (memory_state host.host) j → Makes (write_call file piece result) (drip_state host) b
drip_writes host b j file piece front (Ok count) same short noted holds steady made = record {
  calls = noted;
  holds = holds ∙ made.holds;
  true = λ files known. tt;
  steady = λ rooms known. (tt, steady ∙ (made.steady rooms known).1 ∙ ap (λ (l : List ℕ). Some (rooms_after (wrote file l) rooms)) (same count refl));
}
drip_writes host b j file piece front (Err e) same short noted holds steady made = record {
  calls = noted;
  holds = holds ∙ made.holds;
  true = λ files known. tt;
  steady = λ rooms known. let s = made.steady rooms known in (omega (arith, s.0), steady ∙ s.1);
}

front_same : (most count : ℕ) (piece : List ℕ) → count ≤ most → take count (take most piece) ≡ take count piece
front_same most count piece within = grind (arith, common_steps)

pub returns-clause-made : goal.returns-clause-made
returns-clause-made c =
    let piece = c.args.piece.now in
    let most = c.min-most.result in
    drip_writes c.args.self.now _ (memory_state c.write-outcome.new.self) c.args.file.0 piece (take most piece) c.write-outcome.result
    (λ count is. front_same most count piece (omega (arith, subst (λ (r : Result ℕ Failed). IfOk r (λ n. n ≤ length (take most piece))) is c.write-outcome.ensures.within, length-take most piece)))
    (omega (arith, length-take most piece)) c.note_write.ensures refl refl c.write-outcome.ensures.made
