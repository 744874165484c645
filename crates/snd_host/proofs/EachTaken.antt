-- What holds of each open and of each read holds of each call that reads a whole input.
use Rattle.std.proofs.Common.{◌⊎◌, inl, inr, ℕ, ◌≤◌, ◌<◌, List, [], ◌∷◌, length, sym, subst}
use Rattle.std.specs.List.{AllByRecursion}
use Rattle.snd_host.specs.Calls.{Call, opened, not_opened, read, not_read, created, not_created, wrote, not_written, finished, not_finished}
use Rattle.snd_host.specs.Takes.{Takes, GivesSome}
use Rattle.snd_host.proofs.EachCall.{Each, each_as, each_then}
use Rattle.snd_host.proofs.Taking.{either}

module _ (P : Call → Type 0) (of_open : (name : List ℕ) (file : ℕ) → P (opened name file)) (of_read : (file room : ℕ) (bytes : List ℕ) → P (read file room bytes)) where
  read_is : (file : ℕ) (c : Call) → GivesSome file c → P c
  read_is file (read n room bytes) h = of_read n room bytes
  read_is file (opened name n) h = absurd h
  read_is file (not_opened name) h = absurd h
  read_is file (not_read n room) h = absurd h
  read_is file (created name n) h = absurd h
  read_is file (not_created name) h = absurd h
  read_is file (wrote n bytes) h = absurd h
  read_is file (not_written n piece) h = absurd h
  read_is file (finished n) h = absurd h
  read_is file (not_finished n) h = absurd h

  pub each_taken : (name : List ℕ) (limit : ℕ) (bytes : List ℕ) → Each P (Takes name limit bytes)
  each_taken name limit bytes calls takes =
      subst (AllByRecursion P) (sym takes.split)
      (each_then P (opened name takes.file ∷ takes.reads) takes.end (of_open name takes.file, each_as (GivesSome takes.file) P (read_is takes.file) takes.reads takes.each) (last (either (length bytes) limit)))
    where
      last : (length bytes ≤ limit) ⊎ (limit < length bytes) → AllByRecursion P takes.end
      last (inl short) = let one = takes.ends.whole short in subst (AllByRecursion P) (sym one.2) (of_read takes.file one.0 [], tt)
      last (inr long) = subst (AllByRecursion P) (sym (takes.ends.long long)) tt
