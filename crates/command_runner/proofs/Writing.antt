-- A line that is written in pieces.
use Rattle.std.proofs.Common.{inl, inr, Result, Ok, Err, ℕ, List, [], ◌++◌}
use Rattle.snd_host.specs.Host.{HostState}
use Rattle.snd_host.specs.Follows.{AreWrites, Follows}
use Rattle.snd_host.specs.declared.host.Failed.{Failed}
use Rattle.snd_host.proofs.CallsInOrder.{since_none, no_writes}
use Rattle.command_runner.specs.InOrder.{Then}
use Rattle.command_runner.specs.RunCalls.{NotesLine}
use Rattle.command_runner.proofs.Sequences.{can_write, joined_writes, follows_as, follows_then, follows_failed}

pub line_failed : {T : Type 0} (xs ys : List ℕ) (a b : HostState) (e : Failed) → Follows {T = T} (AreWrites 1 xs) a b (Err e) → Follows {T = T} (AreWrites 1 (xs ++ ys)) a b (Err e)
line_failed {T = T} xs ys a b e first =
    follows_as {T = T} (Then (AreWrites 1 xs) (AreWrites 1 ys)) (AreWrites 1 (xs ++ ys)) a b (Err e) (joined_writes 1 xs ys)
    (follows_failed {T = T} {U = T} (AreWrites 1 xs) (AreWrites 1 ys) a b e e first (can_write 1 ys))

pub line_then : {T U : Type 0} (xs ys : List ℕ) (a b c : HostState) (x : T) (r : Result U Failed) → Follows {T = T} {E = Failed} (AreWrites 1 xs) a b (Ok x) → Follows (AreWrites 1 ys) b c r → Follows (AreWrites 1 (xs ++ ys)) a c r
line_then {T = T} {U = U} xs ys a b c x r first second =
    follows_as (Then (AreWrites 1 xs) (AreWrites 1 ys)) (AreWrites 1 (xs ++ ys)) a c r (joined_writes 1 xs ys)
    (follows_then {T = T} {U = U} (AreWrites 1 xs) (AreWrites 1 ys) a b c x r first second)

pub noted : {T : Type 0} (line : List ℕ) (a b : HostState) (r : Result T Failed) → Follows (AreWrites 1 line) a b r → NotesLine line a b
noted line a b (Ok x) f = record { note = f.calls; since = f.since; noted = inl f.does }
noted line a b (Err e) f = record { note = f.calls; since = f.since; noted = inr f.does }

pub silent : (a : HostState) → NotesLine [] a a
silent a = record { note = []; since = since_none a; noted = inl (no_writes 1) }
