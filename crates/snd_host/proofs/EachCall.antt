-- What holds of each call of a list.
use Rattle.std.proofs.Common.{◌≢◌, ℕ, List, [], ◌∷◌, ◌++◌, sym, subst}
use Rattle.std.specs.List.{AllByRecursion}
use Rattle.snd_host.specs.Calls.{Call, opened, not_opened, read, not_read, created, not_created, wrote, not_written, finished, not_finished}
use Rattle.snd_host.specs.Follows.{failure_of, IsCut, IsBegun, IsWrite, AreWrites}

pub each_as : {A : Type 0} (P Q : A → Type 0) → ((x : A) → P x → Q x) → (xs : List A) → AllByRecursion P xs → AllByRecursion Q xs
each_as P Q h [] each = tt
each_as P Q h (x ∷ xs) each = (h x each.0, each_as P Q h xs each.1)

pub each_then : (P : Call → Type 0) (xs ys : List Call) → AllByRecursion P xs → AllByRecursion P ys → AllByRecursion P (xs ++ ys)
each_then P [] ys first second = second
each_then P (x ∷ xs) ys first second = (first.0, each_then P xs ys first.1 second)

pub all_first : (P : Call → Type 0) (xs ys : List Call) → AllByRecursion P (xs ++ ys) → AllByRecursion P xs
all_first P [] ys each = tt
all_first P (x ∷ xs) ys each = (each.0, all_first P xs ys each.1)

pub one_of : (P : Call → Type 0) (xs ys : List Call) (y : Call) → AllByRecursion P (xs ++ y ∷ ys) → P y
one_of P [] ys y each = each.0
one_of P (x ∷ xs) ys y each = one_of P xs ys y each.1

-- All that a thing is done by has this property.
abbrev pub Each : (Call → Type 0) → (List Call → Type 0) → Type 0
Each P Does = (calls : List Call) → Does calls → AllByRecursion P calls

-- up to a call that failed, if failures have it too
pub each_of_cut : (P : Call → Type 0) (Does : List Call → Type 0) → ((c : Call) → P (failure_of c)) → Each P Does → Each P (IsCut Does)
each_of_cut P Does of_failure each calls cut =
    subst (AllByRecursion P) (sym cut.cut) (each_then P cut.done (failure_of cut.call ∷ []) (all_first P cut.done (cut.call ∷ cut.rest) (each _ cut.whole)) (of_failure cut.call, tt))

-- up to some moment
pub each_of_front : (P : Call → Type 0) (Does : List Call → Type 0) → Each P Does → Each P (IsBegun Does)
each_of_front P Does each calls begun = all_first P calls begun.rest (each _ begun.whole)

-- What holds of each write of some bytes to an output holds of such a call.
pub write_is : (file : ℕ) (P : Call → Type 0) → ((bytes : List ℕ) → bytes ≢ [] → P (wrote file bytes)) → (c : Call) → IsWrite file c → P c
write_is file P holds (wrote f bytes) is = subst (λ (n : ℕ). P (wrote n bytes)) (sym is.0) (holds bytes is.1)
write_is file P holds (opened name n) is = absurd is
write_is file P holds (not_opened name) is = absurd is
write_is file P holds (read n room bytes) is = absurd is
write_is file P holds (not_read n room) is = absurd is
write_is file P holds (created name n) is = absurd is
write_is file P holds (not_created name) is = absurd is
write_is file P holds (not_written n piece) is = absurd is
write_is file P holds (finished n) is = absurd is
write_is file P holds (not_finished n) is = absurd is

pub each_written : (file : ℕ) (bytes : List ℕ) (P : Call → Type 0) → ((piece : List ℕ) → piece ≢ [] → P (wrote file piece)) → Each P (AreWrites file bytes)
each_written file bytes P of_write calls writes = each_as (IsWrite file) P (write_is file P of_write) calls writes.each
