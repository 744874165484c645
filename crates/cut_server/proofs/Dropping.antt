-- The table with one checkpoint fewer.
use Rattle.std.proofs.Common.{◌≡◌, ℕ, zero, suc, ◌<◌, nat_eq, List, [], ◌∷◌, length, get_or, refl, ap, ◌∙◌, arith}
use Rattle.std.specs.List.{count_by, remove}
use Rattle.std.proofs.lemmas.List.Edits.{length-remove}
use Rattle.page_pool.specs.declared.slot.Slot.{Slot}
use Rattle.page_pool.specs.Pool.{slot_at, KeepsBytes}
use Rattle.cut_form.specs.Checkpoints.{slots_used, without_entry}
use Rattle.cut_server.specs.declared.table.LiveCheckpoint.{LiveCheckpoint}
use Rattle.cut_server.specs.Table.{saved_checkpoint, saved_checkpoints, checkpoints_after, times_named, max_named, AreApart, StandTogether, AreKeptIn}
use Rattle.cut_server.specs.Placing.{AreGiven}
use Rattle.cut_server.proofs.Naming.{times-remove}
use Rattle.cut_server.proofs.Placing.{pages_in-kept}
use Rattle.cut_server.proofs.Adding.{AllOwned, all_owned, owners_few, saved_checkpoints-kept}
use Rattle.cut_server.proofs.Removing.{among_all, used_removed, live_removed, runs_removed, whole_removed, map_removed}

checkpoints-same : {S : Type 0} (old new : List Slot) (a b : ℕ) (before : List ℕ) (checkpoints : List (LiveCheckpoint S)) → KeepsBytes old new → AllOwned old a checkpoints → AllOwned new b checkpoints → checkpoints_after new before checkpoints ≡ checkpoints_after old before checkpoints
unfolding AllOwned
checkpoints-same old new a b before [] keeps was is = refl
checkpoints-same old new a b before (x ∷ xs) keeps was is = rw (pages_in-kept old new a b x.pages keeps was.0 is.0, checkpoints-same old new a b x.pages xs keeps was.1 is.1) refl

-- no slot stands twice in a live checkpoint
pub apart_read : {S : Type 0} (checkpoints : List (LiveCheckpoint S)) (i : ℕ) (checkpoint : LiveCheckpoint S) → StandTogether checkpoints → i < length checkpoints → checkpoint ≡ get_or checkpoints i checkpoint → AreApart checkpoint.pages
apart_read [] i checkpoint runs within read = absurd (omega arith)
apart_read (x ∷ xs) zero checkpoint runs within read = λ k. omega (arith, ap (λ m. count_by (nat_eq k) m.pages) read, runs.0 k)
apart_read (x ∷ xs) (suc i) checkpoint runs within read = apart_read xs i checkpoint runs.2 (omega arith) read

-- What is known of a table from which one is dropped.
pub record IsDropping {S : Type 0} (old new : List Slot) (checkpoints : List (LiveCheckpoint S)) (i : ℕ) (checkpoint : LiveCheckpoint S) : Type 0 where
  pub kept : AreKeptIn old checkpoints
  pub within : i < length checkpoints
  pub read : checkpoint ≡ get_or checkpoints i checkpoint
  pub given : AreGiven old new checkpoint.pages

owners_dropped : {S : Type 0} {old new : List Slot} {checkpoints : List (LiveCheckpoint S)} {i : ℕ} {checkpoint : LiveCheckpoint S} → IsDropping old new checkpoints i checkpoint → (k : ℕ) → (slot_at new k).owners ≡ times_named (remove checkpoints i) k
owners_dropped {checkpoints = checkpoints} {i} {checkpoint} is k = omega (arith, is.given.owners k, is.kept.owners k, times-remove checkpoints i checkpoint k is.within is.read)

owned_old : {S : Type 0} {old new : List Slot} {checkpoints : List (LiveCheckpoint S)} {i : ℕ} {checkpoint : LiveCheckpoint S} → IsDropping old new checkpoints i checkpoint → AllOwned old max_named (remove checkpoints i)
owned_old {old = old} {checkpoints = checkpoints} {i} {checkpoint} is = all_owned old max_named (remove checkpoints i) (λ k. omega (arith, is.kept.owners k, times-remove checkpoints i checkpoint k is.within is.read)) (owners_few is.kept)

owned_new : {S : Type 0} {old new : List Slot} {checkpoints : List (LiveCheckpoint S)} {i : ℕ} {checkpoint : LiveCheckpoint S} → IsDropping old new checkpoints i checkpoint → AllOwned new max_named (remove checkpoints i)
owned_new {new = new} {checkpoints} {i} is = all_owned new max_named (remove checkpoints i) (λ k. omega (arith, owners_dropped is k)) (λ k. omega (arith, is.given.owners k, owners_few is.kept k))

live_same : {S : Type 0} {old new : List Slot} {checkpoints : List (LiveCheckpoint S)} {i : ℕ} {checkpoint : LiveCheckpoint S} → IsDropping old new checkpoints i checkpoint → checkpoints_after new [] (remove checkpoints i) ≡ checkpoints_after old [] (remove checkpoints i)
live_same {old = old} {new} {checkpoints} {i} is = checkpoints-same old new max_named max_named [] (remove checkpoints i) is.given.bytes (owned_old is) (owned_new is)

pub saved_dropped : {S : Type 0} {old new : List Slot} {checkpoints : List (LiveCheckpoint S)} {i : ℕ} {checkpoint : LiveCheckpoint S} → IsDropping old new checkpoints i checkpoint → saved_checkpoints new (remove checkpoints i) ≡ remove (saved_checkpoints old checkpoints) i
saved_dropped {old = old} {new} {checkpoints} {i} is = saved_checkpoints-kept old new max_named max_named (remove checkpoints i) is.given.bytes (owned_old is) (owned_new is) ∙ map_removed (saved_checkpoint old) checkpoints i

pub live_dropped : {S : Type 0} {old new : List Slot} {checkpoints : List (LiveCheckpoint S)} {i : ℕ} {checkpoint : LiveCheckpoint S} → IsDropping old new checkpoints i checkpoint → checkpoints_after new [] (remove checkpoints i) ≡ without_entry (checkpoints_after old [] checkpoints) i
live_dropped {old = old} {checkpoints = checkpoints} {i} is = live_same is ∙ live_removed checkpoints i (among_all old checkpoints is.kept.runs is.kept.whole is.kept.owners) is.within

pub kept_dropped : {S : Type 0} {old new : List Slot} {checkpoints : List (LiveCheckpoint S)} {i : ℕ} {checkpoint : LiveCheckpoint S} → IsDropping old new checkpoints i checkpoint → AreKeptIn new (remove checkpoints i)
kept_dropped {old = old} {new} {checkpoints} {i} {checkpoint} is =
    let among = among_all old checkpoints is.kept.runs is.kept.whole is.kept.owners in
    record {
      owners = owners_dropped is;
      whole = whole_removed checkpoints i is.kept.whole;
      few = omega (arith, is.kept.few, length-remove checkpoints i is.within);
      runs = runs_removed checkpoints i among is.within;
      used = omega (arith, is.kept.used, is.given.free, is.given.size, used_removed checkpoints i checkpoint among is.within is.read, ap slots_used (live_same is));
    }
