-- The calls that read a whole input.
use Rattle.std.specs.Prelude.{◌≡◌, ◌≢◌, ℕ, ◌+◌, ◌≤◌, ◌<◌, List, [], ◌∷◌, ◌++◌, length, take, Some, Vec, Result, Ok, Err}
use Rattle.std.specs.List.{AllByRecursion}
use Rattle.std.specs.declared.alloc.Global.{Global}
use Rattle.snd_host.specs.Calls.{Call, opened, read}
use Rattle.snd_host.specs.Host.{HostState, Files}
use Rattle.snd_host.specs.Follows.{Since, IsCut, IsBegun}
use Rattle.snd_host.specs.declared.calls.ReadRefusal.{ReadRefusal}
use Rattle.snd_host.specs.declared.calls.ReadRefusal.TheVariants.{Failed, TooLong, OutOfMemory}

-- A read of some bytes from this file.
abbrev pub GivesSome : (file : ℕ) → Call → Type 0
GivesSome file (read f room bytes) = (f ≡ file) × (bytes ≢ [])
GivesSome file call = ⊥

-- the bytes that reads gave
abbrev pub bytes_read : List Call → List ℕ
bytes_read [] = []
bytes_read (read file room bytes ∷ calls) = bytes ++ bytes_read calls
bytes_read (call ∷ calls) = bytes_read calls

-- How the reads of an input end: with one that gave no bytes into a buffer with room, or with none where more bytes than the limit came.
pub record AreEnded (file limit : ℕ) (bytes : List ℕ) (calls : List Call) : Type 0 where
  pub whole : length bytes ≤ limit → (room : ℕ) × (0 < room) × (calls ≡ read file room [] ∷ [])
  pub long : limit < length bytes → calls ≡ []

-- The named input is opened, and read to its end or to its limit and one byte, which gives these bytes.
pub record Takes (name : List ℕ) (limit : ℕ) (bytes : List ℕ) (calls : List Call) : Type 0 where
  pub file : ℕ
  pub reads : List Call
  pub end : List Call
  pub split : calls ≡ (opened name file ∷ reads) ++ end
  pub each : AllByRecursion (GivesSome file) reads
  pub joined : bytes_read reads ≡ bytes
  pub within : length bytes ≤ limit + 1
  pub ends : AreEnded file limit bytes end

-- How it comes out: with a failed call last, or begun where memory was wanting.
abbrev pub ComesOut : (name : List ℕ) (limit : ℕ) (calls : List Call) → Result (Vec ℕ Global) ReadRefusal → Type 0
ComesOut name limit calls (Ok bytes) = Takes name limit bytes.items calls
ComesOut name limit calls (Err TooLong) = (bytes : List ℕ) × Takes name limit bytes calls × (limit < length bytes)
ComesOut name limit calls (Err Failed) = (bytes : List ℕ) × IsCut (Takes name limit bytes) calls
ComesOut name limit calls (Err OutOfMemory) = (bytes : List ℕ) × IsBegun (Takes name limit bytes) calls

-- Since the old state these calls were made, by how it came out, and no others.
pub record ReadsWhole (name : List ℕ) (limit : ℕ) (old new : HostState) (result : Result (Vec ℕ Global) ReadRefusal) : Type 0 where
  pub calls : List Call
  pub since : Since calls old new
  pub comes : ComesOut name limit calls result

-- The name holds a content, and an input of it gave the front of that, up to the limit and one byte.
pub record GaveFront (files : Files) (name : List ℕ) (limit : ℕ) (bytes : List ℕ) : Type 0 where
  pub content : List ℕ
  pub there : files name ≡ Some content
  pub front : bytes ≡ take (limit + 1) content
