-- How the calls that read a whole input come out.
use Rattle.std.proofs.Common.{◌≡◌, ◌≢◌, ◌⊎◌, inl, inr, ℕ, zero, suc, ◌+◌, ◌≤◌, ◌<◌, List, [], ◌∷◌, ◌++◌, length, take, length-take, refl, sym, ap, ◌∙◌, subst, arith, Ok, Err}
use Rattle.std.specs.Prelude.{Vec}
use Rattle.std.specs.List.{AllByRecursion}
use Rattle.std.specs.declared.alloc.Global.{Global}
use Rattle.std.proofs.lemmas.List.{append_assoc, append-nil, take-append-le, length-append}
use Rattle.snd_host.specs.Calls.{Call, opened, not_opened, read, not_read, created, not_created, wrote, not_written, finished, not_finished}
use Rattle.snd_host.specs.Host.{HostState}
use Rattle.snd_host.specs.Follows.{Makes, Since}
use Rattle.snd_host.specs.Takes.{GivesSome, bytes_read, AreEnded, ReadsWhole}
use Rattle.snd_host.specs.declared.calls.ReadRefusal.TheVariants.{Failed, TooLong, OutOfMemory}
use Rattle.snd_host.proofs.CallsInOrder.{since_one, since_more}

pub either : (n limit : ℕ) → (n ≤ limit) ⊎ (limit < n)
either zero limit = inl (omega arith)
either (suc n) zero = inr (omega arith)
either (suc n) (suc limit) = elim (either n limit) [
  | inl h ↦ inl (omega arith)
  | inr h ↦ inr (omega arith)
]

pub ends_short : (file limit room : ℕ) (bytes : List ℕ) → 0 < room → length bytes ≤ limit → AreEnded file limit bytes (read file room [] ∷ [])
ends_short file limit room bytes some short = record { whole = λ h. (room, some, refl); long = λ h. absurd (omega arith) }

ends_long : (file limit : ℕ) (bytes : List ℕ) → limit < length bytes → AreEnded file limit bytes []
ends_long file limit bytes over = record { whole = λ h. absurd (omega arith); long = λ h. refl }

-- an input can be read to its end
can_end : (file limit : ℕ) (bytes : List ℕ) → (end : List Call) × AreEnded file limit bytes end
can_end file limit bytes = elim (either (length bytes) limit) [
  | inl short ↦ (read file 1 [] ∷ [], ends_short file limit 1 bytes (omega arith) short)
  | inr over ↦ ([], ends_long file limit bytes over)
]

pub each_more : (file : ℕ) (xs : List Call) (room : ℕ) (bytes : List ℕ) → AllByRecursion (GivesSome file) xs → bytes ≢ [] → AllByRecursion (GivesSome file) (xs ++ read file room bytes ∷ [])
each_more file [] room bytes each some = ((refl, some), tt)
each_more file (x ∷ xs) room bytes each some = (each.0, each_more file xs room bytes each.1 some)

pub joined_more : (file : ℕ) (xs : List Call) (room : ℕ) (so_far bytes : List ℕ) → bytes_read xs ≡ so_far → bytes_read (xs ++ read file room bytes ∷ []) ≡ so_far ++ bytes
joined_more file xs room so_far bytes joined = more xs ∙ ap (λ (l : List ℕ). l ++ bytes) joined
  where
    more : (xs : List Call) → bytes_read (xs ++ read file room bytes ∷ []) ≡ bytes_read xs ++ bytes
    more [] = append-nil bytes
    more (read n r bs ∷ xs) = ap (λ (l : List ℕ). bs ++ l) (more xs) ∙ sym (append_assoc bs (bytes_read xs) bytes)
    more (opened name n ∷ xs) = more xs
    more (not_opened name ∷ xs) = more xs
    more (not_read n r ∷ xs) = more xs
    more (created name n ∷ xs) = more xs
    more (not_created name ∷ xs) = more xs
    more (wrote n bs ∷ xs) = more xs
    more (not_written n bs ∷ xs) = more xs
    more (finished n ∷ xs) = more xs
    more (not_finished n ∷ xs) = more xs

pub open_failed : (name : List ℕ) (limit : ℕ) (a b : HostState) → Makes (not_opened name) a b → ReadsWhole name limit a b (Err Failed)
open_failed name limit a b made = record {
  calls = not_opened name ∷ [];
  since = since_one (not_opened name) a b made;
  comes = (
    [],
    record {
      done = [];
      call = opened name 0;
      rest = read 0 1 [] ∷ [];
      cut = refl;
      whole = record { file = 0; reads = []; end = read 0 1 [] ∷ []; split = refl; each = tt; joined = refl; within = omega arith; ends = ends_short 0 limit 1 [] (omega arith) (omega arith) };
    },
  );
}

module _ (name : List ℕ) (limit file : ℕ) (reads : List Call) (bytes : List ℕ) (a b : HostState)
    (since : Since (opened name file ∷ reads) a b) (each : AllByRecursion (GivesSome file) reads) (joined : bytes_read reads ≡ bytes) where
  pub read_failed : (c : HostState) (room : ℕ) → 0 < room → length bytes ≤ limit → Makes (not_read file room) b c → ReadsWhole name limit a c (Err Failed)
  read_failed c room some short made = record {
    calls = (opened name file ∷ reads) ++ not_read file room ∷ [];
    since = since_more (opened name file ∷ reads) (not_read file room) a b c since made;
    comes = (
      bytes,
      record {
        done = opened name file ∷ reads;
        call = read file room [];
        rest = [];
        cut = refl;
        whole = record { file = file; reads = reads; end = read file room [] ∷ []; split = refl; each = each; joined = joined; within = omega arith; ends = ends_short file limit room bytes some short };
      },
    );
  }

  pub read_ended : (c : HostState) (room : ℕ) (end : List ℕ) (items : Vec ℕ Global) → items.items ≡ bytes → length bytes ≤ limit → 0 < room → end ≡ [] → Makes (read file room end) b c → ReadsWhole name limit a c (Ok items)
  read_ended c room end items are short some none made = record {
    calls = (opened name file ∷ reads) ++ read file room [] ∷ [];
    since = since_more (opened name file ∷ reads) (read file room []) a b c since (subst (λ (l : List ℕ). Makes (read file room l) b c) none made);
    comes = record {
      file = file;
      reads = reads;
      end = read file room [] ∷ [];
      split = refl;
      each = each;
      joined = joined ∙ sym are;
      within = let e = ap (length {A = ℕ}) are in omega (arith, e);
      ends = subst (λ (l : List ℕ). AreEnded file limit l (read file room [] ∷ [])) (sym are) (ends_short file limit room bytes some short);
    };
  }

  pub too_long : limit < length bytes → length bytes ≤ limit + 1 → ReadsWhole name limit a b (Err TooLong)
  too_long over within = record {
    calls = opened name file ∷ reads;
    since = since;
    comes = (bytes, record { file = file; reads = reads; end = []; split = sym (append-nil _); each = each; joined = joined; within = within; ends = ends_long file limit bytes over }, over);
  }

  pub no_memory : (c : HostState) (room : ℕ) (more : List ℕ) → more ≢ [] → length (bytes ++ more) ≤ limit + 1 → Makes (read file room more) b c → ReadsWhole name limit a c (Err OutOfMemory)
  no_memory c room more some within made =
      let last = can_end file limit (bytes ++ more) in
      record {
        calls = (opened name file ∷ reads) ++ read file room more ∷ [];
        since = since_more (opened name file ∷ reads) (read file room more) a b c since made;
        comes = (
          bytes ++ more,
          record {
            rest = last.0;
            whole = record { file = file; reads = reads ++ read file room more ∷ []; end = last.0; split = refl; each = each_more file reads room more each some; joined = joined_more file reads room bytes more joined; within = within; ends = last.1 };
          },
        );
      }

-- the front of a buffer that a read filled
pub some_front : (count room : ℕ) (buf : List ℕ) → count ≢ 0 → count ≤ room → length buf ≡ room → take count buf ≢ []
some_front count room buf some within long none = let e = ap (length {A = ℕ}) none in absurd (some (omega (arith, length-take count buf, e)))

pub length_taken : (xs : List ℕ) (n : ℕ) → n ≤ length xs → length (take n xs) ≡ n
length_taken xs n within = omega (arith, length-take n xs)

pub same_front : (xs ys : List ℕ) (n : ℕ) → n ≤ length xs → take n xs ≡ take n (xs ++ ys)
same_front xs ys n within = sym (take-append-le n xs ys within)

pub length_front : (xs ys : List ℕ) (n : ℕ) → n ≤ length xs → length (take n (xs ++ ys)) ≡ n
length_front xs ys n within = omega (arith, length-take n (xs ++ ys), length-append xs ys)
