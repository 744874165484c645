-- What a delivery is by its calls, where its outputs are made at once: its first call creates the first output, each output is created and ended, and
-- to each of them and to the report its bytes are written.
use Rattle.std.proofs.Common.{◌≡◌, ℕ, ◌+◌, ◌≤◌, List, [], ◌∷◌, ◌++◌, Option, Some, None, refl, sym, ap, ◌∙◌, subst, arith}
use Rattle.std.specs.List.{AllByRecursion}
use Rattle.std.proofs.lemmas.List.{append_assoc, append-nil}
use Rattle.snd_host.specs.Calls.{Call, created, finished}
use Rattle.snd_host.specs.Host.{Output, IfKnown}
use Rattle.command_runner.specs.OutputCalls.{bytes_to, creations, endings, numbered, DeliversAs, at_once}
use Rattle.command_runner.specs.Stream.{pair}
use Rattle.command_runner.proofs.Woven.{bytes_more, none_to, woven_first}
use Rattle.run_laws.specs.Rendered.{IsAmong, IsWhole}
use Rattle.command_runner.proofs.Phases.{bytes_to-creations, bytes_to-endings}
use Rattle.run_laws.proofs.Unwritten.{makes_unwritten}

-- The calls that are among those of a part are among all.

pub among_first : (call : Call) (xs ys : List Call) → IsAmong call xs → IsAmong call (xs ++ ys)
among_first call xs ys here = (here.0, here.1 ++ ys, ap (λ (l : List Call). l ++ ys) here.2 ∙ append_assoc here.0 (call ∷ here.1) ys)

pub among_second : (call : Call) (xs ys : List Call) → IsAmong call ys → IsAmong call (xs ++ ys)
among_second call xs ys here = (xs ++ here.0, here.1, ap (λ (l : List Call). xs ++ l) here.2 ∙ sym (append_assoc xs here.0 (call ∷ here.1)))

pub among_same : (call : Call) (xs ys : List Call) → xs ≡ ys → IsAmong call ys → IsAmong call xs
among_same call xs ys same here = (here.0, here.1, same ∙ here.2)

module _ (m : ℕ) (outputs : List Output) (report : List ℕ) (made : List Call) (d : DeliversAs at_once (m + 2) outputs report made) where
  abbrev first : ℕ
  first = m + 2

  -- the writes to the outputs
  abbrev pub writes : List Call
  writes = d.does_first.does_second.front

  abbrev later : List Call
  later = (writes ++ endings (numbered first outputs)) ++ d.back

  pub laid : made ≡ creations first outputs ++ later
  laid =
      d.split ∙ ap (λ (l : List Call). l ++ d.back) (d.does_first.split ∙ ap (λ (l : List Call). l ++ d.does_first.back) d.does_first.does_first
      ∙ ap (λ (l : List Call). creations first outputs ++ l) (d.does_first.does_second.split ∙ ap (λ (l : List Call). writes ++ l) d.does_first.does_second.does_second))
      ∙ append_assoc (creations first outputs) (writes ++ endings (numbered first outputs)) d.back

  pub creation_among : (call : Call) → IsAmong call (creations first outputs) → IsAmong call made
  creation_among call here = among_same call made (creations first outputs ++ later) laid (among_first call (creations first outputs) later here)

  pub ending_among : (call : Call) → IsAmong call (endings (numbered first outputs)) → IsAmong call made
  ending_among call here =
      among_same call made (creations first outputs ++ later) laid
      (among_second call (creations first outputs) later
      (among_first call (writes ++ endings (numbered first outputs)) d.back (among_second call writes (endings (numbered first outputs)) here)))

  -- what is written to an output is written by those writes
  pub written_to : (file : ℕ) → 2 ≤ file → bytes_to file made ≡ bytes_to file writes
  written_to file high =
      ap (bytes_to file) laid ∙ bytes_more file (creations first outputs) later ∙ ap (λ (l : List ℕ). l ++ bytes_to file later) (bytes_to-creations file first outputs)
      ∙ bytes_more file (writes ++ endings (numbered first outputs)) d.back
      ∙ ap (λ (l : List ℕ). bytes_to file (writes ++ endings (numbered first outputs)) ++ l) (none_to 0 file (λ same. absurd (omega (arith, same, high))) d.back d.does_second.each)
      ∙ append-nil (bytes_to file (writes ++ endings (numbered first outputs)))
      ∙ bytes_more file writes (endings (numbered first outputs)) ∙ ap (λ (l : List ℕ). bytes_to file writes ++ l) (bytes_to-endings file (numbered first outputs)) ∙ append-nil (bytes_to file writes)

  pub joined : AllByRecursion (λ target. bytes_to target.0 writes ≡ target.1) (numbered first outputs)
  joined = d.does_first.does_second.does_first.joined

  pub reported : bytes_to 0 made ≡ report
  reported =
      ap (bytes_to 0) d.split ∙ bytes_more 0 d.front d.back
      ∙ ap (λ (l : List ℕ). l ++ bytes_to 0 d.back) (makes_unwritten at_once 0 first outputs d.front (omega arith) d.does_first)
      ∙ (woven_first 0 None report tt d.back d.does_second).joined.0

-- The outputs of a delivery of a sound file, and of a trace where it has a name.
pub record Wholes (wave : List ℕ) (trace : Option (List ℕ)) (n : ℕ) (frames lines report : List ℕ) (made : List Call) : Type 0 where
  pub later : List Call
  pub first : made ≡ created wave n ∷ later
  pub wave_is : IsWhole wave n frames made
  pub trace_is : IfKnown trace (λ name. IsWhole name (n + 1) lines made)
  pub report_is : bytes_to 0 made ≡ report

pub wholes : (m : ℕ) (wave : List ℕ) (trace : Option (List ℕ)) (frames lines report : List ℕ) (made : List Call) → DeliversAs at_once (m + 2) (pair wave trace frames lines) report made → Wholes wave trace (m + 2) frames lines report made
wholes m wave None frames lines report made d =
    let outputs = pair wave None frames lines in
    record {
      later = _;
      first = laid m outputs report made d;
      wave_is = record {
        creation = creation_among m outputs report made d (created wave (m + 2)) ([], [], refl);
        given = written_to m outputs report made d (m + 2) (omega arith) ∙ (joined m outputs report made d).0;
        ending = ending_among m outputs report made d (finished (m + 2)) ([], [], refl);
      };
      trace_is = λ name is. absurd (cc);
      report_is = reported m outputs report made d;
    }
wholes m wave (Some trace) frames lines report made d =
    let outputs = pair wave (Some trace) frames lines in
    let trace_is : IsWhole trace (m + 2 + 1) lines made = record {
      creation = creation_among m outputs report made d (created trace (m + 2 + 1)) (created wave (m + 2) ∷ [], [], refl);
      given = written_to m outputs report made d (m + 2 + 1) (omega arith) ∙ (joined m outputs report made d).1.0;
      ending = ending_among m outputs report made d (finished (m + 2 + 1)) (finished (m + 2) ∷ [], [], refl);
    } in
    record {
      later = _;
      first = laid m outputs report made d;
      wave_is = record {
        creation = creation_among m outputs report made d (created wave (m + 2)) ([], _, refl);
        given = written_to m outputs report made d (m + 2) (omega arith) ∙ (joined m outputs report made d).0;
        ending = ending_among m outputs report made d (finished (m + 2)) ([], _, refl);
      };
      trace_is = λ name is. subst (λ (k : List ℕ). IsWhole k (m + 2 + 1) lines made) (same trace name is) trace_is;
      report_is = reported m outputs report made d;
    }
  where
    same : (a b : List ℕ) → Some a ≡ Some b → a ≡ b
    same a b is = cc
