-- The plan of a voice with a free-running envelope over a span of samples.
use Rattle.std.specs.Prelude.{◌≡◌, ℕ, ◌+◌, ◌^◌, ◌<◌, ◌≤◌, List, Bool, true, slice_index, if◌then◌else◌}
use Rattle.num_fix.specs.declared.TheConstants.{BATCH_SIZE}
use Rattle.aram_core.specs.Memory.{byte_at}
use Rattle.voice_unit.specs.Voice.{is_silencing}
use Rattle.voice_batch.specs.Row.{IsGroup, place_after, groups_before, ends_in, ended_in}
use Rattle.voice_batch.specs.SpanPhases.{AreSpanPhases, phase_at}
use Rattle.voice_batch.specs.declared.span_plan.SpanPlan.{SpanPlan}
use Rattle.voice_batch.specs.declared.span_plan.Span.{Span}
use Rattle.voice_batch.specs.declared.row.Place.{Place}

-- the bounds of what n samples of a voice depend on
pub record IsSpanPlan (span_plan : SpanPlan) (n : ℕ) : Type 0 where
  pub voice : span_plan.voice < 8
  pub span_phases : AreSpanPhases span_plan.span_phases n
  pub group : IsGroup span_plan.first

-- the group that is next in sample j
abbrev pub place_at : SpanPlan → (memory : List ℕ) → (j : ℕ) → Place
place_at span_plan memory j = place_after memory span_plan.loop_word span_plan.first (groups_before (phase_at span_plan.span_phases) j)

-- sample j reads a group, after so many others, that ends a block which has its end bit
abbrev pub ends_at : SpanPlan → (memory : List ℕ) → Place → (group j : ℕ) → Bool
ends_at span_plan memory place group j = ends_in memory place (phase_at span_plan.span_phases) group j

-- the voice comes to an end in sample j
abbrev pub ended_at : SpanPlan → (memory : List ℕ) → (j : ℕ) → Bool
ended_at span_plan memory j = ended_in memory span_plan.loop_word span_plan.first (phase_at span_plan.span_phases) j

-- a span of n samples at most: the groups that it reads, and the one that follows
pub record IsSpan (span_plan : SpanPlan) (memory : List ℕ) (n : ℕ) (span : Span) : Type 0 where
  pub some : 0 < span.samples
  pub few : span.samples ≤ n
  pub groups : span.groups ≡ groups_before (phase_at span_plan.span_phases) span.samples
  pub few_groups : span.groups ≤ BATCH_SIZE
  pub next : span.next ≡ place_after memory span_plan.loop_word span_plan.first span.groups
  pub group : IsGroup span.next

-- in each of so many samples from sample `at` on the bit of the voice is added where it comes to an end, and all other bytes stay
pub record AreEndsMarked (at samples voice : ℕ) (ends : ℕ → Bool) (before after : List ℕ) : Type 0 where
  pub marks : (j : ℕ) → j < samples → slice_index after (at + j) ≡ slice_index before (at + j) + (if ends j then 2 ^ voice else 0)
  pub before_it : (i : ℕ) → i < at → slice_index after i ≡ slice_index before i
  pub later : (i : ℕ) → at + samples ≤ i → slice_index after i ≡ slice_index before i

-- the header of a block silences no voice that sounds
abbrev pub LeavesSounding : SpanPlan → (memory : List ℕ) → (block : ℕ) → Type 0
LeavesSounding span_plan memory block = is_silencing span_plan.reset (byte_at memory block) ≡ true → span_plan.silent ≡ true
