use Rattle.std.proofs.Common.{◌≡◌, ◌∙◌, sym, ap, true, false, ℕ, List, [], ◌∷◌, ◌++◌, filter, length, length-append, arith}
use Rattle.std.specs.List.{range_with_len}
use Rattle.std.proofs.lemmas.List.{append-nil}
use Rattle.spc_form.specs.Layout.{dsp_of}
use Rattle.sample_rip.specs.Entries.{is_wanted}
use Rattle.command_rip.proofs.Wanted.{flag_of, one_wanted, none_wanted}
use Rattle.command_rip.proofs.command.wanted_in.Goals as goal
use Rattle.command_rip.proofs.command.wanted_in.Goals.{then-flags-from+in_ok-push, else-flags-from}

pub loop-entry-preserved : goal.loop-entry-preserved
loop-entry-preserved c =
    let p = is_wanted (dsp_of c.args.file.now) c.args.range in
    let n = c.loop-entry.entry in
    let few = c.loop-entry.invariant.few in
    elim c.if-flags-from.branch [
      | then-flags-from+in_ok-push w ↦
          let is = flag_of p c.wanted-flags.result c.from.result n true c.wanted-flags.ensures c.from.ensures c.loop-entry-test.true w.if-flags-from.true in
          let items : c.if-flags-from.entries.items ≡ c.loop-entry.entries.items ++ n ∷ [] = ap (λ v. v.items) w.entries-is ∙ w.in_ok-push.ensures.items in
          let size = ap (length {A = ℕ}) items ∙ length-append c.loop-entry.entries.items (n ∷ []) in
          record {
            wanted = items ∙ ap (λ (l : List ℕ). l ++ n ∷ []) c.loop-entry.invariant.wanted ∙ one_wanted p n is;
            few = omega (arith, size, few);
          }
      | else-flags-from w ↦
          let is = flag_of p c.wanted-flags.result c.from.result n false c.wanted-flags.ensures c.from.ensures c.loop-entry-test.true w.if-flags-from.false in
          let items : c.if-flags-from.entries.items ≡ c.loop-entry.entries.items = ap (λ v. v.items) w.entries-is in
          let size = ap (length {A = ℕ}) items in
          record {
            wanted = items ∙ c.loop-entry.invariant.wanted ∙ sym (append-nil _) ∙ none_wanted p n is;
            few = omega (arith, size, few);
          }
    ]

pub returns-clause-entries : goal.returns-clause-entries
returns-clause-entries c =
    let all : c.loop-entry.entry ≡ 256 = omega (arith, c.loop-entry-test.false) in
    c.loop-entry.invariant.wanted ∙ ap (λ (n : ℕ). filter (is_wanted (dsp_of c.args.file.now) c.args.range) (range_with_len 0 n)) all
