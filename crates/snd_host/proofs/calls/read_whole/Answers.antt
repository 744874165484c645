-- Each read that gives some bytes is one more of the reads so far; each way out ends them as it says.
use Rattle.std.proofs.Common.{rules, ◌≡◌, ◌+◌, ◌≤◌, ◌++◌, ◌∷◌, ℕ, List, [], length, take, sym, ◌∙◌, ap, refl, arith, length-take, vec_len}
use Rattle.std.proofs.lemmas.List.{places, length-append}
use Rattle.std.proofs.lemmas.Result.{err_from_is_err_and}
use Rattle.snd_host.specs.Calls.{read, opened as opened_file}
use Rattle.snd_host.specs.History.{current_of}
use Rattle.snd_host.proofs.CallsInOrder.{since_one, since_more}
use Rattle.snd_host.proofs.Taking.{open_failed, read_failed, read_ended, too_long, no_memory, each_more, joined_more, some_front, length_taken, length_front, same_front}
use Rattle.snd_host.proofs.calls.read_whole.Goals as goal

pub reading-init : goal.reading-init
reading-init g c = record {
  within = search rules;
  current = ap current_of c.in_ok-file.ensures.made.calls;
  reads = [];
  since = since_one _ _ _ c.in_ok-file.ensures.made;
  each = tt;
  joined = search rules;
}

pub reading-preserved : goal.reading-preserved
reading-preserved g c =
    let so_far = c.reading.invariant in
    let count = c.in_ok-count.count in
    let within : count ≤ length c.read.new.buf = omega (arith, c.in_ok-count.ensures.within, c.read.auto.buf) in
    let more : vec_len c.extend_from_slice.new.self ≡ vec_len c.reading.bytes + count = c.in_ok-extend_from_slice.ensures.len ∙ ap (λ (n : ℕ). vec_len c.reading.bytes + n) (length_front c.read.new.buf _ count within) in
    record {
      within = omega (arith, more, c.in_ok-count.ensures.within, length-take c.min-room.result c.reading.buffer);
      current = ap current_of c.in_ok-count.ensures.made.calls ∙ so_far.current;
      reads = so_far.reads ++ read c.in_ok-file.file.0 _ (take count c.read.new.buf) ∷ [];
      since = since_more (opened_file c.args.name.now c.in_ok-file.file.0 ∷ so_far.reads) (read c.in_ok-file.file.0 _ (take count c.read.new.buf)) _ _ _ so_far.since c.in_ok-count.ensures.made;
      each = each_more c.in_ok-file.file.0 so_far.reads _ _ so_far.each (some_front count _ c.read.new.buf c.if-count-eq0.false within refl);
      joined = joined_more c.in_ok-file.file.0 so_far.reads _ c.reading.bytes.items (take count c.read.new.buf) so_far.joined
          ∙ ap (λ (l : List ℕ). c.reading.bytes.items ++ l) (same_front c.read.new.buf _ count within) ∙ sym c.in_ok-extend_from_slice.ensures.items;
    }

pub returns-in_err-file-clause-calls : goal.returns-in_err-file-clause-calls
returns-in_err-file-clause-calls g c =
    let p = err_from_is_err_and c.from_residual.result c.from_residual.ensures.1 in
    rw (p.1, p.2) (open_failed c.args.name.now c.args.limit _ _ c.in_err-file.ensures.made)

pub returns-in_err-count-clause-calls : goal.returns-in_err-count-clause-calls
returns-in_err-count-clause-calls g c =
    let p = err_from_is_err_and c.from_residual-in_err-count.result c.from_residual-in_err-count.ensures.1 in
    let so_far = c.reading.invariant in
    rw (p.1, p.2) (read_failed c.args.name.now c.args.limit c.in_ok-file.file.0 so_far.reads c.reading.bytes.items _ _ so_far.since so_far.each so_far.joined _ _ (search (rules, places)) (omega arith) c.in_err-count.ensures.made)

pub returns-then-count-eq0-clause-calls : goal.returns-then-count-eq0-clause-calls
returns-then-count-eq0-clause-calls g c =
    let so_far = c.reading.invariant in
    read_ended c.args.name.now c.args.limit c.in_ok-file.file.0 so_far.reads c.reading.bytes.items _ _ so_far.since so_far.each so_far.joined _ _ _ c.reading.bytes refl (omega arith) (search (rules, places))
    (ap (λ (n : ℕ). take n c.read.new.buf) c.if-count-eq0.true) c.in_ok-count.ensures.made

pub returns-in_err-extend_from_slice-clause-calls : goal.returns-in_err-extend_from_slice-clause-calls
returns-in_err-extend_from_slice-clause-calls g c =
    let p = err_from_is_err_and c.from_residual-in_err-extend_from_slice.result c.from_residual-in_err-extend_from_slice.ensures.1 in
    let so_far = c.reading.invariant in
    let count = c.in_ok-count.count in
    let within : count ≤ length c.read.new.buf = omega (arith, c.in_ok-count.ensures.within, c.read.auto.buf) in
    let long = length_taken c.read.new.buf count within in
    let all = length-append c.reading.bytes.items (take count c.read.new.buf) in
    rw (p.1, p.2) (no_memory c.args.name.now c.args.limit c.in_ok-file.file.0 so_far.reads c.reading.bytes.items _ _ so_far.since so_far.each so_far.joined _ _ _ (some_front count _ c.read.new.buf c.if-count-eq0.false within refl)
    (omega (arith, all, long, c.in_ok-count.ensures.within, length-take c.min-room.result c.reading.buffer)) c.in_ok-count.ensures.made)

pub returns-clause-calls : goal.returns-clause-calls
returns-clause-calls g c =
    let so_far = c.reading.invariant in
    too_long c.args.name.now c.args.limit c.in_ok-file.file.0 so_far.reads c.reading.bytes.items _ _ so_far.since so_far.each so_far.joined (omega arith) (omega arith)
