use Rattle.std.proofs.Common.{◌≡◌, Err, inl, ℕ, length, List, refl, sym, ap, ◌∙◌, arith}
use Rattle.std.proofs.Common.{◌-◌}
use Rattle.std.proofs.lemmas.Grind.{common_steps}
use Rattle.std.proofs.lemmas.List.{length-drop}
use Rattle.std.proofs.lemmas.Result.{err_from_is_err_and}
use Rattle.wav_form.specs.Chunks.{chunk_length}
use Rattle.wav_form.specs.Seen.{chunk_of}
use Rattle.wav_form.proofs.Walks.{whole_chunk, walk_data, walk_on, walk_refused, walk_end}
use Rattle.wav_form.proofs.mono.walk.Goals as goal

pub returns-then-has_format-clause-samples : goal.returns-then-has_format-clause-samples
returns-then-has_format-clause-samples c =
    let named = sym c.is_named.ensures ∙ c.if-is_named.true in
    let found = walk_data c.chunks.has_format c.chunks.place c.chunks.rest.now (chunk_of c.in-Some.chunk) c.in-Some.ensures.chunk c.in-Some.ensures.whole named in
    sym c.chunks.invariant.left ∙ found ∙ rw (c.if-has_format.true, c.in_ok-samples.ensures) refl

pub returns-then-is_named-clause-causes : goal.returns-then-is_named-clause-causes
returns-then-is_named-clause-causes c =
    let named = sym c.is_named.ensures ∙ c.if-is_named.true in
    let found = walk_data c.chunks.has_format c.chunks.place c.chunks.rest.now (chunk_of c.in-Some.chunk) c.in-Some.ensures.chunk c.in-Some.ensures.whole named in
    inl (sym c.chunks.invariant.left ∙ found ∙ rw c.if-has_format.false refl)

pub returns-in_err-has_format-clause-causes : goal.returns-in_err-has_format-clause-causes
returns-in_err-has_format-clause-causes c =
    let named = sym c.is_named.ensures ∙ c.if-is_named.false in
    let found = walk_refused c.chunks.has_format c.in_err-has_format.field-0.0 c.chunks.place c.chunks.rest.now (chunk_of c.in-Some.chunk) c.in-Some.ensures.chunk c.in-Some.ensures.whole named c.in_err-has_format.ensures.passes in
    let p = err_from_is_err_and c.from_residual-in_err-has_format.result c.from_residual-in_err-has_format.ensures.1 in
    rw (p.1) (inl (sym c.chunks.invariant.left ∙ found ∙ ap Err (sym p.2)))

pub chunks-preserved : goal.chunks-preserved
chunks-preserved c =
    let named = sym c.is_named.ensures ∙ c.if-is_named.false in
    let next = walk_on c.chunks.has_format c.in_ok-has_format.has_format c.chunks.place c.chunks.rest.now (chunk_of c.in-Some.chunk) c.in-Some.ensures.chunk c.in-Some.ensures.whole named c.in_ok-has_format.ensures.passes in
    let gone = c.after-rest.ensures in
    let taken : chunk_length (chunk_of c.in-Some.chunk) ≡ c.length-length.result = sym c.length-length.ensures in
    let short : length c.after-rest.result.now ≡ length c.chunks.rest.now - c.length-length.result = ap (λ (l : List ℕ). length l) gone ∙ length-drop c.length-length.result c.chunks.rest.now in
    let fits = whole_chunk c.chunks.place c.chunks.rest.now (chunk_of c.in-Some.chunk) c.in-Some.ensures.chunk c.in-Some.ensures.whole c.in_ok-has_format.ensures.whole in
    let inside = c.chunks.invariant.inside (omega (arith, c.in-Some.ensures.whole)) in
    record {
      left = rw gone (sym (rw taken at next) ∙ c.chunks.invariant.left);
      inside = λ some. omega (arith, some, short, taken, fits, inside);
      end = omega (arith, short, taken, fits, inside);
    }

pub returns-clause-causes : goal.returns-clause-causes
returns-clause-causes c =
    let end = walk_end c.chunks.has_format c.chunks.place c.chunks.rest.now (c.in_default.ensures.end refl) in
    inl (sym c.chunks.invariant.left ∙ end ∙ rw c.refusal_at_end.ensures refl)

-- bytes that give samples are not to be refused, whether memory is found or not
pub returns-then-has_format-clause-refused : goal.returns-then-has_format-clause-refused
returns-then-has_format-clause-refused c =
    let named = sym c.is_named.ensures ∙ c.if-is_named.true in
    let found = walk_data c.chunks.has_format c.chunks.place c.chunks.rest.now (chunk_of c.in-Some.chunk) c.in-Some.ensures.chunk c.in-Some.ensures.whole named in
    rw (sym c.chunks.invariant.left ∙ found, c.if-has_format.true) tt

pub returns-in_err-samples-clause-refused : goal.returns-in_err-samples-clause-refused
returns-in_err-samples-clause-refused c =
    let named = sym c.is_named.ensures ∙ c.if-is_named.true in
    let found = walk_data c.chunks.has_format c.chunks.place c.chunks.rest.now (chunk_of c.in-Some.chunk) c.in-Some.ensures.chunk c.in-Some.ensures.whole named in
    rw (sym c.chunks.invariant.left ∙ found, c.if-has_format.true) tt

pub returns-then-is_named-clause-refused : goal.returns-then-is_named-clause-refused
returns-then-is_named-clause-refused c =
    let named = sym c.is_named.ensures ∙ c.if-is_named.true in
    let found = walk_data c.chunks.has_format c.chunks.place c.chunks.rest.now (chunk_of c.in-Some.chunk) c.in-Some.ensures.chunk c.in-Some.ensures.whole named in
    rw (sym c.chunks.invariant.left ∙ found, c.if-has_format.false) refl

pub returns-in_err-has_format-clause-refused : goal.returns-in_err-has_format-clause-refused
returns-in_err-has_format-clause-refused c =
    let named = sym c.is_named.ensures ∙ c.if-is_named.false in
    let found = walk_refused c.chunks.has_format c.in_err-has_format.field-0.0 c.chunks.place c.chunks.rest.now (chunk_of c.in-Some.chunk) c.in-Some.ensures.chunk c.in-Some.ensures.whole named c.in_err-has_format.ensures.passes in
    let p = err_from_is_err_and c.from_residual-in_err-has_format.result c.from_residual-in_err-has_format.ensures.1 in
    rw (sym c.chunks.invariant.left ∙ found) (p.1 ∙ ap Err p.2)

pub returns-clause-refused : goal.returns-clause-refused
returns-clause-refused c =
    let end = walk_end c.chunks.has_format c.chunks.place c.chunks.rest.now (c.in_default.ensures.end refl) in
    rw (sym c.chunks.invariant.left ∙ end) (ap Err c.refusal_at_end.ensures)

pub chunks-smaller : goal.chunks-smaller
chunks-smaller c = grind (arith, common_steps)
