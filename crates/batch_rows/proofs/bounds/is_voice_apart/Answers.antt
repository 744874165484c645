use Rattle.std.proofs.Common.{rules, ◌≡◌, true, false, List, ℕ, sym, ◌∙◌}
use Rattle.std.proofs.lemmas.Bool.{true≢false}
use Rattle.reach_map.specs.Reach.{entry_pages}
use Rattle.dsp_state.specs.Reach.{voice_entry, own_chain, start_chain}
use Rattle.batch_rows.specs.BoundingPages.{bounding_pages, window_from, AreApart}
use Rattle.batch_rows.proofs.BoundingPages.{voice_apart}
use Rattle.batch_rows.proofs.bounds.is_voice_apart.Goals as goal

pub returns-then-not-starts : goal.returns-then-not-starts
returns-then-not-starts c is_so =
    let those : List ℕ = window_from c.args.esa c.args.len in
    let first : c.are_bytes_apart.result ≡ true = search rules in
    let second : c.is_chain_apart.result ≡ true = search rules in
    let still : c.can_start-starts.result ≡ false = search rules in
    let entry : AreApart (entry_pages (voice_entry c.args.state.now.registers c.args.v)) those = rw (c.entry_address.ensures, c.voice_register-srcn.ensures) at (c.are_bytes_apart.ensures first) in
    let own : AreApart (bounding_pages (own_chain c.args.state.now c.args.memory.now c.args.v c.args.voice.now)) those =
    rw (c.block.ensures, c.loop_word-again.ensures, c.voice_register-srcn.ensures) at (c.is_chain_apart.ensures second) in
    voice_apart c.args.state.now c.args.memory.now c.args.v c.args.voice.now c.args.esa c.args.len c.can_start-starts.result c.can_start-starts.ensures entry own (λ e. absurd (true≢false (sym e ∙ still)))

pub returns : goal.returns
returns c is_so =
    let those : List ℕ = window_from c.args.esa c.args.len in
    let first : c.are_bytes_apart.result ≡ true = search rules in
    let second : c.is_chain_apart.result ≡ true = search rules in
    let entry : AreApart (entry_pages (voice_entry c.args.state.now.registers c.args.v)) those = rw (c.entry_address.ensures, c.voice_register-srcn.ensures) at (c.are_bytes_apart.ensures first) in
    let own : AreApart (bounding_pages (own_chain c.args.state.now c.args.memory.now c.args.v c.args.voice.now)) those =
    rw (c.block.ensures, c.loop_word-again.ensures, c.voice_register-srcn.ensures) at (c.is_chain_apart.ensures second) in
    let start : AreApart (bounding_pages (start_chain c.args.state.now c.args.memory.now c.args.v)) those =
    rw (c.start_word.ensures, c.loop_word-again.ensures, c.voice_register-srcn.ensures) at (c.is_chain_apart-2.ensures is_so) in
    voice_apart c.args.state.now c.args.memory.now c.args.v c.args.voice.now c.args.esa c.args.len c.can_start-starts.result c.can_start-starts.ensures entry own (λ e. start)
