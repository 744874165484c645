use Rattle.std.proofs.Common.{◌≡◌, ℕ, ◌+◌, ◌<◌, ◌++◌, ◌∷◌, [], List, length, get_or, take, drop, slice_set, sym, ap, ◌∙◌, append_assoc, add-one, drop-cons, rules}
use Rattle.std.proofs.lemmas.List.{take_more_set}
use Rattle.voice_unit.specs.Voice.{VoiceState, silent_voice}
use Rattle.dsp_state.specs.Reach.{entries_from, voice_entry}
use Rattle.dsp_state.proofs.state.ChipState.entries.Goals as goal

-- the entry of one voice more
one_more : (registers entries : List ℕ) (voices : List VoiceState) (v entry : ℕ) → v < length voices → v < length entries → entry ≡ voice_entry registers v
    → take v entries ++ entries_from registers v (drop v voices) ≡ take (v + 1) (slice_set entries v entry) ++ entries_from registers (v + 1) (drop (v + 1) voices)
one_more registers entries voices v entry voice place is =
    let rest : drop v voices ≡ get_or voices v silent_voice ∷ drop (v + 1) voices = rw add-one (drop-cons voices v silent_voice voice) in
    let more : take (v + 1) (slice_set entries v entry) ≡ take v entries ++ entry ∷ [] = take_more_set entries v entry place in
    ap (λ (voices : List VoiceState). take v entries ++ entries_from registers v voices) rest
    ∙ ap (λ (e : ℕ). take v entries ++ e ∷ entries_from registers (v + 1) (drop (v + 1) voices)) (sym is)
    ∙ sym (ap (λ (front : List ℕ). front ++ entries_from registers (v + 1) (drop (v + 1) voices)) more ∙ append_assoc (take v entries) (entry ∷ []) (entries_from registers (v + 1) (drop (v + 1) voices)))

pub loop-v-preserved : goal.loop-v-preserved
loop-v-preserved c = record {
  entries =
      rw c.from.ensures
      (c.loop-v.invariant.entries
      ∙ one_more c.args.self.now.registers c.loop-v.entries c.args.self.now.hidden.voices c.loop-v.v c.entry_address.result (search rules) (search rules) (search rules));
  eight = search rules;
}
