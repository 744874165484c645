-- The entries of a chain: the first is its first block, and each other follows the one before it.
use Rattle.std.proofs.Common.{◌≡◌, ℕ, zero, suc, List, refl, sym, ap, ◌∙◌}
use Rattle.aram_core.specs.Memory.{byte_at}
use Rattle.brr_decode.specs.Header.{next_block}
use Rattle.reach_map.specs.declared.ChainStart.{ChainStart}
use Rattle.reach_map.specs.Reach.{chain_entry}

-- the chain from the next block on
abbrev pub rest_of : List ℕ → ChainStart → ChainStart
rest_of memory start = record { block = next_block (byte_at memory start.block) start.block start.loop_word; loop_word = start.loop_word }

pub chain_entry-zero : (memory : List ℕ) (start : ChainStart) → chain_entry memory start 0 ≡ start.block
unfolding chain_entry
chain_entry-zero memory start = refl

-- an entry after the first is one of the rest
pub chain_entry-rest : (memory : List ℕ) (start : ChainStart) (i : ℕ) → chain_entry memory start (suc i) ≡ chain_entry memory (rest_of memory start) i
unfolding chain_entry
chain_entry-rest memory start i = refl

-- each entry follows the one before it
pub chain_entry-suc : (memory : List ℕ) (start : ChainStart) (i : ℕ)
    → chain_entry memory start (suc i) ≡ next_block (byte_at memory (chain_entry memory start i)) (chain_entry memory start i) start.loop_word
chain_entry-suc memory start zero =
    chain_entry-rest memory start 0
    ∙ chain_entry-zero memory (rest_of memory start)
    ∙ ap (λ (b : ℕ). next_block (byte_at memory b) b start.loop_word) (sym (chain_entry-zero memory start))
chain_entry-suc memory start (suc i) =
    chain_entry-rest memory start (suc i)
    ∙ chain_entry-suc memory (rest_of memory start) i
    ∙ ap (λ (b : ℕ). next_block (byte_at memory b) b start.loop_word) (sym (chain_entry-rest memory start i))
