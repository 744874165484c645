-- What is found of a sample, in the words of its blocks: where their first end bit stands, and where the loop word leads.
use Rattle.std.specs.Prelude.{◌≡◌, ◌≢◌, ℕ, ◌+◌, ◌*◌, ◌<◌, List, true, false}
use Rattle.brr_encode.specs.Encoding.{max_blocks}
use Rattle.voice_unit.specs.Directory.{start_word, loop_word}
use Rattle.sample_rip.specs.Blocks.{block_address, ends_at, loops_at}
use Rattle.sample_rip.specs.Rip.{rip_found}
use Rattle.sample_rip.specs.declared.found.RipFound.{RipFound}
use Rattle.sample_rip.specs.declared.found.RipEnd.{RipEnd}
use Rattle.sample_rip.specs.declared.found.RipEnd.TheVariants.{NoLoop, Loop, Outside, Open}

-- none of the first blocks has its end bit
abbrev pub NoneEnds : (memory : List ℕ) → (start blocks : ℕ) → Type 0
NoneEnds memory start blocks = (block : ℕ) → block < blocks → ends_at memory start block ≡ false

-- none of the first blocks stands at the address
abbrev pub NoneStandsAt : (start address blocks : ℕ) → Type 0
NoneStandsAt start address blocks = (block : ℕ) → block < blocks → block_address start block ≢ address

-- the sample of this number begins one of the first blocks, which stands at the address, and no earlier one does
abbrev pub BeginsAt : (start address blocks sample : ℕ) → Type 0
BeginsAt start address blocks sample =
    (block : ℕ) × (block < blocks) × (sample ≡ 16 * block) × (block_address start block ≡ address) × NoneStandsAt start address block

-- what an end says of the bits of the last block, and of the blocks at the address to loop to
abbrev pub EndSays : (memory : List ℕ) → (start address last : ℕ) → RipEnd → Type 0
EndSays memory start address last NoLoop = (ends_at memory start last ≡ true) × (loops_at memory start last ≡ false)
EndSays memory start address last (Loop sample) =
    (ends_at memory start last ≡ true) × (loops_at memory start last ≡ true) × BeginsAt start address (last + 1) sample
EndSays memory start address last Outside =
    (ends_at memory start last ≡ true) × (loops_at memory start last ≡ true) × NoneStandsAt start address (last + 1)
EndSays memory start address last Open = (ends_at memory start last ≡ false) × (last + 1 ≡ max_blocks)

-- what is found says of the blocks from a start on, of which at most 7,280 are looked at, and of an address to loop to
abbrev pub FoundSays : (memory : List ℕ) → (start address : ℕ) → RipFound → Type 0
FoundSays memory start address found =
    (found.start ≡ start) × ((last : ℕ) × (found.blocks ≡ last + 1) × (last < max_blocks) × NoneEnds memory start last
    × EndSays memory start address last found.«end»)

-- so it is with each entry of each directory
abbrev pub FoundByItsBits : Type 0
FoundByItsBits = (memory : List ℕ) (dir entry : ℕ) →
    FoundSays memory (start_word dir entry memory) (loop_word dir entry memory) (rip_found memory dir entry)
