-- What contracts see of a vector of a fixed capacity.
use Rattle.std.specs.Prelude.{◌≡◌, ℕ, List, vec_len, vec_capacity}
use Rattle.std.specs.Vec.{vec_ptr, with_item}
use Rattle.fixed_vec.specs.declared.vec.FixedVec.{FixedVec}

-- its elements
abbrev pub elements_of : {T : Type 0} → FixedVec T → List T
elements_of vec = vec.elements.items

-- how many they are
abbrev pub length_of : {T : Type 0} → FixedVec T → ℕ
length_of vec = vec_len vec.elements

-- how many elements it can hold
abbrev pub capacity_of : {T : Type 0} → FixedVec T → ℕ
capacity_of vec = vec_capacity vec.elements

-- It lies where it lay, with the capacity that it had: no memory was taken or given back.
abbrev pub StaysInPlace : {T : Type 0} → (old new : FixedVec T) → Type 0
StaysInPlace old new = (vec_ptr new.elements ≡ vec_ptr old.elements) × (vec_capacity new.elements ≡ vec_capacity old.elements)

-- the vector with another element at an index: it stays in place
abbrev pub with_element : {T : Type 0} → FixedVec T → (index : ℕ) → T → FixedVec T
with_element vec index element = record vec { elements = with_item vec.elements index element }
