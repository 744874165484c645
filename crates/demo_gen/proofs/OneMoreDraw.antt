-- Lists that are joined, and the state after draws, one step on.
use Rattle.std.proofs.Common.{◌≡◌, ◌∙◌, ℕ, suc, ◌+◌, List, ◌++◌, refl, sym, ap, append_assoc, add-one}
use Rattle.std.proofs.lemmas.List.{append-nil}
use Rattle.demo_gen.specs.Draws.{next_state, state_after, draw, drawn_byte, joined}

pub state_after-none : (s : ℕ) → s ≡ state_after 0 s
unfolding state_after
state_after-none s = refl

state_after-suc : (n s : ℕ) → state_after (suc n) s ≡ next_state (state_after n s)
unfolding state_after
state_after-suc n s = refl

-- after one more draw
pub state_after-next : (n s now next : ℕ) → now ≡ state_after n s → next ≡ next_state now → next ≡ state_after (suc n) s
state_after-next n s now next is step = step ∙ ap next_state is ∙ sym (state_after-suc n s)

-- the byte of that draw
pub draw-next : (n s now next byte : ℕ) → now ≡ state_after n s → next ≡ next_state now → byte ≡ drawn_byte next → byte ≡ draw s n
draw-next n s now next byte is step drawn = drawn ∙ ap drawn_byte (state_after-next n s now next is step)

-- nothing is joined yet
pub joined-none : (bytes : List ℕ) (f : ℕ → List ℕ) → bytes ≡ bytes ++ joined 0 f
unfolding joined
joined-none bytes f = sym (append-nil bytes)

joined-suc : (n : ℕ) (f : ℕ → List ℕ) → joined (suc n) f ≡ joined n f ++ f n
unfolding joined
joined-suc n f = refl

-- one more list is joined
pub joined-next : (before bytes : List ℕ) (n : ℕ) (f : ℕ → List ℕ) → bytes ≡ before ++ joined n f → bytes ++ f n ≡ before ++ joined (n + 1) f
joined-next before bytes n f is =
    ap (λ (l : List ℕ). l ++ f n) is ∙ append_assoc before (joined n f) (f n)
    ∙ ap (λ (l : List ℕ). before ++ l) (sym (joined-suc n f) ∙ ap (λ (k : ℕ). joined k f) (sym (add-one n)))
