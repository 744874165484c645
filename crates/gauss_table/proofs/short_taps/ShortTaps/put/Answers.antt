use Rattle.std.proofs.Common.{rules, ◌≡◌, ◌+◌, ◌*◌, ◌/◌, ◌%◌, ℕ, ℤ, List, [], ◌∷◌, length, slice_set, FitsSigned, to_z, of_z, ap, refl, ◌∙◌, arith}
use Rattle.std.specs.Int.{w16}
use Rattle.std.proofs.lemmas.Int.{to_z-of_z}
use Rattle.gauss_table.proofs.short_taps.ShortTaps.put.Goals as goal

-- eight bytes, each of which was written
eight : (xs : List ℕ) (a b c d e f g h : ℕ) → length xs ≡ 8
    → slice_set (slice_set (slice_set (slice_set (slice_set (slice_set (slice_set (slice_set xs 0 a) 1 b) 2 c) 3 d) 4 e) 5 f) 6 g) 7 h
    ≡ a ∷ b ∷ c ∷ d ∷ e ∷ f ∷ g ∷ h ∷ []
eight [] a b c d e f g h long = absurd (omega arith)
eight (_ ∷ []) a b c d e f g h long = absurd (omega arith)
eight (_ ∷ _ ∷ []) a b c d e f g h long = absurd (omega arith)
eight (_ ∷ _ ∷ _ ∷ []) a b c d e f g h long = absurd (omega arith)
eight (_ ∷ _ ∷ _ ∷ _ ∷ []) a b c d e f g h long = absurd (omega arith)
eight (_ ∷ _ ∷ _ ∷ _ ∷ _ ∷ []) a b c d e f g h long = absurd (omega arith)
eight (_ ∷ _ ∷ _ ∷ _ ∷ _ ∷ _ ∷ []) a b c d e f g h long = absurd (omega arith)
eight (_ ∷ _ ∷ _ ∷ _ ∷ _ ∷ _ ∷ _ ∷ []) a b c d e f g h long = absurd (omega arith)
eight (_ ∷ _ ∷ _ ∷ _ ∷ _ ∷ _ ∷ _ ∷ _ ∷ []) a b c d e f g h long = refl
eight (_ ∷ _ ∷ _ ∷ _ ∷ _ ∷ _ ∷ _ ∷ _ ∷ _ ∷ rest) a b c d e f g h long = absurd (omega arith)

-- a number by its two bytes
of_bytes : (z : ℤ) (low top : ℕ) → FitsSigned w16 z → low ≡ of_z w16 z % 256 → top ≡ of_z w16 z / 256 → to_z w16 (low + 256 * top) ≡ z
of_bytes z low top fits is_low is_top = let whole : low + 256 * top ≡ of_z w16 z = omega arith in ap (to_z w16) whole ∙ to_z-of_z w16 z fits

pub returns : goal.returns
returns c =
    let t0 : ℤ = c.args.products.now.oldest in
    let t1 : ℤ = c.args.products.now.older in
    let t2 : ℤ = c.args.products.now.newer in
    let t3 : ℤ = c.args.products.now.newest in
    let f0 : FitsSigned w16 t0 = search rules in
    let f1 : FitsSigned w16 t1 = search rules in
    let f2 : FitsSigned w16 t2 = search rules in
    let f3 : FitsSigned w16 t3 = search rules in
    let long : length c.args.self.now.bytes ≡ 8 = search rules in
    let l0 : c.low_byte.result ≡ of_z w16 t0 % 256 = search rules in
    let h0 : c.top_byte.result ≡ of_z w16 t0 / 256 = search rules in
    let l1 : c.low_byte-2.result ≡ of_z w16 t1 % 256 = search rules in
    let h1 : c.top_byte-2.result ≡ of_z w16 t1 / 256 = search rules in
    let l2 : c.low_byte-3.result ≡ of_z w16 t2 % 256 = search rules in
    let h2 : c.top_byte-3.result ≡ of_z w16 t2 / 256 = search rules in
    let l3 : c.low_byte-4.result ≡ of_z w16 t3 % 256 = search rules in
    let h3 : c.top_byte-4.result ≡ of_z w16 t3 / 256 = search rules in
    rw (
      eight _ _ _ _ _ _ _ _ _ long,
      of_bytes t0 _ _ f0 l0 h0,
      of_bytes t1 _ _ f1 l1 h1,
      of_bytes t2 _ _ f2 l2 h2,
      of_bytes t3 _ _ f3 l3 h3,
    ) refl
