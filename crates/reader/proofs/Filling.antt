-- A buffer filled from its front by reads, one after another: what stands in front is what the input gave.
use Rattle.std.proofs.Common.{◌≡◌, ℕ, ◌+◌, ◌-◌, ◌≤◌, List, ◌++◌, Option, arith, length, take, slice_range, sym, ap, ◌∙◌, subst, le_refl, drop_at, length-take-le}
use Rattle.std.proofs.lemmas.Slice.{take-put_mid_below}
use Rattle.std.specs.Io.KnownBytes.{Consumes}
use Rattle.std.proofs.KnownBytes.{Consumes-trans}
use borrow.Rule.Slice.PartMut.{put_mid, post_of}
use lib.Seq.{take-add, take-append-le}

-- the front of a list, and what stands after it up to b
front_then : (a b : ℕ) (old new : List ℕ) → a ≤ b → take a new ≡ take a old → take a old ++ slice_range new a b ≡ take b new
front_then a b old new h front =
    let same : a + (b - a) ≡ b = omega arith in
    ap (λ l. l ++ slice_range new a b) (sym front) ∙ sym (take-add a (b - a) new) ∙ ap (λ n. take n new) same

-- what stands in a part that was put at a
part_at : (a k n : ℕ) (xs ys : List ℕ) → a ≤ length xs → n ≤ length ys → slice_range (put_mid a k xs ys) a (a + n) ≡ take n ys
part_at a k n xs ys within fits =
    let same : (a + n) - a ≡ n = omega arith in
    let after = post_of a k xs in
    ap (take ((a + n) - a)) (drop_at (take a xs) (ys ++ after) a (length-take-le a xs within)) ∙ ap (λ m. take m (ys ++ after)) same ∙ take-append-le n ys after fits

-- a read of n bytes into the part of the buffer behind its first f
pub filled_more : (a b c : Option (List ℕ)) (xs ys : List ℕ) (f k n : ℕ) → f ≤ length xs → n ≤ length ys
    → Consumes a b (take f xs) → Consumes b c (take n ys) → Consumes a c (take (f + n) (put_mid f k xs ys))
filled_more a b c xs ys f k n within fits before read =
    let part = part_at f k n xs ys within fits in
    let joined = front_then f (f + n) xs (put_mid f k xs ys) (omega arith) (take-put_mid_below _ _ _ _ _ (le_refl _) within) in
    subst (Consumes a c) (ap (λ l. take f xs ++ l) (sym part) ∙ joined) (Consumes-trans a b c _ _ before read)
