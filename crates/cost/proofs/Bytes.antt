-- Bytes written over a buffer. Assumes nothing.
use Rattle.std.specs.Prelude.{◌≡◌, ℕ, ◌+◌, ◌-◌, ◌≤◌, List, [], ◌∷◌, length, drop, nat_le, slice_set}
use Rattle.std.proofs.Common.{ap, ◌∙◌, arith}
use Rattle.std.proofs.lemmas.Bool.{cond-true, le-leb}
use Rattle.std.proofs.lemmas.List.{take-append-drop, take_more_set, drop-set-lt, drop-drop}
use Rattle.std.proofs.lemmas.Grind.{common_steps}
use borrow.Rule.Slice.PartMut.{put_mid}
use Rattle.cost.specs.Texts.{put, laid}

pub laid_fits : (buf : List ℕ) (at : ℕ) (text : List ℕ) → at + length text ≤ length buf → laid buf at text ≡ put buf at text
laid_fits buf at text h = cond-true (nat_le (at + length text) (length buf)) (put buf at text) buf (le-leb (at + length text) (length buf) h)

-- bytes written one by one are the part between what stays before and what stays after them
put_part : (xs buf : List ℕ) (at : ℕ) → at + length xs ≤ length buf → put_mid at (length xs) buf xs ≡ put buf at xs
put_part [] buf at h = take-append-drop at buf
put_part (x ∷ xs) buf at h =
    grind (arith, common_steps, put_part xs (slice_set buf at x) (at + 1), take_more_set buf at x, drop-set-lt (at + 1) buf at x, drop-drop (length xs) 1 (drop at buf), drop-drop 1 at buf)

-- a part of a buffer that now holds bytes of its length
pub put_range : (buf xs ys : List ℕ) (at end : ℕ) → end ≡ at + length xs → end ≤ length buf → ys ≡ xs → put_mid at (end - at) buf ys ≡ put buf at xs
put_range buf xs ys at end e h same =
    let wide : end - at ≡ length xs = omega arith in
    ap (λ (n : ℕ). put_mid at n buf ys) wide ∙ ap (put_mid at (length xs) buf) same ∙ put_part xs buf at (omega arith)
