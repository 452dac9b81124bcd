-- How long the text of a pair is. Assumes nothing.
use Rattle.std.specs.Prelude.{◌≡◌, ℕ, ◌+◌, List, length}
use Rattle.std.proofs.Common.{arith, length-append}
use Rattle.cost.specs.Texts.{spaced}

pub len_spaced : (xs ys : List ℕ) → length (spaced xs ys) ≡ (length xs + 1) + length ys
len_spaced xs ys = simp length-append (omega arith)
