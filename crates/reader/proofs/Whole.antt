-- What comes of an input that fills a buffer: as much of it as the buffer holds.
use Rattle.std.proofs.Common.{◌≡◌, ℕ, ◌<◌, ◌≤◌, List, ◌++◌, Some, None, Ok, Err, Option, Result, length, take, append-nil, sym, ap, ◌∙◌, arith}
use Rattle.std.specs.Prelude.{IfSome, OnErr}
use Rattle.std.specs.Io.KnownBytes.{Consumes, IsAtEnd}
use Rattle.std.proofs.lemmas.List.{length-take, take_all, take-append-le}
use native.Mathlib.Decide.{dec_le}

-- what came is consumed, and is all there was where it is less than most: then it is as much of the input as most bytes
pub whole_front : (before after : Option (List ℕ)) (came : List ℕ) (most : ℕ) → length came ≤ most → Consumes before after came → (length came < most → IsAtEnd after) → IfSome before (λ xs. came ≡ take most xs)
whole_front None after came most fits used end = tt
whole_front (Some xs) None came most fits used end = absurd used
whole_front (Some xs) (Some ys) came most fits used end = sym (ap (take most) used ∙ elim (dec_le most (length came)) [
  | yes h ↦ take-append-le most came ys h ∙ take_all most came fits
  | no h ↦ ap (λ l. take most (came ++ l)) (end (omega arith)) ∙ ap (take most) (append-nil came) ∙ take_all most came fits
])

-- what an error leaves at the front of the buffer is all that is gone from the input
pub kept_short : {T E : Type 0} (r : Result T E) (before after : Option (List ℕ)) (old new : List ℕ) → ((k : ℕ) × (k ≤ length old) × Consumes before after (take k new)) → length old ≤ 4097
    → OnErr r ((bs : List ℕ) × (length bs ≤ 4097) × Consumes before after bs)
kept_short (Ok x) before after old new gone short = tt
kept_short (Err e) before after old new (k, fits, used) short = (take k new, omega (arith, length-take k new), used)
