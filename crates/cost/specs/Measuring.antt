-- Targets that count bytes. Assumes nothing.
use Rattle.std.specs.Prelude.{◌≡◌, ℕ, ◌+◌, List, [], ◌++◌, length, refl}
use Rattle.std.proofs.Common.{ap, arith, length-append}
use Rattle.cost.specs.Targets.{TargetModel}
use Rattle.cost.specs.declared.target.Measure.{Measure}

-- the bytes are counted
abbrev pub counted : Measure → List ℕ → Measure
counted x xs = record { at = x.at + length xs; size = x.size }

pub counted_none : (x : Measure) → counted x [] ≡ x
counted_none x = ap (λ (n : ℕ). record { at = n; size = x.size }) (omega arith)

pub counted_joins : (x : Measure) (xs ys : List ℕ) → counted (counted x xs) ys ≡ counted x (xs ++ ys)
counted_joins x xs ys = ap (λ (n : ℕ). record { at = n; size = x.size }) (omega (arith, length-append xs ys))

abbrev pub measuring : TargetModel Measure
measuring = record {
  at = λ m. m.at;
  size = λ m. m.size;
  after = counted;
  ends = λ x xs. refl;
  keeps = λ x xs. refl;
  stays = counted_none;
  joins = counted_joins;
}
