-- Amounts: whole numbers are a lawful kind of exact costs, of which an amount holds those up to 2^50. Assumes nothing.
use Rattle.std.specs.Prelude.{◌≡◌, ℕ, ◌+◌, ◌^◌, ◌≤◌, min, true, false, nat_lt, refl}
use Rattle.std.proofs.Common.{arith, ltb-true, ltb-false, lt-ltb, le-ltb}
use Rattle.cost.specs.Algebra.{Algebra}

-- the laws of whole numbers
pub whole_comm : (a b : ℕ) → a + b ≡ b + a
whole_comm a b = omega arith

pub whole_assoc : (a b c : ℕ) → (a + b) + c ≡ a + (b + c)
whole_assoc a b c = omega arith

pub whole_nought_plus : (a : ℕ) → 0 + a ≡ a
whole_nought_plus a = omega arith

pub whole_strict : (a : ℕ) → nat_lt a a ≡ false
whole_strict a = le-ltb a a (omega arith)

pub whole_total : (a b : ℕ) → nat_lt a b ≡ false → nat_lt b a ≡ false → a ≡ b
whole_total a b h k = omega (arith, ltb-false a b h, ltb-false b a k)

pub whole_trans : (a b c : ℕ) → nat_lt a b ≡ true → nat_lt b c ≡ true → nat_lt a c ≡ true
whole_trans a b c h k = lt-ltb a c (omega (arith, ltb-true a b h, ltb-true b c k))

pub whole_shift : (a b c : ℕ) → nat_lt a b ≡ true → nat_lt (a + c) (b + c) ≡ true
whole_shift a b c h = lt-ltb (a + c) (b + c) (omega (arith, ltb-true a b h))

pub whole_size : (a b : ℕ) → a + b ≤ a + b
whole_size a b = omega arith

abbrev pub whole : Algebra ℕ
whole = record {
  nought = 0;
  plus = λ a b. a + b;
  less = nat_lt;
  size = λ a. a;
  plus_comm = whole_comm;
  plus_assoc = whole_assoc;
  nought_plus = whole_nought_plus;
  strict = whole_strict;
  total = whole_total;
  trans = whole_trans;
  shift = whole_shift;
  size_nought = refl;
  size_plus = whole_size;
}

-- what stands for a whole number: itself up to 2^50, and 2^50 past it
abbrev pub capped : ℕ → ℕ
capped n = min n (2 ^ 50)
