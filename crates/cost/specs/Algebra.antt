-- What a cost kind is: exact costs with a sum, an order, a nought and a size, and their laws. Assumes nothing.
use Rattle.std.specs.Prelude.{◌≡◌, ℕ, zero, suc, ◌+◌, ◌≤◌, Bool, true, false}

pub record Algebra (E : Type 0) : Type 0 where
  pub nought : E
  pub plus : E → E → E
  -- the order; a test, since every kind can compare two of its costs
  pub less : E → E → Bool
  pub size : E → ℕ
  -- the sum is commutative and associative, and nought is neutral
  pub plus_comm : (a b : E) → plus a b ≡ plus b a
  pub plus_assoc : (a b c : E) → plus (plus a b) c ≡ plus a (plus b c)
  pub nought_plus : (a : E) → plus nought a ≡ a
  -- the order is strict, total and transitive
  pub strict : (a : E) → less a a ≡ false
  pub total : (a b : E) → less a b ≡ false → less b a ≡ false → a ≡ b
  pub trans : (a b c : E) → less a b ≡ true → less b c ≡ true → less a c ≡ true
  -- the sum keeps the order
  pub shift : (a b c : E) → less a b ≡ true → less (plus a c) (plus b c) ≡ true
  -- nought has size 0, and a sum has at most the two sizes added
  pub size_nought : size nought ≡ 0
  pub size_plus : (a b : E) → size (plus a b) ≤ size a + size b

-- a is less than b
abbrev pub Less : {E : Type 0} → Algebra E → E → E → Type 0
Less K a b = K.less a b ≡ true

-- a is at most b: b is not less than a
abbrev pub Most : {E : Type 0} → Algebra E → E → E → Type 0
Most K a b = K.less b a ≡ false

-- the w-fold of a: the sum of w copies of a
abbrev pub fold : {E : Type 0} → Algebra E → ℕ → E → E
fold K zero a = K.nought
fold K (suc w) a = K.plus a (fold K w a)
