-- What takes text, and what a put does to it. Assumes nothing.
use Rattle.std.specs.Prelude.{◌≡◌, ℕ, ◌+◌, ◌<◌, ◌≤◌, List, [], ◌++◌, length, Some, None, Option}

pub record TargetModel (T : Type 0) : Type 0 where
  -- the place after the bytes taken so far, and the place past which no byte fits
  pub at : T → ℕ
  pub size : T → ℕ
  -- what a target is once it has taken these bytes
  pub after : T → List ℕ → T
  pub ends : (x : T) (xs : List ℕ) → at (after x xs) ≡ at x + length xs
  pub keeps : (x : T) (xs : List ℕ) → size (after x xs) ≡ size x
  pub stays : (x : T) → after x [] ≡ x
  -- one piece after another is taken as both in one
  pub joins : (x : T) (xs ys : List ℕ) → after (after x xs) ys ≡ after x (xs ++ ys)

-- y is what x is once it has taken a front of the text
abbrev pub Front : {T : Type 0} → TargetModel T → List ℕ → T → T → Type 0
Front M text x y = (front : List ℕ) × (rest : List ℕ) × (text ≡ front ++ rest) × (y ≡ M.after x front)

-- a text put into the target x, which is then y: it has taken the bytes, or they run past its size and it has taken a
-- front of them
pub record Puts {T : Type 0} (M : TargetModel T) (text : List ℕ) (x y : T) (r : Option (Unit {0})) : Type 0 where
  pub took : r ≡ Some tt → (M.at x + length text ≤ M.size x) × (y ≡ M.after x text)
  pub full : r ≡ None → (M.size x < M.at x + length text) × Front M text x y
