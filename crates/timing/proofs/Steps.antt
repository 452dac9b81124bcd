-- The stops up to j with the last first are stop j, then those before it. Assumes nothing.
use Rattle.std.proofs.Common.{◌≡◌, ℕ, suc, ◌+◌, ◌-◌, ◌<◌, min, max, List, [], ◌∷◌, reverse, length, get_or, take, sym, ap, ◌∙◌, ap₂, add-one}
use Rattle.std.proofs.lemmas.List.{take_more, reverse-append}
use Rattle.cost.specs.Algebra.{Algebra}
use Rattle.timing.specs.Visits.{Visit}
use Rattle.timing.specs.Back.{reach, fill, cost}

pub reverse_take : {A : Type 0} (xs : List A) (j : ℕ) (d : A) → j < length xs → reverse (take (suc j) xs) ≡ get_or xs j d ∷ reverse (take j xs)
reverse_take xs j d h =
    ap (λ n. reverse (take n xs)) (sym (add-one j)) ∙ ap reverse (take_more xs j d h) ∙ reverse-append (take j xs) (get_or xs j d ∷ [])

-- the loops of a program, by index
module _ {E : Type 0} (vs : List (Visit E)) (j : ℕ) (d : Visit E) (h : j < length vs) where
  pub reach_step : reach (reverse (take (suc j) vs)) ≡ max (get_or vs j d).first (reach (reverse (take j vs)) + (get_or vs j d).leg)
  reach_step = ap reach (reverse_take vs j d h)

  pub fill_step : (ms : List ℕ) (u : ℕ) → j < length ms →
      fill (reverse (take (suc j) vs)) (reverse (take (suc j) ms)) u ≡ min (get_or ms j 0) u ∷ fill (reverse (take j vs)) (reverse (take j ms)) (min (get_or ms j 0) u - (get_or vs j d).leg)
  fill_step ms u k = ap₂ (λ a b. fill a b u) (reverse_take vs j d h) (reverse_take ms j 0 k)

  pub cost_step : (K : Algebra E) (ms : List ℕ) (u : ℕ) → j < length ms →
      cost K (reverse (take (suc j) vs)) (reverse (take (suc j) ms)) u ≡ K.plus ((get_or vs j d).price (min (get_or ms j 0) u)) (cost K (reverse (take j vs)) (reverse (take j ms)) (min (get_or ms j 0) u - (get_or vs j d).leg))
  cost_step K ms u k = ap₂ (λ a b. cost K a b u) (reverse_take vs j d h) (reverse_take ms j 0 k)
