-- The lines of the stops, cut at a place. Assumes nothing.
use Rattle.std.proofs.Common.{◌≡◌, ℕ, ◌+◌, ◌<◌, ◌≤◌, List, [], ◌∷◌, ◌++◌, length, get_or, take, drop, Some, None, ap, ◌∙◌, subst, arith}
use Rattle.std.proofs.lemmas.List.{append_assoc, take_more}
use Rattle.std.proofs.lemmas.Grind.{common_steps}
use Rattle.cost.specs.Targets.{TargetModel, Puts}
use Rattle.cost.proofs.Pieces.{puts_then, puts_stop}
use Rattle.route.specs.declared.stop.Facts.{Facts}
use Rattle.report.specs.Reports.{count_line, stop_line, stop_lines}

pub lines_append : (xs ys : List Facts) (i : ℕ) → stop_lines i (xs ++ ys) ≡ stop_lines i xs ++ stop_lines (i + length xs) ys
lines_append [] ys i = ap (λ (n : ℕ). stop_lines n ys) (omega arith)
lines_append (x ∷ xs) ys i = grind (arith, common_steps, lines_append xs ys (i + 1))

-- the lines of the first i stops, and those of the others
pub lines_cut : (fs : List Facts) (i : ℕ) → i ≤ length fs → stop_lines 1 (take i fs) ++ stop_lines (i + 1) (drop i fs) ≡ stop_lines 1 fs
lines_cut fs i h = grind (arith, common_steps, lines_append (take i fs) (drop i fs) 1)

-- one more line
pub lines_more : (fs : List Facts) (i : ℕ) (d : Facts) → i < length fs → stop_lines 1 (take i fs) ++ stop_line (i + 1) (get_or fs i d) ≡ stop_lines 1 (take (i + 1) fs)
lines_more fs i d h = grind (arith, common_steps, lines_append (take i fs) (get_or fs i d ∷ []) 1, take_more fs i d)

-- the lines of the first i stops, one more, and those of the others
pub lines_rest : (fs : List Facts) (i : ℕ) (d : Facts) → i < length fs → (stop_lines 1 (take i fs) ++ stop_line (i + 1) (get_or fs i d)) ++ stop_lines (i + 1 + 1) (drop (i + 1) fs) ≡ stop_lines 1 fs
lines_rest fs i d h = ap (λ (l : List ℕ). l ++ stop_lines (i + 1 + 1) (drop (i + 1) fs)) (lines_more fs i d h) ∙ lines_cut fs (i + 1) (omega arith)

-- the line of the count of these stops, and the lines of the first i of them
abbrev pub so_far : List Facts → ℕ → List ℕ
so_far fs i = count_line (length fs) ++ stop_lines 1 (take i fs)

module _ {T : Type 0} {M : TargetModel T} (fs : List Facts) where
  -- the line of the count does not fit
  pub count_full : {x y : T} → Puts M (count_line (length fs)) x y None → Puts M (count_line (length fs) ++ stop_lines 1 fs) x y None
  count_full p = puts_stop (stop_lines 1 fs) p

  -- one more line is taken
  pub stops_more : (i : ℕ) (d : Facts) {x y z : T} → i < length fs → Puts M (so_far fs i) x y (Some tt) → Puts M (stop_line (i + 1) (get_or fs i d)) y z (Some tt) → Puts M (so_far fs (i + 1)) x z (Some tt)
  stops_more i d {x} {y} {z} h p q =
      let front = count_line (length fs) in
      subst (λ (text : List ℕ). Puts M text x z (Some tt)) (append_assoc front (stop_lines 1 (take i fs)) (stop_line (i + 1) (get_or fs i d)) ∙ ap (λ (l : List ℕ). front ++ l) (lines_more fs i d h)) (puts_then p q)

  -- one more line does not fit
  pub stops_full : (i : ℕ) (d : Facts) {x y z : T} → i < length fs → Puts M (so_far fs i) x y (Some tt) → Puts M (stop_line (i + 1) (get_or fs i d)) y z None → Puts M (count_line (length fs) ++ stop_lines 1 fs) x z None
  stops_full i d {x} {y} {z} h p q =
      let front = count_line (length fs) in
      let here = stop_line (i + 1) (get_or fs i d) in
      let rest = stop_lines (i + 1 + 1) (drop (i + 1) fs) in
      subst (λ (text : List ℕ). Puts M text x z None)
      (ap (λ (l : List ℕ). l ++ rest) (append_assoc front (stop_lines 1 (take i fs)) here) ∙ append_assoc front (stop_lines 1 (take i fs) ++ here) rest ∙ ap (λ (l : List ℕ). front ++ l) (lines_rest fs i d h))
      (puts_stop rest (puts_then p q))
