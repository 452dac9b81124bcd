-- Marks read from the table and written back.
use Rattle.std.proofs.Common.{◌≡◌, ℕ, ◌≤◌, List, [], ◌∷◌, length, take, refl, ap, arith}
use Rattle.route.specs.declared.stop.Stop.{Stop}
use Rattle.route.specs.Plain.{Plain}
use Rattle.route.specs.Table.{plain, plains, marks}
use Rattle.route.specs.Calls.{remarked}

pub plains_remarked : (ss : List Stop) (ms : List ℕ) → plains (remarked ss ms) ≡ plains ss
plains_remarked [] ms = refl
plains_remarked (s ∷ ss) [] = refl
plains_remarked (s ∷ ss) (t ∷ ms) = ap (λ (l : List Plain). plain s ∷ l) (plains_remarked ss ms)

pub marks_remarked : (ss : List Stop) (ms : List ℕ) → length ss ≤ length ms → marks (remarked ss ms) ≡ take (length ss) ms
marks_remarked [] ms h = refl
marks_remarked (s ∷ ss) [] h = absurd (omega arith)
marks_remarked (s ∷ ss) (t ∷ ms) h = ap (λ (l : List ℕ). t ∷ l) (marks_remarked ss ms (omega arith))
