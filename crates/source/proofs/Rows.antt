-- What a row of the due book keeps. Assumes nothing.
use Rattle.std.proofs.Common.{◌≡◌, ℕ, ◌+◌, ◌-◌, ◌*◌, ◌<◌, ◌≤◌, true, ◌&&◌, ltb, leb, List, ap, ⊎_elim, mul-le-mul, mul-le-mul_left, mul-add, arith}
use Rattle.std.proofs.lemmas.Bool.{cases_lt, and_parts, leb-true, lt-ltb, le-ltb, cond-true, cond-false}
use Rattle.cost.specs.Amounts.{whole}
use Rattle.cost.specs.Convex.{Convex}
use Rattle.source.specs.Meaning.{Sound, Lawful}
use Rattle.source.specs.Due.{row_lawful, due_penalty, due_curve, due_meaning, DueConvex}
use Rattle.source.proofs.Entries.{book_lawful}
use Rattle.source.specs.declared.due.DueRow.{DueRow}

module _ (r : DueRow) where
  pen_early : (t : ℕ) → t < r.due → due_penalty r t ≡ r.early * (r.due - t)
  pen_early t h = cond-true (ltb t r.due) _ _ (lt-ltb t r.due h)

  pen_late : (t : ℕ) → r.due ≤ t → due_penalty r t ≡ r.late * (t - r.due)
  pen_late t h = cond-false (ltb t r.due) _ _ (le-ltb t r.due h)

  over_early : (t : ℕ) → r.early * (r.due - t) ≤ due_penalty r t
  over_early t = ⊎_elim (λ h. omega (arith, pen_early t h)) (λ h. let z : r.early * (r.due - t) ≡ r.early * 0 = ap (λ (n : ℕ). r.early * n) (omega arith) in omega arith) (cases_lt t r.due)

  over_late : (t : ℕ) → r.late * (t - r.due) ≤ due_penalty r t
  over_late t = ⊎_elim (λ h. let z : r.late * (t - r.due) ≡ r.late * 0 = ap (λ (n : ℕ). r.late * n) (omega arith) in omega arith) (λ h. omega (arith, pen_late t h)) (cases_lt t r.due)

  twice : (w a b c : ℕ) → b + b ≤ a + c → w * b + w * b ≤ w * a + w * c
  twice w a b c h = omega (arith, mul-le-mul_left w h, mul-add w b b, mul-add w a c)

  bent : (t : ℕ) → due_penalty r (t + 1) + due_penalty r (t + 1) ≤ due_penalty r t + due_penalty r (t + 2)
  bent t =
      ⊎_elim
      (λ h. omega (arith, pen_early (t + 1) h, over_early t, over_early (t + 2), twice r.early (r.due - t) (r.due - (t + 1)) (r.due - (t + 2)) (omega arith)))
      (λ h. omega (arith, pen_late (t + 1) h, over_late t, over_late (t + 2), twice r.late (t - r.due) ((t + 1) - r.due) ((t + 2) - r.due) (omega arith)))
      (cases_lt (t + 1) r.due)

  bent_law : (a b : ℕ) → Convex whole (due_penalty r) a b
  bent_law a b t h k = le-ltb (due_penalty r t + due_penalty r (t + 2)) (due_penalty r (t + 1) + due_penalty r (t + 1)) (bent t)

  module _ (ok : row_lawful r ≡ true) where
    p0 : (leb r.first r.last ≡ true) × ((leb r.last 1440 && (leb r.due 1440 && (leb r.early 1000 && leb r.late 1000))) ≡ true)
    p0 = and_parts _ _ ok

    p1 : (leb r.last 1440 ≡ true) × ((leb r.due 1440 && (leb r.early 1000 && leb r.late 1000)) ≡ true)
    p1 = and_parts _ _ p0.1

    p2 : (leb r.due 1440 ≡ true) × ((leb r.early 1000 && leb r.late 1000) ≡ true)
    p2 = and_parts _ _ p1.1

    p3 : (leb r.early 1000 ≡ true) × (leb r.late 1000 ≡ true)
    p3 = and_parts _ _ p2.1

    low : (t : ℕ) → t ≤ r.last → due_penalty r t ≤ 2097152
    low t h =
        let l : t ≤ 1440 = omega (arith, leb-true _ _ p1.0) in
        let d : r.due ≤ 1440 = leb-true _ _ p2.0 in
        ⊎_elim
        (λ k. omega (arith, pen_early t k, mul-le-mul {n₁ = r.early} {m₁ = r.due - t} {n₂ = 1000} {m₂ = 1440} (leb-true _ _ p3.0) (omega arith)))
        (λ k. omega (arith, pen_late t k, mul-le-mul {n₁ = r.late} {m₁ = t - r.due} {n₂ = 1000} {m₂ = 1440} (leb-true _ _ p3.1) (omega arith)))
        (cases_lt t r.due)

    row_sound : Sound whole 2097152 (due_curve r)
    row_sound = record {
      order = leb-true _ _ p0.0;
      day = leb-true _ _ p1.0;
      convex = bent_law r.first r.last;
      small = λ t h k. low t k;
    }

pub due_convex : DueConvex
due_convex r a b = bent_law r a b

pub due_lawful : (rows : List DueRow) → Lawful whole (due_meaning rows)
due_lawful rows = book_lawful row_lawful due_curve rows row_sound
