-- A strip's rows have one text: a curve has one earliest minute of least cost.
use Rattle.std.proofs.Common.{◌≡◌, ℕ, zero, suc, List, ◌++◌, Some, Option, sym, ap, ◌∙◌, inl, inr}
use Rattle.std.proofs.lemmas.Bool.{both_ways, cases_order}
use Rattle.cost.specs.Algebra.{Algebra}
use Rattle.source.specs.declared.due.DueRow.{DueRow}
use Rattle.source.specs.Meaning.{Curve}
use Rattle.source.specs.Cheapest.{Cheapest}
use Rattle.curve_report.specs.Lines.{line_of, CurveLine, CurveLines, RowsText, rows_line}

module _ {E : Type 0} (K : Algebra E) (o : Option (Curve E)) (m n : ℕ) (x y : E) (a : Cheapest K o m x) (b : Cheapest K o n y) where
  same_price : x ≡ y
  same_price = K.total x y (b.least m x a.cost) (a.least n y b.cost)

  same_minute : m ≡ n
  same_minute =
      elim (cases_order m n) [
        | inl e ↦ e
        | inr w ↦ absurd (elim w [
          | inl before ↦ both_ways (K.less y x) (a.least n y b.cost) (b.earliest m x a.cost before)
          | inr after ↦ both_ways (K.less x y) (b.least m x a.cost) (a.earliest n y b.cost after)
        ])
      ]

same_some : (a b c d : ℕ) → ◌≡◌ {A = Option (ℕ × ℕ)} (Some (a, b)) (Some (c, d)) → (a ≡ c) × (b ≡ d)
same_some a b c d e = let whole : ◌≡◌ {A = ℕ × ℕ} (a, b) (c, d) = cc in (ap (λ (p : ℕ × ℕ). p.0) whole, ap (λ (p : ℕ × ℕ). p.1) whole)

same_line : (rows : List DueRow) (k : ℕ) (a b : List ℕ) → CurveLine rows k a → CurveLine rows k b → a ≡ b
same_line rows k a b p q =
    let window = same_some p.first p.last q.first q.last (sym p.window ∙ q.window) in
    let minute = same_minute _ _ p.minute q.minute p.price q.price p.cheapest q.cheapest in
    let price = same_price _ _ p.minute q.minute p.price q.price p.cheapest q.cheapest in
    p.written ∙ (ap (λ t. line_of k t p.last p.minute p.price) window.0
    ∙ (ap (λ t. line_of k q.first t p.minute p.price) window.1
    ∙ (ap (λ t. line_of k q.first q.last t p.price) minute
    ∙ (ap (λ t. line_of k q.first q.last q.minute t) price ∙ sym q.written))))

same_lines : (rows : List DueRow) (n : ℕ) (a b : List ℕ) → CurveLines rows n a → CurveLines rows n b → a ≡ b
same_lines rows zero a b p q = p ∙ sym q
same_lines rows (suc n) a b (s, before, (l, line, e)) (t, after, (m, other, f)) =
    e ∙ (ap (λ u. u ++ l) (same_lines rows n s t before after) ∙ (ap (λ u. t ++ u) (same_line rows n l m line other) ∙ sym f))

pub same_text : (rows : List DueRow) (n : ℕ) (a b : List ℕ) → RowsText rows n a → RowsText rows n b → a ≡ b
same_text rows n a b (s, p, e) (t, q, f) = e ∙ (ap (λ u. u ++ rows_line n) (same_lines rows n s t p q) ∙ sym f)
