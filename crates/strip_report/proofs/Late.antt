-- The rows by promise have the windows of the rows by money, if every row is lawful.
use Rattle.std.proofs.Common.{◌≡◌, ℕ, zero, suc, ◌≤◌, min, max, Bool, true, false, cond, ◌&&◌, ltb, leb, List, [], ◌∷◌, map, Some, None, Option, sym, refl, ap, ◌∙◌, arith}
use Rattle.std.specs.Option.{option_map}
use Rattle.std.specs.List.{slice_get}
use Rattle.std.proofs.lemmas.Bool.{leb-true, le-leb, cond-true}
use Rattle.source.specs.declared.due.DueRow.{DueRow}
use Rattle.source.specs.Meaning.{span_of}
use Rattle.source.specs.Books.{only_if}
use Rattle.source.specs.Due.{row_lawful, lateness, due_curve, due_meaning}
use Rattle.source.specs.Layers.{common}
use Rattle.route.proofs.Windows.{SameWindows}
use Rattle.reader.specs.Spelling.{Rows}
use Rattle.strip_report.specs.Printed.{promised}

-- each row that there is, is lawful
abbrev pub AllLawful : List DueRow → Type 0
AllLawful rows = (k : ℕ) (row : DueRow) → slice_get rows k ≡ Some row → row_lawful row ≡ true

none_some : {A : Type 0} (x : A) → ◌≡◌ {A = Option A} None (Some x) → ⊥
none_some x e = let z : ◌≡◌ {A = ℕ} 0 1 = cc in omega arith

pub all_lawful : (rows : List DueRow) (records : List ℕ) → Rows rows records → AllLawful rows
all_lawful [] records none k row e = absurd (none_some row e)
all_lawful (x ∷ rows) records (front, back, spelled, lawful, rest, written) zero row e = let same : x ≡ row = cc in ap row_lawful (sym same) ∙ lawful
all_lawful (x ∷ rows) records (front, back, spelled, lawful, rest, written) (suc k) row e = all_lawful rows back rest k row e

nth_late : (rows : List DueRow) (k : ℕ) → slice_get (map lateness rows) k ≡ option_map lateness (slice_get rows k)
nth_late [] k = refl
nth_late (x ∷ rows) zero = refl
nth_late (x ∷ rows) (suc k) = nth_late rows k

first_three : (a b c d : Bool) → (a && (b && (c && d))) ≡ true → (a && (b && (c && true))) ≡ true
first_three true true true d e = refl
first_three true true false d e = e
first_three true false c d e = e
first_three false b c d e = e

first_one : (a b : Bool) → (a && b) ≡ true → a ≡ true
first_one true b e = refl
first_one false b e = e

late_lawful : (row : DueRow) → row_lawful row ≡ true → row_lawful (lateness row) ≡ true
late_lawful row e = first_three (leb row.first row.last) (leb row.last 1440) (leb row.due 1440) (leb row.early 1000 && leb row.late 1000) e

-- the common minutes of a row's two curves
common_span : (row : DueRow) → row_lawful row ≡ true → span_of (common (Some (due_curve (lateness row))) (Some (due_curve row))) ≡ Some (row.first, row.last)
common_span row e =
    let h : row.first ≤ row.last = leb-true row.first row.last (first_one (leb row.first row.last) _ e) in
    let a : max row.first row.first ≡ row.first = omega arith in
    let b : min row.last row.last ≡ row.last = omega arith in
    let t : leb (max row.first row.first) (min row.last row.last) ≡ true = le-leb _ _ (omega arith) in
    ap span_of (cond-true (leb (max row.first row.first) (min row.last row.last)) (Some (record { first = max row.first row.first; last = min row.last row.last; cost = λ t. ((due_curve (lateness row)).cost t, (due_curve row).cost t) })) None t)
    ∙ ap (λ (x : ℕ). Some (x, min row.last row.last)) a ∙ ap (λ (x : ℕ). Some (row.first, x)) b

entry_same : (o : Option DueRow) → ((row : DueRow) → o ≡ Some row → row_lawful row ≡ true)
    → span_of (common (option_map due_curve (only_if row_lawful (option_map lateness o))) (option_map due_curve (only_if row_lawful o))) ≡ span_of (option_map due_curve (only_if row_lawful o))
entry_same None all = refl
entry_same (Some row) all =
    let e = all row refl in
    let l = late_lawful row e in
    rw (e, l) (common_span row e)

at_curve : (rows : List DueRow) (k : ℕ) (b : Bool) → AllLawful rows
    → span_of (common (option_map due_curve (only_if row_lawful (cond b (slice_get (map lateness rows) k) None))) (option_map due_curve (only_if row_lawful (cond b (slice_get rows k) None)))) ≡ span_of (option_map due_curve (only_if row_lawful (cond b (slice_get rows k) None)))
at_curve rows k true all =
    ap (λ (o : Option DueRow). span_of (common (option_map due_curve (only_if row_lawful o)) (option_map due_curve (only_if row_lawful (slice_get rows k))))) (nth_late rows k)
    ∙ entry_same (slice_get rows k) (λ row e. all k row e)
at_curve rows k false all = refl

pub late_windows : (rows : List DueRow) → AllLawful rows → SameWindows (promised rows) (due_meaning rows)
late_windows rows all k = at_curve rows k (ltb k 64) all
