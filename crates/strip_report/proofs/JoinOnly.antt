-- What is printed of a join, and that nothing else can be.
use Rattle.std.proofs.Common.{◌≡◌, ◌++◌, ℕ, ◌+◌, ◌-◌, min, List, [], ◌∷◌, map, length, take, drop, Ok, Err, decimal, Result, sym, refl, ap, ◌∙◌, subst, arith, length-append}
use Rattle.std.proofs.lemmas.List.{length-map, length-take, length-drop}
use Rattle.cost.specs.Amounts.{whole}
use Rattle.source.specs.declared.due.DueRow.{DueRow}
use Rattle.source.specs.Due.{due_meaning}
use Rattle.source.specs.Meaning.{Meaning}
use Rattle.route.specs.declared.stop.Refusal.{Refusal}
use Rattle.route.specs.Plain.{Plain, releg, seen}
use Rattle.route.specs.Joins.{joined, JoinJudged}
use Rattle.route.specs.Guarantee.{told}
use Rattle.route.proofs.JoinsOne.{joined_one}
use Rattle.reader.specs.declared.faults.Fault.{Fault}
use Rattle.reader.specs.FaultLine.{fault_line}
use Rattle.reader.specs.declared.rows.RowsRead.{RowsRead}
use Rattle.reader.specs.Reading.{rows_answer, strip_answer}
use Rattle.reader.proofs.Fronts.{Front, front, alone_by}
use Rattle.strip_report.specs.Shown.{StripReport}
use Rattle.strip_report.specs.Joined.{stops_of, join_lines, join_text, JoinReports, JoinPrintedBy, JoinPrintsOnly}
use Rattle.strip_report.proofs.Only.{report_one}

length_releg : (leg : ℕ) (ps : List Plain) → length (releg leg ps) ≡ length ps
length_releg leg [] = refl
length_releg leg (p ∷ ps) = refl

-- how many stops are joined
joined_length : (m n : Meaning ℕ) (ps qs : List Plain) (i leg j : ℕ) → min i (length ps) + (length qs - (j - 1)) ≡ length (joined whole m ps i leg n qs j)
joined_length m n ps qs i leg j =
    let a = length-map (take i ps) (seen whole m) in
    let b = length-map (releg leg (drop (j - 1) qs)) (seen whole n) in
    let c = length_releg leg (drop (j - 1) qs) in
    let d = length-take i ps in
    let e = length-drop (j - 1) qs in
    simp length-append (omega arith)

-- texts of the same parts are the same
same_text : (a c b d : List ℕ) (r t s u : Result ℕ Fault) (x y : List ℕ) → a ≡ c → b ≡ d → r ≡ t → s ≡ u → x ≡ y → join_text a r b s x ≡ join_text c t d u y
same_text a c b d r t s u x y e f g h k =
    ap (λ (l : List ℕ). join_text l r b s x) e
    ∙ ap (λ (v : Result ℕ Fault). join_text c v b s x) g
    ∙ ap (λ (l : List ℕ). join_text c t l s x) f
    ∙ ap (λ (v : Result ℕ Fault). join_text c t d v x) h
    ∙ ap (λ (l : List ℕ). join_text c t d u l) k

-- three texts, by what each is
pub pieces_are : (v f g h x y z : List ℕ) → v ≡ f ++ (g ++ h) → f ≡ x → g ≡ y → h ≡ z → v ≡ x ++ (y ++ z)
pieces_are v f g h x y z e p q r = cc

module _ (strip : List ℕ) (rows : List DueRow) (from i leg : ℕ) (other : List ℕ) (more : List DueRow) (at j : ℕ) where
  pub join_reports : (r s : Result ℕ Fault) (a b text : List ℕ) (x : StripReport whole decimal (due_meaning rows) strip from r a) (y : StripReport whole decimal (due_meaning more) other at s b)
      (ps qs : List Plain) (result : Result ℕ Refusal) (n : ℕ) → ps ≡ map told x.facts → qs ≡ map told y.facts → JoinJudged whole (due_meaning rows) ps i leg (due_meaning more) qs j result
      → n ≡ min i (length ps) + (length qs - (j - 1)) → text ≡ join_text a r b s (join_lines n result) → JoinReports strip rows from i leg other more at j text
  join_reports r s a b text x y ps qs result n e f judged count is =
      let fs = map told x.facts in
      let gs = map told y.facts in
      let m = due_meaning rows in
      let k = due_meaning more in
      let there = subst (λ (l : List Plain). JoinJudged whole m fs i leg k l j result) f (subst (λ (l : List Plain). JoinJudged whole m l i leg k qs j result) e judged) in
      let many : n ≡ length (joined whole m fs i leg k gs j) =
      count ∙ ap (λ (l : List Plain). min i (length l) + (length qs - (j - 1))) e ∙ ap (λ (l : List Plain). min i (length fs) + (length l - (j - 1))) f ∙ joined_length m k fs gs i leg j in
      record {
        first = record { answer = r; report = a; told_by = x };
        second = record { answer = s; report = b; told_by = y };
        result = result;
        judged = there;
        written = is ∙ ap (λ (c : ℕ). join_text a r b s (join_lines c result)) many;
      }

  joins_one : (t u : List ℕ) → JoinReports strip rows from i leg other more at j t → JoinReports strip rows from i leg other more at j u → t ≡ u
  joins_one t u x y =
      let m = due_meaning rows in
      let k = due_meaning more in
      let a = x.first in
      let b = x.second in
      let c = y.first in
      let d = y.second in
      let one = report_one whole decimal m strip from a.answer c.answer a.report c.report a.told_by c.told_by in
      let two = report_one whole decimal k other at b.answer d.answer b.report d.report b.told_by d.told_by in
      let ps : stops_of a ≡ stops_of c = ap (map told) one.2 in
      let qs : stops_of b ≡ stops_of d = ap (map told) two.2 in
      let judged = subst (λ (l : List Plain). JoinJudged whole m (stops_of c) i leg k l j x.result) qs (subst (λ (l : List Plain). JoinJudged whole m l i leg k (stops_of b) j x.result) ps x.judged) in
      let same = joined_one whole m k (stops_of c) (stops_of d) i leg j x.result y.result judged y.judged in
      let last : join_lines (length (joined whole m (stops_of a) i leg k (stops_of b) j)) x.result ≡ join_lines (length (joined whole m (stops_of c) i leg k (stops_of d) j)) y.result =
      ap (λ (l : List Plain). join_lines (length (joined whole m l i leg k (stops_of b) j)) x.result) ps
      ∙ ap (λ (l : List Plain). join_lines (length (joined whole m (stops_of c) i leg k l j)) x.result) qs
      ∙ ap (λ (v : Result ℕ Refusal). join_lines (length (joined whole m (stops_of c) i leg k (stops_of d) j)) v) same in
      x.written
      ∙ same_text a.report c.report b.report d.report a.answer c.answer b.answer d.answer _ _ one.1 two.1 one.0 two.0 last
      ∙ sym y.written

module _ (strip : List ℕ) (i leg : ℕ) (other : List ℕ) (j : ℕ) (text : List ℕ) where
  abbrev By : Result RowsRead Fault → Result RowsRead Fault → List ℕ → Type 0
  By r s t = JoinPrintedBy strip i leg other j r s t

  -- by what reading the rows of both answered
  by_answers : (r s : Result RowsRead Fault) → r ≡ rows_answer strip 64 → s ≡ rows_answer other 64 → By r s text → ((t : List ℕ) → By r s t → t ≡ text) → JoinPrintsOnly strip i leg other j text
  by_answers r s e f printed only =
      let first = alone_by (λ v. By v s) r (rows_answer strip 64) text e printed only in
      let by = alone_by (By (rows_answer strip 64)) s (rows_answer other 64) text f first.0 first.1 in
      record { printed = by.0; only = by.1 }

  both_by : (got too : RowsRead) (rows more : List DueRow) → Ok got ≡ rows_answer strip 64 → Ok too ≡ rows_answer other 64 → Front strip got rows → Front other too more
      → JoinReports strip rows got.calls i leg other more too.calls j text → JoinPrintsOnly strip i leg other j text
  both_by got too rows more e f front back made =
      by_answers (Ok got) (Ok too) e f (rows, more, front.holds, back.holds, made)
      (λ t p.
      let (held, kept, holds, keeps, theirs) = p in
      joins_one strip rows got.calls i leg other more too.calls j t text
      (subst (λ (l : List DueRow). JoinReports strip rows got.calls i leg other l too.calls j t) (back.alone kept keeps)
      (subst (λ (l : List DueRow). JoinReports strip l got.calls i leg other kept too.calls j t) (front.alone held holds) theirs))
      made)

  -- two strips that were read
  pub both_read : (rows more : List DueRow) (calls at : ℕ) → strip_answer strip ≡ Ok (rows, calls) → strip_answer other ≡ Ok (more, at)
      → JoinReports strip rows calls i leg other more at j text → JoinPrintsOnly strip i leg other j text
  both_read rows more calls at held keeps made =
      let (got, e, place, front_rows) = front strip rows calls held in
      let (too, f, there, back_rows) = front other more at keeps in
      both_by got too rows more e f front_rows back_rows
      (subst (λ (n : ℕ). JoinReports strip rows got.calls i leg other more n j text) (sym there) (subst (λ (n : ℕ). JoinReports strip rows n i leg other more at j text) (sym place) made))

  -- the fault in the rows of the first, whatever the second's are
  fault_by : (f : Fault) (s : Result RowsRead Fault) (t : List ℕ) → t ≡ fault_line f → By (Err f) s t
  fault_by f s t is = is

  pub first_fault : (f : Fault) → rows_answer strip 64 ≡ Err f → text ≡ fault_line f → JoinPrintsOnly strip i leg other j text
  first_fault f read is = by_answers (Err f) (rows_answer other 64) (sym read) refl (fault_by f (rows_answer other 64) text is) (λ t p. p ∙ sym is)

  -- the fault in the rows of the second, where those of the first are lawful
  pub second_fault : (rows : List DueRow) (calls : ℕ) (f : Fault) → strip_answer strip ≡ Ok (rows, calls) → rows_answer other 64 ≡ Err f → text ≡ fault_line f → JoinPrintsOnly strip i leg other j text
  second_fault rows calls f held read is =
      let (got, e, place, front_rows) = front strip rows calls held in
      by_answers (Ok got) (Err f) e (sym read) is (λ t p. p ∙ sym is)
