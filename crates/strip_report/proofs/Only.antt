-- What is printed of a strip: both routes answer its calls alike, and nothing else can be printed.
use Rattle.std.proofs.Common.{◌≡◌, ℕ, List, [], map, length, Ok, Err, decimal, Result, sym, ap, ◌∙◌, subst}
use Rattle.cost.specs.Algebra.{Algebra}
use Rattle.cost.specs.Amounts.{whole}
use Rattle.cost.specs.Pairs.{paired}
use Rattle.source.specs.declared.due.DueRow.{DueRow}
use Rattle.source.specs.Meaning.{Meaning}
use Rattle.source.specs.Due.{due_meaning}
use Rattle.route.specs.declared.stop.Facts.{Facts}
use Rattle.route.specs.Guarantee.{told}
use Rattle.route.proofs.Uniqueness.{read_same}
use Rattle.report.specs.Reports.{report_text}
use Rattle.reader.specs.declared.faults.Fault.{Fault}
use Rattle.reader.specs.declared.rows.RowsRead.{RowsRead}
use Rattle.reader.specs.FaultLine.{fault_line}
use Rattle.reader.specs.Reading.{rows_answer, strip_answer}
use Rattle.reader.specs.Running.{begin}
use Rattle.reader.specs.CallLaws.{answers_in}
use Rattle.reader.proofs.Fronts.{Front, front, alone_by}
use Rattle.reader.proofs.SameCalls.{calls_same, calls_one}
use Rattle.strip_report.specs.Shown.{StripReport}
use Rattle.strip_report.specs.Printed.{promised, both, strip_text, Reports, PrintedBy, PrintsOnly}
use Rattle.strip_report.proofs.Late.{AllLawful, all_lawful, late_windows}

module _ {E : Type 0} (K : Algebra E) (text : E → List ℕ) (m : Meaning E) (strip : List ℕ) (from : ℕ) where
  -- a strip is answered in one way, and has one report
  pub report_one : (r s : Result ℕ Fault) (a b : List ℕ) (x : StripReport K text m strip from r a) (y : StripReport K text m strip from s b) → (r ≡ s) × (a ≡ b) × (x.facts ≡ y.facts)
  report_one r s a b x y =
      let w = calls_one K m strip (begin from) [] r s (map told x.facts) (map told y.facts) x.read.calls y.read.calls in
      let same = read_same K m x.read.splices y.read.splices (answers_in r) (answers_in s) (length x.facts) (length y.facts) x.facts y.facts x.cost y.cost x.read.read y.read.read w.1 in
      (w.0, x.written ∙ ap (λ (fs : List Facts). report_text fs (text x.cost)) same.0 ∙ ap (λ (c : E). report_text y.facts (text c)) same.1 ∙ sym y.written, same.0)

module _ (strip : List ℕ) (rows : List DueRow) (from : ℕ) where
  -- the route by promise meets the fault of the route by money
  pub reports : (r s : Result ℕ Fault) (money promise text : List ℕ) → AllLawful rows → StripReport whole decimal (due_meaning rows) strip from r money
      → StripReport (paired whole whole) both (promised rows) strip from s promise → text ≡ strip_text money promise r → Reports strip rows from text
  reports r s money promise text all a b is =
      let there = calls_same (paired whole whole) whole (promised rows) (due_meaning rows) (late_windows rows all) strip (begin from) [] s (map told b.facts) b.read.calls in
      let same = calls_one whole (due_meaning rows) strip (begin from) [] s r (map told b.facts) (map told a.facts) there a.read.calls in
      record {
        answer = r;
        money = money;
        promise = promise;
        by_money = a;
        by_promise = subst (λ (t : Result ℕ Fault). StripReport (paired whole whole) both (promised rows) strip from t promise) same.0 b;
        written = is;
      }

  reports_one : (a b : List ℕ) → Reports strip rows from a → Reports strip rows from b → a ≡ b
  reports_one a b x y =
      let one = report_one whole decimal (due_meaning rows) strip from x.answer y.answer x.money y.money x.by_money y.by_money in
      let two = report_one (paired whole whole) both (promised rows) strip from x.answer y.answer x.promise y.promise x.by_promise y.by_promise in
      x.written
      ∙ ap (λ (l : List ℕ). strip_text l x.promise x.answer) one.1
      ∙ ap (λ (l : List ℕ). strip_text y.money l x.answer) two.1
      ∙ ap (λ (r : Result ℕ Fault). strip_text y.money y.promise r) one.0
      ∙ sym y.written

printed_by : (strip : List ℕ) (got : RowsRead) (rows : List DueRow) (text : List ℕ) → Ok got ≡ rows_answer strip 64
    → Front strip got rows → Reports strip rows got.calls text → PrintsOnly strip text
printed_by strip got rows text answer at_front made =
    let one : (t : List ℕ) → PrintedBy strip (Ok got) t → t ≡ text = λ t (held, holds, theirs).
    reports_one strip rows got.calls t text (subst (λ (l : List DueRow). Reports strip l got.calls t) (at_front.alone held holds) theirs) made in
    let by = alone_by (PrintedBy strip) (Ok got) (rows_answer strip 64) text answer (rows, at_front.holds, made) one in
    record { printed = by.0; only = by.1 }

-- the reports of a strip that was read
pub printed_reports : (strip : List ℕ) (rows : List DueRow) (calls : ℕ) (text : List ℕ) → strip_answer strip ≡ Ok (rows, calls) → Reports strip rows calls text → PrintsOnly strip text
printed_reports strip rows calls text held made =
    let (got, answer, place, at_front) = front strip rows calls held in
    printed_by strip got rows text answer at_front (subst (λ (n : ℕ). Reports strip rows n text) (sym place) made)

-- the fault in a strip's rows
pub printed_fault : (strip : List ℕ) (f : Fault) (text : List ℕ) → rows_answer strip 64 ≡ Err f → text ≡ fault_line f → PrintsOnly strip text
printed_fault strip f text read is =
    let by = alone_by (PrintedBy strip) (Err f) (rows_answer strip 64) text (sym read) is (λ t p. p ∙ sym is) in
    record { printed = by.0; only = by.1 }

pub strip_lawful : (strip : List ℕ) (rows : List DueRow) (calls : ℕ) → strip_answer strip ≡ Ok (rows, calls) → AllLawful rows
strip_lawful strip rows calls held =
    let (got, answer, place, at_front) = front strip rows calls held in
    all_lawful rows at_front.holds.records at_front.holds.spelled
