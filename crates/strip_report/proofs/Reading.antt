-- What is read of a route after the calls of a strip. Assumes nothing.
use Rattle.std.proofs.Common.{◌≡◌, ℕ, List, [], length, Result, sym, refl, ap, ◌∙◌, subst, decimal, vec_items}
use Rattle.std.proofs.lemmas.List.{length-map}
use Rattle.cost.specs.Algebra.{Algebra}
use Rattle.cost.specs.Amounts.{whole}
use Rattle.source.specs.Meaning.{Meaning}
use Rattle.source.specs.Due.{due_meaning}
use Rattle.source.specs.declared.due.DueBook.{DueBook}
use Rattle.source.specs.declared.due.DueRow.{DueRow}
use Rattle.route.specs.declared.stop.Stop.{Stop}
use Rattle.route.specs.Table.{plains, Marked}
use Rattle.route.specs.Calls.{route_facts}
use Rattle.route.specs.Guarantee.{told}
use Rattle.route.proofs.Joinings.{no_marks}
use Rattle.route.proofs.Runnings.{all_told, ran}
use Rattle.reader.specs.declared.faults.Fault.{Fault}
use Rattle.reader.specs.CallLaws.{answers_in, RunsExactly}
use Rattle.reader.specs.Running.{begin, Calls}
use Rattle.reader.specs.Ran.{Ran}
use Rattle.strip_report.specs.Shown.{ReportOf, Shows}

module _ {X E : Type 0} (K : Algebra E) (text : E → List ℕ) (M : X → Meaning E) (x : X) (strip : List ℕ) (from : ℕ) where
  at_end : (us : List Stop) (r : Result ℕ Fault) (report : List ℕ) → Ran K (M x) strip from [] r us → ReportOf K text (M x) us report → Shows K text M x strip from r report x us
  at_end us r report done made =
      let fs = route_facts K (M x) us in
      let t = all_told K (M x) us in
      let st = sym t.stops in
      let right : Marked K (M x) us = done.marked (no_marks K) in
      let n : length fs ≡ length (plains us) = sym (length-map fs told) ∙ ap length t.stops in
      let w = ran K M x x us done.splices.splices (answers_in r) (length fs) fs made.cost refl done.splices.runs right t n made.best made.least in
      record {
        source = refl;
        told_by = record {
          facts = fs;
          cost = made.cost;
          read = record {
            calls = subst (Calls K (M x) strip (begin from) [] r) st done.calls;
            exact = subst (RunsExactly K (M x) strip from [] r) st done.exact;
            splices = done.splices.splices;
            read = w.read;
            steady = w.steady;
          };
          written = made.written;
        };
        stops = st;
      }

  -- with the sources and tables as the calls name them
  pub shows : (z y : X) (ts us : List Stop) (r : Result ℕ Fault) (report : List ℕ) → z ≡ x → ts ≡ [] → y ≡ z → Ran K (M z) strip from ts r us → ReportOf K text (M y) us report → Shows K text M x strip from r report y us
  shows z y ts us r report e f g done made =
      let same : y ≡ x = g ∙ e in
      let d : Ran K (M x) strip from [] r us = subst (λ (l : List Stop). Ran K (M x) strip from l r us) f (subst (λ (v : X). Ran K (M v) strip from ts r us) e done) in
      let m : ReportOf K text (M x) us report = subst (λ (v : X). ReportOf K text (M v) us report) same made in
      subst (λ (v : X). Shows K text M x strip from r report v us) (sym same) (at_end us r report d m)

-- over a due book, by its rows
pub by_rows : (rows : List DueRow) (book kept : DueBook) (strip : List ℕ) (from : ℕ) (r : Result ℕ Fault) (report : List ℕ) (us : List Stop) → vec_items book.rows ≡ rows
    → Shows whole decimal (λ (b : DueBook). due_meaning (vec_items b.rows)) book strip from r report kept us → Shows whole decimal due_meaning rows strip from r report (vec_items kept.rows) us
by_rows rows book kept strip from r report us same s =
    subst (λ (l : List DueRow). Shows whole decimal due_meaning l strip from r report (vec_items kept.rows) us) same
    (record { source = ap (λ (b : DueBook). vec_items b.rows) s.source; told_by = s.told_by; stops = s.stops })
