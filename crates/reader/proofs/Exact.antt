-- The law of reading rows: what is accepted is spelled, what is spelled is accepted, and where reading stops no
-- lawful row is spelled.
use Rattle.std.proofs.Common.{◌≡◌, ℕ, zero, suc, ◌+◌, ◌<◌, ◌≤◌, Bool, true, false, cond, ◌||◌, eqb, ltb, List, [], ◌∷◌, ◌++◌, length, get_or, take, drop, Ok, Err, Result, sym, refl, ap, ◌∙◌, subst, inl, inr, append_assoc, add-zero, zero-add, arith, length-append}
use Rattle.std.proofs.lemmas.List.{drop_more, length-take-le, take_at}
use Rattle.std.proofs.lemmas.Bool.{cond-false, ltb-false, eqb-false, le-ltb, ne_eqb, or_parts, or_from}
use Rattle.source.specs.declared.due.DueRow.{DueRow}
use Rattle.reader.specs.declared.faults.Cause.{Cause}
use Rattle.reader.specs.declared.faults.Cause.TheVariants.{NoRoom, CutOff, TooLarge}
use Rattle.reader.specs.declared.faults.Fault.{Fault}
use Rattle.reader.specs.declared.rows.RowsRead.{RowsRead}
use Rattle.reader.specs.Records.{record_at}
use Rattle.reader.specs.Causes.{at_start}
use Rattle.reader.specs.Reading.{row_count, rows_from, end_from, rows_answer, rows_of, strip_answer, over_front}
use Rattle.reader.specs.Spelling.{Rows}
use Rattle.reader.specs.Exactly.{Holds, HoldsNone, Stops, ReadsExactly}
use Rattle.reader.proofs.Tables.{past_by, rows_by, end_by, rows_after, end_after, front_read}
use Rattle.reader.proofs.Spelling.{passes, same_ok, Taken, record_taken, record_found}

-- the rows that are read from a byte on, up to another, are spelled between the two
pub record Between (bytes : List ℕ) (rows : List DueRow) (at next : ℕ) : Type 0 where
  pub records : List ℕ
  pub spelled : Rows rows records
  pub cut : drop at bytes ≡ records ++ drop next bytes
  pub place : next ≡ at + length records

between_none : (bytes : List ℕ) (at : ℕ) → Between bytes [] at at
between_none bytes at = record { records = []; spelled = refl; cut = refl; place = sym (add-zero at) }

between_more : (bytes : List ℕ) (row : DueRow) (rows : List DueRow) (at mid next : ℕ) → Taken bytes at row mid → Between bytes rows mid next
    → Between bytes (row ∷ rows) at next
between_more bytes row rows at mid next t b = record {
  records = t.front ++ b.records;
  spelled = (t.front, b.records, t.spelled, t.lawful, b.spelled, refl);
  cut = t.cut ∙ (ap (λ s. t.front ++ s) b.cut ∙ sym (append_assoc t.front b.records (drop next bytes)));
  place = simp length-append (omega (arith, t.place, b.place));
}

-- how reading ends, by what the record at a byte gave
abbrev Ended : List ℕ → ℕ → ℕ → ℕ → List DueRow → Result RowsRead Fault → Type 0
Ended bytes left done at rows (Ok got) = (length rows ≡ left) × (got.rows ≡ done + left) × Between bytes rows at got.calls
Ended bytes left done at rows (Err fault) =
    (length rows < left) × (fault.count ≡ done + length rows) × Between bytes rows at fault.byte × (record_at bytes fault.byte ≡ Err fault.cause)

ended_more : (bytes : List ℕ) (left done at : ℕ) (row : DueRow) (next : ℕ) → Taken bytes at row next → (rows : List DueRow) (r : Result RowsRead Fault)
    → Ended bytes left (done + 1) next rows r → Ended bytes (suc left) done at (row ∷ rows) r
ended_more bytes left done at row next t rows (Ok got) (long, counted, b) =
    (ap suc long, omega arith, between_more bytes row rows at next got.calls t b)
ended_more bytes left done at row next t rows (Err fault) (short, counted, b, wrong) =
    (omega arith, omega arith, between_more bytes row rows at next fault.byte t b, wrong)

ended_by : (bytes : List ℕ) (left done at : ℕ) (r : Result (DueRow × ℕ) Cause) → record_at bytes at ≡ r
    → ((next : ℕ) → Ended bytes left (done + 1) next (rows_from bytes left next) (end_from bytes left (done + 1) next))
    → Ended bytes (suc left) done at (rows_by bytes left r) (end_by bytes left done (past_by done at r))
ended_by bytes left done at (Ok x) e rest =
    ended_more bytes left done at x.0 x.1 (record_taken bytes at x.0 x.1 e) (rows_from bytes left x.1) (end_from bytes left (done + 1) x.1) (rest x.1)
ended_by bytes left done at (Err why) e rest = (omega arith, sym (add-zero done), between_none bytes at, e)

ended : (bytes : List ℕ) (left done at : ℕ) → Ended bytes left done at (rows_from bytes left at) (end_from bytes left done at)
ended bytes zero done at = (refl, sym (add-zero done), between_none bytes at)
ended bytes (suc left) done at = ended_by bytes left done at (record_at bytes at) refl (λ next. ended bytes left (done + 1) next)

-- rows that are spelled from a byte on are read
found_rows : (bytes : List ℕ) (rows : List DueRow) (records rest : List ℕ) (done at : ℕ) → Rows rows records → drop at bytes ≡ records ++ rest
    → (end_from bytes (length rows) done at ≡ Ok (record { rows = done + length rows; calls = at + length records })) × (rows_from bytes (length rows) at ≡ rows)
found_rows bytes [] records rest done at none cut = (rw (none, add-zero done, add-zero at), refl)
found_rows bytes (row ∷ rows) records rest done at (front, back, spelled, lawful, more, written) cut =
    let here : drop at bytes ≡ front ++ (back ++ rest) = cut ∙ (ap (λ s. s ++ rest) written ∙ append_assoc front back rest) in
    let one = record_found bytes at row front (back ++ rest) here spelled lawful in
    let next : ℕ = at + length front in
    let on = found_rows bytes rows back rest (done + 1) next more one.1 in
    let counted : (done + 1) + length rows ≡ done + suc (length rows) = omega arith in
    let place : next + length back ≡ at + length records = rw (written, length-append) (omega arith) in (
      ap (λ r. end_by bytes (length rows) done (past_by done at r)) one.0
          ∙ (on.0 ∙ (ap (λ n. Ok (record { rows = n; calls = next + length back })) counted ∙ ap (λ n. Ok (record { rows = done + suc (length rows); calls = n })) place)),
      ap (λ r. rows_by bytes (length rows) r) one.0 ∙ ap (λ l. row ∷ l) on.1,
    )

-- a count that passes
record Counted (bytes : List ℕ) (room n : ℕ) : Type 0 where
  some : 0 < length bytes
  is : get_or bytes 0 0 ≡ n
  short : length bytes ≤ 4096
  few : n ≤ 64
  fits : n ≤ room

counted : (bytes : List ℕ) (room n : ℕ) → row_count bytes room ≡ Ok n → Counted bytes room n
counted bytes room n e =
    let k : ℕ = get_or bytes 0 0 in
    let a = passes (eqb (length bytes) 0) (at_start CutOff) (cond (ltb 4096 (length bytes) || ltb 64 k) (Err (at_start TooLarge)) (cond (ltb room k) (Err (at_start NoRoom)) (Ok k))) n e in
    let b = passes (ltb 4096 (length bytes) || ltb 64 k) (at_start TooLarge) (cond (ltb room k) (Err (at_start NoRoom)) (Ok k)) n a.1 in
    let c = passes (ltb room k) (at_start NoRoom) (Ok k) n b.1 in
    let sizes = or_parts (ltb 4096 (length bytes)) (ltb 64 k) b.0 in
    let is : k ≡ n = cc c.1 in
    record {
      some = omega (arith, eqb-false (length bytes) 0 a.0);
      is = is;
      short = ltb-false 4096 (length bytes) sizes.0;
      few = omega (arith, is, ltb-false 64 k sizes.1);
      fits = omega (arith, is, ltb-false room k c.0);
    }

counts : (bytes : List ℕ) (room n : ℕ) → Counted bytes room n → row_count bytes room ≡ Ok n
counts bytes room n c =
    let k : ℕ = get_or bytes 0 0 in
    let size : (length bytes ≡ 0 → ⊥) = λ e. omega (arith, c.some) in
    let few : k ≤ 64 = omega (arith, c.few, c.is) in
    let fits : k ≤ room = omega (arith, c.fits, c.is) in
    cond-false (eqb (length bytes) 0) (Err (at_start CutOff)) (cond (ltb 4096 (length bytes) || ltb 64 k) (Err (at_start TooLarge)) (cond (ltb room k) (Err (at_start NoRoom)) (Ok k))) (ne_eqb (length bytes) 0 size)
    ∙ (cond-false (ltb 4096 (length bytes) || ltb 64 k) (Err (at_start TooLarge)) (cond (ltb room k) (Err (at_start NoRoom)) (Ok k)) (or_from (ltb 4096 (length bytes)) (ltb 64 k) (le-ltb 4096 (length bytes) c.short) (le-ltb 64 k few))
    ∙ (cond-false (ltb room k) (Err (at_start NoRoom)) (Ok k) (le-ltb room k fits) ∙ ap Ok c.is))

held_count : (strip : List ℕ) (rows : List DueRow) (calls room : ℕ) → Holds strip rows calls → length rows ≤ room → Counted strip room (length rows)
held_count strip rows calls room h fits = record {
  some = rw h.written (omega arith);
  is = rw h.written;
  short = h.short;
  few = h.few;
  fits = fits;
}

told : (why : Cause) (f : Fault) → at_start why ≡ f → f ≡ at_start f.cause
told why f e = subst (λ (g : Fault). g ≡ at_start g.cause) e refl

-- the three tests before the records refuse the strip as a whole
whole : (a b c : Bool) (k : ℕ) (f : Fault)
    → cond a (Err (at_start CutOff)) (cond b (Err (at_start TooLarge)) (cond c (Err (at_start NoRoom)) (Ok k))) ≡ Err f → f ≡ at_start f.cause
whole true b c k f e = told CutOff f (cc)
whole false true c k f e = told TooLarge f (cc)
whole false false true k f e = told NoRoom f (cc)
whole false false false k f e = cc

strip_is : (bytes : List ℕ) (room n : ℕ) (records : List ℕ) (next : ℕ) → Counted bytes room n → drop 1 bytes ≡ records ++ drop next bytes
    → bytes ≡ n ∷ (records ++ drop next bytes)
strip_is bytes room n records next c cut =
    drop_more bytes 0 0 c.some ∙ (ap (λ k. k ∷ drop 1 bytes) c.is ∙ ap (λ l. n ∷ l) cut)

holds_by : (bytes : List ℕ) (room n : ℕ) (rows : List DueRow) (got : RowsRead) → Counted bytes room n → Ended bytes n 0 1 rows (Ok got) → Holds bytes rows got.calls
holds_by bytes room n rows got c (long, all, b) = record {
  records = b.records;
  rest = drop got.calls bytes;
  short = c.short;
  few = omega (arith, long, c.few);
  spelled = b.spelled;
  written = rw long (strip_is bytes room n b.records got.calls c b.cut);
  place = b.place;
}

accepted_by : (bytes : List ℕ) (before : List DueRow) (n : ℕ) (rows : List DueRow) (got : RowsRead) → Counted bytes (length before) n → Ended bytes n 0 1 rows (Ok got)
    → (found : List DueRow) × Holds bytes found got.calls × (length found ≡ got.rows) × (length found ≤ length before) × (over_front rows before ≡ over_front found before)
accepted_by bytes before n rows got c end =
    let (long, all, b) = end in
    (rows, holds_by bytes (length before) n rows got c end, omega (arith, long, all), omega (arith, long, c.fits), refl)

-- rows that a strip holds are read where there is room for them
pub held_read : (bytes : List ℕ) (rows : List DueRow) (calls room : ℕ) → Holds bytes rows calls → length rows ≤ room
    → (rows_answer bytes room ≡ Ok (record { rows = length rows; calls = calls })) × (rows_of bytes room ≡ rows)
held_read bytes rows calls room h fits =
    let count : row_count bytes room ≡ Ok (length rows) = counts bytes room (length rows) (held_count bytes rows calls room h fits) in
    let on = found_rows bytes rows h.records h.rest 0 1 h.spelled (ap (drop 1) h.written) in (
      ap (end_after bytes) count
          ∙ (on.0 ∙ (ap (λ m. Ok (record { rows = m; calls = 1 + length h.records })) (zero-add (length rows)) ∙ ap (λ m. Ok (record { rows = length rows; calls = m })) (sym h.place))),
      ap (rows_after bytes) count ∙ on.1,
    )

stops_by : (bytes : List ℕ) (before : List DueRow) (n : ℕ) (rows : List DueRow) (fault : Fault) → Counted bytes (length before) n → Ended bytes n 0 1 rows (Err fault)
    → Stops bytes rows fault
stops_by bytes before n rows fault c (short, all, b, wrong) = record {
  total = n;
  records = b.records;
  rest = drop fault.byte bytes;
  written = strip_is bytes (length before) n b.records fault.byte c b.cut;
  spelled = b.spelled;
  more = short;
  none = λ row front back cut spelled lawful.
      let read = (record_found bytes fault.byte row front back cut spelled lawful).0 in
      cc (read, wrong);
  counted = omega (arith, all);
  place = b.place;
}

-- with the count passed
exact_filled : (bytes : List ℕ) (before : List DueRow) (n : ℕ) → row_count bytes (length before) ≡ Ok n
    → ReadsExactly bytes before (over_front (rows_from bytes n 1) before) (end_from bytes n 0 1)
exact_filled bytes before n e =
    let c = counted bytes (length before) n e in
    let rows : List DueRow = rows_from bytes n 1 in
    record {
      accepted = λ got ok. accepted_by bytes before n rows got c (subst (Ended bytes n 0 1 rows) ok (ended bytes n 0 1));
      accepts = λ held calls h fits.
          let read = held_read bytes held calls (length before) h fits in (
            sym (ap (end_after bytes) e) ∙ read.0,
            ap (λ (l : List DueRow). over_front l before) (sym (ap (rows_after bytes) e) ∙ read.1),
          );
      refused = λ fault err. inr (rows, stops_by bytes before n rows fault c (subst (Ended bytes n 0 1 rows) err (ended bytes n 0 1)), refl);
    }

-- with the strip refused as a whole
exact_refused : (bytes : List ℕ) (before : List DueRow) (f : Fault) → row_count bytes (length before) ≡ Err f → ReadsExactly bytes before before (Err f)
exact_refused bytes before f e =
    let k : ℕ = get_or bytes 0 0 in
    record {
      accepted = λ got ok. cc;
      accepts = λ held calls h fits. cc (e, counts bytes (length before) (length held) (held_count bytes held calls (length before) h fits));
      refused = λ fault err. inl (subst (λ (g : Fault). g ≡ at_start g.cause) (cc) (whole (eqb (length bytes) 0) (ltb 4096 (length bytes) || ltb 64 k) (ltb (length before) k) k f e), refl);
    }

exact_by : (bytes : List ℕ) (before : List DueRow) (n : Result ℕ Fault) → row_count bytes (length before) ≡ n
    → ReadsExactly bytes before (over_front (rows_after bytes n) before) (end_after bytes n)
exact_by bytes before (Ok k) e = exact_filled bytes before k e
exact_by bytes before (Err f) e = exact_refused bytes before f e

-- the law, by what reading answers and leaves
exact : (bytes : List ℕ) (before after : List DueRow) (r : Result RowsRead Fault) → r ≡ rows_answer bytes (length before)
    → after ≡ over_front (rows_of bytes (length before)) before → ReadsExactly bytes before after r
exact bytes before after r p q =
    subst (λ (s : Result RowsRead Fault). ReadsExactly bytes before after s) (sym p)
    (subst (λ (l : List DueRow). ReadsExactly bytes before l (rows_answer bytes (length before))) (sym q) (exact_by bytes before (row_count bytes (length before)) refl))

-- the law, by the front of the table into which rows were read
pub front_exact : (bytes : List ℕ) (table after : List DueRow) (r : Result RowsRead Fault) (count : ℕ) (first : Result ℕ Fault) → first ≡ Ok count
    → first ≡ row_count bytes (length table) → r ≡ end_from bytes (length (take count table)) 0 1
    → after ≡ over_front (rows_from bytes (length (take count table)) 1) (take count table) → ReadsExactly bytes table (after ++ drop count table) r
front_exact bytes table after r count first was is answer read =
    let c = counted bytes (length table) count (sym is ∙ was) in
    let size : length (take count table) ≡ count = length-take-le count table c.fits in
    let told : r ≡ end_from bytes count 0 1 = rw size at answer in
    let same : rows_answer bytes (length table) ≡ end_from bytes count 0 1 =
    ap (end_after bytes) (sym is ∙ was) in
    exact bytes table (after ++ drop count table) r (told ∙ sym same) (front_read bytes table after count first is was c.fits read)

-- the law, for a table with room for all rows that a strip may have
held_by : (bytes : List ℕ) (n : Result ℕ Fault) (got : RowsRead) → row_count bytes 64 ≡ n → end_after bytes n ≡ Ok got
    → Holds bytes (rows_after bytes n) got.calls
held_by bytes (Ok k) got count read =
    let rows : List DueRow = rows_from bytes k 1 in
    holds_by bytes 64 k rows got (counted bytes 64 k count) (subst (Ended bytes k 0 1 rows) read (ended bytes k 0 1))
held_by bytes (Err f) got count read = cc

-- what a strip holds, by what reading it answered
abbrev pub strip_by : List ℕ → Result RowsRead Fault → Result (List DueRow × ℕ) Fault
strip_by bytes (Ok got) = Ok (rows_of bytes 64, got.calls)
strip_by bytes (Err f) = Err f

holds_as : (bytes : List ℕ) (rows : List DueRow) (calls : ℕ) (r : Result RowsRead Fault) → rows_answer bytes 64 ≡ r → strip_by bytes r ≡ Ok (rows, calls)
    → Holds bytes rows calls
holds_as bytes rows calls (Ok got) answer is =
    let same : ◌≡◌ {A = List DueRow × ℕ} (rows_of bytes 64, got.calls) (rows, calls) = cc in
    subst (λ (x : List DueRow × ℕ). Holds bytes x.0 x.1) same (held_by bytes (row_count bytes 64) got refl answer)
holds_as bytes rows calls (Err f) answer is = cc

-- reading answers what a strip holds, and nothing else
pub answer_holds : (bytes : List ℕ) (rows : List DueRow) (calls : ℕ) → strip_answer bytes ≡ Ok (rows, calls) → Holds bytes rows calls
unfolding strip_answer
answer_holds bytes rows calls is = holds_as bytes rows calls (rows_answer bytes 64) refl is

pub holds_answer : (bytes : List ℕ) (rows : List DueRow) (calls : ℕ) → Holds bytes rows calls → strip_answer bytes ≡ Ok (rows, calls)
unfolding strip_answer
holds_answer bytes rows calls h =
    let read = held_read bytes rows calls 64 h h.few in
    ap (strip_by bytes) read.0 ∙ ap (λ (l : List DueRow). Ok (l, calls)) read.1

pub holds_one : (bytes : List ℕ) (rows held : List DueRow) (calls at : ℕ) → Holds bytes rows calls → Holds bytes held at → (held ≡ rows) × (at ≡ calls)
holds_one bytes rows held calls at h k = same_ok held rows at calls (sym (holds_answer bytes held at k) ∙ holds_answer bytes rows calls h)

pub holds_none : (bytes : List ℕ) (f : Fault) → Err f ≡ rows_answer bytes 64 → HoldsNone bytes
holds_none bytes f read rows calls h = cc (read, (held_read bytes rows calls 64 h h.few).0)

-- the rows at the front of a table into which a strip was read
pub front_holds : (bytes : List ℕ) (before after rows : List DueRow) (got : RowsRead) (calls : ℕ) → ReadsExactly bytes before after (Ok got) → got.calls ≡ calls
    → rows ≡ take got.rows after → Holds bytes rows calls
front_holds bytes before after rows got calls exact at front =
    let (held, holds, long, fits, over) = exact.accepted got refl in
    let same : rows ≡ held = front ∙ (ap (take got.rows) over ∙ take_at held (drop (length held) before) got.rows long) in
    subst (λ n. Holds bytes rows n) at (subst (λ (l : List DueRow). Holds bytes l got.calls) (sym same) holds)
