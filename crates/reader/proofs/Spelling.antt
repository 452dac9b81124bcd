-- Bytes that spell a row are read as that row, and what is read as a row is spelled.
use Rattle.std.proofs.Common.{◌≡◌, ℕ, suc, ◌+◌, ◌-◌, ◌/◌, ◌<◌, ◌≤◌, Bool, true, false, cond, eqb, ltb, leb, List, [], ◌∷◌, ◌++◌, length, get_or, drop, Ok, Err, Result, sym, refl, ap, ◌∙◌, subst, append_assoc, add-zero, arith, length-append, length-drop}
use Rattle.std.proofs.lemmas.List.{drop_more}
use Rattle.std.proofs.lemmas.Bool.{cond-true, cond-false, ltb-false, leb-false, eqb-true, lt-leb, le-ltb, eq-eqb}
use Rattle.source.specs.declared.due.DueRow.{DueRow}
use Rattle.source.specs.Due.{row_lawful}
use Rattle.reader.specs.declared.faults.Cause.TheVariants.{CutOff, RowMap, Unlawful}
use Rattle.reader.specs.Records.{word_at, stands, field_place, row_at, next_record, row_or, record_at}
use Rattle.reader.specs.Spelling.{Field, Spelled}

-- a field that is not cut off is spelled by the bytes at its place
pub record Lies (bytes : List ℕ) (b : Bool) (place absent : ℕ) : Type 0 where
  pub front : List ℕ
  pub field : Field b absent (cond b (word_at bytes place) absent) front
  pub cut : drop place bytes ≡ front ++ drop (place + cond b 2 0) bytes
  pub long : length front ≡ cond b 2 0

pub lies : (bytes : List ℕ) (b : Bool) (place absent : ℕ) → place + cond b 2 0 ≤ length bytes → Lies bytes b place absent
lies bytes true place absent h =
    let one : drop place bytes ≡ get_or bytes place 0 ∷ drop (place + 1) bytes = drop_more bytes place 0 (omega arith) in
    let two : drop (place + 1) bytes ≡ get_or bytes (place + 1) 0 ∷ drop ((place + 1) + 1) bytes = drop_more bytes (place + 1) 0 (omega arith) in
    let there : (place + 1) + 1 ≡ place + 2 = omega arith in
    record {
      front = get_or bytes place 0 ∷ (get_or bytes (place + 1) 0 ∷ []);
      field = (get_or bytes place 0, get_or bytes (place + 1) 0, refl, refl);
      cut = rw (one, two, there);
      long = refl;
    }
lies bytes false place absent h = record { front = []; field = (refl, refl); cut = rw add-zero; long = refl }

-- and a field that is spelled at a place is read there
pub record Found (bytes : List ℕ) (b : Bool) (place absent value : ℕ) (rest : List ℕ) : Type 0 where
  pub read : cond b (word_at bytes place) absent ≡ value
  pub after : drop (place + cond b 2 0) bytes ≡ rest
  pub within : place + cond b 2 0 ≤ length bytes

-- the first byte at a place, by what lies there
pub head_at : (bytes : List ℕ) (place x : ℕ) (rest : List ℕ) → drop place bytes ≡ x ∷ rest
    → (place < length bytes) × (get_or bytes place 0 ≡ x) × (drop (place + 1) bytes ≡ rest)
head_at bytes place x rest e =
    let long : length bytes - place ≡ suc (length rest) = sym (length-drop place bytes) ∙ ap length e in
    let h : place < length bytes = omega arith in
    let more : drop place bytes ≡ get_or bytes place 0 ∷ drop (place + 1) bytes = drop_more bytes place 0 h in
    (h, (cc), (cc))

pub found : (bytes : List ℕ) (b : Bool) (place absent value : ℕ) (front rest : List ℕ)
    → Field b absent value front → place ≤ length bytes → drop place bytes ≡ front ++ rest → Found bytes b place absent value rest
found bytes true place absent value front rest (high, low, e, f) h cut =
    let one = head_at bytes place high (low ∷ rest) (rw f at cut) in
    let two = head_at bytes (place + 1) low rest one.2 in
    let there : (place + 1) + 1 ≡ place + 2 = omega arith in
    record { read = rw (one.1, two.1) (sym e); after = rw there at two.2; within = omega (arith, two.0) }
found bytes false place absent value front rest (e, f) h cut =
    record { read = sym e; after = rw add-zero (rw f at cut); within = omega arith }

-- a test that refuses, and one that must hold, on the way to an answer
pub passes : {A E : Type 0} (b : Bool) (e : E) (r : Result A E) (x : A) → cond b (Err e) r ≡ Ok x → (b ≡ false) × (r ≡ Ok x)
passes true e r x h = (cc, cc)
passes false e r x h = (refl, h)

pub holds : {A E : Type 0} (b : Bool) (e : E) (r : Result A E) (x : A) → cond b r (Err e) ≡ Ok x → (b ≡ true) × (r ≡ Ok x)
holds true e r x h = (refl, h)
holds false e r x h = (cc, cc)

pub same_ok : {A B E : Type 0} (a c : A) (b d : B) → ◌≡◌ {A = Result (A × B) E} (Ok (a, b)) (Ok (c, d)) → (a ≡ c) × (b ≡ d)
same_ok {A} {B} a c b d e = let whole : ◌≡◌ {A = A × B} (a, b) (c, d) = cc in (ap (λ (p : A × B). p.0) whole, ap (λ (p : A × B). p.1) whole)

-- what a record that is read says of the bytes
pub record Taken (bytes : List ℕ) (at : ℕ) (row : DueRow) (next : ℕ) : Type 0 where
  pub front : List ℕ
  pub spelled : Spelled row front
  pub lawful : row_lawful row ≡ true
  pub cut : drop at bytes ≡ front ++ drop next bytes
  pub place : next ≡ at + length front
  pub within : next ≤ length bytes

joined : (m : ℕ) (f g h i j t u v w x y z : List ℕ) → t ≡ m ∷ u → u ≡ f ++ v → v ≡ g ++ w → w ≡ h ++ x → x ≡ i ++ y → y ≡ j ++ z
    → t ≡ m ∷ ((f ++ (g ++ (h ++ (i ++ j)))) ++ z)
joined m f g h i j t u v w x y z e₀ e₁ e₂ e₃ e₄ e₅ = rw (e₀, e₁, e₂, e₃, e₄, e₅) (simp append_assoc)

long_all : (f g h i j : List ℕ) → length (f ++ (g ++ (h ++ (i ++ j)))) ≡ length f + (length g + (length h + (length i + length j)))
long_all f g h i j = simp length-append

taken : (bytes : List ℕ) (map at : ℕ) → at < length bytes → get_or bytes at 0 ≡ map → map / 32 ≡ 0
    → Lies bytes (stands map 0) (field_place map at 0) 0
    → Lies bytes (stands map 1) (field_place map at 1) 1440
    → Lies bytes (stands map 2) (field_place map at 2) 0
    → Lies bytes (stands map 3) (field_place map at 3) 0
    → Lies bytes (stands map 4) (field_place map at 4) 0
    → next_record map at ≤ length bytes → row_lawful (row_at bytes map at) ≡ true
    → Taken bytes at (row_at bytes map at) (next_record map at)
taken bytes map at inside is clear first last due early late within lawful =
    let one : drop at bytes ≡ map ∷ drop (at + 1) bytes = rw is at (drop_more bytes at 0 inside) in
    let long = long_all first.front last.front due.front early.front late.front in
    record {
      front = map ∷ (first.front ++ (last.front ++ (due.front ++ (early.front ++ late.front))));
      spelled = record {
        map = map;
        clear = clear;
        first = first.front;
        last = last.front;
        due = due.front;
        early = early.front;
        late = late.front;
        has_first = first.field;
        has_last = last.field;
        has_due = due.field;
        has_early = early.field;
        has_late = late.field;
        written = refl;
      };
      lawful = lawful;
      cut = joined map first.front last.front due.front early.front late.front (drop at bytes) (drop (field_place map at 0) bytes)
          (drop (field_place map at 1) bytes) (drop (field_place map at 2) bytes) (drop (field_place map at 3) bytes) (drop (field_place map at 4) bytes)
          (drop (next_record map at) bytes) one first.cut last.cut due.cut early.cut late.cut;
      place = omega (arith, long, first.long, last.long, due.long, early.long, late.long);
      within = within;
    }

pub record_taken : (bytes : List ℕ) (at : ℕ) (row : DueRow) (next : ℕ) → record_at bytes at ≡ Ok (row, next) → Taken bytes at row next
record_taken bytes at row next e =
    let map : ℕ = get_or bytes at 0 in
    let inside = passes (leb (length bytes) at) CutOff (cond (eqb (map / 32) 0) (row_or bytes map at) (Err RowMap)) (row, next) e in
    let clear = holds (eqb (map / 32) 0) RowMap (row_or bytes map at) (row, next) inside.1 in
    let whole = passes (ltb (length bytes) (next_record map at)) CutOff (cond (row_lawful (row_at bytes map at)) (Ok (row_at bytes map at, next_record map at)) (Err Unlawful)) (row, next) clear.1 in
    let good = holds (row_lawful (row_at bytes map at)) Unlawful (Ok (row_at bytes map at, next_record map at)) (row, next) whole.1 in
    let same = same_ok (row_at bytes map at) row (next_record map at) next good.1 in
    let within : next_record map at ≤ length bytes = ltb-false (length bytes) (next_record map at) whole.0 in
    let it : Taken bytes at (row_at bytes map at) (next_record map at) = taken bytes map at (leb-false (length bytes) at inside.0) refl (eqb-true (map / 32) 0 clear.0)
    (lies bytes (stands map 0) (field_place map at 0) 0 (omega arith))
    (lies bytes (stands map 1) (field_place map at 1) 1440 (omega arith))
    (lies bytes (stands map 2) (field_place map at 2) 0 (omega arith))
    (lies bytes (stands map 3) (field_place map at 3) 0 (omega arith))
    (lies bytes (stands map 4) (field_place map at 4) 0 (omega arith))
    within good.0 in
    subst (λ (r : DueRow). Taken bytes at r next) same.0 (subst (λ n. Taken bytes at (row_at bytes map at) n) same.1 it)

read_ok : (bytes : List ℕ) (at map : ℕ) → get_or bytes at 0 ≡ map → at < length bytes → map / 32 ≡ 0 → next_record map at ≤ length bytes
    → row_lawful (row_at bytes map at) ≡ true → record_at bytes at ≡ Ok (row_at bytes map at, next_record map at)
read_ok bytes at map is inside clear within lawful =
    cond-false (leb (length bytes) at) (Err CutOff) (cond (eqb (get_or bytes at 0 / 32) 0) (row_or bytes (get_or bytes at 0) at) (Err RowMap)) (lt-leb (length bytes) at inside)
    ∙ (ap (λ m. cond (eqb (m / 32) 0) (row_or bytes m at) (Err RowMap)) is
    ∙ (cond-true (eqb (map / 32) 0) (row_or bytes map at) (Err RowMap) (eq-eqb (map / 32) 0 clear)
    ∙ (cond-false (ltb (length bytes) (next_record map at)) (Err CutOff) (cond (row_lawful (row_at bytes map at)) (Ok (row_at bytes map at, next_record map at)) (Err Unlawful)) (le-ltb (length bytes) (next_record map at) within)
    ∙ cond-true (row_lawful (row_at bytes map at)) (Ok (row_at bytes map at, next_record map at)) (Err Unlawful) lawful)))

same_row : (row : DueRow) (a b c d e : ℕ) → a ≡ row.first → b ≡ row.last → c ≡ row.due → d ≡ row.early → e ≡ row.late
    → ◌≡◌ {A = DueRow} (record { first = a; last = b; due = c; early = d; late = e }) row
same_row row a b c d e p q r s t = λ i. record { first = p i; last = q i; due = r i; early = s i; late = t i }

-- the bytes after a record and its length, by what lies at its byte
pub after_at : (bytes front rest : List ℕ) (at next : ℕ) → drop at bytes ≡ front ++ rest → drop next bytes ≡ rest → at ≤ next → next ≤ length bytes → at + length front ≡ next
after_at bytes front rest at next cut after h within =
    let all : length bytes - at ≡ length front + length rest = sym (length-drop at bytes) ∙ (ap length cut ∙ length-append front rest) in
    let tail : length bytes - next ≡ length rest = sym (length-drop next bytes) ∙ ap length after in
    omega arith

-- a record that is spelled at a byte is read as its row
pub record_found : (bytes : List ℕ) (at : ℕ) (row : DueRow) (front rest : List ℕ) → drop at bytes ≡ front ++ rest → Spelled row front → row_lawful row ≡ true
    → (record_at bytes at ≡ Ok (row, at + length front)) × (drop (at + length front) bytes ≡ rest)
record_found bytes at row front rest cut spelled lawful =
    let map = spelled.map in
    let written : drop at bytes ≡ map ∷ ((spelled.first ++ (spelled.last ++ (spelled.due ++ (spelled.early ++ spelled.late)))) ++ rest) = rw spelled.written at cut in
    let begin = head_at bytes at map ((spelled.first ++ (spelled.last ++ (spelled.due ++ (spelled.early ++ spelled.late)))) ++ rest) written in
    let fields : drop (at + 1) bytes ≡ spelled.first ++ (spelled.last ++ (spelled.due ++ (spelled.early ++ (spelled.late ++ rest)))) = begin.2 ∙ simp append_assoc in
    let first = found bytes (stands map 0) (field_place map at 0) 0 row.first spelled.first (spelled.last ++ (spelled.due ++ (spelled.early ++ (spelled.late ++ rest)))) spelled.has_first (omega (arith, begin.0)) fields in
    let last = found bytes (stands map 1) (field_place map at 1) 1440 row.last spelled.last (spelled.due ++ (spelled.early ++ (spelled.late ++ rest))) spelled.has_last first.within first.after in
    let due = found bytes (stands map 2) (field_place map at 2) 0 row.due spelled.due (spelled.early ++ (spelled.late ++ rest)) spelled.has_due last.within last.after in
    let early = found bytes (stands map 3) (field_place map at 3) 0 row.early spelled.early (spelled.late ++ rest) spelled.has_early due.within due.after in
    let late = found bytes (stands map 4) (field_place map at 4) 0 row.late spelled.late rest spelled.has_late early.within early.after in
    let same : row_at bytes map at ≡ row = same_row row _ _ _ _ _ first.read last.read due.read early.read late.read in
    let place : at + length front ≡ next_record map at = after_at bytes front rest at (next_record map at) cut late.after (omega arith) late.within in
    let law : row_lawful (row_at bytes map at) ≡ true = ap row_lawful same ∙ lawful in
    let got : record_at bytes at ≡ Ok (row_at bytes map at, next_record map at) = read_ok bytes at map begin.1 begin.0 spelled.clear late.within law in
    let read : record_at bytes at ≡ Ok (row, next_record map at) = rw same at got in
    (rw place read, rw place late.after)
