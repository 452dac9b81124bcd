-- Bytes that spell a call are read as that call, and what is read as a call is spelled.
use Rattle.std.proofs.Common.{◌≡◌, ℕ, ◌+◌, ◌/◌, ◌<◌, ◌≤◌, Bool, true, false, cond, eqb, ltb, leb, List, [], ◌∷◌, ◌++◌, length, get_or, drop, Some, None, Ok, Err, Option, sym, refl, ap, ◌∙◌, subst, append_assoc, add-zero, arith, length-append}
use Rattle.std.proofs.lemmas.List.{drop_more}
use Rattle.std.proofs.lemmas.Bool.{cond-true, cond-false, ltb-false, leb-false, eqb-true, lt-leb, le-ltb, eq-eqb}
use Rattle.route.specs.declared.stop.Splice.{Splice}
use Rattle.reader.specs.declared.faults.Cause.{Cause}
use Rattle.reader.specs.declared.faults.Cause.TheVariants.{CutOff}
use Rattle.reader.specs.declared.call.Form.{Form}
use Rattle.reader.specs.declared.call.Form.TheVariants.{Inserting, Removing, Changing}
use Rattle.reader.specs.Records.{stands, word_at}
use Rattle.reader.specs.CallRecords.{form_by, form_of, curve_place, leg_in_place, leg_out_place, place_place, next_call, absent_place, splice_of, splice_at, call_by, call_at}
use Rattle.reader.specs.CallSpelling.{ByteField, Bits, SpelledCall, NoCall, ReadsCalls}
use Rattle.reader.proofs.Spelling.{Lies, lies, found, head_at, passes, same_ok, after_at}

-- a field of one byte that is not cut off is spelled by the byte at its place
record LiesByte (bytes : List ℕ) (b : Bool) (place absent : ℕ) : Type 0 where
  pub front : List ℕ
  pub field : ByteField b absent (cond b (get_or bytes place 0) absent) front
  pub cut : drop place bytes ≡ front ++ drop (place + cond b 1 0) bytes
  pub long : length front ≡ cond b 1 0

lies_byte : (bytes : List ℕ) (b : Bool) (place absent : ℕ) → place + cond b 1 0 ≤ length bytes → LiesByte bytes b place absent
lies_byte bytes true place absent h = record { front = get_or bytes place 0 ∷ []; field = refl; cut = drop_more bytes place 0 (omega arith); long = refl }
lies_byte bytes false place absent h = record { front = []; field = (refl, refl); cut = rw add-zero; long = refl }

-- and one that is spelled at a place is read there
record FoundByte (bytes : List ℕ) (b : Bool) (place absent value : ℕ) (rest : List ℕ) : Type 0 where
  pub read : cond b (get_or bytes place 0) absent ≡ value
  pub after : drop (place + cond b 1 0) bytes ≡ rest
  pub within : place + cond b 1 0 ≤ length bytes

found_byte : (bytes : List ℕ) (b : Bool) (place absent value : ℕ) (front rest : List ℕ)
    → ByteField b absent value front → place ≤ length bytes → drop place bytes ≡ front ++ rest → FoundByte bytes b place absent value rest
found_byte bytes true place absent value front rest f h cut =
    let one = head_at bytes place value rest (rw f at cut) in
    record { read = one.1; after = one.2; within = omega (arith, one.0) }
found_byte bytes false place absent value front rest (e, f) h cut =
    record { read = sym e; after = rw add-zero (rw f at cut); within = omega arith }

-- the bits of a map that has a form, and the form of a map that has its bits
same_form : (f g : Form) → Some f ≡ Some g → f ≡ g
same_form f g e = cc

no_form : (g : Form) → None ≡ Some g → ⊥
no_form g e = cc

form_bits : (c i o t : Bool) (form : Form) → form_by c i o t ≡ Some form → Bits form c i o t
form_bits true i o false form e = subst (λ (f : Form). Bits f true i o false) (same_form Inserting form e) (refl, refl)
form_bits false false o true form e = subst (λ (f : Form). Bits f false false o true) (same_form Removing form e) (refl, refl, refl)
form_bits true false false true form e = subst (λ (f : Form). Bits f true false false true) (same_form Changing form e) (refl, refl, refl, refl)
form_bits false i o false form e = absurd (no_form form e)
form_bits false true o true form e = absurd (no_form form e)
form_bits true true o true form e = absurd (no_form form e)
form_bits true false true true form e = absurd (no_form form e)

bits_form : (form : Form) (c i o t : Bool) → Bits form c i o t → form_by c i o t ≡ Some form
bits_form Inserting c i o t (p, q) = rw (p, q)
bits_form Removing c i o t (p, q, r) = rw (p, q, r)
bits_form Changing c i o t (p, q, r, s) = rw (p, q, r, s)

opens : (b : Bool) (o : Option Form) (form : Form) → cond b o None ≡ Some form → (b ≡ true) × (o ≡ Some form)
opens true o form e = (refl, e)
opens false o form e = absurd (no_form form e)

-- what a record that is read says of the bytes
pub record TakenCall (bytes : List ℕ) (at n : ℕ) (call : Splice) (next : ℕ) : Type 0 where
  pub front : List ℕ
  pub spelled : SpelledCall n call front
  pub cut : drop at bytes ≡ front ++ drop next bytes
  pub place : next ≡ at + length front
  pub more : at < next
  pub within : next ≤ length bytes

joined : (m : ℕ) (f g h i t u v w x z : List ℕ) → t ≡ m ∷ u → u ≡ f ++ v → v ≡ g ++ w → w ≡ h ++ x → x ≡ i ++ z
    → t ≡ m ∷ ((f ++ (g ++ (h ++ i))) ++ z)
joined m f g h i t u v w x z e₀ e₁ e₂ e₃ e₄ = rw (e₀, e₁, e₂, e₃, e₄) (simp append_assoc)

long_all : (f g h i : List ℕ) → length (f ++ (g ++ (h ++ i))) ≡ length f + (length g + (length h + length i))
long_all f g h i = simp length-append

taken : (bytes : List ℕ) (map at n : ℕ) (form : Form) → at < length bytes → get_or bytes at 0 ≡ map → map / 32 ≡ 0
    → Bits form (stands map 0) (stands map 1) (stands map 2) (stands map 4)
    → LiesByte bytes (stands map 0) (curve_place at) 0
    → Lies bytes (stands map 1) (leg_in_place map at) 0
    → Lies bytes (stands map 2) (leg_out_place map at) 0
    → LiesByte bytes (stands map 3) (place_place map at) (absent_place form n)
    → next_call map at ≤ length bytes
    → TakenCall bytes at n (splice_at bytes map at n form) (next_call map at)
taken bytes map at n form inside is clear bits curve leg_in leg_out place within =
    let one : drop at bytes ≡ map ∷ drop (at + 1) bytes = rw is at (drop_more bytes at 0 inside) in
    let long = long_all curve.front leg_in.front leg_out.front place.front in
    record {
      front = map ∷ (curve.front ++ (leg_in.front ++ (leg_out.front ++ place.front)));
      spelled = record {
        map = map;
        form = form;
        curve = cond (stands map 0) (get_or bytes (curve_place at) 0) 0;
        in_leg = cond (stands map 1) (word_at bytes (leg_in_place map at)) 0;
        out_leg = cond (stands map 2) (word_at bytes (leg_out_place map at)) 0;
        place = cond (stands map 3) (get_or bytes (place_place map at) 0) (absent_place form n);
        clear = clear;
        bits = bits;
        is = refl;
        curve_bytes = curve.front;
        in_bytes = leg_in.front;
        out_bytes = leg_out.front;
        place_bytes = place.front;
        has_curve = curve.field;
        has_in = leg_in.field;
        has_out = leg_out.field;
        has_place = place.field;
        written = refl;
      };
      cut = joined map curve.front leg_in.front leg_out.front place.front (drop at bytes) (drop (curve_place at) bytes) (drop (leg_in_place map at) bytes)
          (drop (leg_out_place map at) bytes) (drop (place_place map at) bytes) (drop (next_call map at) bytes) one curve.cut leg_in.cut leg_out.cut place.cut;
      place = omega (arith, long, curve.long, leg_in.long, leg_out.long, place.long);
      more = omega arith;
      within = within;
    }

taken_by : (bytes : List ℕ) (at n : ℕ) (call : Splice) (next : ℕ) (o : Option Form) → at < length bytes → form_of (get_or bytes at 0) ≡ o
    → call_by bytes (get_or bytes at 0) at n o ≡ Ok (call, next) → TakenCall bytes at n call next
taken_by bytes at n call next None inside has e = cc
taken_by bytes at n call next (Some form) inside has e =
    let map : ℕ = get_or bytes at 0 in
    let opened = opens (eqb (map / 32) 0) (form_by (stands map 0) (stands map 1) (stands map 2) (stands map 4)) form has in
    let whole = passes (ltb (length bytes) (next_call map at)) CutOff (Ok (splice_at bytes map at n form, next_call map at)) (call, next) e in
    let same = same_ok (splice_at bytes map at n form) call (next_call map at) next whole.1 in
    let within : next_call map at ≤ length bytes = ltb-false (length bytes) (next_call map at) whole.0 in
    let it : TakenCall bytes at n (splice_at bytes map at n form) (next_call map at) = taken bytes map at n form inside refl (eqb-true (map / 32) 0 opened.0)
    (form_bits (stands map 0) (stands map 1) (stands map 2) (stands map 4) form opened.1)
    (lies_byte bytes (stands map 0) (curve_place at) 0 (omega arith))
    (lies bytes (stands map 1) (leg_in_place map at) 0 (omega arith))
    (lies bytes (stands map 2) (leg_out_place map at) 0 (omega arith))
    (lies_byte bytes (stands map 3) (place_place map at) (absent_place form n) (omega arith))
    within in
    subst (λ (s : Splice). TakenCall bytes at n s next) same.0 (subst (λ k. TakenCall bytes at n (splice_at bytes map at n form) k) same.1 it)

pub call_taken : (bytes : List ℕ) (at n : ℕ) (call : Splice) (next : ℕ) → call_at bytes at n ≡ Ok (call, next) → TakenCall bytes at n call next
call_taken bytes at n call next e =
    let map : ℕ = get_or bytes at 0 in
    let inside = passes (leb (length bytes) at) CutOff (call_by bytes map at n (form_of map)) (call, next) e in
    taken_by bytes at n call next (form_of map) (leb-false (length bytes) at inside.0) refl inside.1

read_ok : (bytes : List ℕ) (at n map : ℕ) (form : Form) → get_or bytes at 0 ≡ map → at < length bytes → form_of map ≡ Some form → next_call map at ≤ length bytes
    → call_at bytes at n ≡ Ok (splice_at bytes map at n form, next_call map at)
read_ok bytes at n map form is inside has within =
    cond-false (leb (length bytes) at) (Err CutOff) (call_by bytes (get_or bytes at 0) at n (form_of (get_or bytes at 0))) (lt-leb (length bytes) at inside)
    ∙ (ap (λ m. call_by bytes m at n (form_of m)) is
    ∙ (ap (call_by bytes map at n) has
    ∙ cond-false (ltb (length bytes) (next_call map at)) (Err CutOff) (Ok (splice_at bytes map at n form, next_call map at)) (le-ltb (length bytes) (next_call map at) within)))

-- a record that is spelled at a byte is read as its call
pub call_found : (bytes : List ℕ) (at n : ℕ) (call : Splice) (front rest : List ℕ) → drop at bytes ≡ front ++ rest → SpelledCall n call front
    → call_at bytes at n ≡ Ok (call, at + length front)
call_found bytes at n call front rest cut s =
    let map = s.map in
    let form = s.form in
    let fields : List ℕ = s.curve_bytes ++ (s.in_bytes ++ (s.out_bytes ++ s.place_bytes)) in
    let written : drop at bytes ≡ map ∷ (fields ++ rest) = rw s.written at cut in
    let start = head_at bytes at map (fields ++ rest) written in
    let apart : drop (at + 1) bytes ≡ s.curve_bytes ++ (s.in_bytes ++ (s.out_bytes ++ (s.place_bytes ++ rest))) = start.2 ∙ simp append_assoc in
    let curve = found_byte bytes (stands map 0) (curve_place at) 0 s.curve s.curve_bytes (s.in_bytes ++ (s.out_bytes ++ (s.place_bytes ++ rest))) s.has_curve (omega (arith, start.0)) apart in
    let leg_in = found bytes (stands map 1) (leg_in_place map at) 0 s.in_leg s.in_bytes (s.out_bytes ++ (s.place_bytes ++ rest)) s.has_in curve.within curve.after in
    let leg_out = found bytes (stands map 2) (leg_out_place map at) 0 s.out_leg s.out_bytes (s.place_bytes ++ rest) s.has_out leg_in.within leg_in.after in
    let place = found_byte bytes (stands map 3) (place_place map at) (absent_place form n) s.place s.place_bytes rest s.has_place leg_out.within leg_out.after in
    let has : form_of map ≡ Some form =
    cond-true (eqb (map / 32) 0) (form_by (stands map 0) (stands map 1) (stands map 2) (stands map 4)) None (eq-eqb (map / 32) 0 s.clear)
    ∙ bits_form form (stands map 0) (stands map 1) (stands map 2) (stands map 4) s.bits in
    let same : splice_at bytes map at n form ≡ call = (λ i. splice_of form (curve.read i) (leg_in.read i) (leg_out.read i) (place.read i)) ∙ sym s.is in
    let there : at + length front ≡ next_call map at = after_at bytes front rest at (next_call map at) cut place.after (omega arith) place.within in
    let got : call_at bytes at n ≡ Ok (splice_at bytes map at n form, next_call map at) = read_ok bytes at n map form start.1 start.0 has place.within in
    let read : call_at bytes at n ≡ Ok (call, next_call map at) = rw same at got in
    rw there read

-- a record that is refused is no call
pub call_none : (bytes : List ℕ) (at n : ℕ) (why : Cause) → call_at bytes at n ≡ Err why → NoCall n (drop at bytes)
call_none bytes at n why e call front back cut spelled = cc (e, call_found bytes at n call front back cut spelled)

pub reads_calls : (bytes : List ℕ) → ReadsCalls bytes
reads_calls bytes at n = record {
  read = λ call next e. let t = call_taken bytes at n call next e in (t.front, t.spelled, t.cut, t.place);
  reads = λ call front rest cut spelled. call_found bytes at n call front rest cut spelled;
  refused = λ why e. call_none bytes at n why e;
}
