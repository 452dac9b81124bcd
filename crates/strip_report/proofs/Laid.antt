-- A report written over the front of a buffer is what the front then holds. Assumes nothing.
use Rattle.std.proofs.Common.{◌≡◌, ℕ, ◌+◌, ◌≤◌, Bool, true, false, cond, leb, List, [], ◌∷◌, ◌++◌, length, take, set, Ok, Err, Result, sym, refl, ap, ◌∙◌, append_assoc, append-nil, arith, length-set, is_ok}
use Rattle.std.proofs.lemmas.List.{take_more_set, take-take, take-append-le}
use Rattle.std.proofs.lemmas.Bool.{leb-true, le-leb, cond-true}
use Rattle.cost.specs.Texts.{put, laid}
use Rattle.cost.proofs.Bytes.{laid_fits}
use Rattle.report.specs.declared.refusal.ReportRefusal.{ReportRefusal}
use Rattle.report.specs.declared.refusal.ReportRefusal.TheVariants.{BufferTooShort}
use Rattle.report.specs.Refusals.{answer}

put_front : (xs buf : List ℕ) (i : ℕ) → i + length xs ≤ length buf → take (i + length xs) (put buf i xs) ≡ take i buf ++ xs
put_front [] buf i h = let e : i + 0 ≡ i = omega arith in ap (λ (n : ℕ). take n buf) e ∙ sym (append-nil (take i buf))
put_front (x ∷ xs) buf i h =
    let e : i + length (x ∷ xs) ≡ (i + 1) + length xs = omega arith in
    let l : length (set buf i x) ≡ length buf = simp length-set in
    ap (λ (n : ℕ). take n (put (set buf i x) (i + 1) xs)) e
    ∙ put_front xs (set buf i x) (i + 1) (omega arith)
    ∙ ap (λ (ys : List ℕ). ys ++ xs) (take_more_set buf i x (omega arith))
    ∙ append_assoc (take i buf) (x ∷ []) xs

pub laid_front : (buf text : List ℕ) → length text ≤ length buf → take (length text) (laid buf 0 text) ≡ text
laid_front buf text h =
    let n : 0 + length text ≡ length text = omega arith in
    ap (take (length text)) (laid_fits buf 0 text (omega arith)) ∙ ap (λ (k : ℕ). take k (put buf 0 text)) (sym n) ∙ put_front text buf 0 (omega arith)

answer_by : (b : Bool) (n k : ℕ) → ◌≡◌ {A = Result ℕ ReportRefusal} (Ok k) (cond b (Ok n) (Err BufferTooShort)) → (k ≡ n) × (b ≡ true)
answer_by true n k e = (cc, refl)
answer_by false n k e = let z : ◌≡◌ {A = ℕ} 0 1 = cc in absurd (omega arith)

-- an answered report fits
pub answered : (n size k : ℕ) → Ok k ≡ answer n size → (k ≡ n) × (n ≤ size)
answered n size k e = let x = answer_by (leb n size) n k e in (x.0, leb-true n size x.1)

pub front_read : (buf bytes text : List ℕ) (k n : ℕ) → n ≡ k → Ok k ≡ answer (length text) (length buf) → bytes ≡ laid buf 0 text → take n bytes ≡ text
front_read buf bytes text k n same e is =
    let a = answered (length text) (length buf) k e in
    ap (λ (m : ℕ). take m bytes) (same ∙ a.0) ∙ ap (take (length text)) is ∙ laid_front buf text a.1

-- the front of a buffer that was lent by the value that it belongs to
pub front_lent : (n size : ℕ) (bytes rest : List ℕ) → n ≤ size → n ≤ length bytes → take n (take size (bytes ++ rest)) ≡ take n bytes
front_lent n size bytes rest h k = take-take n size (bytes ++ rest) h ∙ take-append-le n bytes rest k

-- a report that fits is answered
pub fitting : (n size : ℕ) (r : Result ℕ ReportRefusal) → r ≡ answer n size → n ≤ size → is_ok r ≡ true
fitting n size r e h = ap is_ok (e ∙ cond-true (leb n size) (Ok n) (Err BufferTooShort) (le-leb n size h))
