-- The lines of a card, one more at a time. Assumes nothing.
use Rattle.std.proofs.Common.{◌≡◌, ℕ, suc, ◌+◌, ◌<◌, ◌≤◌, List, [], ◌∷◌, ◌++◌, length, get_or, take, sym, ap, ◌∙◌, append_assoc, append-nil, arith}
use Rattle.std.proofs.lemmas.List.{take_more, length-take-le}
use Rattle.route.specs.declared.stop.Facts.{Facts}
use Rattle.route.specs.Judged.{Answer}
use Rattle.card_table.specs.Lines.{facts_line, facts_lines, answer_line, answer_lines}

answers_push : (word : List ℕ) (rs : List Answer) (r : Answer) → answer_lines word (rs ++ r ∷ []) ≡ answer_lines word rs ++ answer_line word r
answers_push word [] r = append-nil (answer_line word r)
answers_push word (x ∷ rs) r =
    ap (λ (l : List ℕ). answer_line word x ++ l) (answers_push word rs r) ∙ sym (append_assoc (answer_line word x) (answer_lines word rs) (answer_line word r))

pub answers_more : (word : List ℕ) (rs : List Answer) (i : ℕ) (d : Answer) → i < length rs → answer_lines word (take (i + 1) rs) ≡ answer_lines word (take i rs) ++ answer_line word (get_or rs i d)
answers_more word rs i d h = ap (answer_lines word) (take_more rs i d h) ∙ answers_push word (take i rs) (get_or rs i d)

facts_push : (fs : List Facts) (f : Facts) (i : ℕ) → facts_lines i (fs ++ f ∷ []) ≡ facts_lines i fs ++ facts_line (i + length fs) f
facts_push [] f i = let z : i ≡ i + 0 = omega arith in append-nil (facts_line i f) ∙ ap (λ (n : ℕ). facts_line n f) z
facts_push (x ∷ fs) f i =
    let z : i + 1 + length fs ≡ i + suc (length fs) = omega arith in
    ap (λ (l : List ℕ). facts_line i x ++ l) (facts_push fs f (i + 1) ∙ ap (λ (n : ℕ). facts_lines (i + 1) fs ++ facts_line n f) z)
    ∙ sym (append_assoc (facts_line i x) (facts_lines (i + 1) fs) (facts_line (i + suc (length fs)) f))

pub facts_more : (fs : List Facts) (i : ℕ) (d : Facts) → i < length fs → facts_lines 1 (take (i + 1) fs) ≡ facts_lines 1 (take i fs) ++ facts_line (i + 1) (get_or fs i d)
facts_more fs i d h =
    let low : i ≤ length fs = omega arith in
    let z : 1 + length (take i fs) ≡ i + 1 = omega (arith, length-take-le i fs low) in
    ap (facts_lines 1) (take_more fs i d h) ∙ facts_push (take i fs) (get_or fs i d) 1 ∙ ap (λ (n : ℕ). facts_lines 1 (take i fs) ++ facts_line n (get_or fs i d)) z

-- four texts, one behind another
pub four : (t u v w a b c d : List ℕ) → t ≡ a → u ≡ t ++ b → v ≡ u ++ c → w ≡ v ++ d → w ≡ a ++ (b ++ (c ++ d))
four t u v w a b c d p q r s =
    s ∙ ap (λ (l : List ℕ). l ++ d) (r ∙ ap (λ (l : List ℕ). l ++ c) (q ∙ ap (λ (l : List ℕ). l ++ b) p))
    ∙ append_assoc (a ++ b) c d ∙ append_assoc a b (c ++ d)
