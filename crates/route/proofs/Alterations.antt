-- What the alterations of the table come to.
use Rattle.std.proofs.Common.{◌≡◌, ℕ, suc, ◌+◌, ◌-◌, ◌<◌, ◌≤◌, List, [], ◌∷◌, ◌++◌, map, length, get_or, take, drop, set, sym, ap, ◌∙◌, append-nil, arith, drop-cons}
use Rattle.std.specs.List.{insert, remove}
use Rattle.std.proofs.lemmas.List.{length-map, length-take-le, map-append, map-set, set_split, set-get_or, get_or-map, take_all, drop_all, take-map, drop-map, take_at, drop_at, take-append-le, take-take, take-set}
use Rattle.route.specs.declared.stop.Stop.{Stop}
use Rattle.route.specs.declared.stop.Splice.TheVariants.{Insert, Remove, Change}
use Rattle.route.specs.Plain.{Plain, releg, recurve}
use Rattle.route.specs.Table.{plain, plains, mark, marks}
use Rattle.route.specs.Calls.{Altered}

abbrev pub with_leg : Stop → ℕ → Stop
with_leg s l = record { curve = s.curve; leg = l; mark = s.mark }

abbrev pub with_curve : Stop → ℕ → Stop
with_curve s k = record { curve = k; leg = s.leg; mark = s.mark }

abbrev pub with_next : List Stop → ℕ → ℕ → List Plain
with_next ss i l = take i (plains ss) ++ releg l (drop i (plains ss))

pub leg_set : (ss : List Stop) (i l : ℕ) (s : Stop) → i < length ss → s ≡ get_or ss i s → plains (set ss i (with_leg s l)) ≡ with_next ss i l
leg_set ss i l s h e =
    let ps = plains ss in
    let n = length-map ss plain in
    let lt : i < length ps = omega arith in
    let here : get_or ps i (plain s) ≡ plain s = get_or-map plain ss i s (plain s) h ∙ ap plain (sym e) in
    map-set plain ss i (with_leg s l)
    ∙ set_split ps i (plain (with_leg s l)) lt
    ∙ ap (λ (q : List Plain). take i ps ++ releg l q) (sym (drop-cons ps i (plain s) lt ∙ ap (λ (x : Plain). x ∷ drop (suc i) ps) here))

pub leg_past : (ss : List Stop) (i l : ℕ) → length ss ≤ i → plains ss ≡ with_next ss i l
leg_past ss i l h =
    let ps = plains ss in
    let n = length-map ss plain in
    let ge : length ps ≤ i = omega arith in
    sym (append-nil ps) ∙ ap (λ (q : List Plain). q ++ []) (sym (take_all i ps ge)) ∙ ap (λ (q : List Plain). take i ps ++ releg l q) (sym (drop_all i ps ge))

-- a stop written anew with its own mark leaves the marks
pub marks_set : (ss : List Stop) (i : ℕ) (s y : Stop) → i < length ss → s ≡ get_or ss i s → y.mark ≡ s.mark → marks (set ss i y) ≡ marks ss
marks_set ss i s y h e k =
    map-set mark ss i y ∙ ap (λ (t : ℕ). set (marks ss) i t) (k ∙ ap mark e ∙ sym (get_or-map mark ss i s 0 h)) ∙ set-get_or (marks ss) i 0

-- the first i values of a list that begins with the first i of another
front_kept : {A : Type 0} (f : Stop → A) (vs : List Stop) (ys : List Stop) (i : ℕ) → i ≤ length vs → take i (map f (take i vs ++ ys)) ≡ take i (map f vs)
front_kept f vs ys i h =
    take-map f i (take i vs ++ ys) ∙ ap (map f) (take_at (take i vs) ys i (length-take-le i vs h)) ∙ sym (take-map f i vs)

pub same_length : (ss vs : List Stop) → marks vs ≡ marks ss → length vs ≡ length ss
same_length ss vs e = sym (length-map vs mark) ∙ ap length e ∙ length-map ss mark

pub insert_altered : (ss vs us : List Stop) (p b : ℕ) (x : Stop) → 1 ≤ p → p ≤ length ss + 1 → plains vs ≡ with_next ss (p - 1) b → marks vs ≡ marks ss → us ≡ insert vs (p - 1) x → Altered ss (Insert p x.curve x.leg b) us
insert_altered ss vs us p b x h g e k w =
    let ps = plains ss in
    let i = p - 1 in
    let n = length-map ss plain in
    let l = same_length ss vs k in
    let long : length (take i ps) ≡ i = length-take-le i ps (omega arith) in
    record {
      stops =
          ap plains w ∙ map-append plain (take i vs) (x ∷ drop i vs)
          ∙ ap (λ (q : List Plain). q ++ plain x ∷ plains (drop i vs)) (sym (take-map plain i vs) ∙ ap (take i) e ∙ take_at (take i ps) (releg b (drop i ps)) i long)
          ∙ ap (λ (q : List Plain). take i ps ++ plain x ∷ q) (sym (drop-map plain i vs) ∙ ap (drop i) e ∙ drop_at (take i ps) (releg b (drop i ps)) i long);
      front = ap (λ (q : List Stop). take i (marks q)) w ∙ front_kept mark vs (x ∷ drop i vs) i (omega arith) ∙ ap (take i) k;
    }

pub remove_altered : (ss vs us : List Stop) (p l : ℕ) → 1 ≤ p → p ≤ length ss → plains vs ≡ with_next ss p l → marks vs ≡ marks ss → us ≡ remove vs (p - 1) → Altered ss (Remove p l) us
remove_altered ss vs us p l h g e k w =
    let ps = plains ss in
    let n = length-map ss plain in
    let m = same_length ss vs k in
    let up : suc (p - 1) ≡ p = omega arith in
    let long : length (take p ps) ≡ p = length-take-le p ps (omega arith) in
    record {
      stops =
          ap plains w ∙ map-append plain (take (p - 1) vs) (drop (suc (p - 1)) vs)
          ∙ ap (λ (q : List Plain). q ++ plains (drop (suc (p - 1)) vs)) (sym (take-map plain (p - 1) vs) ∙ ap (take (p - 1)) e ∙ take-append-le (p - 1) (take p ps) (releg l (drop p ps)) (omega arith) ∙ take-take (p - 1) p ps (omega arith))
          ∙ ap (λ (q : List Plain). take (p - 1) ps ++ q) (sym (drop-map plain (suc (p - 1)) vs) ∙ ap (λ (j : ℕ). drop j (plains vs)) up ∙ ap (drop p) e ∙ drop_at (take p ps) (releg l (drop p ps)) p long);
      front = ap (λ (q : List Stop). take (p - 1) (marks q)) w ∙ front_kept mark vs (drop (suc (p - 1)) vs) (p - 1) (omega arith) ∙ ap (take (p - 1)) k;
    }

pub change_altered : (ss us : List Stop) (p k : ℕ) (s : Stop) → 1 ≤ p → p ≤ length ss → s ≡ get_or ss (p - 1) s → us ≡ set ss (p - 1) (with_curve s k) → Altered ss (Change p k) us
change_altered ss us p k s h g e w =
    let ps = plains ss in
    let n = length-map ss plain in
    let lt : p - 1 < length ps = omega arith in
    let i : get_or ps (p - 1) (plain s) ≡ plain s = get_or-map plain ss (p - 1) s (plain s) (omega arith) ∙ ap plain (sym e) in
    record {
      stops =
          ap plains w ∙ map-set plain ss (p - 1) (with_curve s k)
          ∙ set_split ps (p - 1) (plain (with_curve s k)) lt
          ∙ ap (λ (l : List Plain). take (p - 1) ps ++ recurve k l) (sym (drop-cons ps (p - 1) (plain s) lt ∙ ap (λ (x : Plain). x ∷ drop (suc (p - 1)) ps) i));
      front = ap (λ (q : List Stop). take (p - 1) (marks q)) w ∙ ap (take (p - 1)) (map-set mark ss (p - 1) (with_curve s k)) ∙ take-set (marks ss) (p - 1) s.mark;
    }
