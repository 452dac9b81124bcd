-- Texts put piece by piece. Assumes nothing.
use Rattle.std.proofs.Common.{◌≡◌, ℕ, ◌+◌, ◌/◌, ◌%◌, ◌^◌, ◌<◌, ◌≤◌, List, [], ◌∷◌, ◌++◌, length, decimal, Some, None, Option, sym, refl, ap, ◌∙◌, subst, arith, length-append}
use Rattle.std.proofs.lemmas.List.{append_assoc}
use Rattle.std.proofs.lemmas.Fmt.{decimal_digit, decimal_step}
use Rattle.cost.specs.Targets.{TargetModel, Puts}
use Rattle.cost.specs.Texts.{spaced}

module _ {T : Type 0} {M : TargetModel T} where
  -- one text, then another
  pub puts_then : {xs ys : List ℕ} {x y z : T} {r : Option (Unit {0})} → Puts M xs x y (Some tt) → Puts M ys y z r → Puts M (xs ++ ys) x z r
  puts_then {xs} {ys} {x} {y} {z} p q =
      let one = p.took refl in
      let here : M.at y ≡ M.at x + length xs = ap M.at one.1 ∙ M.ends x xs in
      let same : M.size y ≡ M.size x = ap M.size one.1 ∙ M.keeps x xs in
      let on : (text : List ℕ) (w : T) → w ≡ M.after y text → w ≡ M.after x (xs ++ text) = λ text w h. h ∙ ap (λ (v : T). M.after v text) one.1 ∙ M.joins x xs text in
      record {
        took = λ e. (omega (arith, length-append xs ys, (q.took e).0), on ys z (q.took e).1);
        full = λ e.
            let two = q.full e in
            let front = two.1.0 in
            let rest = two.1.1 in
            (omega (arith, length-append xs ys, two.0), (xs ++ front, rest, ap (λ (l : List ℕ). xs ++ l) two.1.2 ∙ sym (append_assoc xs front rest), on front z two.1.3));
      }

  -- one text, and no room for it
  pub puts_stop : {xs : List ℕ} {x y : T} (ys : List ℕ) → Puts M xs x y None → Puts M (xs ++ ys) x y None
  puts_stop {xs} ys p =
      record {
        took = λ e. cc;
        full = λ e.
            let one = p.full refl in
            let front = one.1.0 in
            let rest = one.1.1 in
            (omega (arith, length-append xs ys, one.0), (front, rest ++ ys, ap (λ (l : List ℕ). l ++ ys) one.1.2 ∙ append_assoc front rest ys, one.1.3));
      }

  -- two texts with a space between
  pub puts_spaced : {xs ys : List ℕ} {w x y z : T} {r : Option (Unit {0})} → Puts M xs w x (Some tt) → Puts M (32 ∷ []) x y (Some tt) → Puts M ys y z r → Puts M (spaced xs ys) w z r
  puts_spaced p q h = puts_then p (puts_then q h)

  -- a number in decimal: its last digit after the others
  pub puts_digit : {n : ℕ} {x y : T} {r : Option (Unit {0})} → n < 10 → Puts M ((48 + n % 10) ∷ []) x y r → Puts M (decimal n) x y r
  puts_digit {n} {x} {y} {r} h p =
      subst (λ (text : List ℕ). Puts M text x y r) (ap (λ (k : ℕ). (48 + k) ∷ []) (omega arith) ∙ sym (decimal_digit n h)) p

  pub puts_last : {n : ℕ} {x y z : T} {r : Option (Unit {0})} → 10 ≤ n → n < 2 ^ 64 → Puts M (decimal (n / 10)) x y (Some tt) → Puts M ((48 + n % 10) ∷ []) y z r → Puts M (decimal n) x z r
  puts_last {n} {x} {y} {z} {r} h k p q = subst (λ (text : List ℕ). Puts M text x z r) (sym (decimal_step n h k)) (puts_then p q)

  pub puts_front : {n : ℕ} {x y : T} → 10 ≤ n → n < 2 ^ 64 → Puts M (decimal (n / 10)) x y None → Puts M (decimal n) x y None
  puts_front {n} {x} {y} h k p = subst (λ (text : List ℕ). Puts M text x y None) (sym (decimal_step n h k)) (puts_stop ((48 + n % 10) ∷ []) p)
