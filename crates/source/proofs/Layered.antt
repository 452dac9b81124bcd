-- What the layers keep. Assumes nothing.
use Rattle.std.proofs.Common.{◌≡◌, ℕ, ◌+◌, ◌*◌, ◌^◌, ◌≤◌, min, max, Bool, true, false, cond, ltb, leb, List, get_or, Some, None, Option, sym, refl, ap, ◌∙◌, subst, mul-le-mul, arith}
use Rattle.std.specs.Option.{option_map}
use Rattle.std.proofs.lemmas.Bool.{and_parts, leb-true}
use Rattle.cost.specs.Algebra.{Algebra, fold}
use Rattle.cost.specs.Pairs.{paired, lex_none}
use Rattle.cost.proofs.Laws.{fold_plus, fold_most, size_fold}
use Rattle.source.specs.Meaning.{Curve, Meaning, Sound, Lawful, span_of, price_of, holds}
use Rattle.source.proofs.Entries.{none_some, some_same, cond_some}
use Rattle.source.specs.Layers.{common, pairing, scaled, weight_of, weighted}

cond_low : (b : Bool) (n : ℕ) → n ≤ 100 → cond b n 0 ≤ 100
cond_low true n h = h
cond_low false n h = omega arith

pub weight_low : (ws : List ℕ) (k : ℕ) → weight_of ws k ≤ 100
weight_low ws k = cond_low (ltb k 64) (min (get_or ws k 0) 100) (omega arith)

module _ {E F : Type 0} (a : Algebra E) (b : Algebra F) where
  common_sound : (p q : ℕ) (o : Option (Curve E)) (u : Option (Curve F)) (c : Curve (E × F))
      → ((d : Curve E) → o ≡ Some d → Sound a p d) → ((d : Curve F) → u ≡ Some d → Sound b q d) → common o u ≡ Some c → Sound (paired a b) (max p q) c
  common_sound p q None u c h k e = none_some c _ e
  common_sound p q (Some x) None c h k e = none_some c _ e
  common_sound p q (Some x) (Some y) c h k e =
      let t = cond_some (leb (max x.first y.first) (min x.last y.last)) _ c e in
      let l = leb-true _ _ t.0 in
      let f = h x refl in
      let g = k y refl in
      subst (λ (d : Curve (E × F)). Sound (paired a b) (max p q) d) t.1
      (record {
        order = l;
        day = omega (arith, f.day);
        convex = λ t u v. lex_none _ _ _ (f.convex t (omega arith) (omega arith)) (g.convex t (omega arith) (omega arith));
        small = λ t u v. omega (arith, f.small t (omega arith) (omega arith), g.small t (omega arith) (omega arith));
      })

  common_few : (o : Option (Curve E)) (u : Option (Curve F)) → o ≡ None → common o u ≡ None
  common_few o u e = ap (λ (x : Option (Curve E)). common x u) e

  pub pairing_lawful : (m : Meaning E) (n : Meaning F) → Lawful a m → Lawful b n → Lawful (paired a b) (pairing m n)
  pairing_lawful m n h k = record {
    few = λ i l. common_few (m.curve i) (n.curve i) (h.few i l);
    sound = λ i c e. common_sound m.peak n.peak (m.curve i) (n.curve i) c (h.sound i) (k.sound i) e;
    high = omega (arith, h.high, k.high);
  }

module _ {E : Type 0} (a : Algebra E) where
  pub span_scaled : (w : ℕ) (o : Option (Curve E)) → span_of (scaled a w o) ≡ span_of o
  span_scaled w None = refl
  span_scaled w (Some c) = refl

  mapped_cond : (w : ℕ) (b : Bool) (x : E) → cond b (Some (fold a w x)) None ≡ option_map (fold a w) (cond b (Some x) None)
  mapped_cond w true x = refl
  mapped_cond w false x = refl

  pub price_scaled : (w : ℕ) (o : Option (Curve E)) (t : ℕ) → price_of (scaled a w o) t ≡ option_map (fold a w) (price_of o t)
  price_scaled w None t = refl
  price_scaled w (Some c) t = mapped_cond w (holds c t) (c.cost t)

  -- a cost that a lawful source answers is no larger than its peak
  price_small : (p : ℕ) (o : Option (Curve E)) (t : ℕ) (x : E) → ((c : Curve E) → o ≡ Some c → Sound a p c) → price_of o t ≡ Some x → a.size x ≤ p
  price_small p None t x h e = none_some x _ e
  price_small p (Some c) t x h e =
      let k = cond_some (holds c t) (c.cost t) x e in
      let l = and_parts _ _ k.0 in
      subst (λ (y : E). a.size y ≤ p) k.1 ((h c refl).small t (leb-true _ _ l.0) (leb-true _ _ l.1))

  pub lawful_small : (m : Meaning E) → Lawful a m → (k t : ℕ) (x : E) → price_of (m.curve k) t ≡ Some x → a.size x ≤ m.peak
  lawful_small m h k t x e = price_small m.peak (m.curve k) t x (h.sound k) e

  scaled_sound : (p w : ℕ) (o : Option (Curve E)) (c : Curve E) → w ≤ 100 → ((d : Curve E) → o ≡ Some d → Sound a p d) → scaled a w o ≡ Some c → Sound a (100 * p) c
  scaled_sound p w None c l h e = none_some c _ e
  scaled_sound p w (Some d) c l h e =
      let s = h d refl in
      subst (λ (x : Curve E). Sound a (100 * p) x) (some_same _ _ e)
      (record {
        order = s.order;
        day = s.day;
        convex = λ t u v.
            let k = fold_most a w (a.plus (d.cost (t + 1)) (d.cost (t + 1))) (a.plus (d.cost t) (d.cost (t + 2))) (s.convex t u v) in
            subst (λ (x : E). a.less x (a.plus (fold a w (d.cost (t + 1))) (fold a w (d.cost (t + 1)))) ≡ false) (fold_plus a w (d.cost t) (d.cost (t + 2)))
            (subst (λ (y : E). a.less (fold a w (a.plus (d.cost t) (d.cost (t + 2)))) y ≡ false) (fold_plus a w (d.cost (t + 1)) (d.cost (t + 1))) k);
        small = λ t u v. omega (arith, size_fold a w (d.cost t), mul-le-mul {n₁ = w} {m₁ = a.size (d.cost t)} {n₂ = 100} {m₂ = p} l (s.small t u v));
      })

  closing : (b : Bool) (o : Option (Curve E)) (p : ℕ) → ((c : Curve E) → o ≡ Some c → Sound a p c) → (c : Curve E) → cond b o None ≡ Some c → Sound a (cond b p 0) c
  closing true o p h c e = h c e
  closing false o p h c e = none_some c _ e

  high_cond : (b : Bool) (p : ℕ) → (b ≡ true → p ≤ 2 ^ 40) → cond b p 0 ≤ 2 ^ 40
  high_cond true p h = h refl
  high_cond false p h = omega arith

  few_cond : (b : Bool) (w : ℕ) (o : Option (Curve E)) → o ≡ None → cond b (scaled a w o) None ≡ None
  few_cond true w o e = ap (scaled a w) e
  few_cond false w o e = refl

  pub weighted_lawful : (ws : List ℕ) (m : Meaning E) → Lawful a m → Lawful a (weighted a ws m)
  weighted_lawful ws m h = record {
    few = λ k l. few_cond (leb (100 * m.peak) (2 ^ 40)) (weight_of ws k) (m.curve k) (h.few k l);
    sound = λ k c e.
        closing (leb (100 * m.peak) (2 ^ 40)) (scaled a (weight_of ws k) (m.curve k)) (100 * m.peak)
        (λ d f. scaled_sound m.peak (weight_of ws k) (m.curve k) d (weight_low ws k) (h.sound k) f) c e;
    high = high_cond (leb (100 * m.peak) (2 ^ 40)) (100 * m.peak) (leb-true _ _);
  }

  pub weighted_price : (b : Bool) (v w : ℕ) (o : Option (Curve E)) (t : ℕ) (x y : E)
      → true ≡ b → v ≡ w → Some x ≡ price_of o t → y ≡ fold a v x → Some y ≡ price_of (cond b (scaled a w o) None) t
  weighted_price true v w o t x y h e f k = ap Some (k ∙ ap (λ (n : ℕ). fold a n x) e) ∙ ap (option_map (fold a w)) f ∙ sym (price_scaled w o t)
  weighted_price false v w o t x y h e f k = cc
