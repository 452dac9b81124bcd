-- What a book keeps, whatever its entries are. Assumes nothing.
use Rattle.std.proofs.Common.{◌≡◌, ℕ, ◌≤◌, Bool, true, false, cond, ltb, List, Some, None, Option, refl, ap, subst, arith}
use Rattle.std.specs.Option.{option_map}
use Rattle.std.specs.List.{slice_get}
use Rattle.std.proofs.lemmas.Bool.{le-ltb, cond-false}
use Rattle.cost.specs.Amounts.{whole}
use Rattle.source.specs.Meaning.{Curve, Sound, Lawful}
use Rattle.source.specs.Books.{entry_of, only_if, open_entry, book_meaning}

pub none_some : {X : Type 0} (x : X) (P : Type 0) → ◌≡◌ {A = Option X} None (Some x) → P
none_some x P e = let z : ◌≡◌ {A = ℕ} 0 1 = cc in absurd (omega arith)

pub some_same : {X : Type 0} (x y : X) → Some x ≡ Some y → x ≡ y
some_same x y e = cc

pub cond_some : {X : Type 0} (b : Bool) (x y : X) → cond b (Some x) None ≡ Some y → (b ≡ true) × (x ≡ y)
cond_some true x y e = (refl, cc)
cond_some false x y e = (cc, cc)

module _ {X : Type 0} (xs : List X) (k : ℕ) where
  pub entry_late : 64 ≤ k → entry_of xs k ≡ None
  entry_late h = cond-false (ltb k 64) (slice_get xs k) None (le-ltb k 64 h)

module _ {X : Type 0} (lawful : X → Bool) where
  only_lawful : (o : Option X) (x : X) → only_if lawful o ≡ Some x → lawful x ≡ true
  only_lawful None x e = none_some x (lawful x ≡ true) e
  only_lawful (Some y) x e = let p = cond_some (lawful y) y x e in subst (λ (z : X). lawful z ≡ true) p.1 p.0

  module _ (curve : X → Curve ℕ) where
    entry_sound : (o : Option X) (c : Curve ℕ)
        → ((x : X) → o ≡ Some x → lawful x ≡ true) → ((x : X) → lawful x ≡ true → Sound whole 2097152 (curve x)) → option_map curve o ≡ Some c → Sound whole 2097152 c
    entry_sound None c ok h e = none_some c _ e
    entry_sound (Some x) c ok h e = subst (λ (d : Curve ℕ). Sound whole 2097152 d) (some_same _ _ e) (h x (ok x refl))

    pub book_lawful : (xs : List X) → ((x : X) → lawful x ≡ true → Sound whole 2097152 (curve x)) → Lawful whole (book_meaning lawful curve xs)
    book_lawful xs h = record {
      few = λ k l. ap (λ (o : Option X). option_map curve (only_if lawful o)) (entry_late xs k l);
      sound = λ k c e. entry_sound (open_entry lawful xs k) c (λ x f. only_lawful (entry_of xs k) x f) h e;
      high = omega arith;
    }
