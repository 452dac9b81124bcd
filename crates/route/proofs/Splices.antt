-- The stops that a splice makes, from the parts of the table.
use Rattle.std.proofs.Common.{◌≡◌, ℕ, ◌+◌, ◌-◌, List, ◌++◌, length, take, drop, Some, None, Option, sym, ap, ◌∙◌, subst, arith}
use Rattle.std.proofs.lemmas.List.{length-drop, take-map, drop-map, take_all, drop-drop}
use Rattle.route.specs.declared.stop.Stop.{Stop}
use Rattle.route.specs.declared.stop.Splice.{Splice}
use Rattle.route.specs.declared.stop.Splice.TheVariants.{Remove}
use Rattle.cost.specs.Algebra.{Algebra}
use Rattle.source.specs.Meaning.{Meaning}
use Rattle.route.specs.Plain.{Plain, place, spliced, visits}
use Rattle.route.specs.Steps.{HasPlace}
use Rattle.route.specs.Table.{plain, plains, line}
use Rattle.route.specs.Drafts.{put_in, behind, drafted}

pub parts : (ss front back : List Stop) (i j : ℕ) (put : Option Stop) (leg : Option ℕ) → front ≡ take i ss → back ≡ drop j ss → drafted front put back leg ≡ take i (plains ss) ++ (put_in put ++ behind leg (drop j (plains ss)))
parts ss front back i j put leg f b =
    ap (λ (l : List Plain). l ++ (put_in put ++ behind leg (plains back))) (ap plains f ∙ sym (take-map plain i ss))
    ∙ ap (λ (l : List Plain). take i (plains ss) ++ (put_in put ++ behind leg l)) (ap plains b ∙ sym (drop-map plain j ss))

-- the stops without the one at a place; the code holds those after it as a part of the rest from the place on
pub remove_parts : (ss front rest : List Stop) (s : Splice) (i p l : ℕ) → HasPlace (length ss) s → s ≡ Remove p l → i ≡ place s - 1 → front ≡ take i ss → rest ≡ drop i ss → drafted front None (take (length rest - 1) (drop 1 rest)) (Some l) ≡ spliced s (plains ss)
remove_parts ss front rest s i p l fits is at f r =
    let h : HasPlace (length ss) (Remove p l) = subst (HasPlace (length ss)) is fits in
    let up : i + 1 ≡ p = omega (arith, at, ap place is, h.0) in
    let back : take (length rest - 1) (drop 1 rest) ≡ drop p ss = take_all (length rest - 1) (drop 1 rest) (omega (arith, length-drop 1 rest)) ∙ ap (drop 1) r ∙ drop-drop 1 i ss ∙ ap (λ (j : ℕ). drop j ss) up in
    let low : i ≡ p - 1 = omega arith in
    parts ss front _ (p - 1) p None (Some l) (f ∙ ap (λ (j : ℕ). take j ss) low) back ∙ ap (λ (x : Splice). spliced x (plains ss)) (sym is)

-- a draft over a source, as the timing sees it
pub same_line : {X E : Type 0} (K : Algebra E) (M : X → Meaning E) (a b : X) (ps qs : List Plain) → a ≡ b → ps ≡ qs → visits K (M a) ps ≡ visits K (M b) qs
same_line {X} K M a b ps qs e f = ap (λ (x : X). visits K (M x) ps) e ∙ ap (visits K (M b)) f

-- a draft of the whole table ts, which holds the stops us
pub table_line : {X E : Type 0} (K : Algebra E) (M : X → Meaning E) (a b : X) (ps : List Plain) (ts us : List Stop) → a ≡ b → ps ≡ plains ts → ts ≡ us → visits K (M a) ps ≡ line K (M b) us
table_line K M a b ps ts us e f g = same_line K M a b ps (plains us) e (f ∙ ap plains g)
