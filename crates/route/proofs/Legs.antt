-- Legs of at most 600 minutes stay so.
use Rattle.std.proofs.Common.{◌≡◌, ℕ, zero, suc, ◌-◌, ◌≤◌, List, [], ◌∷◌, ◌++◌, take, drop, None, sym}
use borrow.Author.Tests.{false-ltb}
use Rattle.source.specs.Meaning.{Meaning}
use Rattle.route.specs.declared.stop.Splice.{Splice}
use Rattle.route.specs.declared.stop.Splice.TheVariants.{Insert, Remove, Change}
use Rattle.route.specs.Plain.{Plain, releg, recurve, spliced}
use Rattle.route.specs.Table.{Short}
use Rattle.route.specs.Judged.{long, objection}
use Rattle.route.proofs.Objections.{passed, both_false}

short_take : (n : ℕ) (ps : List Plain) → Short ps → Short (take n ps)
short_take zero ps h = tt
short_take (suc n) [] h = tt
short_take (suc n) (p ∷ ps) h = (h.0, short_take n ps h.1)

short_drop : (n : ℕ) (ps : List Plain) → Short ps → Short (drop n ps)
short_drop zero ps h = h
short_drop (suc n) [] h = tt
short_drop (suc n) (p ∷ ps) h = short_drop n ps h.1

short_append : (ps qs : List Plain) → Short ps → Short qs → Short (ps ++ qs)
short_append [] qs h k = k
short_append (p ∷ ps) qs h k = (h.0, short_append ps qs h.1 k)

short_releg : (l : ℕ) (ps : List Plain) → l ≤ 600 → Short ps → Short (releg l ps)
short_releg l [] b h = tt
short_releg l (p ∷ ps) b h = (b, h.1)

short_recurve : (k : ℕ) (ps : List Plain) → Short ps → Short (recurve k ps)
short_recurve k [] h = tt
short_recurve k (p ∷ ps) h = h

-- a splice that nothing speaks against leaves such legs
pub short_spliced : {E : Type 0} (m : Meaning E) (ps : List Plain) (s : Splice) → objection m ps s ≡ None → Short ps → Short (spliced s ps)
short_spliced m ps (Insert p k a b) e h =
    let x = both_false (long a) (long b) (passed _ 4 _ (passed _ 3 _ (passed _ 2 _ (passed _ 1 _ e).1).1).1).0 in
    short_append (take (p - 1) ps) _ (short_take (p - 1) ps h) (false-ltb 600 a x.0, short_releg b (drop (p - 1) ps) (false-ltb 600 b x.1) (short_drop (p - 1) ps h))
short_spliced m ps (Remove p l) e h =
    short_append (take (p - 1) ps) _ (short_take (p - 1) ps h) (short_releg l (drop p ps) (false-ltb 600 l (sym (passed _ 4 _ (passed _ 1 _ e).1).0)) (short_drop p ps h))
short_spliced m ps (Change p k) e h = short_append (take (p - 1) ps) _ (short_take (p - 1) ps h) (short_recurve k (drop (p - 1) ps) (short_drop (p - 1) ps h))
