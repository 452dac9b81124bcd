-- The test of a head, in the parts that the code takes, and that it is exact. Assumes nothing.
use Rattle.std.specs.Prelude.{◌≡◌, ℕ, ◌-◌, Bool, true, ◌&&◌, List, [], ◌∷◌, length, pos, negsuc, ◌==◌, int_le, nat_le, nat_lt}
use Rattle.std.specs.List.{list_all}
use Rattle.bend_book.specs.Bends.{own_bends, lowest_after}
use Rattle.bend_book.specs.Heads.{LawfulHead}
use Rattle.bend_book.specs.declared.bend.Bend.{Bend}
use Rattle.bend_book.specs.declared.bend.BendHead.{BendHead}

-- the limits that a head keeps by itself
abbrev pub head_limits : BendHead → Bool
head_limits h = nat_le h.first h.last && (nat_le h.last 1440 && (nat_le h.start 500000 && nat_le h.count 16))

-- a bend's minute does not pass last, and its step lies from -1000 to 1000
abbrev pub bend_fits : ℕ → Bend → Bool
bend_fits last b = nat_le b.minute last && (int_le (negsuc 999) b.step && int_le b.step (pos 1000))

abbrev pub each_fits : ℕ → List Bend → Bool
each_fits last bs = list_all (bend_fits last) bs

-- b's minute is later than a's, and its step is no smaller
abbrev pub follows : Bend → Bend → Bool
follows a b = nat_lt a.minute b.minute && int_le a.step b.step

abbrev pub each_follows : Bend → List Bend → Bool
each_follows a [] = true
each_follows a (b ∷ bs) = follows a b && each_follows b bs

-- the first bend's minute is first, and each other bend follows the one before
abbrev pub orderly : ℕ → List Bend → Bool
orderly first [] = true
orderly first (b ∷ bs) = b.minute == first && each_follows b bs

abbrev pub own_lawful : BendHead → List Bend → Bool
own_lawful h bs =
    (length bs == h.count)
    && (orderly h.first bs && (each_fits h.last bs && int_le (pos 0) (lowest_after h.start bs h.first (h.last - h.first))))

abbrev pub head_lawful : List Bend → BendHead → Bool
head_lawful table h = head_limits h && own_lawful h (own_bends table h)

-- theorem: the test is true exactly when the head is lawful
abbrev pub TestExact : Type 0
TestExact = (table : List Bend) (h : BendHead) → (head_lawful table h ≡ true → LawfulHead table h) × (LawfulHead table h → head_lawful table h ≡ true)
