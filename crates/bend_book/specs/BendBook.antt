-- The bend book: head k is curve k, and costs by its bends. Assumes nothing.
use Rattle.std.specs.Prelude.{ℕ, List}
use Rattle.cost.specs.Amounts.{whole}
use Rattle.cost.specs.Convex.{Convex}
use Rattle.source.specs.Meaning.{Curve, Meaning}
use Rattle.source.specs.Books.{book_meaning}
use Rattle.bend_book.specs.Bends.{bend_penalty}
use Rattle.bend_book.specs.Heads.{LawfulHead}
use Rattle.bend_book.specs.HeadTest.{head_lawful}
use Rattle.bend_book.specs.declared.bend.Bend.{Bend}
use Rattle.bend_book.specs.declared.bend.BendHead.{BendHead}

-- theorem: the curve of a lawful head obeys the law of convexity over its window
abbrev pub BendConvex : Type 0
BendConvex = (table : List Bend) (h : BendHead) → LawfulHead table h → Convex whole (bend_penalty table h) h.first h.last

abbrev pub bend_curve : List Bend → BendHead → Curve ℕ
bend_curve table h = record { first = h.first; last = h.last; cost = bend_penalty table h }

abbrev pub bend_meaning : List Bend → List BendHead → Meaning ℕ
bend_meaning table heads = book_meaning (head_lawful table) (bend_curve table) heads
