-- What every route keeps, whatever was called on it. Assumes nothing.
use Rattle.std.specs.Prelude.{◌≤◌, List, length}
use Rattle.cost.specs.Algebra.{Algebra}
use Rattle.source.specs.Meaning.{Meaning, Lawful}
use Rattle.route.specs.declared.stop.Stop.{Stop}
use Rattle.route.specs.Table.{plains, Marked, Short}

-- the table ss over a source of meaning m
pub record Kept {E : Type 0} (K : Algebra E) (m : Meaning E) (ss : List Stop) : Type 0 where
  pub few : length ss ≤ 64
  -- the source keeps its bounds and the law
  pub lawful : Lawful K m
  -- every mark is right
  pub marked : Marked K m ss
  -- every leg is of at most 600 minutes
  pub legs : Short (plains ss)
