-- What the parts of a whole run leave. Words for its functions; no reader of Whole needs them. Assumes nothing.
use Rattle.std.specs.Prelude.{◌≡◌, ℕ, List, map}
use Rattle.cost.specs.Algebra.{Algebra}
use Rattle.source.specs.Meaning.{Meaning}
use Rattle.route.specs.declared.stop.Stop.{Stop}
use Rattle.route.specs.declared.stop.Facts.{Facts}
use Rattle.route.specs.declared.stop.Splice.{Splice}
use Rattle.route.specs.Table.{plains}
use Rattle.route.specs.Judged.{Answer}
use Rattle.route.specs.Guarantee.{told, Read, Steady}

-- a route opened over the source x of meaning M x, spliced and read; it keeps the source y and the stops us
pub record Ran {X E : Type 0} (K : Algebra E) (M : X → Meaning E) (x : X) (ss : List Splice) (y : X) (us : List Stop) (rs : List Answer) (n : ℕ) (fs : List Facts) (c : E) : Type 0 where
  pub source : y ≡ x
  pub stops : plains us ≡ map told fs
  pub read : Read K (M x) ss rs n fs c
  pub steady : Steady K (M x) ss rs fs
