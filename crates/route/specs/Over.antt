-- What contracts see of a route, and of a draft. Assumes nothing.
use Rattle.std.specs.Prelude.{List}

-- stops of the form T over a penalty source of the type X
pub record Over (X T : Type 0) : Type 0 where
  pub source : X
  pub stops : List T
