-- What running a strip's calls does to a route's stop table. Assumes nothing.
use Rattle.std.specs.Prelude.{◌≡◌, ℕ, true, List, is_err, Result}
use Rattle.cost.specs.Algebra.{Algebra}
use Rattle.source.specs.Meaning.{Meaning}
use Rattle.route.specs.declared.stop.Stop.{Stop}
use Rattle.route.specs.Table.{plains, Marked}
use Rattle.reader.specs.declared.faults.Fault.{Fault}
use Rattle.reader.specs.declared.calls.Progress.{Progress}
use Rattle.reader.specs.Running.{begin, Call, Calls}
use Rattle.reader.specs.CallSpelling.{ReadsCalls}
use Rattle.reader.specs.CallLaws.{accepted_in, CountAsSplices, RunsExactly}

-- on the table ss, the call of the next record is answered r and leaves the table ts
pub record CallRan {E : Type 0} (K : Algebra E) (m : Meaning E) (bytes : List ℕ) (here : Progress) (ss : List Stop) (r : Result Progress Fault) (ts : List Stop) : Type 0 where
  -- as on the plain route
  pub call : Call K m bytes here (plains ss) r (plains ts)
  -- right marks stay right
  pub marked : Marked K m ss → Marked K m ts
  -- a fault leaves the whole table, marks and all
  pub stays : is_err r ≡ true → ts ≡ ss

-- on the table ss, the calls from a byte on are answered r and leave the table ts
pub record Ran {E : Type 0} (K : Algebra E) (m : Meaning E) (bytes : List ℕ) (at : ℕ) (ss : List Stop) (r : Result ℕ Fault) (ts : List Stop) : Type 0 where
  -- as on the plain route
  pub calls : Calls K m bytes (begin at) (plains ss) r (plains ts)
  -- right marks stay right
  pub marked : Marked K m ss → Marked K m ts
  -- where no call was accepted, the whole table stays, marks and all
  pub stays : accepted_in r ≡ 0 → ts ≡ ss
  -- the calls count as splices
  pub splices : CountAsSplices K m (plains ss) r (plains ts)
  -- a record is read as a call exactly if it is spelled as that call
  pub reads : ReadsCalls bytes
  -- and the calls made are those that the bytes spell
  pub exact : RunsExactly K m bytes at (plains ss) r (plains ts)
