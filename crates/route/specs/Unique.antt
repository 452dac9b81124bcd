-- What is answered and read is settled by the splices and the source's meaning alone. (A clause holds facts of Type 0, so the statement takes the cost kind, and the function that promises it is generic.) Assumes nothing.
use Rattle.std.specs.Prelude.{◌≡◌, ℕ, List, Result}
use Rattle.cost.specs.Algebra.{Algebra}
use Rattle.source.specs.Meaning.{Meaning}
use Rattle.route.specs.declared.stop.Facts.{Facts}
use Rattle.route.specs.declared.stop.Splice.{Splice}
use Rattle.route.specs.declared.stop.Refusal.{Refusal}
use Rattle.route.specs.Plain.{Plain}
use Rattle.route.specs.Judged.{Answer, Judged, Runs}
use Rattle.route.specs.Joins.{JoinJudged}
use Rattle.route.specs.Guarantee.{Read}

pub record OneAnswer {E : Type 0} (K : Algebra E) : Type 0 where
  -- a splice has one answer, and leaves the stops of one plain route
  pub judged : (m : Meaning E) (ps qs us : List Plain) (s : Splice) (r t : Answer) → Judged K m ps s r qs → Judged K m ps s t us → (r ≡ t) × (qs ≡ us)
  -- so has a list of splices
  pub runs : (m : Meaning E) (ps qs us : List Plain) (ss : List Splice) (rs ts : List Answer) → Runs K m ps ss rs qs → Runs K m ps ss ts us → (rs ≡ ts) × (qs ≡ us)
  -- after a list of splices one thing can be read
  pub read : (m : Meaning E) (ss : List Splice) (rs ts : List Answer) (n k : ℕ) (fs gs : List Facts) (c d : E) → Read K m ss rs n fs c → Read K m ss ts k gs d → (rs ≡ ts) × (n ≡ k) × (fs ≡ gs) × (c ≡ d)
  -- a join has one answer
  pub joined : (m n : Meaning E) (ps qs : List Plain) (i leg j : ℕ) (r t : Result E Refusal) → JoinJudged K m ps i leg n qs j r → JoinJudged K m ps i leg n qs j t → r ≡ t
