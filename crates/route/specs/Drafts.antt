-- A route as it would be after a splice, from the parts that its draft holds. Words for loops and proofs; no reader of Judged needs them. Assumes nothing.
use Rattle.std.specs.Prelude.{ℕ, List, [], ◌∷◌, ◌++◌, Some, None, Option}
use Rattle.cost.specs.Algebra.{Algebra}
use Rattle.source.specs.Meaning.{Meaning}
use Rattle.timing.specs.Visits.{Visit, nowhere}
use Rattle.route.specs.declared.stop.Stop.{Stop}
use Rattle.route.specs.Plain.{Plain, releg, seen, visits}
use Rattle.route.specs.Table.{plain, plains}
use Rattle.route.specs.Over.{Over}

-- a new stop, if any
abbrev pub put_in : Option Stop → List Plain
put_in None = []
put_in (Some s) = plain s ∷ []

-- the stops behind, the first by another leg, if one is handed over
abbrev pub behind : Option ℕ → List Plain → List Plain
behind None ps = ps
behind (Some l) ps = releg l ps

-- the stops in front, a new one, and those behind
abbrev pub drafted : List Stop → Option Stop → List Stop → Option ℕ → List Plain
drafted front put back leg = plains front ++ (put_in put ++ behind leg (plains back))

-- a stop under a source's meaning, if there is one
abbrev pub seen_at : {E : Type 0} → Algebra E → Meaning E → Option Plain → Visit E
seen_at K m None = nowhere K
seen_at K m (Some p) = seen K m p

-- one draft after another, each under its own source's meaning
abbrev pub both : {X Y E : Type 0} → Algebra E → (X → Meaning E) → (Y → Meaning E) → Over X Plain → Over Y Plain → List (Visit E)
both K M N a b = visits K (M a.source) a.stops ++ visits K (N b.source) b.stops
