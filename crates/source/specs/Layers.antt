-- Layers over sources: curves taken by weights, and curves of two sources side by side. Assumes nothing.
use Rattle.std.specs.Prelude.{ℕ, ◌*◌, ◌^◌, min, max, Bool, cond, List, Some, None, Option, nat_le, nat_lt, slice_index}
use Rattle.cost.specs.Algebra.{Algebra, fold}
use Rattle.source.specs.Meaning.{Curve, Meaning}

-- two curves over their common minutes
abbrev pub common : {E F : Type 0} → Option (Curve E) → Option (Curve F) → Option (Curve (E × F))
common None d = None
common (Some c) None = None
common (Some c) (Some d) =
    cond (nat_le (max c.first d.first) (min c.last d.last))
    (Some (record { first = max c.first d.first; last = min c.last d.last; cost = λ t. (c.cost t, d.cost t) }))
    None

-- two sources side by side; its peak stays within 2^40 as both peaks do, so it needs no closing
abbrev pub pairing : {E F : Type 0} → Meaning E → Meaning F → Meaning (E × F)
pairing m n = record { curve = λ k. common (m.curve k) (n.curve k); peak = max m.peak n.peak }

-- a curve each of whose costs is taken w times
abbrev pub scaled : {E : Type 0} → Algebra E → ℕ → Option (Curve E) → Option (Curve E)
scaled K w None = None
scaled K w (Some c) = Some (record { first = c.first; last = c.last; cost = λ t. fold K w (c.cost t) })

-- the weight of the curve k: one over 100 stands as 100
abbrev pub weight_of : List ℕ → ℕ → ℕ
weight_of ws k = cond (nat_lt k 64) (min (slice_index ws k) 100) 0

-- whether 100 times the peak stays within 2^40
abbrev pub bears : ℕ → Bool
bears peak = nat_le (100 * peak) (2 ^ 40)

-- each curve by its weight; every curve closed and the peak 0 where 100 times the peak would pass 2^40
abbrev pub weighted : {E : Type 0} → Algebra E → List ℕ → Meaning E → Meaning E
weighted K ws m = record {
  curve = λ k. cond (bears m.peak) (scaled K (weight_of ws k) (m.curve k)) None;
  peak = cond (bears m.peak) (100 * m.peak) 0;
}
