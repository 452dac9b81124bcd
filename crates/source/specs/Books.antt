-- Books: entry k of a table is curve k, open where the entry is lawful. Assumes nothing.
use Rattle.std.specs.Prelude.{ℕ, Bool, cond, List, Some, None, Option, nat_lt}
use Rattle.std.specs.Option.{option_map}
use Rattle.std.specs.List.{slice_get}
use Rattle.source.specs.Meaning.{Curve, Meaning}

-- the entry of the curve k, if it exists and is one of the first 64
abbrev pub entry_of : {X : Type 0} → List X → ℕ → Option X
entry_of entries k = cond (nat_lt k 64) (slice_get entries k) None

abbrev pub only_if : {X : Type 0} → (X → Bool) → Option X → Option X
only_if lawful None = None
only_if lawful (Some x) = cond (lawful x) (Some x) None

-- the entry of the curve k, if it is lawful too
abbrev pub open_entry : {X : Type 0} → (X → Bool) → List X → ℕ → Option X
open_entry lawful entries k = only_if lawful (entry_of entries k)

-- the peak is 2^21
abbrev pub book_meaning : {X : Type 0} → (X → Bool) → (X → Curve ℕ) → List X → Meaning ℕ
book_meaning lawful curve entries = record { curve = λ k. option_map curve (open_entry lawful entries k); peak = 2097152 }
