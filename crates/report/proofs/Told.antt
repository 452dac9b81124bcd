-- The facts of all stops of a route, one stop at a time. Assumes nothing.
use Rattle.std.proofs.Common.{◌≡◌, ℕ, zero, suc, ◌+◌, ◌<◌, ◌≤◌, List, [], ◌∷◌, ◌++◌, length, get_or, take, set, Ok, sym, refl, ap, ◌∙◌, arith}
use Rattle.std.proofs.lemmas.List.{take_all, take_more, take_more_set}
use Rattle.cost.specs.Algebra.{Algebra}
use Rattle.source.specs.Meaning.{Meaning}
use Rattle.route.specs.declared.stop.Stop.{Stop}
use Rattle.route.specs.declared.stop.Facts.{Facts}
use Rattle.route.specs.Calls.{blank, facts_of, facts_at, timed, all_facts, route_facts}
use Rattle.route.proofs.Runnings.{facts_there, length_timed}

all_facts_length : (ss : List Stop) (ts : List ℕ) → length ts ≡ length ss → length (all_facts ss ts) ≡ length ss
all_facts_length [] ts h = refl
all_facts_length (s ∷ ss) [] h = absurd (omega arith)
all_facts_length (s ∷ ss) (t ∷ ts) h = ap suc (all_facts_length ss ts (omega arith))

all_facts_at : (ss : List Stop) (ts : List ℕ) (i : ℕ) (d : Facts) → length ts ≡ length ss → i < length ss → get_or (all_facts ss ts) i d ≡ facts_of (get_or ss i blank) (get_or ts i 0)
all_facts_at [] ts i d h k = absurd (omega arith)
all_facts_at (s ∷ ss) [] i d h k = absurd (omega arith)
all_facts_at (s ∷ ss) (t ∷ ts) zero d h k = refl
all_facts_at (s ∷ ss) (t ∷ ts) (suc i) d h k = all_facts_at ss ts i d (omega arith) (omega arith)

-- one more entry is copied into a table
pub copied_more : (xs fs : List Facts) (i : ℕ) (f d : Facts) → i < length xs → i < length fs → f ≡ get_or fs i d → take i xs ≡ take i fs → take (i + 1) (set xs i f) ≡ take (i + 1) fs
copied_more xs fs i f d h k e same =
    take_more_set xs i f h ∙ ap (λ (l : List Facts). l ++ f ∷ []) same ∙ ap (λ (g : Facts). take i fs ++ g ∷ []) e ∙ sym (take_more fs i d k)

module _ {E : Type 0} (K : Algebra E) (m : Meaning E) (ss : List Stop) where
  pub all_length : length (route_facts K m ss) ≡ length ss
  all_length = all_facts_length ss (timed K m ss) (length_timed K m ss)

  -- the facts at a place are the next of the list
  pub read_next : (i : ℕ) (d : Facts) → i < length ss → facts_at ss (timed K m ss) (i + 1) ≡ Ok (get_or (route_facts K m ss) i d)
  read_next i d h = facts_there ss (timed K m ss) i h ∙ ap Ok (sym (all_facts_at ss (timed K m ss) i d (length_timed K m ss) h))

  -- the same of the facts of all stops
  pub copied_next : (xs : List Facts) (i : ℕ) (f : Facts) → length xs ≡ length ss → i < length xs → ((d : Facts) → f ≡ get_or (route_facts K m ss) i d) → take i xs ≡ take i (route_facts K m ss) → take (i + 1) (set xs i f) ≡ take (i + 1) (route_facts K m ss)
  copied_next xs i f size h e same =
      let long = all_length in
      copied_more xs (route_facts K m ss) i f f h (omega arith) (e f) same

  -- all of it is copied
  pub copied_all : (xs : List Facts) (i : ℕ) → length xs ≡ length ss → length xs ≤ i → take i xs ≡ take i (route_facts K m ss) → xs ≡ route_facts K m ss
  copied_all xs i size h same =
      let long = all_length in
      sym (take_all i xs (omega arith)) ∙ same ∙ take_all i (route_facts K m ss) (omega arith)
