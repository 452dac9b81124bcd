-- The lines that are printed of a card. Assumes nothing.
use Rattle.std.specs.Prelude.{ℕ, ◌+◌, List, [], ◌∷◌, ◌++◌, Ok, Err, Result, codes, decimal}
use Rattle.cost.specs.Texts.{spaced}
use Rattle.route.specs.declared.stop.Facts.{Facts}
use Rattle.route.specs.declared.stop.Refusal.{Refusal}
use Rattle.route.specs.FactsText.{facts_text}
use Rattle.route.specs.Refusals.{refusal_text}
use Rattle.route.specs.Judged.{Answer}

-- the line of the stop at a place
abbrev pub facts_line : ℕ → Facts → List ℕ
facts_line place f = codes "stop " ++ (decimal place ++ (codes " " ++ (facts_text f ++ (10 ∷ []))))

-- a line for each stop; the first of them is at this place
abbrev pub facts_lines : ℕ → List Facts → List ℕ
facts_lines place [] = []
facts_lines place (f ∷ fs) = facts_line place f ++ facts_lines (place + 1) fs

-- the line of a refusal, which is told by a word
abbrev pub refused_line : List ℕ → Refusal → List ℕ
refused_line word r = word ++ (32 ∷ (refusal_text r ++ (10 ∷ [])))

-- the line of a refused splice; an accepted one has none
abbrev pub answer_line : List ℕ → Answer → List ℕ
answer_line word (Ok x) = []
answer_line word (Err r) = refused_line word r

abbrev pub answer_lines : List ℕ → List Answer → List ℕ
answer_lines word [] = []
answer_lines word (r ∷ rs) = answer_line word r ++ answer_lines word rs

-- a card: its name, each refusal by a word, a line for each stop, and its last lines
abbrev pub card_text : List ℕ → List ℕ → List Answer → List Facts → List ℕ → List ℕ
card_text word name rs fs last = (codes "card " ++ (name ++ (10 ∷ []))) ++ (answer_lines word rs ++ (facts_lines 1 fs ++ last))

-- the last line of a card by money
abbrev pub least_text : ℕ → List ℕ
least_text c = codes "least " ++ (decimal c ++ (10 ∷ []))

-- the last line of a card by promise: minutes late, then money
abbrev pub least_pair_text : ℕ → ℕ → List ℕ
least_pair_text late c = codes "least " ++ (spaced (decimal late) (decimal c) ++ (10 ∷ []))

-- the last line of a join: its least cost, or why there is none
abbrev pub joined_text : List ℕ → Result ℕ Refusal → List ℕ
joined_text word (Ok c) = least_text c
joined_text word (Err r) = refused_line word r

-- the line of a curve's cost at a minute
abbrev pub cost_text : ℕ → ℕ → List ℕ
cost_text minute c = codes "minute " ++ (decimal minute ++ (codes " cost " ++ (decimal c ++ (10 ∷ []))))
