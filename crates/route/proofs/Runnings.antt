-- The steps of a whole run.
use Rattle.std.proofs.Common.{◌≡◌, ℕ, suc, ◌+◌, ◌-◌, ◌<◌, ◌≤◌, Bool, false, cond, ◌||◌, ltb, List, [], ◌∷◌, ◌++◌, map, length, get_or, Ok, Err, sym, refl, ap, ◌∙◌, subst, arith, le-ltb, drop, drop-cons}
use Rattle.std.proofs.lemmas.List.{length-map}
use Rattle.std.specs.List.{enumerate_from}
use Rattle.cost.specs.Algebra.{Algebra}
use Rattle.source.specs.Meaning.{Meaning}
use Rattle.timing.specs.Visits.{Visit}
use Rattle.timing.specs.Timetables.{bill}
use Rattle.timing.specs.Best.{Best}
use Rattle.timing.specs.Marks.{Marks}
use Rattle.timing.specs.Minutes.{minutes}
use Rattle.timing.proofs.Theorems.{best_one}
use Rattle.route.specs.declared.stop.Stop.{Stop}
use Rattle.route.specs.declared.stop.Facts.{Facts}
use Rattle.route.specs.declared.stop.Splice.{Splice}
use Rattle.route.specs.declared.stop.Refusal.TheVariants.{Place}
use Rattle.route.specs.Plain.{Plain, seen, visits}
use Rattle.route.specs.Table.{plain, plains, mark, marks, line, Marked}
use Rattle.route.specs.Judged.{Answer, Runs, outside}
use Rattle.route.specs.Calls.{blank, facts_of, facts_at, all_facts, route_facts, timed, Spliced}
use Rattle.route.specs.Joins.{Least}
use Rattle.route.specs.Guarantee.{told, told_mark, told_minute, Read}
use Rattle.route.specs.Runs.{Ran}
use Rattle.route.proofs.Uniqueness.{runs_push, steady}

-- the facts of one stop more

pub facts_there : (ss : List Stop) (ts : List ℕ) (i : ℕ) → i < length ss → facts_at ss ts (i + 1) ≡ Ok (facts_of (get_or ss i blank) (get_or ts i 0))
facts_there ss ts i h =
    let a : ltb (i + 1) 1 ≡ false = le-ltb (i + 1) 1 (omega arith) in
    let b : ltb (length ss) (i + 1) ≡ false = le-ltb (length ss) (i + 1) (omega arith) in
    let e : outside (i + 1) (length ss) ≡ false = ap (λ (x : Bool). x || ltb (length ss) (i + 1)) a ∙ b in
    let z : i + 1 - 1 ≡ i = omega arith in
    ap (λ (x : Bool). cond x (Err Place) (Ok (facts_of (get_or ss (i + 1 - 1) blank) (get_or ts (i + 1 - 1) 0)))) e
    ∙ ap (λ (k : ℕ). Ok (facts_of (get_or ss k blank) (get_or ts k 0))) z

-- each stop of a list with its minute, taken by number
numbered : (ss : List Stop) (ts : List ℕ) (n : ℕ) → length ss + n ≤ length ts → map (λ p. facts_of p.1 (get_or ts p.0 0)) (enumerate_from n ss) ≡ all_facts ss (drop n ts)
numbered [] ts n h = refl
numbered (s ∷ ss) ts n h =
    let up : n + 1 ≡ suc n = omega arith in
    ap (λ (l : List Facts). facts_of s (get_or ts n 0) ∷ l) (numbered ss ts (n + 1) (omega arith) ∙ ap (λ (k : ℕ). all_facts ss (drop k ts)) up)
    ∙ ap (all_facts (s ∷ ss)) (sym (drop-cons ts n 0 (omega arith)))

pub length_minutes : {E : Type 0} (vs : List (Visit E)) (ms : List ℕ) → length ms ≡ length vs → length (minutes vs ms) ≡ length vs
length_minutes [] ms e = refl
length_minutes (v ∷ vs) [] e = absurd (omega arith)
length_minutes (v ∷ vs) (t ∷ ms) e = ap suc (length_minutes vs ms (omega arith))

-- the facts fs are those of all stops of the table
pub record Told {E : Type 0} (K : Algebra E) (m : Meaning E) (ss : List Stop) (fs : List Facts) : Type 0 where
  pub stops : map told fs ≡ plains ss
  pub marked : map told_mark fs ≡ marks ss
  pub minutes : map told_minute fs ≡ timed K m ss

facts_told : (ss : List Stop) (ts : List ℕ) → length ts ≡ length ss
    → (map told (all_facts ss ts) ≡ plains ss) × (map told_mark (all_facts ss ts) ≡ marks ss) × (map told_minute (all_facts ss ts) ≡ ts)
facts_told [] [] e = (refl, refl, refl)
facts_told [] (t ∷ ts) e = absurd (omega arith)
facts_told (s ∷ ss) [] e = absurd (omega arith)
facts_told (s ∷ ss) (t ∷ ts) e =
    let rest = facts_told ss ts (omega arith) in
    (ap (λ (l : List Plain). plain s ∷ l) rest.0, ap (λ (l : List ℕ). s.mark ∷ l) rest.1, ap (λ (l : List ℕ). t ∷ l) rest.2)

module _ {E : Type 0} (K : Algebra E) (m : Meaning E) (ss : List Stop) where
  pub length_timed : length (timed K m ss) ≡ length ss
  length_timed =
      let a = length-map (plains ss) (seen K m) in
      let b = length-map ss plain in
      let c = length-map ss mark in
      length_minutes (line K m ss) (marks ss) (omega arith) ∙ a ∙ b

  -- what the facts of all stops tell
  pub all_told : Told K m ss (route_facts K m ss)
  all_told =
      let t = facts_told ss (timed K m ss) length_timed in
      record { stops = t.0; marked = t.1; minutes = t.2 }

  -- the same of the facts as a route reads them, each stop by its number
  read_told : (fs : List Facts) → fs ≡ map (λ p. facts_of p.1 (get_or (timed K m ss) p.0 0)) (enumerate_from 0 ss) → Told K m ss fs
  read_told fs e = subst (Told K m ss) (sym (e ∙ numbered ss (timed K m ss) 0 (omega (arith, length_timed)))) all_told

-- one splice more

module _ {X E : Type 0} (K : Algebra E) (M : X → Meaning E) (x : X) where
  pub run_more : (y : X) (ss us vs : List Stop) (done more : List Splice) (rs ts : List Answer) (s : Splice) (r : Answer) → y ≡ x → Runs K (M x) (plains ss) done rs (plains us) → Spliced K (M y) us s r vs → more ≡ done ++ s ∷ [] → ts ≡ rs ++ r ∷ [] → Runs K (M x) (plains ss) more ts (plains vs)
  run_more y ss us vs done more rs ts s r e a b f g =
      let j = subst (λ (z : X). Spliced K (M z) us s r vs) e b in
      subst (λ (l : List Splice). Runs K (M x) (plains ss) l ts (plains vs)) (sym f)
      (subst (λ (l : List Answer). Runs K (M x) (plains ss) (done ++ s ∷ []) l (plains vs)) (sym g) (runs_push K (M x) (plains ss) (plains us) (plains vs) done rs s r a j.judged))

  -- right marks stay right
  pub marked_more : (y : X) (us vs : List Stop) (s : Splice) (r : Answer) → y ≡ x → Spliced K (M y) us s r vs → Marked K (M x) us → Marked K (M x) vs
  marked_more y us vs s r e b = (subst (λ (z : X). Spliced K (M z) us s r vs) e b).marked

  -- the whole of one route
  pub ran : (y : X) (us : List Stop) (ss : List Splice) (rs : List Answer) (n : ℕ) (fs : List Facts) (c : E) → y ≡ x → Runs K (M x) [] ss rs (plains us) → Marked K (M x) us → Told K (M x) us fs → n ≡ length (plains us) → Best K (line K (M x) us) (timed K (M x) us) → Least K (line K (M x) us) c → Ran K M x ss y us rs n fs c
  ran y us ss rs n fs c e runs right t k best least =
      let m = M x in
      let st = sym t.stops in
      let b : Best K (visits K m (map told fs)) (map told_minute fs) = subst (λ (l : List Plain). Best K (visits K m l) (map told_minute fs)) st (subst (Best K (line K m us)) (sym t.minutes) best) in
      let l : Least K (visits K m (map told fs)) c = subst (λ (l : List Plain). Least K (visits K m l) c) st least in
      let read : Read K m ss rs n fs c = record {
        runs = subst (Runs K m [] ss rs) st runs;
        count = k ∙ ap length st ∙ length-map fs told;
        marked = subst (λ (l : List Plain). Marks K (visits K m l) (map told_mark fs)) st (subst (Marks K (line K m us)) (sym t.marked) right);
        best = b;
        least = ap (bill K (visits K m (map told fs))) (best_one K (visits K m (map told fs)) (map told_minute fs) l.minutes b l.best) ∙ l.cost;
        served = t.minutes ∙ ap (λ (l : List Plain). minutes (visits K m l) (marks us)) st ∙ ap (minutes (visits K m (map told fs))) (sym t.marked);
      } in
      record { source = e; stops = st; read = read; steady = steady K m ss rs n fs c read }

  -- from an empty table, with the sources as the calls name them
  pub ran_from : (z y : X) (ts us : List Stop) (ss : List Splice) (rs : List Answer) (n : ℕ) (fs : List Facts) (c : E) → z ≡ x → ts ≡ [] → y ≡ z → Runs K (M z) (plains ts) ss rs (plains us) → fs ≡ map (λ p. facts_of p.1 (get_or (timed K (M y) us) p.0 0)) (enumerate_from 0 us) → n ≡ length (plains us) → Marked K (M y) us → Best K (line K (M y) us) (timed K (M y) us) → Least K (line K (M y) us) c → Ran K M x ss y us rs n fs c
  ran_from z y ts us ss rs n fs c e f g runs t k right best least =
      let same : y ≡ x = g ∙ e in
      ran y us ss rs n fs c same
      (subst (λ (l : List Stop). Runs K (M x) (plains l) ss rs (plains us)) f (subst (λ (v : X). Runs K (M v) (plains ts) ss rs (plains us)) e runs))
      (subst (λ (v : X). Marked K (M v) us) same right)
      (subst (λ (v : X). Told K (M v) us fs) same (read_told K (M y) us fs t))
      k
      (subst (λ (v : X). Best K (line K (M v) us) (timed K (M v) us)) same best)
      (subst (λ (v : X). Least K (line K (M v) us) c) same least)
