-- One answer, one plain route, one reading.
use Rattle.std.proofs.Common.{◌≡◌, ℕ, zero, suc, ◌-◌, ◌<◌, ◌≤◌, Bool, true, false, cond, List, [], ◌∷◌, ◌++◌, map, length, get_or, take, Some, None, Ok, Err, Option, sym, refl, ap, ◌∙◌, subst, arith}
use Rattle.std.proofs.lemmas.List.{length-take, get_or-take, take-map, take-take, take_all, ext_get_or}
use Rattle.cost.specs.Algebra.{Algebra}
use Rattle.source.specs.Meaning.{Meaning}
use Rattle.timing.specs.Visits.{Visit}
use Rattle.timing.specs.Timetables.{bill}
use Rattle.timing.specs.Best.{Best}
use Rattle.timing.specs.Marks.{Marks}
use Rattle.timing.proofs.Theorems.{best_one, mark_one}
use Rattle.timing.proofs.Neighbours.{mark_front}
use Rattle.timing.proofs.Firsts.{blocked_one}
use Rattle.route.specs.declared.stop.Facts.{Facts}
use Rattle.route.specs.declared.stop.Splice.{Splice}
use Rattle.route.specs.declared.stop.Splice.TheVariants.{Insert, Remove, Change}
use Rattle.route.specs.declared.stop.Refusal.{Refusal}
use Rattle.route.specs.declared.stop.Refusal.TheVariants.{Place, Full, Curve, Leg, NoTimetable}
use Rattle.route.specs.Refusals.{number, first_of}
use Rattle.route.specs.Plain.{Plain, place, spliced, seen, visits}
use Rattle.route.specs.Judged.{Answer, examined, objection, Judged, Runs, refused, blocked, accepted}
use Rattle.route.specs.Guarantee.{told, told_mark, told_minute, Read, Steady}
use Rattle.route.proofs.Settling.{front_spliced, judged_ok}

-- the examinations give the numbers 1 to 4 alone

under : (b : Bool) (k n : ℕ) (o : Option ℕ) → 1 ≤ k → k ≤ 4 → (o ≡ Some n → (1 ≤ n) × (n ≤ 4)) → cond b (Some k) o ≡ Some n → (1 ≤ n) × (n ≤ 4)
under true k n o l h f e = let z : k ≡ n = cc in (omega arith, omega arith)
under false k n o l h f e = f e

abbrev pub SmallNumbers : List (Bool × ℕ) → Type 0
SmallNumbers [] = Unit {0}
SmallNumbers (x ∷ xs) = (1 ≤ x.1) × (x.1 ≤ 4) × SmallNumbers xs

pub small_first : (xs : List (Bool × ℕ)) (n : ℕ) → SmallNumbers xs → first_of xs ≡ Some n → (1 ≤ n) × (n ≤ 4)
small_first [] n h e = absurd (let z : ◌≡◌ {A = ℕ} 0 1 = cc in omega arith)
small_first (x ∷ xs) n h e = under x.0 x.1 n (first_of xs) h.0 h.1 (small_first xs n h.2) e

pub objection_small : {E : Type 0} (m : Meaning E) (ps : List Plain) (s : Splice) (n : ℕ) → objection m ps s ≡ Some n → (1 ≤ n) × (n ≤ 4)
objection_small m ps (Insert p k a b) n e =
    small_first (examined m (length ps) (Insert p k a b)) n (omega arith, omega arith, (omega arith, omega arith, (omega arith, omega arith, (omega arith, omega arith, tt)))) e
objection_small m ps (Remove p l) n e = small_first (examined m (length ps) (Remove p l)) n (omega arith, omega arith, (omega arith, omega arith, tt)) e
objection_small m ps (Change p k) n e = small_first (examined m (length ps) (Change p k)) n (omega arith, omega arith, (omega arith, omega arith, tt)) e

abbrev pub named : ℕ → Refusal
named zero = Place
named (suc zero) = Place
named (suc (suc zero)) = Full
named (suc (suc (suc zero))) = Curve
named (suc (suc (suc (suc n)))) = Leg

pub by_number : (r : Refusal) → number r ≤ 4 → r ≡ named (number r)
by_number Place h = refl
by_number Full h = refl
by_number Curve h = refl
by_number Leg h = refl
by_number (NoTimetable f) h = absurd (omega arith)

pub number_named : (n : ℕ) → 1 ≤ n → n ≤ 4 → number (named n) ≡ n
number_named zero l h = absurd (omega arith)
number_named (suc zero) l h = refl
number_named (suc (suc zero)) l h = refl
number_named (suc (suc (suc zero))) l h = refl
number_named (suc (suc (suc (suc n)))) l h = omega arith

pub same_number : (r t : Refusal) → number r ≤ 4 → number r ≡ number t → r ≡ t
same_number r t h e = let k : number t ≤ 4 = omega arith in by_number r h ∙ ap named e ∙ sym (by_number t k)

pub some_one : (m n : ℕ) → ◌≡◌ {A = Option ℕ} (Some m) (Some n) → m ≡ n
some_one m n e = cc

module _ {E : Type 0} (K : Algebra E) (m : Meaning E) where
  pub judged_one : (ps qs us : List Plain) (s : Splice) (r t : Answer) → Judged K m ps s r qs → Judged K m ps s t us → (r ≡ t) × (qs ≡ us)
  judged_one ps qs us s r t (refused f e) (refused g d) =
      let n : number f ≡ number g = some_one (number f) (number g) (sym e ∙ d) in
      (ap (λ (x : Refusal). Err x) (same_number f g (objection_small m ps s (number f) e).1 n), refl)
  judged_one ps qs us s r t (refused f e) (blocked g d b) = absurd (let z : ◌≡◌ {A = ℕ} 0 1 = cc in omega arith)
  judged_one ps qs us s r t (refused f e) (accepted d b) = absurd (let z : ◌≡◌ {A = ℕ} 0 1 = cc in omega arith)
  judged_one ps qs us s r t (blocked f e a) (refused g d) = absurd (let z : ◌≡◌ {A = ℕ} 0 1 = cc in omega arith)
  judged_one ps qs us s r t (blocked f e a) (blocked g d b) =
      (ap (λ (x : ℕ). Err (NoTimetable x)) (some_one f g (blocked_one (visits K m (spliced s ps)) (Some f) (Some g) a b)), refl)
  judged_one ps qs us s r t (blocked f e a) (accepted d b) =
      absurd (let w = blocked_one (visits K m (spliced s ps)) (Some f) None a b in let z : ◌≡◌ {A = ℕ} 0 1 = cc in omega arith)
  judged_one ps qs us s r t (accepted e a) (refused g d) = absurd (let z : ◌≡◌ {A = ℕ} 0 1 = cc in omega arith)
  judged_one ps qs us s r t (accepted e a) (blocked g d b) =
      absurd (let w = blocked_one (visits K m (spliced s ps)) None (Some g) a b in let z : ◌≡◌ {A = ℕ} 0 1 = cc in omega arith)
  judged_one ps qs us s r t (accepted e a) (accepted d b) = (refl, refl)

  pub runs_one : (ps qs us : List Plain) (ss : List Splice) (rs ts : List Answer) → Runs K m ps ss rs qs → Runs K m ps ss ts us → (rs ≡ ts) × (qs ≡ us)
  runs_one ps qs us [] [] [] a b = (refl, a ∙ sym b)
  runs_one ps qs us [] [] (t ∷ ts) a b = absurd b
  runs_one ps qs us [] (r ∷ rs) ts a b = absurd a
  runs_one ps qs us (s ∷ ss) [] ts a b = absurd a
  runs_one ps qs us (s ∷ ss) (r ∷ rs) [] a b = absurd b
  runs_one ps qs us (s ∷ ss) (r ∷ rs) (t ∷ ts) a b =
      let j = judged_one ps a.0 b.0 s r t a.1 b.1 in
      let w = runs_one b.0 qs us ss rs ts (subst (λ (l : List Plain). Runs K m l ss rs qs) j.1 a.2) b.2 in
      (ap (λ (x : Answer). x ∷ rs) j.0 ∙ ap (λ (l : List Answer). t ∷ l) w.0, w.1)

  -- one splice more
  pub runs_push : (ps qs us : List Plain) (ss : List Splice) (rs : List Answer) (s : Splice) (r : Answer) → Runs K m ps ss rs qs → Judged K m qs s r us → Runs K m ps (ss ++ s ∷ []) (rs ++ r ∷ []) us
  runs_push ps qs us [] [] s r a j = (us, subst (λ (l : List Plain). Judged K m l s r us) a j, refl)
  runs_push ps qs us [] (t ∷ rs) s r a j = absurd a
  runs_push ps qs us (x ∷ ss) [] s r a j = absurd a
  runs_push ps qs us (x ∷ ss) (t ∷ rs) s r a j = (a.0, a.1, runs_push a.0 qs us ss rs s r a.2 j)

  pub runs_last : (ps qs us : List Plain) (ss : List Splice) (rs : List Answer) (s : Splice) (r : Answer) → Runs K m ps ss rs qs → Runs K m ps (ss ++ s ∷ []) (rs ++ r ∷ []) us → Judged K m qs s r us
  runs_last ps qs us [] [] s r a b = subst (λ (l : List Plain). Judged K m l s r us) (sym a) (subst (Judged K m ps s r) (sym b.2) b.1)
  runs_last ps qs us [] (t ∷ rs) s r a b = absurd a
  runs_last ps qs us (x ∷ ss) [] s r a b = absurd a
  runs_last ps qs us (x ∷ ss) (t ∷ rs) s r a b =
      let j = judged_one ps b.0 a.0 x t t b.1 a.1 in
      runs_last a.0 qs us ss rs s r a.2 (subst (λ (l : List Plain). Runs K m l (ss ++ s ∷ []) (rs ++ r ∷ []) us) j.1 b.2)

-- the marks of two lines that begin with the same stops begin alike
pub marks_agree : {E : Type 0} (K : Algebra E) (vs ws : List (Visit E)) (ms ns : List ℕ) (i : ℕ) → Marks K vs ms → Marks K ws ns → take i vs ≡ take i ws → take i ms ≡ take i ns
marks_agree {E} K vs ws ms ns i a b e =
    let la = length-take i ms in
    let lb = length-take i ns in
    let lv = length-take i vs in
    let lw = length-take i ws in
    let n = ap length e in
    let ma = a.many in
    let mb = b.many in
    ext_get_or 0 (take i ms) (take i ns) (omega arith) (λ k h.
    let k1 : k < i = omega arith in
    let up : suc k ≤ i = omega arith in
    let front : take (suc k) vs ≡ take (suc k) ws = sym (take-take (suc k) i vs up) ∙ ap (take (suc k)) e ∙ take-take (suc k) i ws up in
    get_or-take i ms k 0 k1
    ∙ mark_one K ws k (get_or ms k 0) (get_or ns k 0) (mark_front K vs ws k (get_or ms k 0) front (a.each k (omega arith))) (b.each k (omega arith))
    ∙ sym (get_or-take i ns k 0 k1))

pub marks_one : {E : Type 0} (K : Algebra E) (vs : List (Visit E)) (ms ns : List ℕ) → Marks K vs ms → Marks K vs ns → ms ≡ ns
marks_one K vs ms ns a b =
    let i = length vs in
    let ma = a.many in
    let mb = b.many in
    sym (take_all i ms (omega arith)) ∙ marks_agree K vs vs ms ns i a b refl ∙ take_all i ns (omega arith)

-- facts are told by their parts
facts_one : (fs gs : List Facts) → map told fs ≡ map told gs → map told_mark fs ≡ map told_mark gs → map told_minute fs ≡ map told_minute gs → fs ≡ gs
facts_one [] [] a b c = refl
facts_one [] (g ∷ gs) a b c = absurd (let n = ap length a in omega arith)
facts_one (f ∷ fs) [] a b c = absurd (let n = ap length a in omega arith)
facts_one (f ∷ fs) (g ∷ gs) a b c =
    let h : told f ≡ told g = cc in
    let k : f.curve ≡ g.curve = ap (λ (p : Plain). p.curve) h in
    let l : f.leg ≡ g.leg = ap (λ (p : Plain). p.leg) h in
    let mk : told_mark f ≡ told_mark g = cc in
    let mn : told_minute f ≡ told_minute g = cc in
    let x : f ≡ g = λ i. record { curve = k i; leg = l i; mark = mk i; minute = mn i } in
    let ra : map told fs ≡ map told gs = cc in
    let rb : map told_mark fs ≡ map told_mark gs = cc in
    let rc : map told_minute fs ≡ map told_minute gs = cc in
    ap (λ (y : Facts). y ∷ fs) x ∙ ap (λ (l : List Facts). g ∷ l) (facts_one fs gs ra rb rc)

-- what is read is settled by the stops that are left
pub read_same : {E : Type 0} (K : Algebra E) (m : Meaning E) (ss us : List Splice) (rs ts : List Answer) (n k : ℕ) (fs gs : List Facts) (c d : E) → Read K m ss rs n fs c → Read K m us ts k gs d → map told fs ≡ map told gs → (fs ≡ gs) × (c ≡ d)
read_same K m ss us rs ts n k fs gs c d a b stops =
    let vs = visits K m (map told gs) in
    let ma : Marks K vs (map told_mark fs) = subst (λ (l : List Plain). Marks K (visits K m l) (map told_mark fs)) stops a.marked in
    let ba : Best K vs (map told_minute fs) = subst (λ (l : List Plain). Best K (visits K m l) (map told_minute fs)) stops a.best in
    let minutes = best_one K vs (map told_minute fs) (map told_minute gs) ba b.best in
    let same = facts_one fs gs stops (marks_one K vs (map told_mark fs) (map told_mark gs) ma b.marked) minutes in
    (same, sym a.least ∙ ap (λ (l : List Facts). bill K (visits K m (map told l)) (map told_minute l)) same ∙ b.least)

module _ {E : Type 0} (K : Algebra E) (m : Meaning E) (ss : List Splice) where
  pub read_one : (rs ts : List Answer) (n k : ℕ) (fs gs : List Facts) (c d : E) → Read K m ss rs n fs c → Read K m ss ts k gs d → (rs ≡ ts) × (n ≡ k) × (fs ≡ gs) × (c ≡ d)
  read_one rs ts n k fs gs c d a b =
      let w = runs_one K m [] (map told fs) (map told gs) ss rs ts a.runs b.runs in
      let same = read_same K m ss ss rs ts n k fs gs c d a b w.1 in
      (w.0, a.count ∙ ap length same.0 ∙ sym b.count, same.0, same.1)

  -- one accepted splice more leaves the marks before its place
  pub steady : (rs : List Answer) (n : ℕ) (fs : List Facts) (c : E) → Read K m ss rs n fs c → Steady K m ss rs fs
  steady rs n fs c a s k gs d b =
      let ps = map told fs in
      let us = map told gs in
      let i = place s - 1 in
      let j = judged_ok K m ps us s (Ok tt) (runs_last K m [] ps us ss rs s (Ok tt) a.runs b.runs) in
      let f = front_spliced m ps s j.0 in
      let lines : take i (visits K m us) ≡ take i (visits K m ps) =
      take-map (seen K m) i us ∙ ap (λ (l : List Plain). visits K m (take i l)) j.2 ∙ ap (visits K m) f.0 ∙ sym (take-map (seen K m) i ps) in
      marks_agree K (visits K m us) (visits K m ps) (map told_mark gs) (map told_mark fs) i b.marked a.marked lines
