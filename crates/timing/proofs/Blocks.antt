-- The walk over the block of stops that move, by index. Assumes nothing.
use Rattle.std.proofs.Common.{◌≡◌, ℕ, suc, ◌+◌, ◌-◌, ◌*◌, ◌^◌, ◌<◌, ◌≤◌, cond, leb, List, [], ◌∷◌, ◌++◌, reverse, length, take, sym, refl, ap, ◌∙◌, subst, ap₂, subst₂, arith, take-take}
use Rattle.std.proofs.Math.Seq.{take-length, take-append_seam}
use Rattle.std.proofs.lemmas.List.{length_push, length-take, reverse-append}
use Rattle.std.proofs.lemmas.Bool.{cond-true, cond-false, le-leb, lt-leb}
use Rattle.cost.specs.Algebra.{Algebra}
use Rattle.timing.specs.Visits.{Visit, nowhere, at}
use Rattle.timing.specs.Marks.{Marks}
use Rattle.timing.specs.Moving.{back, walk, block}
use Rattle.timing.specs.Narrowing.{Choice}
use Rattle.timing.specs.Back.{reach, Marked}
use Rattle.timing.proofs.Theorems.{marks_take}
use Rattle.timing.proofs.Searches.{marks_back}
use Rattle.timing.proofs.Steps.{reverse_take}
use Rattle.timing.proofs.Timings.{Priced, IsExact, priced_small}
use Rattle.timing.proofs.Marking.{next_reach}

-- with `rest` the marks of the stops that are left to walk, u the minute left for the last of them, and x and y charged
pub record Walked {E : Type 0} (K : Algebra E) (vs : List (Visit E)) (ms : List ℕ) (t : ℕ) (rest : List ℕ) (u : ℕ) (x y : E) : Type 0 where
  pub choice : Choice K vs ms t
  pub front : take (length rest) ms ≡ rest
  pub soonest : reach (back vs (length rest)) ≤ u
  pub small_x : K.size x ≤ (length ms + 1 - length rest) * 2 ^ 40
  pub small_y : K.size y ≤ (length ms + 1 - length rest) * 2 ^ 40
  pub left : walk K (back vs (length rest)) (reverse rest) u x y ≡ block K vs ms t

module _ {E : Type 0} {K : Algebra E} {vs : List (Visit E)} {ms : List ℕ} {t : ℕ} where
  pub walk_starts : {rest : List ℕ} {u : ℕ} {x y : E} → rest ≡ ms → u ≡ t - (at K vs (length ms)).leg → Priced K vs (length ms) t x → Priced K vs (length ms) (t + 1) y → Choice K vs ms t → Walked K vs ms t rest u x y
  walk_starts {rest} {u} {x} {y} same e px py c =
      let next : ℕ = length ms in
      let long : length rest ≡ next = ap length same in
      let h : reach (at K vs next ∷ back vs next) ≤ t = subst (λ z. z ≤ t) (next_reach K vs ms c.ready) c.from in
      let last : t + 1 ≤ (at K vs next).last = omega (arith, c.to) in
      let d = px (omega arith) (omega arith) in
      let e' = py (omega arith) last in
      let sx : K.size x ≤ 2 ^ 40 = priced_small K vs next t x c.ready.sound.small (omega arith) (omega arith) px in
      let sy : K.size y ≤ 2 ^ 40 = priced_small K vs next (t + 1) y c.ready.sound.small (omega arith) last py in
      record {
        choice = c;
        front = ap (λ n. take n ms) long ∙ take-length ms ∙ sym same;
        soonest = subst (λ n. reach (back vs n) ≤ u) (sym long) (omega arith);
        small_x = omega arith;
        small_y = omega arith;
        left =
            ap (λ n. walk K (back vs n) (reverse rest) u x y) long
            ∙ ap (λ z. walk K (back vs next) z u x y) (ap reverse (same ∙ sym (take-length ms)))
            ∙ ap (λ z. walk K (back vs next) (back ms next) z x y) e
            ∙ ap₂ (walk K (back vs next) (back ms next) (t - (at K vs next).leg)) d e';
      }

  module _ {rest : List ℕ} {u : ℕ} {x y : E} (front : List ℕ) (m j : ℕ) (e : rest ≡ front ++ m ∷ []) (d : j ≡ length front) (w : Walked K vs ms t rest u x y) where
    long : length rest ≡ suc j
    long = omega (arith, ap length e, length_push front m)

    few : j < length ms
    few = omega (arith, long, ap length w.front, length-take (length rest) ms)

    back_stop : back vs (length rest) ≡ at K vs j ∷ back vs (length front)
    back_stop = ap (back vs) long ∙ reverse_take vs j (nowhere K) (omega (arith, few, w.choice.ready.more)) ∙ ap (λ n. at K vs j ∷ back vs n) d

    back_mark : reverse rest ≡ m ∷ reverse front
    back_mark = ap reverse e ∙ reverse-append front (m ∷ [])

    stop_soonest : reach (at K vs j ∷ back vs (length front)) ≤ u
    stop_soonest = subst (λ z. reach z ≤ u) back_stop w.soonest

    step : cond (leb m u) (x, y) (walk K (back vs (length front)) (reverse front) (u - (at K vs j).leg) (K.plus x ((at K vs j).price u)) (K.plus y ((at K vs j).price (u + 1)))) ≡ block K vs ms t
    step = subst₂ (λ a b. walk K a b u x y ≡ block K vs ms t) back_stop back_mark w.left

    -- the marks are within the windows
    marked_here : Marked K (at K vs j ∷ back vs (length front)) (m ∷ reverse front)
    marked_here =
        let r = w.choice.ready in
        let ws = take-take (length rest) (length ms) vs (omega (arith, long, few)) in
        let marks = subst₂ (Marks K) ws w.front (marks_take K (take (length ms) vs) ms (length rest) r.marks) in
        subst₂ (Marked K) back_stop (ap reverse (take-length rest) ∙ back_mark) (marks_back K vs rest r.sound.bends marks)

    front_again : take (length front) ms ≡ front
    front_again = sym (take-take (length front) (length rest) ms (omega (arith, long, d))) ∙ ap (take (length front)) (w.front ∙ e) ∙ take-append_seam front (m ∷ [])

    -- a later one moves the stop: its prices are added
    pub walk_moves : u < m → (p q : E) → Priced K vs j u p → Priced K vs j (u + 1) q → (sum : E → E → E) → IsExact K sum →
        (x' y' : E) (u' : ℕ) → x' ≡ sum x p → y' ≡ sum y q → u' ≡ u - (at K vs j).leg → Walked K vs ms t front u' x' y'
    walk_moves h p q pp pq sum exact x' y' u' ex ey eu =
        let r = w.choice.ready in
        let s = stop_soonest in
        let first : (at K vs j).first ≤ u = omega arith in
        let last : u + 1 ≤ (at K vs j).last = omega (arith, marked_here.0.to) in
        let dp = pp first (omega arith) in
        let dq = pq (omega arith) last in
        let sp : K.size p ≤ 2 ^ 40 = priced_small K vs j u p r.sound.small first (omega arith) pp in
        let sq : K.size q ≤ 2 ^ 40 = priced_small K vs j (u + 1) q r.sound.small (omega arith) last pq in
        let fx = ex ∙ exact x p (omega (arith, long, w.small_x, r.more, r.sound.few)) in
        let fy = ey ∙ exact y q (omega (arith, long, w.small_y, r.more, r.sound.few)) in
        record {
          choice = w.choice;
          front = front_again;
          soonest = omega arith;
          small_x = subst (λ z. K.size z ≤ (length ms + 1 - length front) * 2 ^ 40) (sym fx) (omega (arith, K.size_plus x p, w.small_x, long, few));
          small_y = subst (λ z. K.size z ≤ (length ms + 1 - length front) * 2 ^ 40) (sym fy) (omega (arith, K.size_plus y q, w.small_y, long, few));
          left =
              ap (λ z. walk K (back vs (length front)) (reverse front) z x' y') eu
              ∙ ap₂ (walk K (back vs (length front)) (reverse front) (u - (at K vs j).leg)) (fx ∙ ap (K.plus x) dp) (fy ∙ ap (K.plus y) dq)
              ∙ sym (cond-false (leb m u) _ _ (lt-leb m u h))
              ∙ step;
        }

  -- a mark that is kept ends the block
  pub walk_stops : {rest : List ℕ} {u : ℕ} {x y : E} (front : List ℕ) (m : ℕ) → Walked K vs ms t rest u x y → rest ≡ front ++ m ∷ [] → m ≤ u → (x, y) ≡ block K vs ms t
  walk_stops {u = u} front m w e h = sym (cond-true (leb m u) _ _ (le-leb m u h)) ∙ step front m (length front) e refl w
