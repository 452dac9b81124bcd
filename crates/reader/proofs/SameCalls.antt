-- The calls of a strip are answered in one way, and alike over two sources that have the same windows.
use Rattle.std.proofs.Common.{◌≡◌, ℕ, List, Ok, Err, Result, sym, refl, ap, ◌∙◌, subst, arith}
use Rattle.cost.specs.Algebra.{Algebra}
use Rattle.source.specs.Meaning.{Meaning}
use Rattle.route.specs.declared.stop.Splice.{Splice}
use Rattle.route.specs.declared.stop.Refusal.{Refusal}
use Rattle.route.specs.Plain.{Plain}
use Rattle.route.specs.Judged.{Answer, Judged}
use Rattle.route.proofs.Uniqueness.{judged_one}
use Rattle.route.proofs.Windows.{SameWindows, judged_same}
use Rattle.reader.specs.declared.faults.Cause.{Cause}
use Rattle.reader.specs.declared.faults.Cause.TheVariants.{Route}
use Rattle.reader.specs.declared.faults.Fault.{Fault}
use Rattle.reader.specs.declared.calls.Progress.{Progress}
use Rattle.reader.specs.Running.{fault_of, advanced, Call, Calls}
use Rattle.reader.specs.Running.Call.{wrong, refused, accepted}
use Rattle.reader.specs.Running.Calls.{past, ended, faulty, onward}
use Rattle.reader.proofs.Spelling.{same_ok}

module _ {E F : Type 0} (K : Algebra E) (L : Algebra F) (m : Meaning E) (n : Meaning F) (same : SameWindows m n) (bytes : List ℕ) where
  call_same : (here : Progress) (ps : List Plain) (r : Result Progress Fault) (qs : List Plain) → Call K m bytes here ps r qs → Call L n bytes here ps r qs
  call_same here ps r qs (wrong why e) = wrong why e
  call_same here ps r qs (refused s next why e j) = refused s next why e (judged_same K L m n same ps s (Err why) ps j)
  call_same here ps r qs (accepted s next us e j) = accepted s next us e (judged_same K L m n same ps s (Ok tt) us j)

  pub calls_same : (here : Progress) (ps : List Plain) (r : Result ℕ Fault) (qs : List Plain) → Calls K m bytes here ps r qs → Calls L n bytes here ps r qs
  calls_same here ps r qs (past a b h) = past a b h
  calls_same here ps r qs (ended a b h) = ended a b h
  calls_same here ps r qs (faulty a b c f h call) = faulty a b c f h (call_same a b (Err f) c call)
  calls_same here ps r qs (onward a there b mid c d h call rest) = onward a there b mid c d h (call_same a b (Ok there) mid call) (calls_same there mid d c rest)

module _ {E : Type 0} (K : Algebra E) (m : Meaning E) (bytes : List ℕ) where
  judged_alike : (ps qs us : List Plain) (s t : Splice) (a b : Answer) → s ≡ t → Judged K m ps s a qs → Judged K m ps t b us → (a ≡ b) × (qs ≡ us)
  judged_alike ps qs us s t a b e j k = judged_one K m ps qs us t a b (subst (λ (x : Splice). Judged K m ps x a qs) e j) k

  call_one : (here : Progress) (ps : List Plain) (r t : Result Progress Fault) (qs us : List Plain) → Call K m bytes here ps r qs → Call K m bytes here ps t us → (r ≡ t) × (qs ≡ us)
  call_one here ps r t qs us (wrong why e) (wrong why' d) =
      let same : why ≡ why' = cc in
      (ap (λ (x : Cause). Err (fault_of here x)) same, refl)
  call_one here ps r t qs us (wrong why e) (refused s next because d k) = cc
  call_one here ps r t qs us (wrong why e) (accepted s next mid d k) = cc
  call_one here ps r t qs us (refused s next because e j) (wrong why d) = cc
  call_one here ps r t qs us (refused s next because e j) (refused s' next' because' d k) =
      let same = same_ok s s' next next' (sym e ∙ d) in
      let w = judged_alike ps ps ps s s' (Err because) (Err because') same.0 j k in
      let z : because ≡ because' = cc (w.0) in
      (ap (λ (x : Refusal). Err (fault_of here (Route x))) z, refl)
  call_one here ps r t qs us (refused s next because e j) (accepted s' next' mid d k) =
      let same = same_ok s s' next next' (sym e ∙ d) in
      let w = judged_alike ps ps mid s s' (Err because) (Ok tt) same.0 j k in
      cc (w.0)
  call_one here ps r t qs us (accepted s next mid e j) (wrong why d) = cc
  call_one here ps r t qs us (accepted s next mid e j) (refused s' next' because d k) =
      let same = same_ok s s' next next' (sym e ∙ d) in
      let w = judged_alike ps mid ps s s' (Ok tt) (Err because) same.0 j k in
      cc (w.0)
  call_one here ps r t qs us (accepted s next mid e j) (accepted s' next' mid' d k) =
      let same = same_ok s s' next next' (sym e ∙ d) in
      let w = judged_alike ps mid mid' s s' (Ok tt) (Ok tt) same.0 j k in
      (ap (λ (x : ℕ). Ok (advanced here x)) same.1, w.1)

  pub calls_one : (here : Progress) (ps : List Plain) (r t : Result ℕ Fault) (qs us : List Plain) → Calls K m bytes here ps r qs → Calls K m bytes here ps t us → (r ≡ t) × (qs ≡ us)
  calls_one here ps r t qs us (past a b h) (past a' b' h') = (refl, refl)
  calls_one here ps r t qs us (past a b h) (ended a' b' h') = absurd (omega arith)
  calls_one here ps r t qs us (past a b h) (faulty a' b' c' f' h' call') = absurd (omega arith)
  calls_one here ps r t qs us (past a b h) (onward a' there' b' mid' c' d' h' call' rest') = absurd (omega arith)
  calls_one here ps r t qs us (ended a b h) (past a' b' h') = absurd (omega arith)
  calls_one here ps r t qs us (ended a b h) (ended a' b' h') = (refl, refl)
  calls_one here ps r t qs us (ended a b h) (faulty a' b' c' f' h' call') = absurd (omega arith)
  calls_one here ps r t qs us (ended a b h) (onward a' there' b' mid' c' d' h' call' rest') = absurd (omega arith)
  calls_one here ps r t qs us (faulty a b c f h call) (past a' b' h') = absurd (omega arith)
  calls_one here ps r t qs us (faulty a b c f h call) (ended a' b' h') = absurd (omega arith)
  calls_one here ps r t qs us (faulty a b c f h call) (faulty a' b' c' f' h' call') =
      let w = call_one a b (Err f) (Err f') c c' call call' in
      let same : f ≡ f' = cc (w.0) in
      (ap (λ (x : Fault). Err x) same, w.1)
  calls_one here ps r t qs us (faulty a b c f h call) (onward a' there' b' mid' c' d' h' call' rest') =
      let w = call_one a b (Err f) (Ok there') c mid' call call' in
      cc (w.0)
  calls_one here ps r t qs us (onward a there b mid c d h call rest) (past a' b' h') = absurd (omega arith)
  calls_one here ps r t qs us (onward a there b mid c d h call rest) (ended a' b' h') = absurd (omega arith)
  calls_one here ps r t qs us (onward a there b mid c d h call rest) (faulty a' b' c' f' h' call') =
      let w = call_one a b (Ok there) (Err f') mid c' call call' in
      cc (w.0)
  calls_one here ps r t qs us (onward a there b mid c d h call rest) (onward a' there' b' mid' c' d' h' call' rest') =
      let w = call_one a b (Ok there) (Ok there') mid mid' call call' in
      let go : there ≡ there' = cc (w.0) in
      calls_one there' mid' d d' c c'
      (subst (λ (p : Progress). Calls K m bytes p mid' d c) go (subst (λ (l : List Plain). Calls K m bytes there l d c) w.1 rest))
      rest'
