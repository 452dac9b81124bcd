-- One call, by what reading its record and making it gave, and one turn of running.
use Rattle.std.proofs.Common.{◌≡◌, ℕ, ◌+◌, ◌<◌, ◌≤◌, List, length, is_err, Ok, Err, Result, sym, refl, ap, ◌∙◌, subst, arith}
use Rattle.cost.specs.Algebra.{Algebra}
use Rattle.source.specs.Meaning.{Meaning}
use Rattle.route.specs.declared.stop.Splice.{Splice}
use Rattle.route.specs.declared.stop.Stop.{Stop}
use Rattle.route.specs.Plain.{Plain}
use Rattle.route.specs.Table.{plains, Marked}
use Rattle.route.specs.Calls.{Spliced}
use Rattle.route.specs.Judged.{Judged}
use Rattle.reader.specs.declared.faults.Cause.{Cause}
use Rattle.reader.specs.declared.faults.Cause.TheVariants.{CutOff, Route}
use Rattle.reader.specs.declared.faults.Fault.{Fault}
use Rattle.reader.specs.declared.faults.RefusedCall.{RefusedCall}
use Rattle.reader.specs.declared.calls.Progress.{Progress}
use Rattle.reader.specs.Causes.{carried}
use Rattle.reader.specs.CallRecords.{call_at}
use Rattle.reader.specs.Running.{fault_of, read_at, refused_at, advanced, begin, answer_of, Told, Call, Calls}
use Rattle.reader.specs.Running.Call.{wrong, refused, accepted}
use Rattle.reader.specs.Running.Calls.{past, ended, faulty, onward}
use Rattle.reader.specs.Ran.{CallRan, Ran}
use Rattle.reader.proofs.CallSpelling.{call_taken}
use Rattle.reader.proofs.CallRuns.{ran}

-- what was read, by what the fault or the call is
read_wrong : (here : Progress) (o : Result (Splice × ℕ) Cause) (f : Fault) → read_at here o ≡ Err f → (why : Cause) × (o ≡ Err why) × (f ≡ fault_of here why)
read_wrong here (Ok x) f e = cc
read_wrong here (Err why) f e = (why, refl, cc)

read_right : (here : Progress) (o : Result (Splice × ℕ) Cause) (x : Splice × ℕ) → read_at here o ≡ Ok x → o ≡ Ok x
read_right here (Ok y) x e = let same : y ≡ x = cc in ap Ok same
read_right here (Err why) x e = cc

module _ {E : Type 0} (K : Algebra E) (m : Meaning E) (bytes : List ℕ) (here : Progress) (ss : List Stop) (n : ℕ) (r : Result (Splice × ℕ) Fault) (result : Result Progress Fault) (long : n ≡ length (plains ss)) (read : r ≡ read_at here (call_at bytes here.byte n)) where
  at_stops : read_at here (call_at bytes here.byte (length (plains ss))) ≡ r
  at_stops = ap (λ k. read_at here (call_at bytes here.byte k)) (sym long) ∙ sym read

  pub wrong_ran : (f : Fault) → r ≡ Err f → result ≡ Err f → CallRan K m bytes here ss result ss
  wrong_ran f was told =
      let (why, none, is) = read_wrong here (call_at bytes here.byte (length (plains ss))) f (at_stops ∙ was) in
      let call = subst (λ (x : Fault). Call K m bytes here (plains ss) (Err x) (plains ss)) (sym is) (wrong why none) in
      record {
        call = subst (λ (x : Result Progress Fault). Call K m bytes here (plains ss) x (plains ss)) (sym told) call;
        marked = λ right. right;
        stays = λ _. refl;
      }

  module _ (s : Splice) (next : ℕ) (x : Result (Unit {0}) RefusedCall) (ts : List Stop) (was : r ≡ Ok (s, next)) (made : Spliced K m ss s (answer_of x) ts) where
    pub refused_ran : (call : RefusedCall) → Told here x → x ≡ Err call → result ≡ Err (carried call) → CallRan K m bytes here ss result ts
    refused_ran call told of is =
        let one = subst (λ (y : Result (Unit {0}) RefusedCall). Spliced K m ss s (answer_of y) ts) of made in
        let stays : ts ≡ ss = one.stays refl in
        let t : call ≡ refused_at here call.refusal = subst (Told here) of told in
        let e : result ≡ Err (fault_of here (Route call.refusal)) = is ∙ ap (λ (y : RefusedCall). Err (carried y)) t in
        let j = subst (λ (l : List Stop). Judged K m (plains ss) s (Err call.refusal) (plains l)) stays one.judged in
        let it = refused s next call.refusal (read_right here (call_at bytes here.byte (length (plains ss))) (s, next) (at_stops ∙ was)) j in
        record {
          call = subst (λ (l : List Stop). Call K m bytes here (plains ss) result (plains l)) (sym stays)
              (subst (λ (y : Result Progress Fault). Call K m bytes here (plains ss) y (plains ss)) (sym e) it);
          marked = one.marked;
          stays = λ _. stays;
        }

    pub accepted_ran : (there : Progress) → x ≡ Ok tt → there ≡ advanced here next → result ≡ Ok there → CallRan K m bytes here ss result ts
    accepted_ran there of is told =
        let one = subst (λ (y : Result (Unit {0}) RefusedCall). Spliced K m ss s (answer_of y) ts) of made in
        let e : result ≡ Ok (advanced here next) = told ∙ ap (λ (y : Progress). Ok y) is in
        let it = accepted s next (plains ts) (read_right here (call_at bytes here.byte (length (plains ss))) (s, next) (at_stops ∙ was)) one.judged in
        record {
          call = subst (λ (y : Result Progress Fault). Call K m bytes here (plains ss) y (plains ts)) (sym e) it;
          marked = one.marked;
          stays = λ bad. cc (ap (λ (y : Result Progress Fault). is_err y) e);
        }

-- a turn's call, over the source that running began with
pub over_first : {X E : Type 0} {K : Algebra E} (M : X → Meaning E) {x y : X} {bytes : List ℕ} {here : Progress} {ss : List Stop} {r : Result Progress Fault} {ts : List Stop} → y ≡ x
    → CallRan K (M y) bytes here ss r ts → CallRan K (M x) bytes here ss r ts
over_first M same call = rw (sym same) call

-- what holds before each turn: how running ends from here on is how it ends from the byte where it began
pub record Onward {E : Type 0} (K : Algebra E) (m : Meaning E) (bytes : List ℕ) (at : ℕ) (before : List Stop) (here : Progress) (now : List Stop) : Type 0 where
  pub goes : (r : Result ℕ Fault) (qs : List Plain) → Calls K m bytes here (plains now) r qs → Calls K m bytes (begin at) (plains before) r qs
  pub marked : Marked K m before → Marked K m now
  pub stays : here.count ≡ 0 → now ≡ before

-- an accepted call is counted, and the next record begins further on, within the strip
pub record Further (bytes : List ℕ) (here there : Progress) : Type 0 where
  pub counted : there.count ≡ here.count + 1
  pub more : here.byte < there.byte
  pub within : there.byte ≤ length bytes

module _ {E : Type 0} (K : Algebra E) (m : Meaning E) (bytes : List ℕ) where
  further : (here : Progress) (ps : List Plain) (r : Result Progress Fault) (qs : List Plain) (there : Progress) → Call K m bytes here ps r qs → r ≡ Ok there
      → Further bytes here there
  further here ps r qs there (wrong why e) is = cc
  further here ps r qs there (refused s next why e j) is = cc
  further here ps r qs there (accepted s next mid e j) is =
      let t = call_taken bytes here.byte (length ps) s next e in
      let same : advanced here next ≡ there = cc in
      subst (Further bytes here) same (record { counted = refl; more = t.more; within = t.within })

  fault_counted : (here : Progress) (ps : List Plain) (r : Result Progress Fault) (qs : List Plain) (f : Fault) → Call K m bytes here ps r qs → r ≡ Err f → f.count ≡ here.count
  fault_counted here ps r qs f (wrong why e) is = let same : f ≡ fault_of here why = cc in ap (λ (x : Fault). x.count) same
  fault_counted here ps r qs f (refused s next why e j) is = let same : f ≡ fault_of here (Route why) = cc in ap (λ (x : Fault). x.count) same
  fault_counted here ps r qs f (accepted s next mid e j) is = cc

  module _ (at : ℕ) (before : List Stop) (here : Progress) (ss ts : List Stop) (r : Result Progress Fault) (on : Onward K m bytes at before here ss) (call : CallRan K m bytes here ss r ts) where
    pub turn_further : (there : Progress) → r ≡ Ok there → Further bytes here there
    turn_further there is = further here (plains ss) r (plains ts) there call.call is

    -- a turn after which running goes on
    pub turn : (there : Progress) → r ≡ Ok there → here.byte < length bytes → Onward K m bytes at before there ts
    turn there is h =
        let made = subst (λ (x : Result Progress Fault). Call K m bytes here (plains ss) x (plains ts)) is call.call in
        let next = turn_further there is in
        record {
          goes = λ x qs rest. on.goes x qs (onward here there (plains ss) (plains ts) qs x h made rest);
          marked = λ right. call.marked (on.marked right);
          stays = λ none. absurd (omega (arith, next.counted));
        }

    -- a turn at which it ends
    pub fault_turn : (f : Fault) → r ≡ Err f → here.byte < length bytes → Ran K m bytes at before (Err f) ts
    fault_turn f is h =
        let made = subst (λ (x : Result Progress Fault). Call K m bytes here (plains ss) x (plains ts)) is call.call in
        let counted = fault_counted here (plains ss) r (plains ts) f call.call is in
        let same : ts ≡ ss = call.stays (ap (λ (x : Result Progress Fault). is_err x) is) in
        ran K m bytes at before (Err f) ts
        (on.goes (Err f) (plains ts) (faulty here (plains ss) (plains ts) f h made))
        (λ right. call.marked (on.marked right))
        (λ none. same ∙ on.stays (sym counted ∙ none))

  -- no byte is left
  pub last_turn : (at : ℕ) (before : List Stop) (here : Progress) (ss : List Stop) → Onward K m bytes at before here ss → here.byte ≡ length bytes
      → Ran K m bytes at before (Ok here.count) ss
  last_turn at before here ss on end = ran K m bytes at before (Ok here.count) ss (on.goes (Ok here.count) (plains ss) (ended here (plains ss) end)) on.marked on.stays

  -- running that begins past the end
  pub past_end : (at : ℕ) (ss : List Stop) (f : Fault) → length bytes < at → f ≡ fault_of (begin at) CutOff → Ran K m bytes at ss (Err f) ss
  past_end at ss f h is =
      subst (λ (x : Fault). Ran K m bytes at ss (Err x) ss) (sym is) (ran K m bytes at ss (Err (fault_of (begin at) CutOff)) ss (past (begin at) (plains ss) h) (λ h. h) (λ _. refl))
