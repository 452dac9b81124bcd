-- Running calls comes to a list of splices, and to those that the bytes spell.
use Rattle.std.proofs.Common.{◌≡◌, ℕ, suc, ◌+◌, Bool, true, false, cond, ltb, leb, ◌⊎◌, List, [], ◌∷◌, ◌++◌, length, get_or, drop, replicate, Some, None, Ok, Err, Option, Result, sym, refl, ap, ◌∙◌, subst, inl, inr, append_assoc, add-zero, zero-add, arith, length-append}
use Rattle.std.proofs.lemmas.List.{drop_all}
use Rattle.std.proofs.lemmas.Bool.{cond-true, le-leb}
use Rattle.cost.specs.Algebra.{Algebra}
use Rattle.source.specs.Meaning.{Meaning}
use Rattle.route.specs.declared.stop.Stop.{Stop}
use Rattle.route.specs.declared.stop.Splice.{Splice}
use Rattle.route.specs.Plain.{Plain}
use Rattle.route.specs.Table.{plains, Marked}
use Rattle.route.specs.Judged.{Runs}
use Rattle.reader.specs.declared.faults.Cause.{Cause}
use Rattle.reader.specs.declared.faults.Cause.TheVariants.{CutOff, CallMap, Route}
use Rattle.reader.specs.declared.faults.Fault.{Fault}
use Rattle.reader.specs.declared.call.Form.{Form}
use Rattle.reader.specs.declared.calls.Progress.{Progress}
use Rattle.reader.specs.CallRecords.{form_of, next_call, splice_at, call_by, call_at}
use Rattle.reader.specs.Running.{fault_of, advanced, begin, Call, Calls}
use Rattle.reader.specs.Running.Call.{wrong, refused, accepted}
use Rattle.reader.specs.Running.Calls.{past, ended, faulty, onward}
use Rattle.reader.specs.CallLaws.{accepted_in, last_in, CountAsSplices, SpelledCalls, FaultyAt, EndedAt, RunsExactly}
use Rattle.reader.specs.Ran.{Ran}
use Rattle.reader.proofs.CallSpelling.{call_taken, call_none, reads_calls}

-- a record is wrong as cut off or by its map
cut_or_ok : {A : Type 0} (b : Bool) (x : A) (why : Cause) → cond b (Err CutOff) (Ok x) ≡ Err why → CutOff ≡ why
cut_or_ok true x why e = cc
cut_or_ok false x why e = cc

wrong_by : (bytes : List ℕ) (map at n : ℕ) (why : Cause) (o : Option Form) → call_by bytes map at n o ≡ Err why → (CutOff ≡ why) ⊎ (CallMap ≡ why)
wrong_by bytes map at n why None e = inr (cc)
wrong_by bytes map at n why (Some form) e = inl (cut_or_ok (ltb (length bytes) (next_call map at)) (splice_at bytes map at n form, next_call map at) why e)

cut_or : {A : Type 0} (b : Bool) (r : Result A Cause) (why : Cause) → cond b (Err CutOff) r ≡ Err why → (CutOff ≡ why) ⊎ (r ≡ Err why)
cut_or true r why e = inl (cc)
cut_or false r why e = inr e

wrong_cause : (bytes : List ℕ) (at n : ℕ) (why : Cause) → call_at bytes at n ≡ Err why → (CutOff ≡ why) ⊎ (CallMap ≡ why)
wrong_cause bytes at n why e =
    elim (cut_or (leb (length bytes) at) (call_by bytes (get_or bytes at 0) at n (form_of (get_or bytes at 0))) why e) [
      | inl p ↦ inl p
      | inr p ↦ wrong_by bytes (get_or bytes at 0) at n why (form_of (get_or bytes at 0)) p
    ]

module _ {E : Type 0} (K : Algebra E) (m : Meaning E) (bytes : List ℕ) where
  -- from here on, k more calls are accepted
  record Further (here : Progress) (ps : List Plain) (r : Result ℕ Fault) (qs : List Plain) : Type 0 where
    pub more : ℕ
    pub counted : accepted_in r ≡ here.count + more
    pub splices : List Splice
    pub runs : Runs K m ps splices (replicate more (Ok tt) ++ last_in r) qs

  none_further : (here : Progress) (ps : List Plain) (why : Cause) → (CutOff ≡ why) ⊎ (CallMap ≡ why) → Further here ps (Err (fault_of here why)) ps
  none_further here ps why (inl p) = subst (λ (x : Cause). Further here ps (Err (fault_of here x)) ps) p (record { more = 0; counted = sym (add-zero here.count); splices = []; runs = refl })
  none_further here ps why (inr p) = subst (λ (x : Cause). Further here ps (Err (fault_of here x)) ps) p (record { more = 0; counted = sym (add-zero here.count); splices = []; runs = refl })

  fault_further : (here : Progress) (ps : List Plain) (x : Result Progress Fault) (qs : List Plain) (f : Fault) → Call K m bytes here ps x qs → x ≡ Err f → Further here ps (Err f) qs
  fault_further here ps x qs f (wrong why e) is =
      let same : fault_of here why ≡ f = cc in
      subst (λ (y : Fault). Further here ps (Err y) ps) same (none_further here ps why (wrong_cause bytes here.byte (length ps) why e))
  fault_further here ps x qs f (refused s next why e j) is =
      let same : fault_of here (Route why) ≡ f = cc in
      subst (λ (y : Fault). Further here ps (Err y) ps) same (record { more = 0; counted = sym (add-zero here.count); splices = s ∷ []; runs = (ps, j, refl) })
  fault_further here ps x qs f (accepted s next mid e j) is = cc

  more_further : (here there : Progress) (ps mid : List Plain) (x : Result Progress Fault) (r : Result ℕ Fault) (qs : List Plain) → Call K m bytes here ps x mid → x ≡ Ok there
      → Further there mid r qs → Further here ps r qs
  more_further here there ps mid x r qs (wrong why e) is rest = cc
  more_further here there ps mid x r qs (refused s next why e j) is rest = cc
  more_further here there ps mid x r qs (accepted s next at e j) is rest =
      let same : there.count ≡ here.count + 1 = ap (λ (p : Progress). p.count) (let q : there ≡ advanced here next = cc in q) in
      record { more = suc rest.more; counted = omega (arith, rest.counted); splices = s ∷ rest.splices; runs = (mid, j, rest.runs) }

  runs_on : (here : Progress) (ps : List Plain) (r : Result ℕ Fault) (qs : List Plain) → Calls K m bytes here ps r qs → Further here ps r qs
  runs_on here ps r qs (past a b h) = record { more = 0; counted = sym (add-zero here.count); splices = []; runs = refl }
  runs_on here ps r qs (ended a b h) = record { more = 0; counted = sym (add-zero here.count); splices = []; runs = refl }
  runs_on here ps r qs (faulty a b c f h call) = fault_further here ps (Err f) qs f call refl
  runs_on here ps r qs (onward a there b mid c d h call rest) = more_further here there ps mid (Ok there) r qs call refl (runs_on there mid r qs rest)

  pub count_as_splices : (at : ℕ) (ps : List Plain) (r : Result ℕ Fault) (qs : List Plain) → Calls K m bytes (begin at) ps r qs → CountAsSplices K m ps r qs
  count_as_splices at ps r qs calls =
      let x = runs_on (begin at) ps r qs calls in
      let all : x.more ≡ accepted_in r = sym (x.counted ∙ zero-add x.more) in
      record { splices = x.splices; runs = subst (λ n. Runs K m ps x.splices (replicate n (Ok tt) ++ last_in r) qs) all x.runs }

  -- the same by the bytes
  record Spelt (here : Progress) (ps : List Plain) (r : Result ℕ Fault) (qs : List Plain) : Type 0 where
    pub splices : List Splice
    pub records : List ℕ
    pub rest : List ℕ
    pub written : drop here.byte bytes ≡ records ++ rest
    pub spelled : SpelledCalls K m ps splices records qs
    pub ends : EndedAt K m qs (here.count + length splices) (here.byte + length records) rest r

  nothing : (here : Progress) (ps : List Plain) (f : Fault) → f.count ≡ here.count → f.byte ≡ here.byte → FaultyAt K m ps (drop here.byte bytes) f.cause → Spelt here ps (Err f) ps
  nothing here ps f p q at = record {
    splices = [];
    records = [];
    rest = drop here.byte bytes;
    written = refl;
    spelled = (refl, refl);
    ends = (p ∙ sym (add-zero here.count), q ∙ sym (add-zero here.byte), at);
  }

  no_call : (ps : List Plain) (at : ℕ) (why : Cause) → call_at bytes at (length ps) ≡ Err why → (CutOff ≡ why) ⊎ (CallMap ≡ why) → FaultyAt K m ps (drop at bytes) why
  no_call ps at why e (inl p) = subst (FaultyAt K m ps (drop at bytes)) p (call_none bytes at (length ps) why e)
  no_call ps at why e (inr p) = subst (FaultyAt K m ps (drop at bytes)) p (call_none bytes at (length ps) why e)

  fault_spelt : (here : Progress) (ps : List Plain) (x : Result Progress Fault) (qs : List Plain) (f : Fault) → Call K m bytes here ps x qs → x ≡ Err f → Spelt here ps (Err f) qs
  fault_spelt here ps x qs f (wrong why e) is =
      let same : fault_of here why ≡ f = cc in
      subst (λ (y : Fault). Spelt here ps (Err y) ps) same (nothing here ps (fault_of here why) refl refl (no_call ps here.byte why e (wrong_cause bytes here.byte (length ps) why e)))
  fault_spelt here ps x qs f (refused s next why e j) is =
      let same : fault_of here (Route why) ≡ f = cc in
      let t = call_taken bytes here.byte (length ps) s next e in
      subst (λ (y : Fault). Spelt here ps (Err y) ps) same
      (nothing here ps (fault_of here (Route why)) refl refl (record { call = s; front = t.front; back = drop next bytes; written = t.cut; spelled = t.spelled; judged = j }))
  fault_spelt here ps x qs f (accepted s next mid e j) is = cc

  more_spelt : (here there : Progress) (ps mid : List Plain) (x : Result Progress Fault) (r : Result ℕ Fault) (qs : List Plain) → Call K m bytes here ps x mid → x ≡ Ok there
      → Spelt there mid r qs → Spelt here ps r qs
  more_spelt here there ps mid x r qs (wrong why e) is rest = cc
  more_spelt here there ps mid x r qs (refused s next why e j) is rest = cc
  more_spelt here there ps mid x r qs (accepted s next at e j) is rest =
      let same : there ≡ advanced here next = cc in
      let t = call_taken bytes here.byte (length ps) s next e in
      let front = t.front in
      let onto : drop next bytes ≡ rest.records ++ rest.rest = ap (λ (p : Progress). drop p.byte bytes) (sym same) ∙ rest.written in
      let counted : there.count ≡ here.count + 1 = ap (λ (p : Progress). p.count) same in
      let placed : there.byte ≡ next = ap (λ (p : Progress). p.byte) same in
      let total : there.count + length rest.splices ≡ here.count + suc (length rest.splices) = omega arith in
      let place : there.byte + length rest.records ≡ here.byte + length (front ++ rest.records) = simp length-append (omega (arith, t.place)) in
      record {
        splices = s ∷ rest.splices;
        records = front ++ rest.records;
        rest = rest.rest;
        written = t.cut ∙ (ap (λ l. front ++ l) onto ∙ sym (append_assoc front rest.records rest.rest));
        spelled = (mid, front, rest.records, t.spelled, j, rest.spelled, refl);
        ends = subst (λ n. EndedAt K m qs n (here.byte + length (front ++ rest.records)) rest.rest r) total
            (subst (λ n. EndedAt K m qs (there.count + length rest.splices) n rest.rest r) place rest.ends);
      }

  spelt : (here : Progress) (ps : List Plain) (r : Result ℕ Fault) (qs : List Plain) → Calls K m bytes here ps r qs → Spelt here ps r qs
  spelt here ps r qs (past a b h) =
      nothing here ps (fault_of here CutOff) refl refl
      (call_none bytes here.byte (length ps) CutOff (cond-true (leb (length bytes) here.byte) (Err CutOff) (call_by bytes (get_or bytes here.byte 0) here.byte (length ps) (form_of (get_or bytes here.byte 0))) (le-leb (length bytes) here.byte (omega arith))))
  spelt here ps r qs (ended a b h) = record {
    splices = [];
    records = [];
    rest = [];
    written = drop_all here.byte bytes (omega arith);
    spelled = (refl, refl);
    ends = (sym (add-zero here.count), refl);
  }
  spelt here ps r qs (faulty a b c f h call) = fault_spelt here ps (Err f) qs f call refl
  spelt here ps r qs (onward a there b mid c d h call rest) = more_spelt here there ps mid (Ok there) r qs call refl (spelt there mid r qs rest)

  pub runs_exactly : (at : ℕ) (ps : List Plain) (r : Result ℕ Fault) (qs : List Plain) → Calls K m bytes (begin at) ps r qs → RunsExactly K m bytes at ps r qs
  runs_exactly at ps r qs calls =
      let x = spelt (begin at) ps r qs calls in
      record {
        splices = x.splices;
        records = x.records;
        rest = x.rest;
        written = x.written;
        spelled = x.spelled;
        ends = subst (λ n. EndedAt K m qs n (at + length x.records) x.rest r) (zero-add (length x.splices)) x.ends;
      }

  pub ran : (at : ℕ) (ss : List Stop) (r : Result ℕ Fault) (ts : List Stop) → Calls K m bytes (begin at) (plains ss) r (plains ts) → (Marked K m ss → Marked K m ts) → (accepted_in r ≡ 0 → ts ≡ ss)
      → Ran K m bytes at ss r ts
  ran at ss r ts calls marked stays = record {
    calls = calls;
    marked = marked;
    stays = stays;
    reads = reads_calls bytes;
    splices = count_as_splices at (plains ss) r (plains ts) calls;
    exact = runs_exactly at (plains ss) r (plains ts) calls;
  }
