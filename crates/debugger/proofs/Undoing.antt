-- What takes the open levels of a call back: one step more.
use Rattle.std.proofs.lemmas.Bool.{eqb-true}
use Rattle.std.proofs.Common.{◌≡◌, ℕ, ◌==◌, ◌-◌, ◌%◌, ◌^◌, ◌+◌, Bool, true, false, List, [], ◌∷◌, ◌++◌, length, take, drop, refl, sym, ap, ◌∙◌, subst, arith, length-append, append-nil, take-append-drop}
use Rattle.std.specs.Prelude.{reverse, Result, Ok, Err, OnOk}
use Rattle.std.specs.FinMap.{get}
use Rattle.std.proofs.lemmas.List.{take-append-le, drop-append-le, reverse-append, drop_all, take_all}
use Rattle.spec_ledger.specs.declared.Inverse.{Inverse}
use Rattle.spec_ledger.specs.declared.Inverse.TheVariants.{Subtract}
use Rattle.spec_ledger.specs.declared.Op.{Op}
use Rattle.spec_ledger.specs.declared.Op.TheVariants.{Add}
use Rattle.spec_ledger.specs.declared.CellKey.{CellKey}
use Rattle.spec_ledger.specs.declared.Reply.{Reply}
use Rattle.spec_ledger.specs.declared.TraceStep.TheVariants.{Did, Opened}
use Rattle.spec_ledger.specs.Cells.{Cells, AreCells, cells_after, inverse_to, back, set_at, counter, counter_at, number}
use Rattle.spec_ledger.specs.Book.{Marked, kept_at, dropped_at, stepped, back_all}
use Rattle.spec_ledger.proofs.Ops.{back-inverse}
use Rattle.interp.specs.Progress.{mark_of}
use Rattle.debugger.specs.Undoing.{GoBack, AreNoted}

pub on_ok : {T E : Type 0} (r : Result T E) (P Q : Type 0) → (P → Q) → OnOk r P → OnOk r Q
on_ok (Ok x) P Q f h = f h
on_ok (Err e) P Q f h = tt

pub on_both : {T E : Type 0} (r : Result T E) (P Q R : Type 0) → (P → Q → R) → OnOk r P → OnOk r Q → OnOk r R
on_both (Ok x) P Q R f h k = f h k
on_both (Err e) P Q R f h k = tt

pub back_all-append : (is js : List Inverse) (m : Cells) → back_all (is ++ js) m ≡ back_all is (back_all js m)
back_all-append [] js m = refl
back_all-append (i ∷ is) js m = ap (back i) (back_all-append is js m)

-- ---- what undoes an addition

same_sum : (n v w : ℕ) → (w + v) % 2 ^ 64 ≡ 0 → (n + w) % 2 ^ 64 ≡ (n + (2 ^ 64 - v % 2 ^ 64)) % 2 ^ 64
same_sum n v w h = omega arith

pub subtracting : (p : CellKey) (v w : ℕ) (m : Cells) → (w + v) % 2 ^ 64 ≡ 0 → cells_after (Add p w) m ≡ back (Subtract p v) m
subtracting p v w m h = ap (λ (n : ℕ). set_at m (counter_at p) (counter n)) (same_sum (number (get m (counter_at p))) v w h)

-- ---- inverses more, which lead back to where the first ones are

goes_back_more : (is js : List Inverse) (ns : List ℕ) (now before : Cells) (stood : List Cells) → back_all js now ≡ before → GoBack is ns before stood → GoBack (is ++ js) ns now stood
goes_back_more is js [] now before [] e h = tt
goes_back_more is js [] now before (c ∷ cs) e h = absurd h
goes_back_more is js (n ∷ ns) now before [] e h = absurd h
goes_back_more is js (n ∷ ns) now before (c ∷ cs) e h = (
  omega (arith, h.0, length-append is js),
  ap (λ (x : List Inverse). back_all x now) (drop-append-le n is js h.0) ∙ back_all-append (drop n is) js now ∙ ap (back_all (drop n is)) e ∙ h.1,
  subst (λ (x : List Inverse). GoBack x ns c cs) (sym (take-append-le n is js h.0)) h.2,
)

-- where no level is open nothing is asked of the inverses
none_open : (is js : List Inverse) (now next : Cells) (stood : List Cells) → GoBack is [] now stood → GoBack js [] next stood
none_open is js now next [] h = tt
none_open is js now next (c ∷ cs) h = absurd h

-- ---- an operation

module _ (is js : List Inverse) (ms : List ℕ) (now next : Cells) (p : Marked Cells) (op : Op) (r : Reply) (h : AreNoted is ms now p) (cells : next ≡ cells_after op now) where
  pub noted : AreCells now → (i : Inverse) → i ≡ inverse_to op now → js ≡ is ++ i ∷ [] → AreNoted js ms next (stepped cells_after (Did op r) p)
  noted are i inverse e = record {
    now_is = cells ∙ ap (cells_after op) h.now_is;
    back = subst (λ (x : List Inverse). GoBack x (reverse ms) next p.marks) (sym e)
        (goes_back_more is (i ∷ []) (reverse ms) next now p.marks (ap (λ (j : Inverse). back j next) inverse ∙ ap (back (inverse_to op now)) cells ∙ back-inverse op now are) h.back);
  }

  pub not_noted : ms ≡ [] → AreNoted js ms next (stepped cells_after (Did op r) p)
  not_noted none = record {
    now_is = cells ∙ ap (cells_after op) h.now_is;
    back = subst (λ (x : List ℕ). GoBack js (reverse x) next p.marks) (sym none)
        (none_open is js now next p.marks (subst (λ (x : List ℕ). GoBack is (reverse x) now p.marks) none h.back));
  }

-- ---- a level that is entered

pub entered : (is : List Inverse) (ms ns : List ℕ) (n : ℕ) (now : Cells) (p : Marked Cells) → AreNoted is ms now p → n ≡ length is → ns ≡ ms ++ n ∷ [] → AreNoted is ns now (stepped cells_after Opened p)
entered is ms ns n now p h size e = record {
  now_is = h.now_is;
  back = subst (λ (x : List ℕ). GoBack is x now (p.now ∷ p.marks)) (sym (ap reverse e ∙ reverse-append ms (n ∷ []))) (
    omega (arith, size),
    ap (λ (x : List Inverse). back_all x now) (drop_all n is (omega (arith, size))) ∙ h.now_is,
    subst (λ (x : List Inverse). GoBack x (reverse ms) p.now p.marks) (sym (take_all n is (omega (arith, size))))
        (subst (λ (x : Cells). GoBack is (reverse ms) x p.marks) h.now_is h.back),
  );
}

-- ---- a level that is left

-- none is open
outside : (is : List Inverse) (now x : Cells) (stood : List Cells) (keep : Bool) → now ≡ x → GoBack is [] now stood → AreNoted is [] now (stepped cells_after (mark_of keep) (record { now = x; marks = stood }))
outside is now x [] true e h = record { now_is = e; back = tt }
outside is now x [] false e h = record { now_is = e; back = tt }
outside is now x (c ∷ cs) keep e h = absurd h

pub left_outside : (is : List Inverse) (ms ns : List ℕ) (now : Cells) (p : Marked Cells) (keep : Bool) → AreNoted is ms now p → ms ≡ [] → ns ≡ [] → AreNoted is ns now (stepped cells_after (mark_of keep) p)
left_outside is ms ns now p keep h none still =
    subst (λ (x : List ℕ). AreNoted is x now (stepped cells_after (mark_of keep) p)) (sym still)
    (outside is now p.now p.marks keep h.now_is (subst (λ (x : List ℕ). GoBack is (reverse x) now p.marks) none h.back))

reverse_last : (ms rest : List ℕ) (n : ℕ) → ms ≡ rest ++ n ∷ [] → reverse ms ≡ n ∷ reverse rest
reverse_last ms rest n e = ap reverse e ∙ reverse-append rest (n ∷ [])

-- what it did stands
keeps : (is : List Inverse) (n : ℕ) (ns : List ℕ) (now x : Cells) (stood : List Cells) → now ≡ x → GoBack is (n ∷ ns) now stood → (now ≡ (kept_at x stood).now) × GoBack is ns now (kept_at x stood).marks
keeps is n ns now x [] e h = absurd h
keeps is n ns now x (c ∷ cs) e h = (e, subst (λ (y : List Inverse). GoBack y ns now cs) (take-append-drop n is) (goes_back_more (take n is) (drop n is) ns now c cs h.1 h.2))

-- it is taken back
drops : (is : List Inverse) (n : ℕ) (ns : List ℕ) (now next x : Cells) (stood : List Cells) → next ≡ back_all (drop n is) now → GoBack is (n ∷ ns) now stood → (next ≡ (dropped_at x stood).now) × GoBack (take n is) ns next (dropped_at x stood).marks
drops is n ns now next x [] e h = absurd h
drops is n ns now next x (c ∷ cs) e h = (e ∙ h.1, subst (λ (y : Cells). GoBack (take n is) ns y cs) (sym (e ∙ h.1)) h.2)

module _ (is js : List Inverse) (ms rest : List ℕ) (n : ℕ) (now next : Cells) (p : Marked Cells) (keep : Bool) (h : AreNoted is ms now p) (e : ms ≡ rest ++ n ∷ []) where
  from_mark : GoBack is (n ∷ reverse rest) now p.marks
  from_mark = subst (λ (x : List ℕ). GoBack is x now p.marks) (reverse_last ms rest n e) h.back

  pub kept : keep ≡ true → AreNoted is rest now (stepped cells_after (mark_of keep) p)
  kept stands =
      let k = keeps is n (reverse rest) now p.now p.marks h.now_is from_mark in
      subst (λ (b : Bool). AreNoted is rest now (stepped cells_after (mark_of b) p)) (sym stands) (record { now_is = k.0; back = k.1 })

  -- it was the outer one
  pub kept_last : keep ≡ true → rest ≡ [] → AreNoted js rest now (stepped cells_after (mark_of keep) p)
  kept_last stands none =
      let k = kept stands in
      record {
        now_is = k.now_is;
        back = subst (λ (x : List ℕ). GoBack js (reverse x) now (stepped cells_after (mark_of keep) p).marks) (sym none)
            (none_open is js now now (stepped cells_after (mark_of keep) p).marks (subst (λ (x : List ℕ). GoBack is (reverse x) now (stepped cells_after (mark_of keep) p).marks) none k.back));
      }

  pub dropped : keep ≡ false → js ≡ take n is → next ≡ back_all (drop n is) now → AreNoted js rest next (stepped cells_after (mark_of keep) p)
  dropped falls taken cells =
      let k = drops is n (reverse rest) now next p.now p.marks cells from_mark in
      subst (λ (b : Bool). AreNoted js rest next (stepped cells_after (mark_of b) p)) (sym falls)
      (record { now_is = k.0; back = subst (λ (x : List Inverse). GoBack x (reverse rest) next (dropped_at p.now p.marks).marks) (sym taken) k.1 })

-- ---- no mark is there

pub none_left : (ms : List ℕ) (n : ℕ) → n ≡ length ms → n ≡ 0 → ms ≡ []
none_left [] n size none = refl
none_left (m ∷ ms) n size none = absurd (omega (arith, size, none))

pub none_of : (ms : List ℕ) (n : ℕ) → n ≡ length ms → (n == 0) ≡ true → ms ≡ []
none_of ms n size none = none_left ms n size (eqb-true n 0 none)

pub left_none : (is : List Inverse) (ms ns : List ℕ) (now : Cells) (p : Marked Cells) (keep : Bool) → AreNoted is ms now p → (size : ℕ) → size ≡ length ms → size ≡ 0 → ms ≡ ns ++ [] → AreNoted is ns now (stepped cells_after (mark_of keep) p)
left_none is ms ns now p keep h size sized none rest =
    let gone : ms ≡ [] = none_left ms size sized none in
    left_outside is ms ns now p keep h gone (sym (append-nil ns) ∙ sym rest ∙ gone)
