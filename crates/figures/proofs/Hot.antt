-- The order of shared locks, and the hottest of them one after another.
use Rattle.std.proofs.Common.{◌≡◌, ◌⊎◌, ◌↔◌, inl, inr, ℕ, suc, ◌+◌, ◌<◌, ◌≤◌, Bool, true, false, cond, Option, Some, None, is_some, List, [], ◌∷◌, ◌++◌, length, take, get_or, slice_get, count_by, refl, sym, ◌∙◌, ap, subst, arith}
use Rattle.std.specs.declared.cmp.Ordering.{Ordering}
use Rattle.std.specs.declared.cmp.Ordering.TheVariants.{Less, Equal, Greater}
use Rattle.std.specs.Ordering.{ordering_reverse}
use Rattle.std.specs.List.{Contains}
use Rattle.std.proofs.lemmas.Bool.{cases_eq, cases_lt}
use Rattle.std.proofs.lemmas.List.{take_more, length_push, get_or_append_left, get_or_push}
use Rattle.std.proofs.lemmas.List.Elements.{Contains-append_left, Contains-get_or, Contains-push, Contains-push_cases}
use Rattle.std.proofs.lemmas.List.Sums.{sum_by-cons}
use Rattle.std.proofs.lemmas.Option.{slice_get_within}
use Rattle.spec_ledger.specs.declared.Lock.{Lock}
use Rattle.spec_ledger.specs.declared.Mode.{Mode}
use Rattle.spec_ledger.specs.declared.Entry.{Entry}
use Rattle.spec_ledger.specs.Cells.{lock_cmp}
use Rattle.spec_ledger.proofs.Maps.{lock_cmp_total, lock_cmp-IsAntisymmetric}
use Rattle.spec_block.specs.Schedule.{hold_in}
use Rattle.figures.specs.declared.hottest.SharedLock.{SharedLock}
use Rattle.figures.specs.Counting.{AreFirst, IsBehind, IsBetter, IsNext, IsTold}
use Rattle.figures.specs.Hottest.{holders, AreHottest, IsHotter, IsShared}
use Rattle.figures.proofs.Profiles.{found_at, some_is}

-- ---- the order

pub hotter_trans : (a b c : SharedLock) → IsHotter a b → IsHotter b c → IsHotter a c
hotter_trans a b c first second =
    elim first [
      | inl more ↦ elim second [ inl f ↦ inl (omega (arith, more, f)) | inr s ↦ let same = s.0 in inl (omega (arith, more, same)) ]
      | inr tie ↦ elim second [
        | inl f ↦ let same = tie.0 in inl (omega (arith, same, f))
        | inr s ↦ inr (tie.0 ∙ s.0, lock_cmp_total.trans a.lock b.lock c.lock tie.1 s.1)
      ]
    ]

by_lock : (a b : SharedLock) → a.positions ≡ b.positions → (o : Ordering) → lock_cmp a.lock b.lock ≡ o → (a ≡ b) ⊎ (IsHotter a b ⊎ IsHotter b a)
by_lock a b same Less is = inr (inl (inr (same, is)))
by_lock a b same Equal is = let locks : a.lock ≡ b.lock = lock_cmp-IsAntisymmetric a.lock b.lock is in inl (λ i. record { lock = locks i; positions = same i })
by_lock a b same Greater is = inr (inr (inr (sym same, lock_cmp_total.antisymm b.lock a.lock ∙ ap ordering_reverse is)))

-- of two, they are the same or one is hotter
pub one_is_hotter : (a b : SharedLock) → (a ≡ b) ⊎ (IsHotter a b ⊎ IsHotter b a)
one_is_hotter a b =
    elim (cases_eq a.positions b.positions) [
      | inl same ↦ by_lock a b same (lock_cmp a.lock b.lock) refl
      | inr differ ↦ elim (cases_lt a.positions b.positions) [ inl lt ↦ inr (inr (inl lt)) | inr ge ↦ inr (inl (inl (omega (arith, ge, differ)))) ]
    ]

-- ---- the next one

pub next_none : (last : Option SharedLock) → IsNext [] last None
next_none last s c = absurd (let lt = c.1 in omega (arith, lt))

more_of_none : (xs : List SharedLock) (x : SharedLock) (last new : Option SharedLock) → IsNext xs last None → IsBetter last None x new → IsNext (xs ++ x ∷ []) last new
more_of_none xs x last new so_far how =
    elim how [
      | inl put ↦ subst (IsNext (xs ++ x ∷ []) last) (sym put.2) (Contains-push xs x, put.0, λ s c b. elim (Contains-push_cases xs x s c) [ inl h ↦ absurd (so_far s h b) | inr same ↦ inl (sym same) ])
      | inr kept ↦ subst (IsNext (xs ++ x ∷ []) last) (sym kept.1) (λ s c b. elim (Contains-push_cases xs x s c) [ inl h ↦ so_far s h b | inr same ↦ kept.0 (subst (IsBehind last) (sym same) b, tt) ])
    ]

more_of_some : (xs : List SharedLock) (x best : SharedLock) (last new : Option SharedLock) → IsNext xs last (Some best) → IsBetter last (Some best) x new → IsNext (xs ++ x ∷ []) last new
more_of_some xs x best last new so_far how =
    elim how [
      | inl put ↦ subst (IsNext (xs ++ x ∷ []) last) (sym put.2) (
        Contains-push xs x,
        put.0,
        λ s c b. elim (Contains-push_cases xs x s c) [
          | inl h ↦ elim (so_far.2 s h b) [ inl same ↦ inr (subst (IsHotter x) (sym same) put.1) | inr hot ↦ inr (hotter_trans x best s put.1 hot) ]
          | inr same ↦ inl (sym same)
        ],
      )
      | inr kept ↦ subst (IsNext (xs ++ x ∷ []) last) (sym kept.1) (
        Contains-append_left xs (x ∷ []) best so_far.0,
        so_far.1,
        λ s c b. elim (Contains-push_cases xs x s c) [
          | inl h ↦ so_far.2 s h b
          | inr same ↦
              let here : (x ≡ best) ⊎ IsHotter best x = elim (one_is_hotter x best) [
                | inl one ↦ inl one
                | inr r ↦ elim r [ inl sooner ↦ absurd (kept.0 (subst (IsBehind last) (sym same) b, sooner)) | inr later ↦ inr later ]
              ] in
              subst (λ t. (t ≡ best) ⊎ IsHotter best t) same here
        ],
      )
    ]

pub next_more : (shared : List SharedLock) (i : ℕ) (d : SharedLock) (last best new : Option SharedLock) → i < length shared → IsNext (take i shared) last best → IsBetter last best (get_or shared i d) new → IsNext (take (i + 1) shared) last new
next_more shared i d last None new below so_far how = subst (λ xs. IsNext xs last new) (sym (take_more shared i d below)) (more_of_none (take i shared) (get_or shared i d) last new so_far how)
next_more shared i d last (Some best) new below so_far how = subst (λ xs. IsNext xs last new) (sym (take_more shared i d below)) (more_of_some (take i shared) (get_or shared i d) best last new so_far how)

-- ---- the first ten

pub record AreSoFar (shared hottest : List SharedLock) (last : Option SharedLock) (n : ℕ) : Type 0 where
  pub few : n ≤ 10
  pub each : length hottest ≡ n
  pub within : (s : SharedLock) → Contains hottest s → Contains shared s
  pub falling : (i j : ℕ) (d : SharedLock) → i < j → j < length hottest → IsHotter (get_or hottest i d) (get_or hottest j d)
  pub before : (s : SharedLock) → IsBehind last s → (h : SharedLock) → Contains hottest h → IsHotter h s
  pub rest : (s : SharedLock) → Contains shared s → Contains hottest s ⊎ IsBehind last s

pub none_yet : (shared hottest : List SharedLock) → hottest ≡ [] → AreSoFar shared hottest None 0
none_yet shared hottest none =
    subst (λ hs. AreSoFar shared hs None 0) (sym none) (record {
      few = omega arith;
      each = refl;
      within = λ s c. absurd (let lt = c.1 in omega (arith, lt));
      falling = λ i j d lt below. absurd (omega (arith, below));
      before = λ s b h c. absurd (let lt = c.1 in omega (arith, lt));
      rest = λ s c. inr tt;
    })

pub one_more : (shared hottest new : List SharedLock) (last : Option SharedLock) (n : ℕ) (next : SharedLock) → n < 10 → new ≡ hottest ++ next ∷ [] → AreSoFar shared hottest last n → IsNext shared last (Some next) → AreSoFar shared new (Some next) (n + 1)
one_more shared hottest new last n next below_ten step so_far is_next =
    let len = so_far.each in
    subst (λ hs. AreSoFar shared hs (Some next) (n + 1)) (sym step) (record {
      few = omega (arith, below_ten);
      each = length_push hottest next ∙ ap (λ k. k + 1) len;
      within = λ s c. elim (Contains-push_cases hottest next s c) [ inl h ↦ so_far.within s h | inr same ↦ subst (Contains shared) same is_next.0 ];
      falling = λ i j d lt below.
          let size = length_push hottest next in
          let left : get_or (hottest ++ next ∷ []) i d ≡ get_or hottest i d = get_or_append_left hottest (next ∷ []) d i (omega (arith, lt, below, size)) in
          elim (cases_eq j n) [
            | inl last_is ↦
                let here : get_or (hottest ++ next ∷ []) j d ≡ next = get_or_push hottest next d j (len ∙ sym last_is) in
                subst (IsHotter (get_or (hottest ++ next ∷ []) i d)) (sym here) (subst (λ a. IsHotter a next) (sym left) (so_far.before next is_next.1 (get_or hottest i d) (Contains-get_or hottest i d (omega (arith, lt, len, last_is)))))
            | inr other ↦
                let inside : j < length hottest = omega (arith, below, size, other, len) in
                let right : get_or (hottest ++ next ∷ []) j d ≡ get_or hottest j d = get_or_append_left hottest (next ∷ []) d j inside in
                subst (IsHotter (get_or (hottest ++ next ∷ []) i d)) (sym right) (subst (λ a. IsHotter a (get_or hottest j d)) (sym left) (so_far.falling i j d lt inside))
          ];
      before = λ s b h c. elim (Contains-push_cases hottest next h c) [
        | inl old ↦ hotter_trans h next s (so_far.before next is_next.1 h old) b
        | inr same ↦ subst (λ a. IsHotter a s) same b
      ];
      rest = λ s c. elim (so_far.rest s c) [
        | inl old ↦ inl (Contains-append_left hottest (next ∷ []) s old)
        | inr later ↦ elim (is_next.2 s c later) [ inl same ↦ inl (subst (Contains (hottest ++ next ∷ [])) (sym same) (Contains-push hottest next)) | inr behind ↦ inr behind ]
      ];
    })

pub no_more : (shared hottest : List SharedLock) (last : Option SharedLock) (n : ℕ) → AreSoFar shared hottest last n → IsNext shared last None → AreFirst shared hottest
no_more shared hottest last n so_far none = record {
  few = let len = so_far.each in let low = so_far.few in omega (arith, low, len);
  within = so_far.within;
  falling = so_far.falling;
  rest = λ s c. elim (so_far.rest s c) [ inl old ↦ inl old | inr later ↦ absurd (none s c later) ];
}

pub ten_are_there : (shared hottest : List SharedLock) (last : Option SharedLock) (n : ℕ) → 10 ≤ n → AreSoFar shared hottest last n → AreFirst shared hottest
ten_are_there shared hottest last n end so_far = record {
  few = let len = so_far.each in let low = so_far.few in omega (arith, low, len);
  within = so_far.within;
  falling = so_far.falling;
  rest = λ s c. elim (so_far.rest s c) [ inl old ↦ inl old | inr later ↦ inr ((let len = so_far.each in let low = so_far.few in omega (arith, len, low, end)), so_far.before s later) ];
}

-- ---- the locks that entries have

pub told_more : (number : Lock → ℕ) (es : List Entry) (i : ℕ) (d : Entry) (base mid new : List SharedLock) (s : SharedLock) → i < length es
    → (Contains mid s ↔ (Contains base s ⊎ IsTold number (take i es) s))
    → (((2 ≤ number (get_or es i d).lock) × (new ≡ mid ++ (record { lock = (get_or es i d).lock; positions = number (get_or es i d).lock }) ∷ [])) ⊎ ((number (get_or es i d).lock < 2) × (new ≡ mid)))
    → Contains new s ↔ (Contains base s ⊎ IsTold number (take (i + 1) es) s)
told_more number es i d base mid new s below so_far how =
    let e : Entry = get_or es i d in
    let whole : take i es ++ e ∷ [] ≡ take (i + 1) es = sym (take_more es i d below) in
    let one : SharedLock = record { lock = e.lock; positions = number e.lock } in
    let left : IsTold number (take i es) s → IsTold number (take i es ++ e ∷ []) s = λ t. (t.0, Contains-append_left (take i es) (e ∷ []) t.0 t.1, t.2, t.3, t.4) in
    let old : Contains mid s → Contains base s ⊎ IsTold number (take i es ++ e ∷ []) s = λ c. elim (so_far.0 c) [ inl b ↦ inl b | inr t ↦ inr (left t) ] in
    subst (λ xs. Contains new s ↔ (Contains base s ⊎ IsTold number xs s)) whole (elim how [
      | inl put ↦ (
        λ c. elim (Contains-push_cases mid one s (subst (λ xs. Contains xs s) put.1 c)) [
          | inl h ↦ old h
          | inr same ↦
              let locks : e.lock ≡ s.lock = ap (λ (t : SharedLock). t.lock) same in
              let counts : s.positions ≡ number s.lock = sym (ap (λ (t : SharedLock). t.positions) same) ∙ ap number locks in
              inr (e, Contains-push (take i es) e, locks, counts, (let many = put.0 in let n : number e.lock ≡ s.positions = ap (λ (t : SharedLock). t.positions) same in omega (arith, many, n)))
        ],
        λ c. subst (λ xs. Contains xs s) (sym put.1) (elim c [
          | inl b ↦ Contains-append_left mid (one ∷ []) s (so_far.1 (inl b))
          | inr t ↦ elim (Contains-push_cases (take i es) e t.0 t.1) [
            | inl h ↦ Contains-append_left mid (one ∷ []) s (so_far.1 (inr (t.0, h, t.2, t.3, t.4)))
            | inr same ↦
                let locks : e.lock ≡ s.lock = ap (λ (x : Entry). x.lock) same ∙ t.2 in
                let counts : number e.lock ≡ s.positions = ap number locks ∙ sym t.3 in
                let is : one ≡ s = λ k. record { lock = locks k; positions = counts k } in
                subst (Contains (mid ++ one ∷ [])) is (Contains-push mid one)
          ]
        ]),
      )
      | inr kept ↦ (
        λ c. old (subst (λ xs. Contains xs s) kept.1 c),
        λ c. subst (λ xs. Contains xs s) (sym kept.1) (elim c [
          | inl b ↦ so_far.1 (inl b)
          | inr t ↦ elim (Contains-push_cases (take i es) e t.0 t.1) [
            | inl h ↦ so_far.1 (inr (t.0, h, t.2, t.3, t.4))
            | inr same ↦
                let locks : e.lock ≡ s.lock = ap (λ (x : Entry). x.lock) same ∙ t.2 in
                let counts : number e.lock ≡ s.positions = ap number locks ∙ sym t.3 in
                let few = kept.0 in let many = t.4 in absurd (omega (arith, counts, few, many))
          ]
        ]),
      )
    ])

-- some of the first positions has the lock
abbrev pub IsToldBelow : List (List Entry) → ℕ → SharedLock → Type 0
IsToldBelow profiles n s = (k : ℕ) × (es : List Entry) × (k < n) × (slice_get profiles k ≡ Some es) × IsTold (holders profiles) es s

pub told_by_same : (number other : Lock → ℕ) (es : List Entry) (s : SharedLock) → ((lock : Lock) → number lock ≡ other lock) → IsTold number es s → IsTold other es s
told_by_same number other es s same t = (t.0, t.1, t.2, t.3 ∙ same s.lock, t.4)

pub below_more : (profiles : List (List Entry)) (n : ℕ) (es : List Entry) (mid new : List SharedLock) (number : Lock → ℕ) (s : SharedLock) → slice_get profiles n ≡ Some es → ((lock : Lock) → number lock ≡ holders profiles lock)
    → (Contains mid s ↔ IsToldBelow profiles n s) → (Contains new s ↔ (Contains mid s ⊎ IsTold number es s)) → Contains new s ↔ IsToldBelow profiles (n + 1) s
below_more profiles n es mid new number s there same so_far step = (
  λ c. elim (step.0 c) [
    | inl old ↦ let t = so_far.0 old in let lt = t.2 in (t.0, t.1, omega (arith, lt), t.3, t.4)
    | inr now ↦ (n, es, omega arith, there, told_by_same number (holders profiles) es s same now)
  ],
  λ t. elim (cases_eq t.0 n) [
    | inl last ↦
        let one : t.1 ≡ es = some_is t.1 es (sym t.3 ∙ (ap (slice_get profiles) last ∙ there)) in
        step.1 (inr (told_by_same (holders profiles) number es s (λ lock. sym (same lock)) (subst (λ xs. IsTold (holders profiles) xs s) one t.4)))
    | inr other ↦ let lt = t.2 in step.1 (inl (so_far.1 (t.0, t.1, omega (arith, lt, other), t.3, t.4)))
  ],
)

pub nothing_below : (profiles : List (List Entry)) (shared : List SharedLock) (s : SharedLock) → shared ≡ [] → Contains shared s ↔ IsToldBelow profiles 0 s
nothing_below profiles shared s none = (λ c. let d = subst (λ xs. Contains xs s) none c in absurd (let lt = d.1 in omega (arith, lt)), λ t. absurd (let lt = t.2 in omega (arith, lt)))

abbrev one_if : Bool → ℕ
one_if b = cond b 1 0

some_holder : (lock : Lock) (profiles : List (List Entry)) → 0 < count_by (λ (es : List Entry). is_some (hold_in lock es)) profiles → (k : ℕ) × (es : List Entry) × (slice_get profiles k ≡ Some es) × (is_some (hold_in lock es) ≡ true)
some_holder lock [] some = absurd (omega (arith, some))
some_holder lock (es ∷ rest) some = by (is_some (hold_in lock es)) refl (λ h. some_holder lock rest h) (let sum = sum_by-cons (λ (xs : List Entry). cond (is_some (hold_in lock xs)) 1 0) es rest in omega (arith, some, sum))
  where
    by : (b : Bool) → is_some (hold_in lock es) ≡ b
        → (0 < count_by (λ (xs : List Entry). is_some (hold_in lock xs)) rest → (k : ℕ) × (xs : List Entry) × (slice_get rest k ≡ Some xs) × (is_some (hold_in lock xs) ≡ true))
        → 0 < cond (is_some (hold_in lock es)) 1 0 + count_by (λ (xs : List Entry). is_some (hold_in lock xs)) rest
        → (k : ℕ) × (xs : List Entry) × (slice_get (es ∷ rest) k ≡ Some xs) × (is_some (hold_in lock xs) ≡ true)
    by true is later h = (0, es, refl, is)
    by false is later h = let none : one_if (is_some (hold_in lock es)) ≡ 0 = ap one_if is in let r = later (omega (arith, h, none)) in (suc r.0, r.1, r.2, r.3)

held_is : (o : Option (Mode × ℕ)) → is_some o ≡ true → (h : Mode × ℕ) × (o ≡ Some h)
held_is None is = absurd (cc is)
held_is (Some h) is = (h, refl)

pub shared_is_told : (profiles : List (List Entry)) (n : ℕ) (s : SharedLock) → length profiles ≤ n → IsToldBelow profiles n s ↔ IsShared profiles s
shared_is_told profiles n s all = (
  λ t. record { count = t.4.3; several = t.4.4 },
  λ is.
      let count = is.count in let several = is.several in
      let some = some_holder s.lock profiles (omega (arith, count, several)) in
      let held = held_is (hold_in s.lock some.1) some.3 in
      let at = found_at s.lock some.1 held.0 held.1 in
      let within = slice_get_within profiles some.0 some.1 some.2 in
      (some.0, some.1, omega (arith, within, all), some.2, (at.0, at.1, ap (λ q. q.lock) at.2, is.count, is.several)),
)

pub hottest_is : (profiles : List (List Entry)) (shared hottest : List SharedLock) → ((s : SharedLock) → Contains shared s ↔ IsShared profiles s) → AreFirst shared hottest → AreHottest profiles hottest
hottest_is profiles shared hottest exact first = record {
  few = first.few;
  shared = λ s c. (exact s).0 (first.within s c);
  falling = first.falling;
  rest = λ s is. first.rest s ((exact s).1 is);
}
