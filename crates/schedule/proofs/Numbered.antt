-- The gates before the turns of profiles.
use Rattle.std.proofs.Common.{Fits, w64, ◌^◌, ◌≡◌, ◌↔◌, ◌⊎◌, inl, inr, ℕ, ◌+◌, ◌<◌, ◌≤◌, true, false, cond, Option, Some, None, List, [], ◌∷◌, ◌++◌, length, take, get_or, set, slice_get, refl, sym, ◌∙◌, ap, subst, arith}
use Rattle.std.specs.List.{Contains}
use Rattle.std.specs.List.Sorted.{IsStrictlyIncreasing}
use Rattle.std.proofs.lemmas.List.{take_more, length_push, length-set, get_or_push, get_or_append_left, get_or_past, get_or-set_other}
use Rattle.std.proofs.lemmas.Grind.{get_or-set_at}
use Rattle.std.proofs.lemmas.List.Elements.{Contains-get_or, Contains-append_left, Contains-push, Contains-push_cases}
use Rattle.std.proofs.lemmas.Bool.{cases_eq, cases_lt}
use Rattle.std.proofs.lemmas.Option.{slice_get_within, slice_get_read}
use Rattle.std.specs.Ordering.{eq_by_cmp}
use Rattle.spec_ledger.specs.declared.Entry.{Entry}
use Rattle.spec_ledger.proofs.Maps.{is_key, key_itself}
use Rattle.lock_profile.specs.Turns.{IsProfile}
use Rattle.spec_block.specs.Schedule.{hold_in}
use Rattle.lock_profile.specs.declared.lock_turn.LockTurn.{LockTurn}
use Rattle.schedule.specs.Graph.{list_at, AreGates, IsThrough}
use Rattle.lock_profile.specs.LockTurns.{after, turn_cmp, turn_of}
use Rattle.schedule.specs.Turns.{next_turn, behind_gate, behind_turn, AreHeld, AreNumbered, HoldsGate, IsAt, IsHeld, IsHolder}
use Rattle.schedule.proofs.Lists.{nothing, rising_none, rising_push}
use Rattle.lock_profile.proofs.Places.{turn_cmp_total, turn_cmp-IsAntisymmetric}
use Rattle.schedule.proofs.Profiles.{found_at, entry_published, later_lock}

at_split : (q : LockTurn) (es : List Entry) (e : Entry) → IsAt q (es ++ e ∷ []) → IsAt q es ⊎ (turn_of e ≡ q)
at_split q es e (x, k, is) = elim (Contains-push_cases es e x k) [ inl h ↦ inl (x, h, is) | inr same ↦ inr (ap turn_of same ∙ is) ]

at_left : (q : LockTurn) (es : List Entry) (e : Entry) → IsAt q es → IsAt q (es ++ e ∷ [])
at_left q es e (x, k, is) = (x, Contains-append_left es (e ∷ []) x k, is)

at_here : (q : LockTurn) (es : List Entry) (e : Entry) → turn_of e ≡ q → IsAt q (es ++ e ∷ [])
at_here q es e is = (e, Contains-push es e, is)

pub profile_more : (q at : LockTurn) (pos p : ℕ) (es : List Entry) (i : ℕ) (d : Entry) (base mid there new : List ℕ) → i < length es → at ≡ turn_of (get_or es i d)
    → (at ≡ q → there ≡ mid)
    → new ≡ cond (eq_by_cmp turn_cmp at q) (there ++ pos ∷ []) mid
    → (Contains mid p ↔ (Contains base p ⊎ ((p ≡ pos) × IsAt q (take i es))))
    → Contains new p ↔ (Contains base p ⊎ ((p ≡ pos) × IsAt q (take (i + 1) es)))
profile_more q at pos p es i d base mid there new below is same step so_far =
    let whole : take i es ++ get_or es i d ∷ [] ≡ take (i + 1) es = sym (take_more es i d below) in
    subst (λ xs. Contains new p ↔ (Contains base p ⊎ ((p ≡ pos) × IsAt q xs))) whole
    (elim (eq_by_cmp turn_cmp at q) as (λ b. eq_by_cmp turn_cmp at q ≡ b → new ≡ cond b (there ++ pos ∷ []) mid
    → Contains new p ↔ (Contains base p ⊎ ((p ≡ pos) × IsAt q (take i es ++ get_or es i d ∷ [])))) [
      | true ↦ λ t e.
          let key : at ≡ q = is_key turn_cmp_total turn_cmp-IsAntisymmetric at q t in
          let put : new ≡ mid ++ pos ∷ [] = e ∙ ap (λ xs. xs ++ pos ∷ []) (same key) in (
            λ c. elim (Contains-push_cases mid pos p (subst (λ xs. Contains xs p) put c)) [
              | inl h ↦ elim (so_far.0 h) [ inl b ↦ inl b | inr r ↦ inr (r.0, at_left q (take i es) (get_or es i d) r.1) ]
              | inr h ↦ inr (sym h, at_here q (take i es) (get_or es i d) (sym is ∙ key))
            ],
            λ c. subst (λ xs. Contains xs p) (sym put) (elim c [
              | inl b ↦ Contains-append_left mid (pos ∷ []) p (so_far.1 (inl b))
              | inr r ↦ subst (Contains (mid ++ pos ∷ [])) (sym r.0) (Contains-push mid pos)
            ]),
          )
      | false ↦ λ t e. (
        λ c. elim (so_far.0 (subst (λ xs. Contains xs p) e c)) [ inl b ↦ inl b | inr r ↦ inr (r.0, at_left q (take i es) (get_or es i d) r.1) ],
        λ c. subst (λ xs. Contains xs p) (sym e) (elim c [
          | inl b ↦ so_far.1 (inl b)
          | inr r ↦ elim (at_split q (take i es) (get_or es i d) r.1) [
            | inl a ↦ so_far.1 (inr (r.0, a))
            | inr key ↦
                let yes : eq_by_cmp turn_cmp at q ≡ true = ap (eq_by_cmp turn_cmp at) (sym (is ∙ key)) ∙ key_itself turn_cmp_total turn_cmp-IsAntisymmetric at in
                let no : true ≡ false = sym yes ∙ t in absurd (cc)
          ]
        ]),
      )
    ] refl step)

some_is : {A : Type 0} (x y : A) → Some x ≡ Some y → x ≡ y
some_is x y e = cc e

-- whose profile has it is a holder, and the other way round
pub at_is_holder : (profiles : List (List Entry)) (i : ℕ) (es : List Entry) → slice_get profiles i ≡ Some es → IsProfile es → (q : LockTurn) → IsAt q es ↔ IsHolder profiles q i
at_is_holder profiles i es there profile q = (
  λ c.
      let held : hold_in c.0.lock es ≡ Some (c.0.mode, c.0.turn) = entry_published es profile c.0 c.1 in
      let here : IsHolder profiles (turn_of c.0) i = (c.0.mode, record { profile = es; there = there; held = held }) in
      subst (λ p. IsHolder profiles p i) c.2 here,
  λ c.
      let same : c.1.profile ≡ es = some_is c.1.profile es (sym c.1.there ∙ there) in
      subst (IsAt q) same (found_at q.lock c.1.profile (c.0, q.turn) c.1.held),
)

-- the profile at a place of the order
pub profile_there : (profiles : List (List Entry)) (i : ℕ) (item es : List Entry) → i < length profiles → item ≡ get_or profiles i item → es ≡ item → slice_get profiles i ≡ Some es
profile_there profiles i item es below is same = slice_get_read profiles (length profiles) i item refl below is ∙ ap Some (sym same)

pub profile_of : (item es : List Entry) → IsProfile item → es ≡ item → IsProfile es
profile_of item es profile same = let P : List Entry → Type 0 = λ xs. IsProfile xs in subst P (sym same) profile

pub holders_more : (profiles : List (List Entry)) (i : ℕ) (q : LockTurn) (p : ℕ) (mid new : List ℕ) (es : List Entry) → slice_get profiles i ≡ Some es → IsProfile es
    → (Contains mid p ↔ ((p < i) × IsHolder profiles q p))
    → (Contains new p ↔ (Contains mid p ⊎ ((p ≡ i) × IsAt q es)))
    → Contains new p ↔ ((p < i + 1) × IsHolder profiles q p)
holders_more profiles i q p mid new es there profile so_far step =
    let both = at_is_holder profiles i es there profile q in (
      λ c. elim (step.0 c) [
        | inl h ↦ let r = so_far.0 h in (omega (arith, r.0), r.1)
        | inr r ↦ (omega (arith, r.0), subst (IsHolder profiles q) (sym r.0) (both.0 r.1))
      ],
      λ c. step.1 (elim (cases_eq p i) [
        | inl same ↦ inr (same, both.1 (subst (IsHolder profiles q) same c.1))
        | inr other ↦ inl (so_far.1 (omega (arith, c.0, other), c.1))
      ]),
    )

-- ---- the numbers of gates

-- before one position more
pub more_positions : (numbers : LockTurn → Option ℕ) (behind : List (List ℕ)) (n : ℕ) → AreNumbered numbers behind n → AreNumbered numbers behind (n + 1)
more_positions numbers behind n are = record {
  few = are.few;
  within = are.within;
  own = are.own;
  rising = are.rising;
  below = λ gate j c. let lt = are.below gate j c in omega (arith, lt);
}

list_kept : (behind : List (List ℕ)) (gate : ℕ) → list_at (behind ++ [] ∷ []) gate ≡ list_at behind gate
list_kept behind gate = elim (cases_lt gate (length behind)) [
  | inl lt ↦ get_or_append_left behind ([] ∷ []) [] gate lt
  | inr ge ↦ elim (cases_eq gate (length behind)) [
    | inl same ↦ get_or_push behind [] [] gate (sym same) ∙ sym (get_or_past behind gate [] ge)
    | inr other ↦ get_or_past (behind ++ [] ∷ []) gate [] (let size = length_push behind [] in omega (arith, ge, other, size)) ∙ sym (get_or_past behind gate [] ge)
  ]
]

module _ (old new : LockTurn → Option ℕ) (behind more : List (List ℕ)) (at : LockTurn) (n : ℕ)
    (are : AreNumbered old behind n) (vacant : old at ≡ None) (room : length behind + 1 < 2 ^ 32)
    (written : (q : LockTurn) → new q ≡ cond (eq_by_cmp turn_cmp at q) (Some (length behind)) (old q)) (step : more ≡ behind ++ [] ∷ []) where
  given : (q : LockTurn) (gate : ℕ) → new q ≡ Some gate → ((at ≡ q) × (gate ≡ length behind)) ⊎ (old q ≡ Some gate)
  given q gate is = elim (eq_by_cmp turn_cmp at q) as (λ b. eq_by_cmp turn_cmp at q ≡ b → new q ≡ cond b (Some (length behind)) (old q) → ((at ≡ q) × (gate ≡ length behind)) ⊎ (old q ≡ Some gate)) [
    | true ↦ λ t e. inl (is_key turn_cmp_total turn_cmp-IsAntisymmetric at q t, let same : Some gate ≡ Some (length behind) = sym is ∙ e in cc same)
    | false ↦ λ t e. inr (sym e ∙ is)
  ] refl (written q)

  pub own_gate : new at ≡ Some (length behind)
  own_gate = written at ∙ ap (λ b. cond b (Some (length behind)) (old at)) (key_itself turn_cmp_total turn_cmp-IsAntisymmetric at)

  lists_kept : (gate : ℕ) → list_at more gate ≡ list_at behind gate
  lists_kept gate = ap (λ lists. list_at lists gate) step ∙ list_kept behind gate

  pub one_numbered : AreNumbered new more n
  one_numbered = let size : length more ≡ length behind + 1 = ap length step ∙ length_push behind [] in record {
    few = omega (arith, size, room);
    within = λ q gate is. elim (given q gate is) [
      | inl r ↦ let last = r.1 in omega (arith, size, last)
      | inr was ↦ let lt = are.within q gate was in omega (arith, size, lt)
    ];
    own = λ q r gate a b. elim (given q gate a) [
      | inl x ↦ elim (given r gate b) [
        | inl y ↦ sym x.0 ∙ y.0
        | inr was ↦ absurd (let lt = are.within r gate was in let last = x.1 in omega (arith, lt, last))
      ]
      | inr was ↦ elim (given r gate b) [
        | inl y ↦ absurd (let lt = are.within q gate was in let last = y.1 in omega (arith, lt, last))
        | inr too ↦ are.own q r gate was too
      ]
    ];
    rising = λ gate. let Rises : List ℕ → Type 0 = λ xs. IsStrictlyIncreasing xs in subst Rises (sym (lists_kept gate)) (are.rising gate);
    below = λ gate j c. are.below gate j (subst (λ xs. Contains xs j) (lists_kept gate) c);
  }

  pub same_behind : (q : LockTurn) → behind_turn new more q ≡ behind_turn old behind q
  same_behind q = elim (eq_by_cmp turn_cmp at q) as (λ b. eq_by_cmp turn_cmp at q ≡ b → new q ≡ cond b (Some (length behind)) (old q) → behind_turn new more q ≡ behind_turn old behind q) [
    | true ↦ λ t e.
        let key : at ≡ q = is_key turn_cmp_total turn_cmp-IsAntisymmetric at q t in
        let none : behind_turn old behind q ≡ [] = ap (behind_gate behind) (ap old (sym key) ∙ vacant) in
        ap (behind_gate more) e ∙ (lists_kept (length behind) ∙ (get_or_past behind (length behind) [] (omega arith) ∙ sym none))
    | false ↦ λ t e. ap (behind_gate more) e ∙ kept (old q)
  ] refl (written q)
    where
      kept : (o : Option ℕ) → behind_gate more o ≡ behind_gate behind o
      kept None = refl
      kept (Some gate) = lists_kept gate

-- ---- a position more behind a gate

module _ (numbers : LockTurn → Option ℕ) (behind more : List (List ℕ)) (at : LockTurn) (gate position : ℕ)
    (are : AreNumbered numbers behind (position + 1)) (is : numbers at ≡ Some gate) (step : more ≡ set behind gate (list_at behind gate ++ position ∷ []))
    (before : (j : ℕ) → Contains (list_at behind gate) j → j < position) where
  put_here : list_at more gate ≡ list_at behind gate ++ position ∷ []
  put_here = ap (λ lists. list_at lists gate) step ∙ get_or-set_at behind gate gate (list_at behind gate ++ position ∷ []) [] refl (are.within at gate is)

  put_elsewhere : (h : ℕ) → ¬ (h ≡ gate) → list_at more h ≡ list_at behind h
  put_elsewhere h other = ap (λ lists. list_at lists h) step ∙ get_or-set_other behind gate h (list_at behind gate ++ position ∷ []) [] other

  pub put_numbered : AreNumbered numbers more (position + 1)
  put_numbered = let size : length more ≡ length behind = ap length step ∙ length-set behind gate (list_at behind gate ++ position ∷ []) in record {
    few = (let few = are.few in omega (arith, few, size));
    within = λ q h k. let lt = are.within q h k in omega (arith, lt, size);
    own = are.own;
    rising = λ h. let Rises : List ℕ → Type 0 = λ xs. IsStrictlyIncreasing xs in elim (cases_eq h gate) [
      | inl same ↦ subst Rises (sym (ap (list_at more) same ∙ put_here)) (rising_push (list_at behind gate) position (are.rising gate) before)
      | inr other ↦ subst Rises (sym (put_elsewhere h other)) (are.rising h)
    ];
    below = λ h j c. elim (cases_eq h gate) [
      | inl same ↦ elim (Contains-push_cases (list_at behind gate) position j (subst (λ xs. Contains xs j) (ap (list_at more) same ∙ put_here) c)) [
        | inl old ↦ let lt = before j old in omega (arith, lt)
        | inr last ↦ omega (arith, last)
      ]
      | inr other ↦ are.below h j (subst (λ xs. Contains xs j) (put_elsewhere h other) c)
    ];
  }

  pub put_behind : (q : LockTurn) → behind_turn numbers more q ≡ cond (eq_by_cmp turn_cmp at q) (behind_turn numbers behind at ++ position ∷ []) (behind_turn numbers behind q)
  put_behind q = elim (eq_by_cmp turn_cmp at q) as (λ b. eq_by_cmp turn_cmp at q ≡ b → behind_turn numbers more q ≡ cond b (behind_turn numbers behind at ++ position ∷ []) (behind_turn numbers behind q)) [
    | true ↦ λ t.
        let key : at ≡ q = is_key turn_cmp_total turn_cmp-IsAntisymmetric at q t in
        ap (behind_gate more) (ap numbers (sym key) ∙ is) ∙ (put_here ∙ ap (λ o. behind_gate behind o ++ position ∷ []) (sym is))
    | false ↦ λ t. by t (numbers q) refl
  ] refl
    where
      by : eq_by_cmp turn_cmp at q ≡ false → (o : Option ℕ) → numbers q ≡ o → behind_turn numbers more q ≡ behind_turn numbers behind q
      by t None e = ap (behind_gate more) e ∙ sym (ap (behind_gate behind) e)
      by t (Some h) e = ap (behind_gate more) e ∙ (put_elsewhere h (λ same. absurd (
          let key : at ≡ q = are.own at q gate is (e ∙ ap Some same) in
          let yes : eq_by_cmp turn_cmp at q ≡ true = ap (eq_by_cmp turn_cmp at) (sym key) ∙ key_itself turn_cmp_total turn_cmp-IsAntisymmetric at in
          let no : true ≡ false = sym yes ∙ t in cc no)) ∙ sym (ap (behind_gate behind) e))

-- who stands behind the gate of an entry's turn came before, since a profile has each lock once
pub came_before : (es : List Entry) → IsProfile es → (i : ℕ) (d : Entry) → i < length es → (there : List ℕ) (base : List ℕ) (position j : ℕ) → (Contains there j ↔ (Contains base j ⊎ ((j ≡ position) × IsAt (turn_of (get_or es i d)) (take i es)))) → (Contains base j → j < position)
    → Contains there j → j < position
came_before es profile i d lt there base position j so_far before c = elim (so_far.0 c) [
  | inl old ↦ before old
  | inr r ↦ absurd (later_lock es profile i d lt r.1)
]

-- the list of a turn's gate holds what is below all positions
pub below_turn : (numbers : LockTurn → Option ℕ) (behind : List (List ℕ)) (n : ℕ) → AreNumbered numbers behind n → (q : LockTurn) (j : ℕ) → Contains (behind_turn numbers behind q) j → j < n
below_turn numbers behind n are q j c = by (numbers q) refl c
  where
    by : (o : Option ℕ) → numbers q ≡ o → Contains (behind_gate behind o) j → j < n
    by None e k = absurd (nothing j k)
    by (Some gate) e k = are.below gate j k

-- ---- the gates that a position holds shut

pub next_more : (numbers : LockTurn → Option ℕ) (es : List Entry) (i : ℕ) (d : Entry) (gate : ℕ) (mid : List ℕ) (next : ℕ) → i < length es → numbers (next_turn (get_or es i d)) ≡ Some next
    → (Contains mid gate ↔ IsHeld numbers (take i es) gate) → Contains (mid ++ next ∷ []) gate ↔ IsHeld numbers (take (i + 1) es) gate
next_more numbers es i d gate mid next below is so_far =
    let e = get_or es i d in
    let whole : take i es ++ e ∷ [] ≡ take (i + 1) es = sym (take_more es i d below) in
    subst (λ xs. Contains (mid ++ next ∷ []) gate ↔ IsHeld numbers xs gate) whole (
      λ c. elim (Contains-push_cases mid next gate c) [
        | inl h ↦ let r = so_far.0 h in (r.0, Contains-append_left (take i es) (e ∷ []) r.0 r.1, r.2)
        | inr same ↦ (e, Contains-push (take i es) e, is ∙ ap Some same)
      ],
      λ c. elim (Contains-push_cases (take i es) e c.0 c.1) [
        | inl h ↦ Contains-append_left mid (next ∷ []) gate (so_far.1 (c.0, h, c.2))
        | inr same ↦
            let its : Some next ≡ Some gate = sym is ∙ (ap (λ x. numbers (next_turn x)) same ∙ c.2) in
            subst (Contains (mid ++ next ∷ [])) (some_is next gate its) (Contains-push mid next)
      ],
    )

pub next_none : (numbers : LockTurn → Option ℕ) (es : List Entry) (i : ℕ) (d : Entry) (gate : ℕ) (mid : List ℕ) → i < length es → numbers (next_turn (get_or es i d)) ≡ None
    → (Contains mid gate ↔ IsHeld numbers (take i es) gate) → Contains mid gate ↔ IsHeld numbers (take (i + 1) es) gate
next_none numbers es i d gate mid below none so_far =
    let e = get_or es i d in
    let whole : take i es ++ e ∷ [] ≡ take (i + 1) es = sym (take_more es i d below) in
    subst (λ xs. Contains mid gate ↔ IsHeld numbers xs gate) whole (
      λ c. let r = so_far.0 c in (r.0, Contains-append_left (take i es) (e ∷ []) r.0 r.1, r.2),
      λ c. elim (Contains-push_cases (take i es) e c.0 c.1) [
        | inl h ↦ so_far.1 (c.0, h, c.2)
        | inr same ↦ absurd (let no : None ≡ Some gate = sym none ∙ (ap (λ x. numbers (next_turn x)) same ∙ c.2) in cc no)
      ],
    )

pub fits_next : (es : List Entry) (i : ℕ) (d : Entry) → ((e : Entry) → Contains es e → e.turn < 2 ^ 16) → i < length es → Fits w64 ((get_or es i d).turn + 1)
fits_next es i d small below = let h = small (get_or es i d) (Contains-get_or es i d below) in omega (arith, h)

-- one position more
pub held_more : (profiles : List (List Entry)) (numbers : LockTurn → Option ℕ) (n : ℕ) (es : List Entry) (old new : List (List ℕ)) (next : List ℕ) → slice_get profiles n ≡ Some es → IsProfile es → new ≡ old ++ next ∷ [] → IsStrictlyIncreasing next
    → ((gate : ℕ) → Contains next gate ↔ IsHeld numbers es gate) → AreHeld profiles numbers old n → AreHeld profiles numbers new (n + 1)
held_more profiles numbers n es old new next there profile step rises found so_far =
    let len = so_far.each in
    let size : length new ≡ n + 1 = ap length step ∙ length_push old next ∙ ap (λ k. k + 1) len in
    let here : list_at new n ≡ next = ap (λ xs. list_at xs n) step ∙ get_or_push old next [] n len in
    let before : (i : ℕ) → i < n → list_at new i ≡ list_at old i = λ i lt. ap (λ xs. list_at xs i) step ∙ get_or_append_left old (next ∷ []) [] i (omega (arith, lt, len)) in
    let past : (i : ℕ) → n + 1 ≤ i → list_at new i ≡ [] = λ i ge. get_or_past new i [] (omega (arith, ge, size)) in
    let own : (gate : ℕ) → Contains next gate ↔ HoldsGate profiles numbers n gate = λ gate. (
      λ c. let h = (found gate).0 c in (turn_of h.0, (at_is_holder profiles n es there profile (turn_of h.0)).0 (h.0, h.1, refl), h.2),
      λ h. let here = (at_is_holder profiles n es there profile h.0).1 h.1 in (found gate).1 (here.0, here.1, ap (λ q. numbers (after q)) here.2 ∙ h.2),
    ) in
    record {
      each = size;
      rising = λ i. let Rises : List ℕ → Type 0 = λ xs. IsStrictlyIncreasing xs in elim (cases_eq i n) [
        | inl same ↦ subst Rises (sym (ap (list_at new) same ∙ here)) rises
        | inr other ↦ elim (cases_lt i n) [
          | inl lt ↦ subst Rises (sym (before i lt)) (so_far.rising i)
          | inr ge ↦ subst Rises (sym (past i (omega (arith, ge, other)))) rising_none
        ]
      ];
      exact = λ i gate lt. elim (cases_eq i n) [
        | inl same ↦
            let all : Contains (list_at new n) gate ↔ HoldsGate profiles numbers n gate = subst (λ xs. Contains xs gate ↔ HoldsGate profiles numbers n gate) (sym here) (own gate) in
            subst (λ k. Contains (list_at new k) gate ↔ HoldsGate profiles numbers k gate) (sym same) all
        | inr other ↦
            let below : i < n = omega (arith, lt, other) in
            subst (λ xs. Contains xs gate ↔ HoldsGate profiles numbers i gate) (sym (before i below)) (so_far.exact i gate below)
      ];
    }

-- ---- the edges go through the gates

pub are_gates : (profiles : List (List Entry)) (numbers : LockTurn → Option ℕ) (holds behind : List (List ℕ)) → length profiles < 2 ^ 16
    → AreNumbered numbers behind (length profiles) → ((q : LockTurn) (p : ℕ) → Contains (behind_turn numbers behind q) p ↔ IsHolder profiles q p) → AreHeld profiles numbers holds (length profiles)
    → AreGates profiles holds behind
are_gates profiles numbers holds behind few numbered holders held = record {
  few = few;
  each = held.each;
  few_gates = numbered.few;
  gates_rise = held.rising;
  positions_rise = numbered.rising;
  gates = λ i gate c. let h = holds_one i gate c in numbered.within (after h.0) gate h.2;
  positions = numbered.below;
  edges = λ i j. (
    λ t.
        let h = holds_one i t.0 t.1 in
        let next = (holders (after h.0) j).0 (subst (λ o. Contains (behind_gate behind o) j) (sym h.2) t.2) in
        record { lock = h.0.lock; first = h.1.0; second = next.0; turn = h.0.turn; holds_first = h.1.1; holds_second = next.1 },
    λ edge.
        let q : LockTurn = record { lock = edge.lock; turn = edge.turn } in
        let within = slice_get_within profiles i edge.holds_first.profile edge.holds_first.there in
        by i j q (edge.first, edge.holds_first) (numbers (after q)) refl ((holders (after q) j).1 (edge.second, edge.holds_second)) within,
  );
}
  where
    holds_one : (i gate : ℕ) → Contains (list_at holds i) gate → HoldsGate profiles numbers i gate
    holds_one i gate c = elim (cases_lt i (length profiles)) [
      | inl lt ↦ (held.exact i gate lt).0 c
      | inr ge ↦ absurd (nothing gate (subst (λ xs. Contains xs gate) (get_or_past holds i [] (let size = held.each in omega (arith, ge, size))) c))
    ]

    by : (i j : ℕ) (q : LockTurn) → IsHolder profiles q i → (o : Option ℕ) → numbers (after q) ≡ o → Contains (behind_gate behind o) j → i < length profiles → IsThrough holds behind i j
    by i j q first None is among within = absurd (nothing j among)
    by i j q first (Some gate) is among within = (gate, (held.exact i gate within).1 (q, first, is), among)
