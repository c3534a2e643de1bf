-- One entry more.
use Rattle.std.proofs.Common.{◌≡◌, ◌⊎◌, inl, inr, ℕ, ◌+◌, ◌-◌, ◌<◌, ◌≤◌, Bool, true, false, cond, is_some, Option, Some, None, List, [], ◌∷◌, ◌++◌, length, take, get_or, refl, sym, ◌∙◌, ap, subst, arith}
use Rattle.std.specs.Ordering.{eq_by_cmp}
use Rattle.std.proofs.lemmas.List.{take_more}
use Rattle.std.proofs.lemmas.List.Elements.{Contains-append_left, Contains-get_or, Contains-push, Contains-push_cases}
use Rattle.spec_ledger.specs.declared.Entry.{Entry}
use Rattle.spec_ledger.proofs.Maps.{is_key, key_itself}
use Rattle.lock_profile.specs.declared.lock_turn.LockTurn.{LockTurn}
use Rattle.lock_profile.specs.LockTurns.{after, turn_cmp, turn_of}
use Rattle.figures.specs.Turns.{AreRaised, IsAt, IsBefore, IsBest, IsPast, IsRaise, IsRaisedAt}
use Rattle.lock_profile.proofs.Places.{turn_cmp_total, turn_cmp-IsAntisymmetric}
use Rattle.figures.proofs.Profiles.{some_is}

-- ---- the sum before a turn

pub before_first : (top : LockTurn → Option ℕ) (at : LockTurn) → at.turn ≡ 0 → IsBefore top at 0
before_first top at first = record {
  above = λ q w is there. let no : q.turn + 1 ≡ at.turn = ap (λ (p : LockTurn). p.turn) is in absurd (omega (arith, no, first));
  reached = inl refl;
}

less_one : (at q : LockTurn) → after q ≡ at → q ≡ record { lock = at.lock; turn = at.turn - 1 }
less_one at q is =
    let locks : q.lock ≡ at.lock = ap (λ (p : LockTurn). p.lock) is in
    let next : q.turn + 1 ≡ at.turn = ap (λ (p : LockTurn). p.turn) is in
    let turns : q.turn ≡ at.turn - 1 = omega (arith, next) in
    λ i. record { lock = locks i; turn = turns i }

pub before_some : (top : LockTurn → Option ℕ) (at : LockTurn) (sum : ℕ) → ¬ (at.turn ≡ 0) → top (record { lock = at.lock; turn = at.turn - 1 }) ≡ Some sum → IsBefore top at sum
before_some top at sum later is = record {
  above = λ q w same there. let one : w ≡ sum = some_is w sum (sym there ∙ (ap top (less_one at q same) ∙ is)) in omega (arith, one);
  reached = inr (record { lock = at.lock; turn = at.turn - 1 }, (let turns : (at.turn - 1) + 1 ≡ at.turn = omega (arith, later) in λ i. record { lock = at.lock; turn = turns i }), is);
}

pub before_none : (top : LockTurn → Option ℕ) (at : LockTurn) → top (record { lock = at.lock; turn = at.turn - 1 }) ≡ None → IsBefore top at 0
before_none top at is = record {
  above = λ q w same there. absurd (let no : Some w ≡ None = sym there ∙ (ap top (less_one at q same) ∙ is) in cc no);
  reached = inl refl;
}

-- ---- the best of several

pub best_none : (top : LockTurn → Option ℕ) → IsBest top [] 0
best_none top = record { above = λ q w a is. absurd (let lt = a.1.1 in omega (arith, lt)); reached = inl refl }

pub best_more : (top : LockTurn → Option ℕ) (es : List Entry) (i : ℕ) (d : Entry) (best sum new : ℕ) → i < length es → IsBest top (take i es) best → IsBefore top (turn_of (get_or es i d)) sum
    → ((best < sum) × (new ≡ sum)) ⊎ ((sum ≤ best) × (new ≡ best)) → IsBest top (take (i + 1) es) new
best_more top es i d best sum new below so_far before how =
    let e : Entry = get_or es i d in
    let whole : take i es ++ e ∷ [] ≡ take (i + 1) es = sym (take_more es i d below) in
    let high : (sum ≤ new) × (best ≤ new) = elim how [ inl up ↦ (let a = up.0 in let b = up.1 in (omega (arith, b), omega (arith, a, b))) | inr down ↦ (let a = down.0 in let b = down.1 in (omega (arith, a, b), omega (arith, b))) ] in
    subst (λ xs. IsBest top xs new) whole (record {
      above = λ q w a is. elim (Contains-push_cases (take i es) e a.0 a.1) [
        | inl h ↦ let old = so_far.above q w (a.0, h, a.2) is in let up = high.1 in omega (arith, old, up)
        | inr same ↦ let own = before.above q w (sym a.2 ∙ sym (ap turn_of same)) is in let up = high.0 in omega (arith, own, up)
      ];
      reached = elim how [
        | inl up ↦ elim before.reached [
          | inl none ↦ inl (up.1 ∙ none)
          | inr r ↦ inr (r.0, (e, Contains-push (take i es) e, sym r.1), r.2 ∙ ap Some (sym up.1))
        ]
        | inr down ↦ elim so_far.reached [
          | inl none ↦ inl (down.1 ∙ none)
          | inr r ↦ inr (r.0, (r.1.0, Contains-append_left (take i es) (e ∷ []) r.1.0 r.1.1, r.1.2), r.2 ∙ ap Some (sym down.1))
        ]
      ];
    })

-- ---- one turn raised

pub raised_at : (at : LockTurn) (sum : ℕ) (old new : LockTurn → Option ℕ) → ((w : ℕ) → old at ≡ Some w → w ≤ sum) → ((q : LockTurn) → new q ≡ cond (eq_by_cmp turn_cmp at q) (Some sum) (old q)) → IsRaisedAt at sum old new
raised_at at sum old new low is = record {
  there =
      let itself : eq_by_cmp turn_cmp at at ≡ true = key_itself turn_cmp_total turn_cmp-IsAntisymmetric at in
      (sum, is at ∙ ap (λ b. cond b (Some sum) (old at)) itself, record { sum_within = omega arith; old_within = low; reached = inl refl });
  elsewhere = λ q. elim (eq_by_cmp turn_cmp at q) as (λ b. eq_by_cmp turn_cmp at q ≡ b → new q ≡ cond b (Some sum) (old q) → (at ≡ q) ⊎ (new q ≡ old q)) [
    | true ↦ λ t e. inl (is_key turn_cmp_total turn_cmp-IsAntisymmetric at q t)
    | false ↦ λ _ e. inr e
  ] refl (is q);
}

pub kept_at : (at : LockTurn) (sum w : ℕ) (old new : LockTurn → Option ℕ) → old at ≡ Some w → sum ≤ w → new ≡ old → IsRaisedAt at sum old new
kept_at at sum w old new is low same = record {
  there = (w, ap (λ (f : LockTurn → Option ℕ). f at) same ∙ is, record { sum_within = low; old_within = λ v there. let one : v ≡ w = some_is v w (sym there ∙ is) in omega (arith, one); reached = inr is });
  elsewhere = λ q. inr (ap (λ (f : LockTurn → Option ℕ). f q) same);
}

-- ---- several turns raised

pub none_raised : (sum : ℕ) (old new : LockTurn → Option ℕ) → new ≡ old → AreRaised [] sum old new
none_raised sum old new same q = inr (λ a. absurd (let lt = a.1.1 in omega (arith, lt)), ap (λ (f : LockTurn → Option ℕ). f q) same)

raise_again : (sum : ℕ) (old mid : Option ℕ) (v w : ℕ) → mid ≡ Some v → IsRaise sum old v → IsRaise sum mid w → IsRaise sum old w
raise_again sum old mid v w is first second = record {
  sum_within = second.sum_within;
  old_within = λ u there. let a = first.old_within u there in let b = second.old_within v is in omega (arith, a, b);
  reached = elim second.reached [
    | inl now ↦ inl now
    | inr was ↦ let same : w ≡ v = some_is w v (sym was ∙ is) in elim first.reached [ inl f ↦ inl (same ∙ f) | inr f ↦ inr (f ∙ ap Some (sym same)) ]
  ];
}

raised_here : (sum : ℕ) (old mid : Option ℕ) (w : ℕ) → mid ≡ old → IsRaise sum mid w → IsRaise sum old w
raised_here sum old mid w same r = subst (λ o. IsRaise sum o w) same r

pub raised_more : (es : List Entry) (i : ℕ) (d : Entry) (sum : ℕ) (old mid new : LockTurn → Option ℕ) → i < length es → AreRaised (take i es) sum old mid → IsRaisedAt (turn_of (get_or es i d)) sum mid new
    → AreRaised (take (i + 1) es) sum old new
raised_more es i d sum old mid new below so_far step =
    let e : Entry = get_or es i d in
    let whole : take i es ++ e ∷ [] ≡ take (i + 1) es = sym (take_more es i d below) in
    let left : (q : LockTurn) → IsAt (take i es) q → IsAt (take i es ++ e ∷ []) q = λ q a. (a.0, Contains-append_left (take i es) (e ∷ []) a.0 a.1, a.2) in
    let split : (q : LockTurn) → IsAt (take i es ++ e ∷ []) q → IsAt (take i es) q ⊎ (turn_of e ≡ q) = λ q a.
    elim (Contains-push_cases (take i es) e a.0 a.1) [ inl h ↦ inl (a.0, h, a.2) | inr same ↦ inr (ap turn_of same ∙ a.2) ] in
    let at_here : AtOne old new (take i es ++ e ∷ []) (turn_of e) =
    elim (so_far (turn_of e)) [
      | inl r ↦ inl ((e, Contains-push (take i es) e, refl), (step.there.0, step.there.1, raise_again sum (old (turn_of e)) (mid (turn_of e)) r.1.0 step.there.0 r.1.1 r.1.2 step.there.2))
      | inr r ↦ inl ((e, Contains-push (take i es) e, refl), (step.there.0, step.there.1, raised_here sum (old (turn_of e)) (mid (turn_of e)) step.there.0 r.1 step.there.2))
    ] in
    subst (λ xs. AreRaised xs sum old new) whole (λ q. elim (step.elsewhere q) [
      | inl same ↦ subst (AtOne old new (take i es ++ e ∷ [])) same at_here
      | inr kept ↦ elim (so_far q) [
        | inl r ↦ inl (left q r.0, (r.1.0, kept ∙ r.1.1, r.1.2))
        | inr r ↦ elim (by_key (turn_of e) q) [
          | inl same ↦ subst (AtOne old new (take i es ++ e ∷ [])) same at_here
          | inr differ ↦ inr (λ a. elim (split q a) [ inl h ↦ r.0 h | inr same ↦ differ same ], kept ∙ r.1)
        ]
      ]
    ])
  where
    AtOne : (LockTurn → Option ℕ) → (LockTurn → Option ℕ) → List Entry → LockTurn → Type 0
    AtOne old new xs q = (IsAt xs q × ((w : ℕ) × (new q ≡ Some w) × IsRaise sum (old q) w)) ⊎ ((IsAt xs q → ⊥) × (new q ≡ old q))

    by_key : (p q : LockTurn) → (p ≡ q) ⊎ ¬ (p ≡ q)
    by_key p q = elim (eq_by_cmp turn_cmp p q) as (λ b. eq_by_cmp turn_cmp p q ≡ b → (p ≡ q) ⊎ ¬ (p ≡ q)) [
      | true ↦ λ t. inl (is_key turn_cmp_total turn_cmp-IsAntisymmetric p q t)
      | false ↦ λ t. inr (λ same. let yes : eq_by_cmp turn_cmp p q ≡ true = ap (eq_by_cmp turn_cmp p) (sym same) ∙ key_itself turn_cmp_total turn_cmp-IsAntisymmetric p in let no : true ≡ false = sym yes ∙ t in absurd (cc no))
    ] refl

-- ---- an edge back

pub past_more : (top : LockTurn → Option ℕ) (es : List Entry) (i : ℕ) (d : Entry) → i < length es → ¬ IsPast top (take i es) → top (after (turn_of (get_or es i d))) ≡ None → ¬ IsPast top (take (i + 1) es)
past_more top es i d below not_yet none past =
    let e : Entry = get_or es i d in
    let whole : take (i + 1) es ≡ take i es ++ e ∷ [] = take_more es i d below in
    let split = subst (IsPast top) whole past in
    elim (Contains-push_cases (take i es) e split.0 split.1) [
      | inl h ↦ not_yet (split.0, h, split.2)
      | inr same ↦ let no : None ≡ Some split.2.0 = sym none ∙ (ap (λ (x : Entry). top (after (turn_of x))) same ∙ split.2.1) in absurd (cc no)
    ]

some_there : (o : Option ℕ) (b : Bool) → b ≡ true → b ≡ is_some o → (w : ℕ) × (o ≡ Some w)
some_there None b there is = absurd (let never : true ≡ false = sym there ∙ is in cc never)
some_there (Some w) b there is = (w, refl)

none_there : (o : Option ℕ) (b : Bool) → b ≡ false → b ≡ is_some o → o ≡ None
none_there None b gone is = refl
none_there (Some w) b gone is = absurd (let never : false ≡ true = sym gone ∙ is in cc never)

pub past_here : (top : LockTurn → Option ℕ) (es : List Entry) (i : ℕ) (d : Entry) (b : Bool) → i < length es → b ≡ true → b ≡ is_some (top (after (turn_of (get_or es i d)))) → IsPast top es
past_here top es i d b below there is = (get_or es i d, Contains-get_or es i d below, some_there (top (after (turn_of (get_or es i d)))) b there is)

pub past_later : (top : LockTurn → Option ℕ) (es : List Entry) (i : ℕ) (d : Entry) (b : Bool) → i < length es → ¬ IsPast top (take i es) → b ≡ false → b ≡ is_some (top (after (turn_of (get_or es i d)))) → ¬ IsPast top (take (i + 1) es)
past_later top es i d b below not_yet gone is = past_more top es i d below not_yet (none_there (top (after (turn_of (get_or es i d)))) b gone is)
