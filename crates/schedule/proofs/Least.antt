-- The least waves that are left to the turns after those of the positions so far.
use Rattle.std.proofs.Common.{◌≡◌, ◌⊎◌, inl, inr, ℕ, ◌+◌, ◌<◌, ◌≤◌, true, false, cond, Option, Some, List, [], ◌∷◌, ◌++◌, length, take, get_or, slice_get, refl, sym, ◌∙◌, ap, subst, arith}
use Rattle.std.specs.List.{Contains}
use Rattle.std.specs.Ordering.{eq_by_cmp}
use Rattle.std.proofs.lemmas.Bool.{cases_eq}
use Rattle.std.proofs.lemmas.List.{take_more, get_or_append_left, get_or_push}
use Rattle.std.proofs.lemmas.List.Elements.{Contains-append_left, Contains-push, Contains-push_cases}
use Rattle.spec_ledger.specs.declared.Mode.{Mode}
use Rattle.spec_ledger.specs.declared.Entry.{Entry}
use Rattle.spec_ledger.proofs.Maps.{is_key, key_itself}
use Rattle.lock_profile.specs.Turns.{IsProfile}
use Rattle.spec_block.specs.Schedule.{hold_in, Holds, IsEdge}
use Rattle.lock_profile.specs.declared.lock_turn.LockTurn.{LockTurn}
use Rattle.lock_profile.specs.LockTurns.{turn_cmp, turn_of}
use Rattle.schedule.specs.Turns.{next_turn, IsAt}
use Rattle.schedule.specs.Waves.{or_none, least_of, IsGreatest, IsAfter, AreRaised, IsTop}
use Rattle.lock_profile.proofs.Places.{turn_cmp_total, turn_cmp-IsAntisymmetric}
use Rattle.schedule.proofs.Profiles.{entry_published}
use Rattle.schedule.proofs.Numbered.{at_is_holder}
use Rattle.schedule.proofs.WaveSteps.{AreSoFar}

-- ---- one entry more

pub greatest_more : (least : LockTurn → ℕ) (es : List Entry) (i : ℕ) (d : Entry) (w left new : ℕ) → i < length es → IsGreatest least (take i es) w → left ≡ least (turn_of (get_or es i d))
    → ((w < left) × (new ≡ left)) ⊎ ((left ≤ w) × (new ≡ w)) → IsGreatest least (take (i + 1) es) new
greatest_more least es i d w left new below so_far is how =
    let e : Entry = get_or es i d in
    let whole : take i es ++ e ∷ [] ≡ take (i + 1) es = sym (take_more es i d below) in
    subst (λ xs. IsGreatest least xs new) whole (elim how [
      | inl up ↦ record {
        above = λ x c. elim (Contains-push_cases (take i es) e x c) [
          | inl h ↦ let old = so_far.above x h in omega (arith, old, up.0, up.1)
          | inr same ↦ let here : least (turn_of e) ≡ least (turn_of x) = ap (λ (y : Entry). least (turn_of y)) same in omega (arith, here, is, up.1)
        ];
        reached = inr (e, Contains-push (take i es) e, sym is ∙ sym up.1);
      }
      | inr down ↦ record {
        above = λ x c. elim (Contains-push_cases (take i es) e x c) [
          | inl h ↦ let old = so_far.above x h in omega (arith, old, down.1)
          | inr same ↦ let here : least (turn_of e) ≡ least (turn_of x) = ap (λ (y : Entry). least (turn_of y)) same in omega (arith, here, is, down.0, down.1)
        ];
        reached = elim so_far.reached [ inl none ↦ inl (down.1 ∙ none) | inr r ↦ inr (r.0, Contains-append_left (take i es) (e ∷ []) r.0 r.1, r.2 ∙ sym down.1) ];
      }
    ])

-- at one turn alone
pub record IsRaisedAt (at : LockTurn) (wave : ℕ) (old new : LockTurn → ℕ) : Type 0 where
  pub up : (q : LockTurn) → old q ≤ new q
  pub there : wave ≤ new at
  pub alone : (q : LockTurn) → (new q ≡ old q) ⊎ ((at ≡ q) × (new q ≡ wave))

pub put_at : (at : LockTurn) (wave : ℕ) (old new : LockTurn → Option ℕ) → least_of old at < wave → ((q : LockTurn) → new q ≡ cond (eq_by_cmp turn_cmp at q) (Some wave) (old q)) → IsRaisedAt at wave (least_of old) (least_of new)
put_at at wave old new less is =
    let one : (q : LockTurn) → (least_of new q ≡ least_of old q) ⊎ ((at ≡ q) × (least_of new q ≡ wave)) = λ q.
    elim (eq_by_cmp turn_cmp at q) as (λ b. eq_by_cmp turn_cmp at q ≡ b → new q ≡ cond b (Some wave) (old q) → (least_of new q ≡ least_of old q) ⊎ ((at ≡ q) × (least_of new q ≡ wave))) [
      | true ↦ λ t e. inr (is_key turn_cmp_total turn_cmp-IsAntisymmetric at q t, ap or_none e)
      | false ↦ λ _ e. inl (ap or_none e)
    ] refl (is q) in
    record {
      up = λ q. elim (one q) [
        | inl same ↦ omega (arith, same)
        | inr here ↦ let low : least_of old q < wave = subst (λ p. least_of old p < wave) here.0 less in let now = here.1 in omega (arith, low, now)
      ];
      there =
          let itself : eq_by_cmp turn_cmp at at ≡ true = key_itself turn_cmp_total turn_cmp-IsAntisymmetric at in
          let now : least_of new at ≡ wave = ap or_none (is at ∙ ap (λ b. cond b (Some wave) (old at)) itself) in
          omega (arith, now);
      alone = one;
    }

pub kept_at : (at : LockTurn) (wave : ℕ) (old new : LockTurn → ℕ) → wave ≤ old at → new ≡ old → IsRaisedAt at wave old new
kept_at at wave old new enough same = subst (IsRaisedAt at wave old) (sym same) (record { up = λ q. omega arith; there = enough; alone = λ q. inl refl })

pub raised_more : (es : List Entry) (i : ℕ) (d : Entry) (wave : ℕ) (old mid new : LockTurn → ℕ) → i < length es → AreRaised (take i es) wave old mid → IsRaisedAt (next_turn (get_or es i d)) wave mid new
    → AreRaised (take (i + 1) es) wave old new
raised_more es i d wave old mid new below so_far step =
    let e : Entry = get_or es i d in
    let whole : take i es ++ e ∷ [] ≡ take (i + 1) es = sym (take_more es i d below) in
    subst (λ xs. AreRaised xs wave old new) whole (record {
      up = λ q. let a = so_far.up q in let b = step.up q in omega (arith, a, b);
      there = λ q (x, c, is). elim (Contains-push_cases (take i es) e x c) [
        | inl h ↦ let a = so_far.there q (x, h, is) in let b = step.up q in omega (arith, a, b)
        | inr same ↦ subst (λ p. wave ≤ new p) (ap next_turn same ∙ is) step.there
      ];
      alone = λ q. elim (step.alone q) [
        | inl kept ↦ elim (so_far.alone q) [ inl old_is ↦ inl (kept ∙ old_is) | inr r ↦ inr ((r.0.0, Contains-append_left (take i es) (e ∷ []) r.0.0 r.0.1, r.0.2), kept ∙ r.1) ]
        | inr here ↦ inr ((e, Contains-push (take i es) e, here.0), here.1)
      ];
    })

-- ---- one position more

-- a position has the turn before at this lock
pub record IsBehind (profiles : List (List Entry)) (k : ℕ) (q : LockTurn) : Type 0 where
  pub mode : Mode
  pub turn : ℕ
  pub holds : Holds profiles k q.lock mode turn
  pub before : turn + 1 ≡ q.turn

-- of the first positions
abbrev pub AreLeast : List (List Entry) → List ℕ → ℕ → (LockTurn → ℕ) → Type 0
AreLeast profiles waves n least = (q : LockTurn) → IsTop waves (λ k. (k < n) × IsBehind profiles k q) (least q)

pub least_of_none : (profiles : List (List Entry)) (waves : List ℕ) (least : LockTurn → ℕ) → ((q : LockTurn) → least q ≡ 0) → AreLeast profiles waves 0 least
least_of_none profiles waves least none q = record { above = λ k h. let lt = h.0 in absurd (omega (arith, lt)); least = inl (none q) }

-- the greatest of what is left to a position is its wave
pub top_of_edges : (profiles : List (List Entry)) (waves : List ℕ) (n : ℕ) (es : List Entry) (least : LockTurn → ℕ) (wave : ℕ) → slice_get profiles n ≡ Some es → IsProfile es → ((k : ℕ) → IsEdge profiles k n → k < n)
    → AreLeast profiles waves n least → IsGreatest least es wave → IsTop waves (λ k. IsEdge profiles k n) wave
top_of_edges profiles waves n es least wave there profile forward left most = record {
  above = λ k c.
      let after : LockTurn = record { lock = c.lock; turn = c.turn + 1 } in
      let found : IsAt after es = (at_is_holder profiles n es there profile after).1 (c.second, c.holds_second) in
      let behind : IsBehind profiles k (turn_of found.0) = subst (IsBehind profiles k) (sym found.2) (record { mode = c.first; turn = c.turn; holds = c.holds_first; before = refl }) in
      let low = (left (turn_of found.0)).above k (forward k c, behind) in
      let high = most.above found.0 found.1 in
      omega (arith, low, high);
  least = elim most.reached [
    | inl none ↦ inl none
    | inr r ↦ elim (left (turn_of r.0)).least [
      | inl zero_is ↦ inl (sym r.2 ∙ zero_is)
      | inr k ↦ inr (k.0, edge_of r.0 r.1 k.0 k.1.1, k.2 ∙ r.2)
    ]
  ];
}
  where
    edge_of : (e : Entry) → Contains es e → (k : ℕ) → IsBehind profiles k (turn_of e) → IsEdge profiles k n
    edge_of e c k b =
        let held : hold_in e.lock es ≡ Some (e.mode, e.turn) = entry_published es profile e c in
        record {
          lock = e.lock;
          first = b.mode;
          second = e.mode;
          turn = b.turn;
          holds_first = b.holds;
          holds_second = record { profile = es; there = there; held = held ∙ ap (λ t. Some (e.mode, t)) (sym b.before) };
        }

-- a wave that is left is one more than that of a position before
pub few_left : (profiles : List (List Entry)) (waves : List ℕ) (n : ℕ) (least : LockTurn → ℕ) (es : List Entry) (wave : ℕ) → AreSoFar profiles waves n → AreLeast profiles waves n least → IsGreatest least es wave → wave ≤ n
few_left profiles waves n least es wave so_far left most = elim most.reached [
  | inl none ↦ omega (arith, none)
  | inr r ↦ elim (left (turn_of r.0)).least [
    | inl zero_is ↦ let is = r.2 in omega (arith, zero_is, is)
    | inr k ↦ let is = r.2 in let low = so_far.low k.0 in let lt = k.1.0 in let up = k.2 in omega (arith, is, low, lt, up)
  ]
]

pub least_more : (profiles : List (List Entry)) (n : ℕ) (es : List Entry) (old new : List ℕ) (w : ℕ) (before after : LockTurn → ℕ) → slice_get profiles n ≡ Some es → IsProfile es → new ≡ old ++ w ∷ [] → length old ≡ n
    → AreLeast profiles old n before → AreRaised es (w + 1) before after → AreLeast profiles new (n + 1) after
least_more profiles n es old new w before after there profile step len left raised q =
    let here_is : get_or new n 0 ≡ w = ap (λ xs. get_or xs n 0) step ∙ get_or_push old w 0 n len in
    let same : (k : ℕ) → k < n → get_or new k 0 ≡ get_or old k 0 = λ k h. ap (λ xs. get_or xs k 0) step ∙ get_or_append_left old (w ∷ []) 0 k (omega (arith, h, len)) in
    record {
      above = λ k (lt, b). elim (cases_eq k n) [
        | inl last ↦
            let up : w + 1 ≤ after q = raised.there q (follows (subst (λ i. IsBehind profiles i q) last b)) in
            let is : get_or new k 0 ≡ w = ap (λ i. get_or new i 0) last ∙ here_is in omega (arith, up, is)
        | inr other ↦
            let below : k < n = omega (arith, lt, other) in
            let is = same k below in let low = (left q).above k (below, b) in let up = raised.up q in omega (arith, is, low, up)
      ];
      least = elim (raised.alone q) [
        | inl kept ↦ elim (left q).least [
          | inl none ↦ inl (kept ∙ none)
          | inr r ↦ inr (r.0, (let lt = r.1.0 in omega (arith, lt), r.1.1), ap (λ x. x + 1) (same r.0 r.1.0) ∙ r.2 ∙ sym kept)
        ]
        | inr now ↦ inr (n, (omega arith, behind now.0), ap (λ x. x + 1) here_is ∙ sym now.1)
      ];
    }
  where
    follows : IsBehind profiles n q → IsAfter q es
    follows b =
        let found : IsAt (record { lock = q.lock; turn = b.turn }) es = (at_is_holder profiles n es there profile (record { lock = q.lock; turn = b.turn })).1 (b.mode, b.holds) in
        let next : next_turn found.0 ≡ q = λ i. record { lock = (found.2 i).lock; turn = next_is found.0 b found.2 i } in
        (found.0, found.1, next)
      where
        next_is : (e : Entry) (b : IsBehind profiles n q) → turn_of e ≡ record { lock = q.lock; turn = b.turn } → e.turn + 1 ≡ q.turn
        next_is e b is = ap (λ (p : LockTurn). p.turn + 1) is ∙ b.before

    behind : IsAfter q es → IsBehind profiles n q
    behind (e, c, is) =
        let held : hold_in e.lock es ≡ Some (e.mode, e.turn) = entry_published es profile e c in
        subst (IsBehind profiles n) is (record { mode = e.mode; turn = e.turn; holds = record { profile = es; there = there; held = held }; before = refl })
