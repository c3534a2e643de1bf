-- The modes of an edge's two positions do not go together.
use Rattle.std.proofs.Common.{◌≡◌, ◌⊎◌, inl, inr, ℕ, zero, suc, ◌+◌, ◌-◌, ◌<◌, Bool, true, false, cond, List, [], ◌∷◌, ◌++◌, Option, Some, None, option_map, take, drop, filter_map, slice_get, refl, sym, ap, ◌∙◌, append_assoc, arith, take-add}
use Rattle.std.specs.List.{cons_option}
use Rattle.std.specs.Ordering.{eq_by_cmp}
use Rattle.std.proofs.lemmas.List.Elements.{filter_map-append}
use Rattle.spec_ledger.specs.declared.Lock.{Lock}
use Rattle.spec_ledger.specs.declared.Mode.{Mode}
use Rattle.spec_ledger.specs.declared.Mode.TheVariants.{Read, Add as Adding, Excl}
use Rattle.spec_ledger.specs.declared.Entry.{Entry}
use Rattle.spec_ledger.specs.Cells.{lock_cmp}
use Rattle.spec_ledger.specs.Modes.{goes_with}
use Rattle.spec_ledger.specs.Order.{turn_by, groups_after, groups_before_last}
use Rattle.spec_block.specs.Verdicts.{mode_in}
use Rattle.spec_block.specs.Schedule.{hold_in, Holds, IsEdge, HaveTurns, AreApart}
use Rattle.laws_blocks.proofs.Turns.{forward, its_turn}

-- ---- modes

same_after : (a b c : Mode) → goes_with a b ≡ true → goes_with b c ≡ goes_with a c
same_after Read Read c p = refl
same_after Adding Adding c p = refl
same_after Read Adding c p = absurd (cc p)
same_after Read Excl c p = absurd (cc p)
same_after Adding Read c p = absurd (cc p)
same_after Adding Excl c p = absurd (cc p)
same_after Excl Read c p = absurd (cc p)
same_after Excl Adding c p = absurd (cc p)
same_after Excl Excl c p = absurd (cc p)

same_before : (a b c : Mode) → goes_with b c ≡ true → goes_with a b ≡ goes_with a c
same_before a Read Read p = refl
same_before a Adding Adding p = refl
same_before a Read Adding p = absurd (cc p)
same_before a Read Excl p = absurd (cc p)
same_before a Adding Read p = absurd (cc p)
same_before a Adding Excl p = absurd (cc p)
same_before a Excl Read p = absurd (cc p)
same_before a Excl Adding p = absurd (cc p)
same_before a Excl Excl p = absurd (cc p)

-- ---- groups

none_begins : (b : Bool) (n : ℕ) → cond b 0 1 + n ≡ 0 → (b ≡ true) × (n ≡ 0)
none_begins true n e = (refl, omega (arith, e))
none_begins false n e = absurd (omega (arith, e))

one_begins : (b : Bool) (n : ℕ) → cond b 0 1 + n ≡ 1 → ((b ≡ true) × (n ≡ 1)) ⊎ ((b ≡ false) × (n ≡ 0))
one_begins true n e = inl (refl, omega (arith, e))
one_begins false n e = inr (refl, omega (arith, e))

-- no group begins after it: the last goes with it
own_group : (m : Mode) (ms : List Mode) (n : Mode) → groups_after m (ms ++ n ∷ []) ≡ 0 → goes_with m n ≡ true
own_group m [] n e = (none_begins (goes_with m n) 0 e).0
own_group m (k ∷ ms) n e =
    let o = none_begins (goes_with m k) (groups_after k (ms ++ n ∷ [])) e in
    sym (same_after m k n o.0) ∙ own_group k ms n o.1

-- one group begins after it: the last does not go with it
next_group : (m : Mode) (ms : List Mode) (n : Mode) → groups_after m (ms ++ n ∷ []) ≡ 1 → goes_with m n ≡ false
next_group m [] n e = elim (one_begins (goes_with m n) 0 e) [
  | inl o ↦ absurd (let no = o.1 in omega (arith, no))
  | inr o ↦ o.0
]
next_group m (k ∷ ms) n e = elim (one_begins (goes_with m k) (groups_after k (ms ++ n ∷ [])) e) [
  | inl o ↦ sym (same_after m k n o.0) ∙ next_group k ms n o.1
  | inr o ↦ sym (same_before m k n (own_group k ms n o.1)) ∙ o.0
]

groups_join : (a : List Mode) (before m : Mode) (ms : List Mode) → groups_after before (a ++ m ∷ ms) ≡ groups_after before (a ++ m ∷ []) + groups_after m ms
groups_join [] before m ms = omega arith
groups_join (k ∷ a) before m ms = let rest = groups_join a k m ms in omega (arith, rest)

groups_then : (a : List Mode) (m : Mode) (ms : List Mode) → groups_before_last (a ++ m ∷ ms) ≡ groups_before_last (a ++ m ∷ []) + groups_after m ms
groups_then [] m ms = omega arith
groups_then (k ∷ a) m ms = groups_join a k m ms

-- ---- the holders of a lock

module _ {M : Type 0} (at : M → Option Mode) where
  abbrev so_far : List M → ℕ → List Mode
  so_far ps n = filter_map at (take n ps)

  more_suc : (ps : List M) (n : ℕ) (p : M) → slice_get ps n ≡ Some p → so_far ps (suc n) ≡ so_far ps n ++ cons_option (at p) []
  more_suc [] n p e = absurd (cc e)
  more_suc (q ∷ ps) zero p e = ap (λ (x : M). cons_option (at x) []) (same q p e)
    where
      same : (x y : M) → Some x ≡ Some y → x ≡ y
      same x y e = cc e
  more_suc (q ∷ ps) (suc n) p e = ap (cons_option (at q)) (more_suc ps n p e) ∙ grouped (at q) (so_far ps n) (cons_option (at p) [])
    where
      grouped : (o : Option Mode) (xs ys : List Mode) → cons_option o (xs ++ ys) ≡ cons_option o xs ++ ys
      grouped None xs ys = refl
      grouped (Some m) xs ys = refl

  more : (ps : List M) (n : ℕ) (p : M) (m : Mode) → slice_get ps n ≡ Some p → at p ≡ Some m → so_far ps (n + 1) ≡ so_far ps n ++ m ∷ []
  more ps n p m e held = ap (so_far ps) (let z : n + 1 ≡ suc n = omega arith in z) ∙ (more_suc ps n p e ∙ ap (λ (o : Option Mode). so_far ps n ++ cons_option o []) held)

  -- of two holders, the later one in the next group, the modes do not go together
  next_turn : (ps : List M) (i j : ℕ) (p q : M) (m n : Mode) → i < j → slice_get ps i ≡ Some p → slice_get ps j ≡ Some q → at p ≡ Some m → at q ≡ Some n → turn_by at ps j ≡ turn_by at ps i + 1
      → goes_with m n ≡ false
  next_turn ps i j p q m n lt a b c d turn =
      let mine : so_far ps (i + 1) ≡ so_far ps i ++ m ∷ [] = more ps i p m a c in
      let its : so_far ps (j + 1) ≡ so_far ps j ++ n ∷ [] = more ps j q n b d in
      let between : List Mode = filter_map at (take (j - (i + 1)) (drop (i + 1) ps)) in
      let sum : (i + 1) + (j - (i + 1)) ≡ j = omega (arith, lt) in
      let split : so_far ps j ≡ so_far ps (i + 1) ++ between =
      ap (so_far ps) (sym sum) ∙ (ap (filter_map at) (take-add (i + 1) (j - (i + 1)) ps) ∙ filter_map-append at (take (i + 1) ps) (take (j - (i + 1)) (drop (i + 1) ps))) in
      let whole : so_far ps (j + 1) ≡ so_far ps i ++ m ∷ (between ++ n ∷ []) =
      its ∙ (ap (λ (l : List Mode). l ++ n ∷ []) (split ∙ ap (λ (l : List Mode). l ++ between) mine)
      ∙ (ap (λ (l : List Mode). l ++ n ∷ []) (append_assoc (so_far ps i) (m ∷ []) between) ∙ append_assoc (so_far ps i) (m ∷ between) (n ∷ []))) in
      let turns : turn_by at ps j ≡ turn_by at ps i + groups_after m (between ++ n ∷ []) =
      ap groups_before_last whole ∙ (groups_then (so_far ps i) m (between ++ n ∷ []) ∙ ap (λ (l : List Mode). groups_before_last l + groups_after m (between ++ n ∷ [])) (sym mine)) in
      next_group m between n (one_more (turn_by at ps i) (turn_by at ps j) (groups_after m (between ++ n ∷ [])) turns turn)
    where
      one_more : (x y g : ℕ) → y ≡ x + g → y ≡ x + 1 → g ≡ 1
      one_more x y g e f = omega (arith, e, f)

mode_of_hold : (lock : Lock) (es : List Entry) → mode_in lock es ≡ option_map (λ (h : Mode × ℕ). h.0) (hold_in lock es)
mode_of_hold lock [] = refl
mode_of_hold lock (e ∷ es) =
    elim (eq_by_cmp lock_cmp lock e.lock) as (λ b. cond b (Some e.mode) (mode_in lock es) ≡ option_map (λ (h : Mode × ℕ). h.0) (cond b (Some (e.mode, e.turn)) (hold_in lock es))) [ true ↦ refl | false ↦ mode_of_hold lock es ]

module _ (profiles : List (List Entry)) (have : HaveTurns profiles) where
  its_mode : (i : ℕ) (lock : Lock) (m : Mode) (t : ℕ) (h : Holds profiles i lock m t) → mode_in lock h.profile ≡ Some m
  its_mode i lock m t h = mode_of_hold lock h.profile ∙ ap (option_map (λ (k : Mode × ℕ). k.0)) h.held

  next_is : (x y t : ℕ) → t ≡ x → t + 1 ≡ y → y ≡ x + 1
  next_is x y t e f = omega (arith, e, f)

  pub edge_apart : (i j : ℕ) → IsEdge profiles i j → AreApart profiles i j
  edge_apart i j e =
      let a = e.holds_first in
      let b = e.holds_second in
      let turn : turn_by (mode_in e.lock) profiles j ≡ turn_by (mode_in e.lock) profiles i + 1 =
      next_is (turn_by (mode_in e.lock) profiles i) (turn_by (mode_in e.lock) profiles j) e.turn (its_turn profiles have i e.lock e.first e.turn a) (its_turn profiles have j e.lock e.second (e.turn + 1) b) in
      record {
        lock = e.lock;
        first = e.first;
        second = e.second;
        first_turn = e.turn;
        second_turn = e.turn + 1;
        holds_first = a;
        holds_second = b;
        not_together =
            next_turn (mode_in e.lock) profiles i j a.profile b.profile e.first e.second (forward profiles have i j e) a.there b.there (its_mode i e.lock e.first e.turn a) (its_mode j e.lock e.second (e.turn + 1) b) turn;
      }
