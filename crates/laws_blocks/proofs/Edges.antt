-- Whether an edge leads from one position to another can be found out.
use Rattle.std.proofs.Common.{◌≡◌, ◌⊎◌, inl, inr, ℕ, ◌+◌, Bool, true, false, cond, List, [], ◌∷◌, Option, Some, None, slice_get, refl, sym, ap, subst, ◌∙◌}
use Rattle.std.specs.Ordering.{eq_by_cmp}
use Rattle.std.proofs.lemmas.Bool.{cases_eq}
use Rattle.spec_ledger.specs.declared.Lock.{Lock}
use Rattle.spec_ledger.specs.declared.Mode.{Mode}
use Rattle.spec_ledger.specs.declared.Entry.{Entry}
use Rattle.spec_ledger.specs.Cells.{lock_cmp}
use Rattle.spec_block.proofs.Locks.{lock_is}
use Rattle.spec_block.specs.Schedule.{hold_in, IsEdge}

some_is : {A : Type 0} (x y : A) → Some x ≡ Some y → x ≡ y
some_is x y e = cc e

-- the second profile has the turn after the first one's
record IsNext (first second : List Entry) (lock : Lock) : Type 0 where
  mode : Mode
  next_mode : Mode
  turn : ℕ
  held : hold_in lock first ≡ Some (mode, turn)
  next_held : hold_in lock second ≡ Some (next_mode, turn + 1)

is_next : (first second : List Entry) (lock : Lock) → IsNext first second lock ⊎ ¬ (IsNext first second lock)
is_next first second lock = by (hold_in lock first) (hold_in lock second) refl refl
  where
    by : (a b : Option (Mode × ℕ)) → hold_in lock first ≡ a → hold_in lock second ≡ b → IsNext first second lock ⊎ ¬ (IsNext first second lock)
    by None b ea eb = inr (λ c. let no : None ≡ Some (c.mode, c.turn) = sym ea ∙ c.held in absurd (cc no))
    by (Some x) None ea eb = inr (λ c. let no : None ≡ Some (c.next_mode, c.turn + 1) = sym eb ∙ c.next_held in absurd (cc no))
    by (Some x) (Some y) ea eb = elim (cases_eq y.1 (x.1 + 1)) [
      | inl is ↦ inl (record { mode = x.0; next_mode = y.0; turn = x.1; held = ea; next_held = eb ∙ ap (λ (k : ℕ). Some (y.0, k)) is })
      | inr differ ↦ inr (λ c.
          let one : x ≡ (c.mode, c.turn) = some_is x (c.mode, c.turn) (sym ea ∙ c.held) in
          let two : y ≡ (c.next_mode, c.turn + 1) = some_is y (c.next_mode, c.turn + 1) (sym eb ∙ c.next_held) in
          differ (ap (λ (h : Mode × ℕ). h.1) two ∙ ap (λ (h : Mode × ℕ). h.1 + 1) (sym one)))
    ]

module _ (P : Lock → Type 0) (test : (lock : Lock) → P lock ⊎ ¬ (P lock)) where
  not_more : (x : Entry) (es : List Entry) → ¬ (P x.lock) → ((lock : Lock) (h : Mode × ℕ) → hold_in lock es ≡ Some h → ¬ (P lock)) → (lock : Lock) (h : Mode × ℕ) → hold_in lock (x ∷ es) ≡ Some h → ¬ (P lock)
  not_more x es differs none lock h e p = by (eq_by_cmp lock_cmp lock x.lock) refl e
    where
      by : (b : Bool) → eq_by_cmp lock_cmp lock x.lock ≡ b → cond b (Some (x.mode, x.turn)) (hold_in lock es) ≡ Some h → ⊥
      by true is e = differs (subst P (lock_is lock x.lock is) p)
      by false is e = none lock h e p

  -- some lock that is held has it, or none
  some_held : (es : List Entry) → ((lock : Lock) × P lock) ⊎ ((lock : Lock) (h : Mode × ℕ) → hold_in lock es ≡ Some h → ¬ (P lock))
  some_held [] = inr (λ lock h e p. absurd (cc e))
  some_held (x ∷ es) = elim (test x.lock) [
    | inl p ↦ inl (x.lock, p)
    | inr differs ↦ elim (some_held es) [
      | inl found ↦ inl found
      | inr none ↦ inr (not_more x es differs none)
    ]
  ]

pub is_edge : (profiles : List (List Entry)) (i j : ℕ) → IsEdge profiles i j ⊎ ¬ (IsEdge profiles i j)
is_edge profiles i j = by (slice_get profiles i) (slice_get profiles j) refl refl
  where
    by : (a b : Option (List Entry)) → slice_get profiles i ≡ a → slice_get profiles j ≡ b → IsEdge profiles i j ⊎ ¬ (IsEdge profiles i j)
    by None b ea eb = inr (λ e. let no : None ≡ Some e.holds_first.profile = sym ea ∙ e.holds_first.there in absurd (cc no))
    by (Some p) None ea eb = inr (λ e. let no : None ≡ Some e.holds_second.profile = sym eb ∙ e.holds_second.there in absurd (cc no))
    by (Some p) (Some q) ea eb = elim (some_held (IsNext p q) (is_next p q) q) [
      | inl found ↦ inl (record {
        lock = found.0;
        first = found.1.mode;
        second = found.1.next_mode;
        turn = found.1.turn;
        holds_first = record { profile = p; there = ea; held = found.1.held };
        holds_second = record { profile = q; there = eb; held = found.1.next_held };
      })
      | inr none ↦ inr (λ e.
          let one : e.holds_first.profile ≡ p = some_is e.holds_first.profile p (sym e.holds_first.there ∙ ea) in
          let two : e.holds_second.profile ≡ q = some_is e.holds_second.profile q (sym e.holds_second.there ∙ eb) in
          let held : hold_in e.lock p ≡ Some (e.first, e.turn) = subst (λ (es : List Entry). hold_in e.lock es ≡ Some (e.first, e.turn)) one e.holds_first.held in
          let next_held : hold_in e.lock q ≡ Some (e.second, e.turn + 1) = subst (λ (es : List Entry). hold_in e.lock es ≡ Some (e.second, e.turn + 1)) two e.holds_second.held in
          none e.lock (e.second, e.turn + 1) next_held (record { mode = e.first; next_mode = e.second; turn = e.turn; held = held; next_held = next_held }))
    ]
