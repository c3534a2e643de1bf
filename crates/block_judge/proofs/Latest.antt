-- The groups after the entries of a profile.
use Rattle.std.proofs.Common.{◌≡◌, ℕ, ◌+◌, ◌<◌, Bool, true, false, cond, T, Option, Some, None, List, [], ◌∷◌, ◌++◌, map, length, take, get_or, refl, sym, ◌∙◌, ap}
use Rattle.std.proofs.lemmas.List.{take_more}
use Rattle.std.specs.Ordering.{eq_by_cmp}
use Rattle.std.specs.Cmp.{eq_by_cmp_equiv}
use Rattle.std.specs.FinMap.{find, is_sorted}
use Rattle.spec_ledger.specs.declared.Lock.{Lock}
use Rattle.spec_ledger.specs.Cells.{lock_cmp}
use Rattle.spec_ledger.proofs.Maps.{lock_cmp_total, lock_cmp-IsAntisymmetric, is_key}
use Rattle.spec_ledger.specs.declared.Entry.{Entry}
use Rattle.lock_profile.specs.declared.Held.{Held}
use Rattle.lock_profile.specs.declared.Group.{Group}
use Rattle.lock_profile.specs.Groups.{pairs, group_of, turn_next}
use Rattle.lock_profile.proofs.Groups.{left, right, find_below}
use Rattle.block_judge.specs.Latest.{latest, entry_of}

pub latest-push : (q : Lock) (es : List Entry) (e : Entry) (old : Option Group)
    → latest q (es ++ e ∷ []) old ≡ cond (eq_by_cmp lock_cmp e.lock q) (Some (record { mode = e.mode; turn = e.turn })) (latest q es old)
latest-push q [] e old = refl
latest-push q (x ∷ es) e old = latest-push q es e (cond (eq_by_cmp lock_cmp x.lock q) (Some (record { mode = x.mode; turn = x.turn })) old)

pub groups_more : (es : List Entry) (i : ℕ) (d : Entry) (q : Lock) (old found next : Option Group) → i < length es → found ≡ latest q (take i es) old
    → next ≡ cond (eq_by_cmp lock_cmp (get_or es i d).lock q) (Some (record { mode = (get_or es i d).mode; turn = (get_or es i d).turn })) found
    → next ≡ latest q (take (i + 1) es) old
groups_more es i d q old found next below e f =
    f ∙ ap (cond (eq_by_cmp lock_cmp (get_or es i d).lock q) (Some (record { mode = (get_or es i d).mode; turn = (get_or es i d).turn }))) e
    ∙ sym (ap (λ x. latest q x old) (take_more es i d below) ∙ latest-push q (take i es) (get_or es i d) old)

turned : (q k : Lock) (b : Bool) → eq_by_cmp lock_cmp q k ≡ b → eq_by_cmp lock_cmp k q ≡ b
turned q k b e = (eq_by_cmp_equiv lock_cmp_total).symm k q ∙ e

module _ (last : Lock → Option Group) where
  latest_none : (q : Lock) (hs : List Held) (old : Option Group) → find lock_cmp q (pairs hs) ≡ None → latest q (map (entry_of last) hs) old ≡ old
  latest_none q [] old e = refl
  latest_none q (h ∷ hs) old e =
      elim (eq_by_cmp lock_cmp q h.lock) as (λ b. eq_by_cmp lock_cmp q h.lock ≡ b → cond b (Some h.mode) (find lock_cmp q (pairs hs)) ≡ None
      → latest q (map (entry_of last) hs) (cond (eq_by_cmp lock_cmp h.lock q) (Some (record { mode = h.mode; turn = turn_next (last h.lock) h.mode })) old) ≡ old) [
        | true ↦ λ t is. cc
        | false ↦ λ t is.
            ap (λ b. latest q (map (entry_of last) hs) (cond b (Some (record { mode = h.mode; turn = turn_next (last h.lock) h.mode })) old)) (turned q h.lock false t)
            ∙ latest_none q hs old is
      ] refl e

  pub groups_placed : (q : Lock) (hs : List Held) → T (is_sorted lock_cmp (pairs hs))
      → latest q (map (entry_of last) hs) (last q) ≡ group_of (last q) (find lock_cmp q (pairs hs))
  groups_placed q [] s = refl
  groups_placed q (h ∷ hs) s =
      elim (eq_by_cmp lock_cmp q h.lock) as (λ b. eq_by_cmp lock_cmp q h.lock ≡ b
      → latest q (map (entry_of last) hs) (cond (eq_by_cmp lock_cmp h.lock q) (Some (record { mode = h.mode; turn = turn_next (last h.lock) h.mode })) (last q))
      ≡ group_of (last q) (cond b (Some h.mode) (find lock_cmp q (pairs hs)))) [
        | true ↦ λ t.
            let same : q ≡ h.lock = is_key lock_cmp_total lock_cmp-IsAntisymmetric q h.lock t in
            let none : find lock_cmp q (pairs hs) ≡ None = ap (λ k. find lock_cmp k (pairs hs)) same ∙ find_below h.lock (pairs hs) (left _ _ s) in
            ap (λ b. latest q (map (entry_of last) hs) (cond b (Some (record { mode = h.mode; turn = turn_next (last h.lock) h.mode })) (last q))) (turned q h.lock true t)
            ∙ latest_none q hs _ none
            ∙ ap (λ k. Some (record { mode = h.mode; turn = turn_next (last k) h.mode })) (sym same)
        | false ↦ λ t.
            ap (λ b. latest q (map (entry_of last) hs) (cond b (Some (record { mode = h.mode; turn = turn_next (last h.lock) h.mode })) (last q))) (turned q h.lock false t)
            ∙ groups_placed q hs (right _ _ s)
      ] refl
