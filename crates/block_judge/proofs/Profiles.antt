-- Profiles whose turns are looked at one position after another.
use Rattle.std.proofs.Common.{◌≡◌, ℕ, zero, suc, ◌+◌, ◌<◌, cond, ◌&&◌, T, List, [], ◌∷◌, ◌++◌, Option, Some, None, map, take, get_or, slice_get, length, refl, sym, ap, subst, ◌∙◌, arith, below_more}
use Rattle.std.specs.FinMap.{find, is_sorted}
use Rattle.std.specs.FinMap.Entries.{below_all}
use Rattle.std.specs.Ordering.{is_eq, is_lt}
use Rattle.std.specs.declared.cmp.Ordering.TheVariants.{Less}
use Rattle.std.specs.List.{AllByRecursion, cons_option}
use Rattle.std.proofs.lemmas.List.{append-nil, take_more}
use Rattle.std.proofs.lemmas.List.Elements.{filter_map-append}
use Rattle.std.proofs.lemmas.Option.{slice_get_within, get_or_from_slice_get, same_Some}
use Rattle.spec_ledger.specs.declared.Lock.{Lock}
use Rattle.spec_ledger.specs.declared.Mode.{Mode}
use Rattle.spec_ledger.specs.declared.Entry.{Entry}
use Rattle.spec_ledger.specs.Cells.{lock_cmp}
use Rattle.spec_ledger.specs.Order.{holders, turn_by}
use Rattle.lock_profile.specs.declared.Group.{Group}
use Rattle.lock_profile.specs.declared.Held.{Held}
use Rattle.lock_profile.specs.Groups.{turn_next, group_of, last_group, pairs}
use Rattle.block_judge.specs.Latest.{latest, entry_of}
use Rattle.lock_profile.specs.Turns.{IsProfile}
use Rattle.lock_profile.proofs.Groups.{left, right, less, map_found}
use Rattle.block_judge.proofs.Latest.{groups_placed}
use Rattle.lock_profile.proofs.Orders.{last_group-push, turn_value, turn_is, next_is}
use Rattle.spec_block.specs.Worlds.{held_in}
use Rattle.spec_block.specs.Verdicts.{mode_in, HasTurn}

-- ---- the locks of a profile rise

same_below : (q : Lock) (es : List Entry) → below_all lock_cmp q (map (λ (e : Entry). (e.lock, e)) es) ≡ below_all lock_cmp q (held_in es)
same_below q [] = refl
same_below q (e ∷ es) = ap (λ b. is_lt (lock_cmp q e.lock) && b) (same_below q es)

same_sorted : (es : List Entry) → is_sorted lock_cmp (map (λ (e : Entry). (e.lock, e)) es) ≡ is_sorted lock_cmp (held_in es)
same_sorted [] = refl
same_sorted (e ∷ es) = let a = same_below e.lock es in let b = same_sorted es in λ i. a i && b i

modes_rise : (es : List Entry) → IsProfile es → T (is_sorted lock_cmp (held_in es))
modes_rise es is = subst T (same_sorted es) is

-- each entry is above what all are above
above : (q : Lock) (es : List Entry) (i : ℕ) (d : Entry) → T (below_all lock_cmp q (map (λ (e : Entry). (e.lock, e)) es)) → i < length es → lock_cmp q (get_or es i d).lock ≡ Less
above q [] i d b below = absurd (omega (arith, below))
above q (e ∷ es) zero d b below = less _ (left _ _ b)
above q (e ∷ es) (suc i) d b below = above q es i d (right _ _ b) (omega (arith, below))

-- the entries before one have other locks
pub not_among : (es : List Entry) (i : ℕ) (d : Entry) (old : Option Group) → IsProfile es → i < length es → latest (get_or es i d).lock (take i es) old ≡ old
not_among [] i d old is below = absurd (omega (arith, below))
not_among (e ∷ es) zero d old is below = refl
not_among (e ∷ es) (suc i) d old is below =
    let lower : lock_cmp e.lock (get_or es i d).lock ≡ Less = above e.lock es i d (left _ _ is) (omega (arith, below)) in
    ap (λ o. latest (get_or es i d).lock (take i es) (cond (is_eq o) (Some (record { mode = e.mode; turn = e.turn })) old)) lower
    ∙ not_among es i d old (right _ _ is) (omega (arith, below))

-- ---- a profile is told by its modes and a rule for its turns

abbrev Turned : (Lock → Mode → ℕ) → List Entry → Type 0
Turned turn es = AllByRecursion (λ (e : Entry). e.turn ≡ turn e.lock e.mode) es

abbrev made : (Lock → Mode → ℕ) → Lock × Mode → Entry
made turn h = record { lock = h.0; mode = h.1; turn = turn h.0 h.1 }

made_from : (turn : Lock → Mode → ℕ) (es : List Entry) → Turned turn es → es ≡ map (made turn) (held_in es)
made_from turn [] a = refl
made_from turn (e ∷ es) a = let rest = made_from turn es a.1 in λ i. record { lock = e.lock; mode = e.mode; turn = a.0 i } ∷ rest i

made_turned : (turn : Lock → Mode → ℕ) (hs : List (Lock × Mode)) → Turned turn (map (made turn) hs)
made_turned turn [] = tt
made_turned turn (h ∷ hs) = (refl, made_turned turn hs)

-- where two rules give its modes the same turns, it is of both
turned_alike : (t u : Lock → Mode → ℕ) (es : List Entry) → IsProfile es → ((q : Lock) (m : Mode) → mode_in q es ≡ Some m → t q m ≡ u q m) → Turned t es → Turned u es
turned_alike t u es is alike turned =
    let same : map (made t) (held_in es) ≡ map (made u) (held_in es) =
    map_found (made t) (made u) (held_in es) (modes_rise es is) (λ q m at. ap (λ n. record { lock = q; mode = m; turn = n }) (alike q m at)) in
    subst (Turned u) (sym (made_from t es turned ∙ same)) (made_turned u (held_in es))

-- ---- the groups after a profile

-- the turns are those of holders that come after these groups
abbrev pub Follow : (Lock → Option Group) → List Entry → Type 0
Follow last es = AllByRecursion (λ (e : Entry). e.turn ≡ turn_next (last e.lock) e.mode) es

abbrev held : List Entry → List Held
held es = map (λ (e : Entry). record { lock = e.lock; mode = e.mode }) es

same_pairs : (es : List Entry) → held_in es ≡ pairs (held es)
same_pairs [] = refl
same_pairs (e ∷ es) = ap (λ hs. (e.lock, e.mode) ∷ hs) (same_pairs es)

module _ (last : Lock → Option Group) where
  written_from : (es : List Entry) → Follow last es → es ≡ map (entry_of last) (held es)
  written_from [] a = refl
  written_from (e ∷ es) a = let rest = written_from es a.1 in λ i. record { lock = e.lock; mode = e.mode; turn = a.0 i } ∷ rest i

  placed : (q : Lock) (es : List Entry) → IsProfile es → Follow last es → latest q es (last q) ≡ group_of (last q) (mode_in q es)
  placed q es is turned =
      ap (λ (xs : List Entry). latest q xs (last q)) (written_from es turned)
      ∙ groups_placed last q (held es) (subst (λ (hs : List (Lock × Mode)). T (is_sorted lock_cmp hs)) (same_pairs es) (modes_rise es is))
      ∙ ap (λ (hs : List (Lock × Mode)). group_of (last q) (find lock_cmp q hs)) (sym (same_pairs es))

-- ---- one position more

module _ (ps : List (List Entry)) (i : ℕ) (p : List Entry) (there : slice_get ps i ≡ Some p) where
  holders_more : (q : Lock) → holders (mode_in q) (take (i + 1) ps) ≡ holders (mode_in q) (take i ps) ++ cons_option (mode_in q p) []
  holders_more q =
      ap (holders (mode_in q)) (take_more ps i [] (slice_get_within ps i p there))
      ∙ filter_map-append (mode_in q) (take i ps) (get_or ps i [] ∷ [])
      ∙ ap (λ (x : List Entry). holders (mode_in q) (take i ps) ++ cons_option (mode_in q x) []) (get_or_from_slice_get ps i p [] there)

  group_more : (q : Lock) → group_of (last_group None (holders (mode_in q) (take i ps))) (mode_in q p) ≡ last_group None (holders (mode_in q) (take (i + 1) ps))
  group_more q =
      elim (mode_in q p) as (λ o. group_of (last_group None (holders (mode_in q) (take i ps))) o ≡ last_group None (holders (mode_in q) (take i ps) ++ cons_option o [])) [
        | None ↦ ap (last_group None) (sym (append-nil (holders (mode_in q) (take i ps))))
        | Some m ↦ sym (last_group-push None (holders (mode_in q) (take i ps)) m)
      ]
      ∙ ap (last_group None) (sym (holders_more q))

  -- what follows the last group has the turn of its modes
  turn_more : (q : Lock) (m : Mode) → mode_in q p ≡ Some m → turn_next (last_group None (holders (mode_in q) (take i ps))) m ≡ turn_by (mode_in q) ps i
  turn_more q m at =
      sym (next_is (last_group None (holders (mode_in q) (take i ps))) m)
      ∙ ap (λ o. turn_value (group_of (last_group None (holders (mode_in q) (take i ps))) o)) (sym at)
      ∙ ap turn_value (group_more q)
      ∙ turn_is (holders (mode_in q) (take (i + 1) ps))

  module _ (is : IsProfile p) (last : Lock → Option Group) (of : (q : Lock) → last q ≡ last_group None (holders (mode_in q) (take i ps))) where
    same_turn : (q : Lock) (m : Mode) → mode_in q p ≡ Some m → turn_next (last q) m ≡ turn_by (mode_in q) ps i
    same_turn q m at = ap (λ g. turn_next g m) (of q) ∙ turn_more q m at

    pub turns_here : Follow last p → AllByRecursion (HasTurn ps i) p
    turns_here turned = turned_alike (λ q m. turn_next (last q) m) (λ q m. turn_by (mode_in q) ps i) p is same_turn turned

    pub follow_here : AllByRecursion (HasTurn ps i) p → Follow last p
    follow_here has = turned_alike (λ q m. turn_by (mode_in q) ps i) (λ q m. turn_next (last q) m) p is (λ q m at. sym (same_turn q m at)) has

    pub groups_here : Follow last p → (q : Lock) (next : Option Group) → next ≡ latest q p (last q)
        → next ≡ last_group None (holders (mode_in q) (take (i + 1) ps))
    groups_here turned q next e = e ∙ placed last q p is turned ∙ ap (λ g. group_of g (mode_in q p)) (of q) ∙ group_more q

  -- the positions so far, and this one
  pub turns_more : ((m : ℕ) (x : List Entry) → m < i → slice_get ps m ≡ Some x → AllByRecursion (HasTurn ps m) x) → AllByRecursion (HasTurn ps i) p
      → (m : ℕ) (x : List Entry) → m < i + 1 → slice_get ps m ≡ Some x → AllByRecursion (HasTurn ps m) x
  turns_more before here m x below = below_more (λ k. slice_get ps k ≡ Some x → AllByRecursion (HasTurn ps k) x) i
      (λ k lt. before k x lt) (λ at. subst (AllByRecursion (HasTurn ps i)) (same_Some p x (sym there ∙ at)) here) m below
