-- Edges that are added one after another.
use Rattle.std.proofs.Common.{◌≡◌, ℕ, ◌+◌, ◌<◌, ◌≤◌, Bool, true, false, List, [], ◌∷◌, ◌++◌, length, take, drop, get_or, inl, inr, refl, sym, ap, subst, arith, below_more, nat_lt, if◌then◌else◌}
use Rattle.std.specs.List.{Contains}
use Rattle.std.proofs.lemmas.List.{take_more, take-append-drop}
use Rattle.std.proofs.lemmas.List.Elements.{Contains-append_left, Contains-push, Contains-push_cases}
use borrow.Author.Tests.{ltb-true, ltb-false}
use Rattle.spec_ledger.specs.declared.Entry.{Entry}
use Rattle.spec_block.specs.Schedule.{IsEdge}
use Rattle.wblock_picture.specs.declared.edge.Edge.{Edge}
use Rattle.wblock_picture.specs.declared.scene.TheConstants.{MOST_LINES}
use Rattle.wblock_picture.specs.Edges.{with_edge, AddsEdges, AreEdges}

none_in : {X : Type 0} (x : X) → Contains [] x → ⊥
none_in x h = omega (arith, h.1)

pub start : (b n : ℕ) (old : List Edge) → AddsEdges b [] n true old old
start b n old = record {
  kept = λ e h. h;
  each = λ e h. inl h;
  complete = λ _ j h lt. absurd (none_in j h);
  few = λ h. h;
  full = λ e. absurd (cc e);
}

-- a successor past the first positions adds nothing
skipped : (b n j : ℕ) (ss : List ℕ) (old new : List Edge) → AddsEdges b ss n true old new → n ≤ j → AddsEdges b (ss ++ j ∷ []) n true old new
skipped b n j ss old new a past = record {
  kept = a.kept;
  each = λ e h. elim (a.each e h) [ inl o ↦ inl o | inr x ↦ inr (x.0, Contains-append_left ss (j ∷ []) e.after x.1, x.2) ];
  complete = λ t k h lt. elim (Contains-push_cases ss j k h) [ inl in_ss ↦ a.complete t k in_ss lt | inr is ↦ absurd (omega (arith, is)) ];
  few = a.few;
  full = a.full;
}

-- another adds one
added : (b n j : ℕ) (ss : List ℕ) (old new : List Edge) → AddsEdges b ss n true old new → j < n → (length new ≤ MOST_LINES → length (new ++ record { before = b; after = j } ∷ []) ≤ MOST_LINES) → AddsEdges b (ss ++ j ∷ []) n true old (new ++ record { before = b; after = j } ∷ [])
added b n j ss old new a lt room =
    let one : Edge = record { before = b; after = j } in
    record {
      kept = λ e h. Contains-append_left new (one ∷ []) e (a.kept e h);
      each = λ e h. elim (Contains-push_cases new one e h) [
        | inl in_new ↦ elim (a.each e in_new) [ inl o ↦ inl o | inr x ↦ inr (x.0, Contains-append_left ss (j ∷ []) e.after x.1, x.2) ]
        | inr is ↦ inr (sym (ap (λ (x : Edge). x.before) is), subst (λ (k : ℕ). Contains (ss ++ j ∷ []) k) (ap (λ (x : Edge). x.after) is) (Contains-push ss j), subst (λ (k : ℕ). k < n) (ap (λ (x : Edge). x.after) is) lt)
      ];
      complete = λ t k h below. elim (Contains-push_cases ss j k h) [
        | inl in_ss ↦ Contains-append_left new (one ∷ []) (record { before = b; after = k }) (a.complete t k in_ss below)
        | inr is ↦ subst (λ (m : ℕ). Contains (new ++ one ∷ []) (record { before = b; after = m })) is (Contains-push new one)
      ];
      few = λ h. room (a.few h);
      full = λ e. absurd (cc e);
    }

by_test : (b n j : ℕ) (ss : List ℕ) (old new next : List Edge) (t : Bool) → nat_lt j n ≡ t → AddsEdges b ss n true old new → next ≡ (if t then new ++ record { before = b; after = j } ∷ [] else new) → (length new ≤ MOST_LINES → length next ≤ MOST_LINES)
    → AddsEdges b (ss ++ j ∷ []) n true old next
by_test b n j ss old new next true test a is room =
    let lt : j < n = ltb-true j n test in
    subst (λ (l : List Edge). AddsEdges b (ss ++ j ∷ []) n true old l) (sym is) (added b n j ss old new a lt (λ h. subst (λ (l : List Edge). length l ≤ MOST_LINES) is (room h)))
by_test b n j ss old new next false test a is room =
    let past : n ≤ j = ltb-false j n test in subst (λ (l : List Edge). AddsEdges b (ss ++ j ∷ []) n true old l) (sym is) (skipped b n j ss old new a past)

-- one more successor
pub one_after : (b n i : ℕ) (ss : List ℕ) (old new next : List Edge) → i < length ss → AddsEdges b (take i ss) n true old new → next ≡ with_edge (record { before = b; after = get_or ss i 0 }) n new → (length new ≤ MOST_LINES → length next ≤ MOST_LINES)
    → AddsEdges b (take (i + 1) ss) n true old next
one_after b n i ss old new next lt a is room =
    subst (λ (l : List ℕ). AddsEdges b l n true old next) (sym (take_more ss i 0 lt)) (by_test b n (get_or ss i 0) (take i ss) old new next (nat_lt (get_or ss i 0) n) refl a is room)

-- there is no room for the others
pub stopped : (b n i : ℕ) (ss : List ℕ) (old new : List Edge) → AddsEdges b (take i ss) n true old new → MOST_LINES ≤ length new → AddsEdges b ss n false old new
stopped b n i ss old new a full = record {
  kept = a.kept;
  each = λ e h. elim (a.each e h) [
    | inl o ↦ inl o
    | inr x ↦ inr (x.0, subst (λ (l : List ℕ). Contains l e.after) (take-append-drop i ss) (Contains-append_left (take i ss) (drop i ss) e.after x.1), x.2)
  ];
  complete = λ e. absurd (cc e);
  few = a.few;
  full = λ _. full;
}

-- the edges from the first i of n positions
pub record AreBelow (profiles : List (List Entry)) (i n : ℕ) (list : List Edge) : Type 0 where
  pub each : (e : Edge) → Contains list e → IsEdge profiles e.before e.after
  pub within : (e : Edge) → Contains list e → (e.before < n) × (e.after < n)
  pub few : length list ≤ MOST_LINES
  pub complete : (k : ℕ) → k < i → (j : ℕ) → j < n → IsEdge profiles k j → Contains list (record { before = k; after = j })

pub none : (profiles : List (List Entry)) (n : ℕ) → AreBelow profiles 0 n []
none profiles n = record {
  each = λ e h. absurd (none_in e h);
  within = λ e h. absurd (none_in e h);
  few = omega arith;
  complete = λ k lt. absurd (omega (arith, lt));
}

each_more : (profiles : List (List Entry)) (i n : ℕ) (ss : List ℕ) (all : Bool) (old new : List Edge) → AreBelow profiles i n old → AddsEdges i ss n all old new → ((j : ℕ) → Contains ss j → IsEdge profiles i j) → (e : Edge) → Contains new e → IsEdge profiles e.before e.after
each_more profiles i n ss all old new a m exact e h = elim (m.each e h) [
  | inl o ↦ a.each e o
  | inr x ↦ subst (λ (k : ℕ). IsEdge profiles k e.after) (sym x.0) (exact e.after x.1)
]

within_more : (profiles : List (List Entry)) (i n : ℕ) (ss : List ℕ) (all : Bool) (old new : List Edge) → AreBelow profiles i n old → AddsEdges i ss n all old new → i < n → (e : Edge) → Contains new e → (e.before < n) × (e.after < n)
within_more profiles i n ss all old new a m lt e h = elim (m.each e h) [ inl o ↦ a.within e o | inr x ↦ (omega (arith, x.0, lt), x.2) ]

pub one_more : (profiles : List (List Entry)) (i n : ℕ) (ss : List ℕ) (old new : List Edge) → AreBelow profiles i n old → AddsEdges i ss n true old new → ((j : ℕ) → Contains ss j → IsEdge profiles i j) → ((j : ℕ) → IsEdge profiles i j → Contains ss j) → i < n → AreBelow profiles (i + 1) n new
one_more profiles i n ss old new a m sound exact lt = record {
  each = each_more profiles i n ss true old new a m sound;
  within = within_more profiles i n ss true old new a m lt;
  few = m.few a.few;
  complete =
      below_more (λ (k : ℕ). (j : ℕ) → j < n → IsEdge profiles k j → Contains new (record { before = k; after = j })) i (λ k below j lj edge. m.kept (record { before = k; after = j }) (a.complete k below j lj edge))
      (λ j lj edge. m.complete refl j (exact j edge) lj);
}

pub no_room : (profiles : List (List Entry)) (i n : ℕ) (ss : List ℕ) (old new : List Edge) → AreBelow profiles i n old → AddsEdges i ss n false old new → ((j : ℕ) → Contains ss j → IsEdge profiles i j) → i < n → AreEdges profiles n false new
no_room profiles i n ss old new a m sound lt = record {
  each = each_more profiles i n ss false old new a m sound;
  within = within_more profiles i n ss false old new a m lt;
  few = m.few a.few;
  complete = λ e. absurd (cc e);
  full = λ e. omega (arith, m.full e, m.few a.few);
}

pub all_there : (profiles : List (List Entry)) (n : ℕ) (list : List Edge) → AreBelow profiles n n list → AreEdges profiles n true list
all_there profiles n list a = record { each = a.each; within = a.within; few = a.few; complete = λ _ i j li lj edge. a.complete i li j lj edge; full = λ e. absurd (cc e) }
