-- A branch, in one turn or in two.
use Rattle.std.proofs.Common.{◌≡◌, ◌≢◌, ℕ, zero, suc, ◌+◌, ◌-◌, ◌≤◌, ◌<◌, List, [], ◌∷◌, ◌++◌, length, take, drop, refl, sym, ap, ◌∙◌, subst, arith, append-nil}
use Rattle.std.proofs.lemmas.List.{drop_all, length-take}
use Rattle.spec_modules.specs.Syntax as syntax
use Rattle.spec_execution.specs.Configuration.{Contract, State}
use Rattle.instance.specs.States.{based}
use Rattle.interp_state.specs.declared.parts.Parts.{Parts}
use Rattle.interp_state.specs.Branches.{Repeats}
use Rattle.interp_state.specs.Views.{view, items_of, opens_of}
use Rattle.laws_reduction.specs.Meaning.{Item, Scope, Loop, Open, View, outer, Begins, EachBegins, Charged}
use Rattle.laws_reduction.specs.Branches.{IsTarget, IsJump}
use Rattle.laws_reduction.specs.Charging.{mk}
use Rattle.interp_steps.specs.StraightLine.{Walks, one_more, IsSafeFor, Branched, alone, with_loop}
use Rattle.interp_steps.proofs.Walking.{walks_once}
use Rattle.interp_steps.proofs.Controlling.{loop_one, opened}

-- an open one by its fields
open_is : (o : Open) (n h : ℕ) (from : List Item) → o.scope ≡ Loop → o.ordinal ≡ n → o.arity ≡ 0 → o.height ≡ h → o.from ≡ from → o ≡ record { scope = Loop; ordinal = n; arity = 0; height = h; from = from }
open_is o n h from es en ea eh ef =
    ap (λ (s : Scope). record o { scope = s }) es
    ∙ ap (λ (m : ℕ). record o { scope = Loop; ordinal = m }) en
    ∙ ap (λ (m : ℕ). record o { scope = Loop; ordinal = n; arity = m }) ea
    ∙ ap (λ (m : ℕ). record o { scope = Loop; ordinal = n; arity = 0; height = m }) eh
    ∙ ap (λ (is : List Item). record { scope = Loop; ordinal = n; arity = 0; height = h; from = is }) ef

pub each_drop : (l : ℕ) (es : List Open) → EachBegins es → EachBegins (drop l es)
each_drop zero es h = h
each_drop (suc l) [] h = tt
each_drop (suc l) (e ∷ es) h = each_drop l es h.1

first_open : (e o : Open) (es os : List Open) → e ∷ es ≡ o ∷ os → e ≡ o
first_open e o es os h = cc

-- the ordinal of a loop
loop_ordinal : (o : Open) (i : Item) (is : List Item) → o.scope ≡ Loop → o.from ≡ i ∷ is → Begins o.scope o.ordinal o.from → o.ordinal ≡ i.ordinal
loop_ordinal o i is es ef h = subst (λ (js : List Item). Begins Loop o.ordinal js) ef (subst (λ (s : Scope). Begins s o.ordinal o.from) es h)

module _ {A : Type 0} (c : Contract) (b : State) (p : Parts A) (target : List Open) (v : View) (some : v.code ≢ []) (begins : EachBegins target) (fits : IsTarget (opens_of p.entries.items) p.stack.items target)
    (first : (w : View) → IsJump (view b p) target w → Charged c v w) (left : ℕ) (safe : IsSafeFor c v left) where
  -- the view between both turns
  module _ (q : Parts A) (r : Repeats p target q) where
    abbrev between : View
    between = mk (based b p.instance) r.outside (take r.entry.height p.stack.items) p.locals.items r.entry.from

    same_entry : fits.entry ≡ r.entry
    same_entry = first_open fits.entry r.entry fits.outside r.outside (sym fits.there ∙ r.there)

    high : r.entry.height ≤ length p.stack.items
    high = let enough : r.entry.height + r.entry.arity ≤ length p.stack.items = subst (λ (o : Open). o.height + o.arity ≤ length p.stack.items) same_entry fits.enough in omega (arith, enough)

    nothing_kept : drop (length p.stack.items - r.entry.arity) p.stack.items ≡ []
    nothing_kept = drop_all (length p.stack.items - r.entry.arity) p.stack.items (let zero_kept = r.none_kept in omega (arith, zero_kept))

    jumps : IsJump (view b p) target between
    jumps = record {
      entry = r.entry;
      there = r.there;
      base = refl;
      stack = sym (ap (λ vs. take r.entry.height p.stack.items ++ vs) nothing_kept ∙ append-nil (take r.entry.height p.stack.items));
      locals = sym (ap (λ (s : Scope). outer s p.locals.items) r.scope);
      code = refl;
    }

    turn : Charged c v between
    turn = first between jumps

    to_come : between.code ≢ []
    to_come e = let no : [] ≡ record { ordinal = r.ordinal; instr = syntax.Loop r.result r.body } ∷ r.after = sym e ∙ r.from in absurd (cc)

    ordinal_is : r.entry.ordinal ≡ r.ordinal
    ordinal_is = loop_ordinal r.entry (record { ordinal = r.ordinal; instr = syntax.Loop r.result r.body }) r.after r.scope r.from (subst EachBegins r.there begins).0

    height_is : r.entry.height ≡ length (take r.entry.height p.stack.items)
    height_is = omega (arith, high, length-take r.entry.height p.stack.items)

    again : 1 < left → Charged c between (view b q)
    again lt =
        let safe_there = safe 1 between lt (walks_once c v between some turn) to_come in
        let item : Item = record { ordinal = r.ordinal; instr = syntax.Loop r.result r.body } in
        let js = items_of q.code.now in
        opened c between safe_there turn.ordered r.ordinal r.after Loop 0 (item ∷ r.after) js between.stack turn.ordered.stands refl refl
        (loop_one c between safe_there turn.ordered r.ordinal r.after r.result r.body js r.code r.from)
        (view b q) (ap (based b) r.instance) (r.entries ∙ ap (λ (o : Open). o ∷ r.outside) (open_is r.entry r.ordinal (length between.stack) (item ∷ r.after) r.scope ordinal_is r.none_kept height_is r.from)) r.stack r.locals refl

    both : 1 < left → Walks c v 2 (view b q)
    both lt = one_more v between (view b q) 1 (walks_once c v between some turn) to_come (again lt)

  pub branched_walks : (n : ℕ) (q : Parts A) → Branched p target n q → n ≤ left → Walks c v n (view b q)
  branched_walks n q (alone x j) le = walks_once c v (view b q) some (first (view b q) (j b))
  branched_walks n q (with_loop x r) le = both q r (omega (arith, le))

pub branched_some : {A : Type 0} (p q : Parts A) (target : List Open) (n : ℕ) → Branched p target n q → 0 < n
branched_some p q target n (alone x j) = omega arith
branched_some p q target n (with_loop x r) = omega arith
