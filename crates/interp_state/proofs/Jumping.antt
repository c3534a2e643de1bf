-- What branches, returns and blocks do to the parts.
use Rattle.std.proofs.Common.{◌≡◌, ℕ, zero, suc, ◌+◌, ◌-◌, ◌≤◌, false, List, [], ◌∷◌, ◌++◌, length, map, reverse, take, drop, refl, sym, ap, ◌∙◌, subst, arith, length-append}
use Rattle.std.proofs.lemmas.List.{length-drop, take-append-drop, reverse-append}
use Rattle.std.proofs.Math.Seq.{drop-append_seam}
use Rattle.interp_state.specs.declared.parts.Entry.{Entry}
use Rattle.interp_state.specs.declared.parts.Parts.{Parts}
use Rattle.laws_reduction.specs.Meaning.{Scope, Block, Loop, Frame, Open, outer, frames, deeper}
use Rattle.laws_reduction.specs.Branches.{in_call, from_call, is_frame, IsTarget}
use Rattle.interp_state.specs.Branches.{Jumps}
use Rattle.interp_state.specs.Steps.{IsBehind, IsCounted, AreNumbered, EachNumbered}
use Rattle.module_tree.specs.declared.instr.Instr.{Instr}
use Rattle.instance.specs.States.{based}
use Rattle.interp_state.specs.Views.{open_of, opens_of, scope_of, items_of}
use Rattle.interp_state.specs.ViewLaws.{opens_push}

-- ---- what is open, and how it is numbered

pub each_take : {A : Type 0} (n : ℕ) (es : List (Entry A)) → EachNumbered es → EachNumbered (take n es)
each_take zero es h = tt
each_take (suc n) [] h = tt
each_take (suc n) (e ∷ es) h = (h.0, each_take n es h.1)

pub each_split : {A : Type 0} (es : List (Entry A)) (e : Entry A) → EachNumbered (es ++ e ∷ []) → EachNumbered es × AreNumbered e.from.now
each_split [] e h = (tt, h.0)
each_split (x ∷ es) e h = let r = each_split es e h.1 in ((h.0, r.0), r.1)

pub each_push : {A : Type 0} (es : List (Entry A)) (e : Entry A) → EachNumbered es → AreNumbered e.from.now → EachNumbered (es ++ e ∷ [])
each_push [] e h k = (k, tt)
each_push (x ∷ es) e h k = (h.0, each_push es e h.1 k)

drop_map : {X Y : Type 0} (f : X → Y) (n : ℕ) (xs : List X) → drop n (map f xs) ≡ map f (drop n xs)
drop_map f zero xs = refl
drop_map f (suc n) [] = refl
drop_map f (suc n) (x ∷ xs) = drop_map f n xs

length_reverse : {X : Type 0} (xs : List X) → length (reverse xs) ≡ length xs
length_reverse [] = refl
length_reverse (x ∷ xs) = ap length (reverse-append (x ∷ []) xs) ∙ length-append (reverse xs) (x ∷ []) ∙ (omega (arith, length_reverse xs))

length_map : {X Y : Type 0} (f : X → Y) (xs : List X) → length (map f xs) ≡ length xs
length_map f [] = refl
length_map f (x ∷ xs) = ap (λ (n : ℕ). suc n) (length_map f xs)

-- the innermost ones of a list that grows at its end
drop_reverse : {X : Type 0} (n : ℕ) (xs : List X) → n ≤ length xs → drop n (reverse xs) ≡ reverse (take (length xs - n) xs)
drop_reverse n xs le =
    let m = length xs - n in
    let long : length (reverse (drop m xs)) ≡ n = length_reverse (drop m xs) ∙ (omega (arith, length-drop m xs)) in
    ap (λ ys. drop n (reverse ys)) (sym (take-append-drop m xs)) ∙ ap (drop n) (reverse-append (take m xs) (drop m xs))
    ∙ ap (λ k. drop k (reverse (drop m xs) ++ reverse (take m xs))) (sym long) ∙ drop-append_seam (reverse (drop m xs)) (reverse (take m xs))

pub label_within : {A : Type 0} (l : ℕ) (es : List (Entry A)) (o : Open) (os : List Open) → drop l (opens_of es) ≡ o ∷ os → l ≤ length es
label_within l es o os h = omega (arith, ap length h, length-drop l (opens_of es), length_map open_of (reverse es), length_reverse es)

pub label_below : {A : Type 0} (l : ℕ) (es : List (Entry A)) (o : Open) (os : List Open) → drop l (opens_of es) ≡ o ∷ os → l + 1 ≤ length es
label_below l es o os h = omega (arith, ap length h, length-drop l (opens_of es), length_map open_of (reverse es), length_reverse es)

pub opens_left : {A : Type 0} (l : ℕ) (es : List (Entry A)) → l ≤ length es → opens_of (take (length es - l) es) ≡ drop l (opens_of es)
opens_left l es le = sym (drop_map open_of l (reverse es) ∙ ap (map open_of) (drop_reverse l es le))

-- ---- the jump

module _ {A : Type 0} (p q : Parts A) (left : ℕ) (e : Entry A) (target : IsTarget (opens_of p.entries.items) p.stack.items (opens_of (take left p.entries.items))) (split : take left p.entries.items ≡ q.entries.items ++ e ∷ []) where
  opens_split : opens_of (take left p.entries.items) ≡ open_of e ∷ opens_of q.entries.items
  opens_split = ap opens_of split ∙ opens_push q.entries.items e

  pub target_entry : (e.height + e.arity ≤ length p.stack.items) × (frames (opens_of p.entries.items) 0 ≡ deeper (scope_of e.kind) (frames (opens_of q.entries.items) 0))
  target_entry =
      let both : target.entry ∷ target.outside ≡ open_of e ∷ opens_of q.entries.items = sym target.there ∙ opens_split in
      let same : target.entry ≡ open_of e = cc in
      (subst (λ (o : Open). o.height + o.arity ≤ length p.stack.items) same target.enough, target.same_frames ∙ ap (λ es. frames es 0) opens_split)

  pub jump_is : q.instance ≡ p.instance → q.stack.items ≡ take e.height p.stack.items ++ drop (length p.stack.items - e.arity) p.stack.items → q.locals.items ≡ outer (scope_of e.kind) p.locals.items → q.code.now ≡ e.from.now → Jumps p (opens_of (take left p.entries.items)) q
  jump_is untouched stack locals code b = record { entry = open_of e; there = opens_split; base = ap (based b) untouched; stack = stack; locals = locals; code = ap items_of code }

  pub jump_counted : IsCounted p → q.code.now ≡ e.from.now → q.depth ≡ frames (opens_of q.entries.items) 0 → q.depth ≤ p.depth → IsCounted q
  jump_counted k code depth fewer =
      let both = each_split q.entries.items e (subst (λ (es : List (Entry A)). EachNumbered es) split (each_take left p.entries.items k.each)) in
      record { count = depth; few = (let few = k.few in omega arith); code = subst (λ is. AreNumbered is) (sym code) both.1; each = both.0 }

-- ---- how far the innermost call goes

pub call_below : {A : Type 0} (es : List (Entry A)) (e : Entry A) → is_frame (scope_of e.kind) ≡ false → in_call (opens_of (es ++ e ∷ [])) ≡ in_call (opens_of es)
call_below es e h = ap in_call (opens_push es e) ∙ by_scope (scope_of e.kind) h
  where
    by_scope : (k : Scope) → is_frame k ≡ false → from_call k (open_of e) (opens_of es) (in_call (opens_of es)) ≡ in_call (opens_of es)
    by_scope Block h = refl
    by_scope Loop h = refl
    by_scope (Frame f saved) h = absurd (cc)

-- ---- leaving and opening

-- the innermost one is left
pub left_counted : {A : Type 0} (p q : Parts A) (e : Entry A) → p.entries.items ≡ q.entries.items ++ e ∷ [] → IsCounted p → AreNumbered q.code.now → q.depth ≡ frames (opens_of q.entries.items) 0 → q.depth ≤ p.depth → IsCounted q
left_counted p q e split k code depth fewer =
    let both = each_split q.entries.items e (subst (λ (es : List (Entry _)). EachNumbered es) split k.each) in
    record { count = depth; few = (let few = k.few in omega arith); code = code; each = both.0 }

pub left_depth : {A : Type 0} (p q : Parts A) (e : Entry A) → p.entries.items ≡ q.entries.items ++ e ∷ [] → IsCounted p → p.depth ≡ deeper (scope_of e.kind) (frames (opens_of q.entries.items) 0)
left_depth p q e split k = k.count ∙ ap (λ os. frames os 0) (ap opens_of split ∙ opens_push q.entries.items e)

pub left_from : {A : Type 0} (p : Parts A) (es : List (Entry A)) (e : Entry A) → p.entries.items ≡ es ++ e ∷ [] → IsCounted p → AreNumbered e.from.now
left_from p es e split k = (each_split es e (subst (λ (es : List (Entry _)). EachNumbered es) split k.each)).1

pub numbered_behind : {A : Type 0} (is js : List (Instr A)) → IsBehind is js → AreNumbered is → AreNumbered js
numbered_behind [] js h k = subst (λ is. AreNumbered is) (sym h) tt
numbered_behind (i ∷ is) js h k = subst (λ is. AreNumbered is) (sym h) k.1

-- one more is opened
pub pushed_counted : {A : Type 0} (p q : Parts A) (e : Entry A) → q.entries.items ≡ p.entries.items ++ e ∷ [] → IsCounted p → AreNumbered q.code.now → AreNumbered e.from.now → q.depth ≡ deeper (scope_of e.kind) p.depth → q.depth ≤ 256 → IsCounted q
pushed_counted p q e pushed k code from depth few = record {
  count = depth ∙ ap (deeper (scope_of e.kind)) k.count ∙ sym (ap (λ os. frames os 0) (ap opens_of pushed ∙ opens_push p.entries.items e));
  few = few;
  code = code;
  each = subst (λ (es : List (Entry _)). EachNumbered es) (sym pushed) (each_push p.entries.items e k.each from);
}

pub label_depth : (s : Scope) (n : ℕ) → is_frame s ≡ false → n ≡ deeper s n
label_depth Block n h = refl
label_depth Loop n h = refl
label_depth (Frame f saved) n h = absurd (cc)
