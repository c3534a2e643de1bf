-- A branch to a loop that stays open.
use Rattle.std.proofs.Common.{◌≡◌, ◌==◌, ℕ, ◌+◌, ◌-◌, ◌≤◌, ◌<◌, false, true, List, [], ◌∷◌, ◌++◌, length, take, drop, sym, ap, ◌∙◌, subst, arith, Option, Vec, slice_index_or}
use Rattle.std.proofs.lemmas.List.{take_more}
use Rattle.wtypes.specs.declared.ValType.{ValType}
use Rattle.module_tree.specs.declared.instr.Instr.{Instr, Loop}
use Rattle.module_tree.specs.View.{instrs_view, ordinals}
use Rattle.spec_modules.specs.Limits.{counts_from}
use Rattle.interp_state.specs.declared.parts.Entry.{Entry}
use Rattle.interp_state.specs.declared.parts.Kind.TheVariants as kind
use Rattle.interp_state.specs.declared.parts.Parts.{Parts}
use Rattle.laws_reduction.specs.Meaning.{Open, frames}
use Rattle.laws_reduction.specs.Branches.{IsTarget}
use Rattle.interp_state.specs.Branches.{IsLoop, IsNoLoop, LeadsToLoop, Repeats}
use Rattle.interp_state.specs.Steps.{IsCounted, AreNumbered, EachNumbered}
use Rattle.interp_state.specs.Views.{open_of, opens_of, items_of, scope_of}
use Rattle.interp_state.specs.ViewLaws.{items_cons, opens_push}
use Rattle.interp_state.specs.Numbering.{loop_item, loop_body, items_numbered, are_numbered_all}
use Rattle.interp_state.proofs.Jumping.{label_below, opens_left, each_take, each_split}

-- the first of a list that is read
pub first_read : {X : Type 0} (xs : List X) (x : X) → (length xs == 0) ≡ false → x ≡ slice_index_or xs 0 x → xs ≡ x ∷ drop 1 xs
first_read [] x h e = absurd (cc)
first_read (y ∷ ys) x h e = ap (λ z. z ∷ ys) (sym e)

-- an entry that is found to be a loop
pub loop_found : {A : Type 0} (e : Entry A) (i : Instr A) (n : ℕ) (t : Option ValType) (b : Vec (Instr A) A) (body : List (Instr A)) → e.kind ≡ kind.Loop → e.arity ≡ 0 → e.from.now ≡ i ∷ drop 1 e.from.now → i ≡ Loop n t b → body ≡ b.items → IsLoop e body
loop_found {A} e i n t b body is none from found same = record {
  ordinal = n;
  result = t;
  instrs = instrs_view b.items;
  after = items_of (drop 1 e.from.now);
  scope = ap scope_of is;
  none_kept = none;
  from = items_cons i (drop 1 e.from.now) e.from.now from ∙ ap (λ x. x ∷ items_of (drop 1 e.from.now)) (loop_item A n t b i found);
  code = λ h. ap items_of same ∙ items_numbered (n + 1) b.items (counts h);
  numbered_body = λ h. subst (λ (is : List (Instr A)). AreNumbered is) (sym same) (are_numbered_all (n + 1) b.items (counts h));
}
  where
    counts : AreNumbered e.from.now → counts_from (n + 1) (ordinals b.items) ≡ true
    counts h = loop_body A n t b i found (subst (λ (is : List (Instr A)). AreNumbered is) from h).0

-- the innermost entry that is left is this loop
module _ {A : Type 0} (p q : Parts A) (l : ℕ) (e : Entry A) (body : List (Instr A)) (target : IsTarget (opens_of p.entries.items) p.stack.items (drop l (opens_of p.entries.items))) (loop : IsLoop e body)
    (read : e ≡ slice_index_or p.entries.items (length p.entries.items - l - 1) e) (left : q.entries.items ≡ take (length p.entries.items - l) p.entries.items) (code : q.code.now ≡ body) (counted : IsCounted p) where
  abbrev es : List (Entry A)
  es = p.entries.items

  abbrev below : ℕ
  below = length es - l - 1

  enough : l + 1 ≤ length es
  enough = label_below l es target.entry target.outside target.there

  split : take (length es - l) es ≡ take below es ++ e ∷ []
  split =
      let more : length es - l ≡ below + 1 = omega (arith, enough) in
      let lt : below < length es = omega (arith, enough) in
      ap (λ n. take n es) more ∙ take_more es below e lt ∙ ap (λ x. take below es ++ x ∷ []) (sym read)

  opens_are : opens_of q.entries.items ≡ drop l (opens_of es)
  opens_are = ap opens_of left ∙ opens_left l es (let le : l ≤ length es = omega (arith, enough) in le)

  opens_there : drop l (opens_of es) ≡ open_of e ∷ opens_of (take below es)
  opens_there = sym opens_are ∙ ap opens_of (left ∙ split) ∙ opens_push (take below es) e

  each_left : EachNumbered (take (length es - l) es)
  each_left = each_take (length es - l) es counted.each

  numbered_from : AreNumbered e.from.now
  numbered_from = (each_split (take below es) e (subst (λ (xs : List (Entry A)). EachNumbered xs) split each_left)).1

  pub repeats_is : q.stack.items ≡ take e.height p.stack.items → q.locals.items ≡ p.locals.items → q.instance ≡ p.instance → Repeats p (drop l (opens_of es)) q
  repeats_is stack locals untouched = record {
    entry = open_of e;
    outside = opens_of (take below es);
    ordinal = loop.ordinal;
    result = loop.result;
    body = loop.instrs;
    after = loop.after;
    there = opens_there;
    scope = loop.scope;
    none_kept = loop.none_kept;
    from = loop.from;
    entries = opens_are ∙ opens_there;
    stack = stack;
    locals = locals;
    instance = untouched;
    code = ap items_of code ∙ loop.code numbered_from;
  }

  pub repeats_counted : q.depth ≡ p.depth → IsCounted q
  repeats_counted same = record {
    count = same ∙ counted.count ∙ target.same_frames ∙ ap (λ os. frames os 0) (sym opens_are);
    few = (let few = counted.few in omega (arith, same, few));
    code = subst (λ (is : List (Instr A)). AreNumbered is) (sym code) (loop.numbered_body numbered_from);
    each = subst (λ (xs : List (Entry A)). EachNumbered xs) (sym left) each_left;
  }

-- an entry that is no such loop, so that a branch to it leads to none
pub leads_to_none : {A : Type 0} (p : Parts A) (l : ℕ) (e : Entry A) → IsTarget (opens_of p.entries.items) p.stack.items (drop l (opens_of p.entries.items)) → e ≡ slice_index_or p.entries.items (length p.entries.items - l - 1) e → IsNoLoop e
    → LeadsToLoop (drop l (opens_of p.entries.items)) → ⊥
leads_to_none p l e target read none leads =
    let es : List (Entry _) = p.entries.items in
    let enough : l + 1 ≤ length es = label_below l es target.entry target.outside target.there in
    let le : l ≤ length es = omega (arith, enough) in
    let more : length es - l ≡ length es - l - 1 + 1 = omega (arith, enough) in
    let lt : length es - l - 1 < length es = omega (arith, enough) in
    let split : take (length es - l) es ≡ take (length es - l - 1) es ++ e ∷ [] = ap (λ n. take n es) more ∙ take_more es (length es - l - 1) e lt ∙ ap (λ x. take (length es - l - 1) es ++ x ∷ []) (sym read) in
    let there : open_of e ∷ opens_of (take (length es - l - 1) es) ≡ leads.entry ∷ leads.outside = sym (opens_push (take (length es - l - 1) es) e) ∙ ap opens_of (sym split) ∙ opens_left l es le ∙ leads.there in
    let head : open_of e ≡ leads.entry = cc in
    none leads.ordinal leads.result leads.body leads.after (ap (λ (o : Open). o.scope) head ∙ leads.scope) (ap (λ (o : Open). o.arity) head ∙ leads.none_kept) (ap (λ (o : Open). o.from) head ∙ leads.from)
