-- Preorder and depth over a list of instructions, as far as a loop has come.
use Rattle.std.proofs.Common.{◌≡◌, ℕ, zero, suc, ◌+◌, ◌-◌, ◌<◌, max, List, [], ◌∷◌, ◌++◌, length, get_or, take, drop, map, Option, Some, refl, sym, ap, ◌∙◌, arith, rules, Vec, append_assoc, length-append}
use Rattle.std.specs.Prelude.{slice_get}
use Rattle.std.proofs.lemmas.List.{drop_more, take_more, map-append, take-append-drop}
use Rattle.spec_modules.specs.Syntax as syntax
use Rattle.spec_modules.specs.Shape.{instr_preorder, preorder, instr_depth, instrs_depth}
use Rattle.wtypes.specs.declared.ValType.{ValType}
use Rattle.module_tree.specs.declared.instr.Instr.{Instr, If, the_lemmas}
use Rattle.module_tree.specs.View.{join, instr_view, instrs_view, instr_ordinals, ordinals}
use Rattle.module_tree.specs.Numbering.{join_append, append_nil}

pub get_append_left : {X : Type 0} (xs ys : List X) (i : ℕ) (x : X) → slice_get xs i ≡ Some x → slice_get (xs ++ ys) i ≡ Some x
get_append_left [] ys i x e = cc
get_append_left (y ∷ xs) ys zero x e = e
get_append_left (y ∷ xs) ys (suc i) x e = get_append_left xs ys i x e

pub get_append_right : {X : Type 0} (xs ys : List X) (i j : ℕ) (o : Option X) → i + length xs ≡ j → slice_get ys i ≡ o → slice_get (xs ++ ys) j ≡ o
get_append_right [] ys i j o s e = ap (slice_get ys) (let q : j ≡ i = omega arith in q) ∙ e
get_append_right (y ∷ xs) ys i zero o s e = absurd (omega arith)
get_append_right (y ∷ xs) ys i (suc j) o s e = get_append_right xs ys i j o (omega arith) e

view_append : (xs ys : List syntax.Instr) → preorder (syntax.instrs_of (xs ++ ys)) ≡ preorder (syntax.instrs_of xs) ++ preorder (syntax.instrs_of ys)
view_append [] ys = refl
view_append (x ∷ xs) ys = ap (λ l. instr_preorder x ++ l) (view_append xs ys) ∙ sym (append_assoc (instr_preorder x) (preorder (syntax.instrs_of xs)) (preorder (syntax.instrs_of ys)))

pub view_If : {A : Type 0} (n : ℕ) (r : Option ValType) (t e : Vec (Instr A) A) → instr_view (If n r t e) ≡ syntax.If r (instrs_view t.items) (instrs_view e.items)
view_If n r t e = search (rules, the_lemmas)

module _ {A : Type 0} (is : List (Instr A)) (x : Instr A) (i : ℕ) (lt : i < length is) (at : x ≡ get_or is i x) where
  -- the instructions from i on
  pub drop_next : instrs_view (drop i is) ≡ syntax.seq (instr_view x) (instrs_view (drop (i + 1) is))
  drop_next = ap instrs_view (drop_more is i x lt) ∙ ap (λ y. syntax.seq (instr_view y) (instrs_view (drop (i + 1) is))) (sym at)

  pub depth_next : (d : ℕ) → max (max d (instr_depth (instr_view x))) (instrs_depth (instrs_view (drop (i + 1) is))) ≡ max d (instrs_depth (instrs_view (drop i is)))
  depth_next d =
      let e = ap instrs_depth drop_next in
      omega (arith, e)

  pub count_next : length (preorder (instrs_view (drop i is))) ≡ length (instr_preorder (instr_view x)) + length (preorder (instrs_view (drop (i + 1) is)))
  count_next = ap (λ l. length (preorder l)) drop_next ∙ length-append (instr_preorder (instr_view x)) (preorder (instrs_view (drop (i + 1) is)))

  -- the places before the instruction after i
  pub take_next : preorder (instrs_view (take (i + 1) is)) ≡ preorder (instrs_view (take i is)) ++ instr_preorder (instr_view x)
  take_next =
      ap (λ l. preorder (instrs_view l)) (take_more is i x lt ∙ ap (λ y. take i is ++ y ∷ []) (sym at))
      ∙ ap (λ l. preorder (syntax.instrs_of l)) (map-append instr_view (take i is) (x ∷ []))
      ∙ view_append (map instr_view (take i is)) (instr_view x ∷ [])
      ∙ ap (λ l. preorder (instrs_view (take i is)) ++ l) (append_nil (instr_preorder (instr_view x)))
    where
      append_nil : (l : List syntax.Instr) → l ++ [] ≡ l
      append_nil [] = refl
      append_nil (y ∷ l) = ap (λ k. y ∷ k) (append_nil l)

  split_here : preorder (instrs_view is) ≡ preorder (instrs_view (take i is)) ++ (instr_preorder (instr_view x) ++ preorder (instrs_view (drop (i + 1) is)))
  split_here =
      ap (λ l. preorder (instrs_view l)) (sym (take-append-drop i is))
      ∙ ap (λ l. preorder (syntax.instrs_of l)) (map-append instr_view (take i is) (drop i is))
      ∙ view_append (map instr_view (take i is)) (map instr_view (drop i is))
      ∙ ap (λ l. preorder (instrs_view (take i is)) ++ preorder l) drop_next

  pub find_here : (left ordinal : ℕ) (o : syntax.Instr) → left + length (preorder (instrs_view (take i is))) ≡ ordinal
      → slice_get (instr_preorder (instr_view x)) left ≡ Some o → slice_get (preorder (instrs_view is)) ordinal ≡ Some o
  find_here left ordinal o s e =
      ap (λ l. slice_get l ordinal) split_here
      ∙ get_append_right (preorder (instrs_view (take i is))) _ left ordinal (Some o) s (get_append_left (instr_preorder (instr_view x)) _ left o e)

  pub find_on : (left behind ordinal : ℕ) → left + length (preorder (instrs_view (take i is))) ≡ ordinal
      → behind + length (instr_preorder (instr_view x)) ≡ left → behind + length (preorder (instrs_view (take (i + 1) is))) ≡ ordinal
  find_on left behind ordinal s e =
      omega (arith, ap length take_next, length-append (preorder (instrs_view (take i is))) (instr_preorder (instr_view x)))

  -- the ordinals before the instruction after i
  take_ordinals : ordinals (take (i + 1) is) ≡ ordinals (take i is) ++ instr_ordinals x
  take_ordinals =
      ap ordinals (take_more is i x lt ∙ ap (λ y. take i is ++ y ∷ []) (sym at))
      ∙ ap join (map-append instr_ordinals (take i is) (x ∷ []))
      ∙ join_append (map instr_ordinals (take i is)) (instr_ordinals x ∷ [])
      ∙ ap (λ l. ordinals (take i is) ++ l) (append_nil (instr_ordinals x))

  split_ordinals : ordinals is ≡ ordinals (take i is) ++ (instr_ordinals x ++ ordinals (drop (i + 1) is))
  split_ordinals =
      ap ordinals (sym (take-append-drop i is))
      ∙ ap join (map-append instr_ordinals (take i is) (drop i is))
      ∙ join_append (map instr_ordinals (take i is)) (map instr_ordinals (drop i is))
      ∙ ap (λ l. ordinals (take i is) ++ ordinals l) (drop_more is i x lt)
      ∙ ap (λ y. ordinals (take i is) ++ (instr_ordinals y ++ ordinals (drop (i + 1) is))) (sym at)

  pub carried_here : (left ordinal n : ℕ) → left + length (ordinals (take i is)) ≡ ordinal
      → slice_get (instr_ordinals x) left ≡ Some n → slice_get (ordinals is) ordinal ≡ Some n
  carried_here left ordinal n s e =
      ap (λ l. slice_get l ordinal) split_ordinals
      ∙ get_append_right (ordinals (take i is)) _ left ordinal (Some n) s (get_append_left (instr_ordinals x) _ left n e)

  pub carried_on : (left behind ordinal : ℕ) → left + length (ordinals (take i is)) ≡ ordinal
      → behind + length (instr_ordinals x) ≡ left → behind + length (ordinals (take (i + 1) is)) ≡ ordinal
  carried_on left behind ordinal s e =
      omega (arith, ap length take_ordinals, length-append (ordinals (take i is)) (instr_ordinals x))

-- the place n of a choice
pub in_then : (r : Option ValType) (t e : syntax.Instrs) (n : ℕ) (o : syntax.Instr) → (n ≡ 0 → ⊥) → slice_get (preorder t) (n - 1) ≡ Some o → slice_get (instr_preorder (syntax.If r t e)) n ≡ Some o
in_then r t e zero o ne h = absurd (ne refl)
in_then r t e (suc n) o ne h =
    let s : suc n - 1 ≡ n = omega arith in
    get_append_left (preorder t) (preorder e) n o (ap (slice_get (preorder t)) (sym s) ∙ h)

pub in_else : (r : Option ValType) (t e : syntax.Instrs) (n left : ℕ) (o : syntax.Instr) → (n ≡ 0 → ⊥) → left + length (preorder t) ≡ n - 1 → slice_get (preorder e) left ≡ Some o → slice_get (instr_preorder (syntax.If r t e)) n ≡ Some o
in_else r t e zero left o ne s h = absurd (ne refl)
in_else r t e (suc n) left o ne s h = get_append_right (preorder t) (preorder e) left n (Some o) (omega arith) h

pub past_if : (r : Option ValType) (t e : syntax.Instrs) (n left behind : ℕ) → (n ≡ 0 → ⊥) → left + length (preorder t) ≡ n - 1 → behind + length (preorder e) ≡ left → behind + length (instr_preorder (syntax.If r t e)) ≡ n
past_if r t e n left behind ne s h = omega (arith, length-append (preorder t) (preorder e))

-- the same of the ordinals
pub carried_then : (first : ℕ) (ts es : List ℕ) (n o : ℕ) → (n ≡ 0 → ⊥) → slice_get ts (n - 1) ≡ Some o → slice_get (first ∷ (ts ++ es)) n ≡ Some o
carried_then first ts es zero o ne h = absurd (ne refl)
carried_then first ts es (suc n) o ne h =
    let s : suc n - 1 ≡ n = omega arith in
    get_append_left ts es n o (ap (slice_get ts) (sym s) ∙ h)

pub carried_else : (first : ℕ) (ts es : List ℕ) (n left o : ℕ) → (n ≡ 0 → ⊥) → left + length ts ≡ n - 1 → slice_get es left ≡ Some o → slice_get (first ∷ (ts ++ es)) n ≡ Some o
carried_else first ts es zero left o ne s h = absurd (ne refl)
carried_else first ts es (suc n) left o ne s h = get_append_right ts es left n (Some o) (omega arith) h

pub carried_past : (first : ℕ) (ts es : List ℕ) (n left behind : ℕ) → (n ≡ 0 → ⊥) → left + length ts ≡ n - 1 → behind + length es ≡ left → behind + length (first ∷ (ts ++ es)) ≡ n
carried_past first ts es n left behind ne s h = omega (arith, length-append ts es)
