-- The ordinals of a body.
use Rattle.std.proofs.Common.{◌≡◌, ℕ, zero, suc, ◌+◌, Bool, true, ◌&&◌, List, [], ◌∷◌, ◌++◌, length, map, refl, sym, ap, ap₂, ◌∙◌, Some, slice_get, subst, rules, arith, Vec, Option, length-append}
use Rattle.spec_modules.specs.Shape.{instr_preorder, preorder, size}
use Rattle.wtypes.specs.declared.ValType.{ValType}
use Rattle.std.specs.List.{list_all}
use Rattle.spec_modules.specs.Syntax as syntax
use Rattle.spec_modules.specs.Limits.{counts_from, first, second}
use Rattle.std.proofs.lemmas.Bool.{eqb-true}
use Rattle.wtypes.specs.declared.PlainInstr.{PlainInstr}
use Rattle.module_tree.specs.declared.instr.Instr.{Instr, Plain, BrTable, Block, Loop, If, out-Instr, fold_out-Instr, fold-Instr, fold-roll-Instr, roll-Instr, map-Instr, ind-Instr, the_lemmas}
use Rattle.module_tree.specs.declared.instr.Instr.TheOpen.{Instr-F}
use Rattle.module_tree.specs.declared.module.Func.{Func}
use Rattle.module_tree.specs.declared.module.Module.{Module}
use Rattle.module_tree.specs.View.{instr_view, instrs_view, view_step, instr_ordinals, ordinals, ordinals_step, ordinal_of, ordinal_step}
use Rattle.module_tree.specs.ModuleView.{func_view, func_ordinals, are_numbered}
use Rattle.spec_execution.specs.Configuration.{instr_size}
use Rattle.laws_reduction.specs.Meaning.{Item, numbered}
use Rattle.interp_state.specs.Steps.{AreNumbered}
use Rattle.interp_state.specs.Views.{item_of, items_of}

-- an instruction has as many ordinals as its syntax
abbrev Sized : (A : Type 0) → Instr A → Type 0
Sized A i = length (instr_ordinals i) ≡ instr_size (instr_view i)

abbrev bare : (A : Type 0) → (i : Instr A) × Sized A i → Instr A
bare A e = e.0

sized_all : (A : Type 0) (es : List ((i : Instr A) × Sized A i)) → length (ordinals (map (bare A) es)) ≡ size (instrs_view (map (bare A) es))
sized_all A [] = refl
sized_all A (e ∷ es) =
    length-append (instr_ordinals e.0) (ordinals (map (bare A) es)) ∙ ap₂ (λ (m n : ℕ). m + n) e.1 (sized_all A es) ∙ sym (length-append (instr_preorder (instr_view e.0)) (preorder (instrs_view (map (bare A) es))))

sized_at : (A : Type 0) (x : Instr-F A (Instr A)) → length (ordinals_step (map-Instr A (Instr A) (List ℕ) (fold-Instr A (List ℕ) ordinals_step) x)) ≡ instr_size (view_step (map-Instr A (Instr A) syntax.Instr (fold-Instr A syntax.Instr view_step) x)) → Sized A (roll-Instr A x)
sized_at A x e = ap length (fold-roll-Instr A (List ℕ) ordinals_step x) ∙ e ∙ ap instr_size (sym (fold-roll-Instr A syntax.Instr view_step x))

sized_step : (A : Type 0) (x : Instr-F A (Instr A)) (y : Instr-F A ((i : Instr A) × Sized A i)) → map-Instr A ((i : Instr A) × Sized A i) (Instr A) (bare A) y ≡ x → Sized A (roll-Instr A x)
sized_step A x (Instr-F.Plain n op) e = subst (λ x. Sized A (roll-Instr A x)) e (sized_at A (Instr-F.Plain n op) refl)
sized_step A x (Instr-F.BrTable n ls l) e = subst (λ x. Sized A (roll-Instr A x)) e (sized_at A _ refl)
sized_step A x (Instr-F.Block n r b) e = subst (λ x. Sized A (roll-Instr A x)) e (sized_at A _ (ap (λ (k : ℕ). suc k) (sized_all A b.items)))
sized_step A x (Instr-F.Loop n r b) e = subst (λ x. Sized A (roll-Instr A x)) e (sized_at A _ (ap (λ (k : ℕ). suc k) (sized_all A b.items)))
sized_step A x (Instr-F.If n r a b) e =
    subst (λ x. Sized A (roll-Instr A x)) e (sized_at A _ (ap (λ (k : ℕ). suc k)
    (length-append (ordinals (map (bare A) a.items)) (ordinals (map (bare A) b.items)) ∙ ap₂ (λ (m n : ℕ). m + n) (sized_all A a.items) (sized_all A b.items)
    ∙ sym (length-append (preorder (instrs_view (map (bare A) a.items))) (preorder (instrs_view (map (bare A) b.items)))))))

pub sized : (A : Type 0) (i : Instr A) → Sized A i
sized A = ind-Instr A (Sized A) (sized_step A)

sized_list : (A : Type 0) (is : List (Instr A)) → length (ordinals is) ≡ size (instrs_view is)
sized_list A [] = refl
sized_list A (i ∷ is) = length-append (instr_ordinals i) (ordinals is) ∙ ap₂ (λ (m n : ℕ). m + n) (sized A i) (sized_list A is) ∙ sym (length-append (instr_preorder (instr_view i)) (preorder (instrs_view is)))

pub plain_item : (A : Type 0) (n : ℕ) (op : PlainInstr) → item_of {A = A} (Plain n op) ≡ record { ordinal = n; instr = syntax.Plain op }
plain_item A n op =
    let v : instr_view {A = A} (Plain n op) ≡ syntax.Plain op = search (rules, the_lemmas) in
    let o : ordinal_of {A = A} (Plain n op) ≡ n = search (rules, the_lemmas) in
    ap₂ (λ (m : ℕ) (i : syntax.Instr). record { ordinal = m; instr = i }) o v

pub plain_view : (A : Type 0) (n : ℕ) (op : PlainInstr) → instr_view {A = A} (Plain n op) ≡ syntax.Plain op
plain_view A n op = search (rules, the_lemmas)

pub table_view : (A : Type 0) (n : ℕ) (ls : Vec ℕ A) (l : ℕ) → instr_view {A = A} (BrTable n ls l) ≡ syntax.BrTable ls.items l
table_view A n ls l = search (rules, the_lemmas)

pub block_view : (A : Type 0) (n : ℕ) (t : Option ValType) (b : Vec (Instr A) A) → instr_view {A = A} (Block n t b) ≡ syntax.Block t (instrs_view b.items)
block_view A n t b = search (rules, the_lemmas)

pub loop_view : (A : Type 0) (n : ℕ) (t : Option ValType) (b : Vec (Instr A) A) → instr_view {A = A} (Loop n t b) ≡ syntax.Loop t (instrs_view b.items)
loop_view A n t b = search (rules, the_lemmas)

pub if_view : (A : Type 0) (n : ℕ) (t : Option ValType) (a b : Vec (Instr A) A) → instr_view {A = A} (If n t a b) ≡ syntax.If t (instrs_view a.items) (instrs_view b.items)
if_view A n t a b = search (rules, the_lemmas)

-- ---- the ordinal of an instruction is the first of its ordinals

ordinals_at : {A : Type 0} (i : Instr A) (l : Instr-F A (Instr A)) → out-Instr A i ≡ l → instr_ordinals i ≡ ordinals_step (map-Instr A (Instr A) (List ℕ) (fold-Instr A (List ℕ) ordinals_step) l)
ordinals_at {A} i l e = fold_out-Instr A (List ℕ) ordinals_step i ∙ ap (λ x. ordinals_step (map-Instr A (Instr A) (List ℕ) (fold-Instr A (List ℕ) ordinals_step) x)) e

ordinal_at : {A : Type 0} (i : Instr A) (l : Instr-F A (Instr A)) → out-Instr A i ≡ l → ordinal_of i ≡ ordinal_step (map-Instr A (Instr A) ℕ (fold-Instr A ℕ ordinal_step) l)
ordinal_at {A} i l e = fold_out-Instr A ℕ ordinal_step i ∙ ap (λ x. ordinal_step (map-Instr A (Instr A) ℕ (fold-Instr A ℕ ordinal_step) x)) e

abbrev others : List ℕ → List ℕ
others [] = []
others (n ∷ ns) = ns

headed : (m : ℕ) (ns xs : List ℕ) → ns ≡ xs → xs ≡ m ∷ others xs → (k : ℕ) → k ≡ m → ns ≡ k ∷ others ns
headed m ns xs e h k f = e ∙ h ∙ ap₂ (λ (a : ℕ) (zs : List ℕ). a ∷ others zs) (sym f) (sym e)

head_layer : {A : Type 0} (i : Instr A) (l : Instr-F A (Instr A)) → out-Instr A i ≡ l → instr_ordinals i ≡ ordinal_of i ∷ others (instr_ordinals i)
head_layer i (Instr-F.Plain n op) e = headed n _ _ (ordinals_at i _ e) refl _ (ordinal_at i _ e)
head_layer i (Instr-F.BrTable n ls l) e = headed n _ _ (ordinals_at i _ e) refl _ (ordinal_at i _ e)
head_layer i (Instr-F.Block n t b) e = headed n _ _ (ordinals_at i _ e) refl _ (ordinal_at i _ e)
head_layer i (Instr-F.Loop n t b) e = headed n _ _ (ordinals_at i _ e) refl _ (ordinal_at i _ e)
head_layer i (Instr-F.If n t a b) e = headed n _ _ (ordinals_at i _ e) refl _ (ordinal_at i _ e)

head_is : {A : Type 0} (i : Instr A) → instr_ordinals i ≡ ordinal_of i ∷ others (instr_ordinals i)
head_is {A} i = head_layer i (out-Instr A i) refl

-- ---- a sequence of instructions that is numbered in preorder

counts_append : (n : ℕ) (xs ys : List ℕ) → counts_from n (xs ++ ys) ≡ true → (counts_from n xs ≡ true) × (counts_from (n + length xs) ys ≡ true)
counts_append n [] ys e = (refl, ap (λ m. counts_from m ys) (let z : n + 0 ≡ n = omega arith in z) ∙ e)
counts_append n (x ∷ xs) ys e =
    let r : (counts_from (n + 1) xs ≡ true) × (counts_from ((n + 1) + length xs) ys ≡ true) = counts_append (n + 1) xs ys (second _ _ e) in
    let z : n + suc (length xs) ≡ (n + 1) + length xs = omega arith in
    (ap₂ (λ (a b : Bool). a && b) (first _ _ e) r.0, ap (λ m. counts_from m ys) z ∙ r.1)

first_is : {A : Type 0} (n : ℕ) (i : Instr A) → counts_from n (instr_ordinals i) ≡ true → ordinal_of i ≡ n
first_is n i e = eqb-true (ordinal_of i) n (first _ _ (subst (λ (ns : List ℕ). counts_from n ns ≡ true) (head_is i) e))

pub items_numbered : {A : Type 0} (n : ℕ) (is : List (Instr A)) → counts_from n (ordinals is) ≡ true → items_of is ≡ numbered n (instrs_view is)
items_numbered n [] e = refl
items_numbered {A} n (i ∷ is) e =
    let r = counts_append n (instr_ordinals i) (ordinals is) e in
    ap₂ (λ (x : Item) (js : List Item). x ∷ js) (ap (λ m. record { ordinal = m; instr = instr_view i }) (first_is n i r.0))
    (items_numbered (n + length (instr_ordinals i)) is r.1 ∙ ap (λ k. numbered (n + k) (instrs_view is)) (sized A i))

pub are_numbered_all : {A : Type 0} (n : ℕ) (is : List (Instr A)) → counts_from n (ordinals is) ≡ true → AreNumbered is
are_numbered_all n [] e = tt
are_numbered_all n (i ∷ is) e =
    let r = counts_append n (instr_ordinals i) (ordinals is) e in
    (subst (λ m. counts_from m (instr_ordinals i) ≡ true) (sym (first_is n i r.0)) r.0, are_numbered_all (n + length (instr_ordinals i)) is r.1)

-- ---- the bodies of a numbered instruction

module _ (A : Type 0) (n : ℕ) (t : Option ValType) (b : Vec (Instr A) A) where
  block_ordinals : instr_ordinals {A = A} (Block n t b) ≡ n ∷ ordinals b.items
  block_ordinals = search (rules, the_lemmas)

  loop_ordinals : instr_ordinals {A = A} (Loop n t b) ≡ n ∷ ordinals b.items
  loop_ordinals = search (rules, the_lemmas)

  block_ordinal : ordinal_of {A = A} (Block n t b) ≡ n
  block_ordinal = search (rules, the_lemmas)

  loop_ordinal : ordinal_of {A = A} (Loop n t b) ≡ n
  loop_ordinal = search (rules, the_lemmas)

  pub block_body : (i : Instr A) → i ≡ Block n t b → counts_from (ordinal_of i) (instr_ordinals i) ≡ true → counts_from (n + 1) (ordinals b.items) ≡ true
  block_body i e h = second _ _ (subst (λ (ns : List ℕ). counts_from n ns ≡ true) (ap instr_ordinals e ∙ block_ordinals) (subst (λ m. counts_from m (instr_ordinals i) ≡ true) (ap ordinal_of e ∙ block_ordinal) h))

  pub loop_body : (i : Instr A) → i ≡ Loop n t b → counts_from (ordinal_of i) (instr_ordinals i) ≡ true → counts_from (n + 1) (ordinals b.items) ≡ true
  loop_body i e h = second _ _ (subst (λ (ns : List ℕ). counts_from n ns ≡ true) (ap instr_ordinals e ∙ loop_ordinals) (subst (λ m. counts_from m (instr_ordinals i) ≡ true) (ap ordinal_of e ∙ loop_ordinal) h))

  pub block_item : (i : Instr A) → i ≡ Block n t b → item_of i ≡ record { ordinal = n; instr = syntax.Block t (instrs_view b.items) }
  block_item i e = ap item_of e ∙ ap₂ (λ (m : ℕ) (x : syntax.Instr). record { ordinal = m; instr = x }) block_ordinal (block_view A n t b)

  pub loop_item : (i : Instr A) → i ≡ Loop n t b → item_of i ≡ record { ordinal = n; instr = syntax.Loop t (instrs_view b.items) }
  loop_item i e = ap item_of e ∙ ap₂ (λ (m : ℕ) (x : syntax.Instr). record { ordinal = m; instr = x }) loop_ordinal (loop_view A n t b)

module _ (A : Type 0) (n : ℕ) (t : Option ValType) (a b : Vec (Instr A) A) where
  if_ordinals : instr_ordinals {A = A} (If n t a b) ≡ n ∷ (ordinals a.items ++ ordinals b.items)
  if_ordinals = search (rules, the_lemmas)

  if_ordinal : ordinal_of {A = A} (If n t a b) ≡ n
  if_ordinal = search (rules, the_lemmas)

  pub if_bodies : (i : Instr A) → i ≡ If n t a b → counts_from (ordinal_of i) (instr_ordinals i) ≡ true → (counts_from (n + 1) (ordinals a.items) ≡ true) × (counts_from (n + 1 + size (instrs_view a.items)) (ordinals b.items) ≡ true)
  if_bodies i e h =
      let both : counts_from (n + 1) (ordinals a.items ++ ordinals b.items) ≡ true = second _ _ (subst (λ (ns : List ℕ). counts_from n ns ≡ true) (ap instr_ordinals e ∙ if_ordinals) (subst (λ m. counts_from m (instr_ordinals i) ≡ true) (ap ordinal_of e ∙ if_ordinal) h)) in
      let r = counts_append (n + 1) (ordinals a.items) (ordinals b.items) both in
      (r.0, subst (λ k. counts_from (n + 1 + k) (ordinals b.items) ≡ true) (sized_list A a.items) r.1)

  pub if_item : (i : Instr A) → i ≡ If n t a b → item_of i ≡ record { ordinal = n; instr = syntax.If t (instrs_view a.items) (instrs_view b.items) }
  if_item i e = ap item_of e ∙ ap₂ (λ (m : ℕ) (x : syntax.Instr). record { ordinal = m; instr = x }) if_ordinal (if_view A n t a b)

module _ (A : Type 0) (n : ℕ) (ls : Vec ℕ A) (l : ℕ) where
  table_ordinal : ordinal_of {A = A} (BrTable n ls l) ≡ n
  table_ordinal = search (rules, the_lemmas)

  pub table_item : (i : Instr A) → i ≡ BrTable n ls l → item_of i ≡ record { ordinal = n; instr = syntax.BrTable ls.items l }
  table_item i e = ap item_of e ∙ ap₂ (λ (m : ℕ) (x : syntax.Instr). record { ordinal = m; instr = x }) table_ordinal (table_view A n ls l)

all_at : {X : Type 0} (p : X → Bool) (xs : List X) (n : ℕ) (x : X) → list_all p xs ≡ true → slice_get xs n ≡ Some x → p x ≡ true
all_at p [] n x h e = absurd (cc)
all_at p (y ∷ ys) zero x h e = ap p (let same : x ≡ y = cc in same) ∙ first _ _ h
all_at p (y ∷ ys) (suc n) x h e = all_at p ys n x (second _ _ h) e

map_at : {X Y : Type 0} (f : X → Y) (xs : List X) (n : ℕ) (x : X) → slice_get xs n ≡ Some x → slice_get (map f xs) n ≡ Some (f x)
map_at f [] n x e = absurd (cc)
map_at f (y ∷ ys) zero x e = ap (λ z. Some (f z)) (let same : y ≡ x = cc in same)
map_at f (y ∷ ys) (suc n) x e = map_at f ys n x e

-- a function of a module
module _ {A : Type 0} (m : Module A) (n : ℕ) (g : Func A) (here : slice_get m.funcs.items n ≡ Some g) where
  pub body_counted : are_numbered m.funcs.items m.globals.items m.elements.items m.datas.items ≡ true → AreNumbered g.body.items
  body_counted e = are_numbered_all 0 g.body.items (all_at (counts_from 0) (map func_ordinals m.funcs.items) n (func_ordinals g) (first _ _ e) (map_at func_ordinals m.funcs.items n g here))

  pub body_numbered : are_numbered m.funcs.items m.globals.items m.elements.items m.datas.items ≡ true → items_of g.body.items ≡ numbered 0 (func_view g).body
  body_numbered e = items_numbered 0 g.body.items (all_at (counts_from 0) (map func_ordinals m.funcs.items) n (func_ordinals g) (first _ _ e) (map_at func_ordinals m.funcs.items n g here))
