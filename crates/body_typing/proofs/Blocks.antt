-- Steps of the checker at a block.
use Rattle.std.proofs.Common.{◌≡◌, ℕ, ◌+◌, ◌<◌, Bool, true, false, List, [], ◌∷◌, ◌++◌, Option, Some, None, Err, Vec, length, get_or, drop, reverse, option_and_then, true≢false, refl, sym, ap, subst, ◌∙◌, rules}
use Rattle.std.proofs.lemmas.List.{reverse-append}
use Rattle.wtypes.specs.declared.ValType.{ValType}
use Rattle.spec_modules.specs.Syntax as syntax
use Rattle.spec_typing.specs.Typing.{Context, of, in_block, Typed}
use Rattle.spec_typing.specs.Modules as modules
use Rattle.spec_typing.specs.Principal.{Stack, empty, guard, step, run, ends}
use Rattle.module_tree.specs.declared.instr.Instr.{Instr, the_lemmas}
use Rattle.module_tree.specs.declared.instr.Instr as tree
use Rattle.module_tree.specs.View.{instr_view, instrs_view}
use Rattle.std.proofs.lemmas.List.{drop_more}
use Rattle.body_typing.specs.declared.scope.Scope.{Scope}
use Rattle.spec_typing.proofs.Sound.{run_some, ended}
use Rattle.spec_typing.proofs.Complete.{run_gives, ends_gives}
use Rattle.body_typing.specs.declared.scope.TypeRefusal.{TypeRefusal}
use Rattle.body_typing.specs.declared.scope.TypeRefusal.TheVariants.{At, NoMemory}
use Rattle.body_typing.specs.CheckResults.{context_at, Meets, Gives, Tells}

-- the instructions from one on
drop_next : {A : Type 0} (is : List (Instr A)) (x : Instr A) (i : ℕ) → i < length is → x ≡ get_or is i x → instrs_view (drop i is) ≡ syntax.seq (instr_view x) (instrs_view (drop (i + 1) is))
drop_next is x i lt at = ap instrs_view (drop_more is i x lt) ∙ ap (λ y. syntax.seq (instr_view y) (instrs_view (drop (i + 1) is))) (sym at)

-- within one more block
pub inside : {A W : _} (scope : Scope A W) (labels labels' : List (Option ValType)) (label : Option ValType) → labels' ≡ labels ++ (label ∷ []) →
    context_at scope labels' ≡ in_block label (context_at scope labels)
inside scope labels labels' label e = ap (λ ls. record (context_at scope []) { labels = ls }) (ap reverse e ∙ reverse-append labels (label ∷ []))

-- one more instruction
pub one_more : {A : _} (c : Context) (body : List (Instr A)) (x : Instr A) (i : ℕ) (s : Stack) → i < length body → x ≡ get_or body i x →
    run c (instrs_view (drop i body)) s ≡ option_and_then (run c (instrs_view (drop (i + 1) body))) (step c (instr_view x) s)
one_more c body x i s lt at = ap (λ is. run c is s) (drop_next body x i lt at)

always_none : {X Y : Type 0} (b : Bool) (x : X) (o : Option Y) → o ≡ None → option_and_then (λ _. o) (guard b x) ≡ None
always_none true x o e = e
always_none false x o e = refl

unguarded : {X Y : Type 0} (b : Bool) (x : X) (o : Option Y) → b ≡ false → option_and_then (λ _. o) (guard b x) ≡ None
unguarded true x o h = absurd (true≢false h)
unguarded false x o h = refl

pub view_If : {A : Type 0} (n : ℕ) (r : Option ValType) (t e : Vec (Instr A) A) → instr_view (tree.If n r t e) ≡ syntax.If r (instrs_view t.items) (instrs_view e.items)
view_If n r t e = search (rules, the_lemmas)

-- an empty else with a result
pub at_if_else : {A : Type 0} (c : Context) (i : Instr A) (n : ℕ) (r : Option ValType) (t e : Vec (Instr A) A) (s : Stack) → i ≡ tree.If n r t e →
    ((c : Context) → ends r (run c (instrs_view e.items) empty) ≡ false) → step c (instr_view i) s ≡ None
at_if_else c i n r t e s is h =
    ap (λ i. step c i s) (ap instr_view is ∙ view_If n r t e) ∙ always_none _ s _ (unguarded _ s _ (h (in_block r c)))

-- a refusal at an instruction is one of the sequence
pub all_refused : {A W : _} (T U : Type 0) (view : U → Stack) (e : TypeRefusal) (scope : Scope A W) (labels labels' : List (Option ValType)) (label : Option ValType)
    (body : List (Instr A)) (x : Instr A) (i : ℕ) (s after : Stack) → i < length body → x ≡ get_or body i x → labels' ≡ labels ++ (label ∷ []) →
    run (in_block label (context_at scope labels)) (instrs_view (drop i body)) s ≡ run (in_block label (context_at scope labels)) (instrs_view body) empty →
    Meets {T = T} (Err e) after (step (context_at scope labels') (instr_view x) s) →
    Gives {T = U} view (Err e) (run (in_block label (context_at scope labels)) (instrs_view body) empty)
all_refused T U view NoMemory scope labels labels' label body x i s after lt at same kept m = tt
all_refused T U view (At f n k) scope labels labels' label body x i s after lt at same kept m =
    let c = in_block label (context_at scope labels) in
    sym kept ∙ (one_more c body x i s lt at ∙ ap (option_and_then (run c (instrs_view (drop (i + 1) body)))) (ap (λ c. step c (instr_view x) s) (sym (inside scope labels labels' label same)) ∙ m))

pub all_goes_on : {A W : _} (scope : Scope A W) (labels labels' : List (Option ValType)) (label : Option ValType)
    (body : List (Instr A)) (x : Instr A) (i : ℕ) (s after : Stack) → i < length body → x ≡ get_or body i x → labels' ≡ labels ++ (label ∷ []) →
    run (in_block label (context_at scope labels)) (instrs_view (drop i body)) s ≡ run (in_block label (context_at scope labels)) (instrs_view body) empty →
    step (context_at scope labels') (instr_view x) s ≡ Some after →
    run (in_block label (context_at scope labels)) (instrs_view (drop (i + 1) body)) after ≡ run (in_block label (context_at scope labels)) (instrs_view body) empty
all_goes_on scope labels labels' label body x i s after lt at same kept m =
    let c = in_block label (context_at scope labels) in
    sym (one_more c body x i s lt at ∙ ap (option_and_then (run c (instrs_view (drop (i + 1) body)))) (ap (λ c. step c (instr_view x) s) (sym (inside scope labels labels' label same)) ∙ m)) ∙ kept

-- the same where no block begins with the sequence
pub left_refused : {A W : _} (T U : Type 0) (view : U → Stack) (e : TypeRefusal) (scope : Scope A W) (labels labels' : List (Option ValType)) (body : List (Instr A)) (x : Instr A) (i : ℕ) (s after : Stack) →
    i < length body → x ≡ get_or body i x → labels' ≡ labels → run (context_at scope labels) (instrs_view (drop i body)) s ≡ run (context_at scope labels) (instrs_view body) empty →
    Meets {T = T} (Err e) after (step (context_at scope labels') (instr_view x) s) → Gives {T = U} view (Err e) (run (context_at scope labels) (instrs_view body) empty)
left_refused T U view NoMemory scope labels labels' body x i s after lt at same kept m = tt
left_refused T U view (At f n k) scope labels labels' body x i s after lt at same kept m =
    let c = context_at scope labels in
    sym kept ∙ (one_more c body x i s lt at ∙ ap (option_and_then (run c (instrs_view (drop (i + 1) body)))) (ap (λ ls. step (context_at scope ls) (instr_view x) s) (sym same) ∙ m))

pub left_goes_on : {A W : _} (scope : Scope A W) (labels labels' : List (Option ValType)) (body : List (Instr A)) (x : Instr A) (i : ℕ) (s after : Stack) →
    i < length body → x ≡ get_or body i x → labels' ≡ labels → run (context_at scope labels) (instrs_view (drop i body)) s ≡ run (context_at scope labels) (instrs_view body) empty →
    step (context_at scope labels') (instr_view x) s ≡ Some after → run (context_at scope labels) (instrs_view (drop (i + 1) body)) after ≡ run (context_at scope labels) (instrs_view body) empty
left_goes_on scope labels labels' body x i s after lt at same kept m =
    let c = context_at scope labels in
    sym (one_more c body x i s lt at ∙ ap (option_and_then (run c (instrs_view (drop (i + 1) body)))) (ap (λ ls. step (context_at scope ls) (instr_view x) s) (sym same) ∙ m)) ∙ kept

-- a body's context, as its scope gives it
pub body_context : (spaces : modules.Spaces) (type : syntax.FuncType) (locals all : List ValType) (result : Option ValType) (labels : List (Option ValType)) →
    labels ≡ [] → all ≡ type.params ++ locals → result ≡ modules.result_of type.results →
    record (modules.context_of spaces type locals) { locals = all; labels = result ∷ reverse labels; result = result } ≡ modules.context_of spaces type locals
body_context spaces type locals all result labels none params same =
    ap (λ ls. record (modules.context_of spaces type locals) { locals = all; labels = result ∷ reverse ls; result = result }) none
    ∙ (ap (λ all. record (modules.context_of spaces type locals) { locals = all; labels = result ∷ []; result = result }) params
    ∙ ap (λ result. record (modules.context_of spaces type locals) { labels = result ∷ []; result = result }) same)

pub body_refused : (T U : Type 0) (view : U → Stack) (e : TypeRefusal) (c : Context) (r : Option ValType) (body : syntax.Instrs) →
    Gives {T = U} view (Err e) (run c body empty) → Tells {T = T} (Err e) (Typed c body [] (of r))
body_refused T U view NoMemory c r body h = tt
body_refused T U view (At f n k) c r body h = λ t. never (run c body empty) h (ends_gives r (run c body empty) (run_gives body c empty [] (of r) t refl))
  where
    never : (o : Option Stack) → o ≡ None → ends r o ≡ true → ⊥
    never None e h = cc
    never (Some s) e h = cc

pub body_ends : (c : Context) (r : Option ValType) (body : syntax.Instrs) (left : Stack) → run c body empty ≡ Some left → ends r (Some left) ≡ true → Typed c body [] (of r)
body_ends c r body left e h = ended r (run c body empty) (Typed c body) (run_some body c empty) (ap (ends r) e ∙ h)

pub body_fails : (c : Context) (r : Option ValType) (body : syntax.Instrs) (left : Stack) → run c body empty ≡ Some left → ends r (Some left) ≡ false → Typed c body [] (of r) → ⊥
body_fails c r body left e h t = true≢false (sym (ends_gives r (run c body empty) (run_gives body c empty [] (of r) t refl)) ∙ (ap (ends r) e ∙ h))

-- what is told of a body in its scope's context is told of it in the module
pub told : (T : Context → Option ValType → Type 0) (spaces : modules.Spaces) (type : syntax.FuncType) (locals all : List ValType) (result : Option ValType) (labels : List (Option ValType)) →
    labels ≡ [] → all ≡ type.params ++ locals → result ≡ modules.result_of type.results →
    T (record (modules.context_of spaces type locals) { locals = all; labels = result ∷ reverse labels; result = result }) result →
    T (modules.context_of spaces type locals) (modules.result_of type.results)
told T spaces type locals all result labels none params same h =
    let P : Context → Type 0 = λ c. T c result in
    let Q : Option ValType → Type 0 = λ r. T (modules.context_of spaces type locals) r in
    subst Q same (subst P (body_context spaces type locals all result labels none params same) h)
