-- What stands at the end of a buffer, as far as a loop has come.
use Rattle.std.proofs.Common.{◌≡◌, ℕ, ◌+◌, ◌<◌, true, List, [], ◌∷◌, ◌++◌, length, get_or, take, map, refl, sym, ap, ap₂, ◌∙◌, arith, append_assoc, rules, Option, Vec}
use Rattle.std.proofs.lemmas.List.{take_more}
use Rattle.wtypes.specs.declared.ValType.{ValType}
use Rattle.wtypes.specs.declared.ValType.TheVariants as valtype
use Rattle.spec_modules.specs.Syntax as syntax
use Rattle.spec_modules.specs.Shortest.{run_bytes, byte_bytes, instr_bytes, instrs_bytes, maximal_runs, before_runs, same_type, closing_bytes}
use Rattle.spec_modules.specs.Opcodes.{result_code}
use Rattle.module_tree.specs.declared.instr.Instr.{Instr, If, the_lemmas}
use Rattle.module_tree.specs.View.{instr_view, instrs_view}

pub front_on : (old mid new rest : List ℕ) → mid ≡ old ++ rest → take (length mid) new ≡ mid → take (length old) new ≡ old
front_on [] mid new rest e f = refl
front_on (x ∷ old) [] new rest e f = absurd cc
front_on (x ∷ old) (y ∷ mid) [] rest e f = absurd cc
front_on (x ∷ old) (y ∷ mid) (z ∷ new) rest e f =
    let h : z ≡ x = cc in
    let t : mid ≡ old ++ rest = cc in
    let u : take (length mid) new ≡ mid = cc in
    ap₂ (λ a b. a ∷ b) h (front_on old mid new rest t u)

append_nil : {X : Type 0} (l : List X) → l ++ [] ≡ l
append_nil [] = refl
append_nil (x ∷ l) = ap (λ k. x ∷ k) (append_nil l)

pub run_bytes-bytes : (bs : List ℕ) → run_bytes byte_bytes bs ≡ bs
run_bytes-bytes [] = refl
run_bytes-bytes (b ∷ bs) = ap (λ l. b ∷ l) (run_bytes-bytes bs)

run_append : {X : Type 0} (f : X → List ℕ) (xs ys : List X) → run_bytes f (xs ++ ys) ≡ run_bytes f xs ++ run_bytes f ys
run_append f [] ys = refl
run_append f (x ∷ xs) ys = ap (λ l. f x ++ l) (run_append f xs ys) ∙ sym (append_assoc (f x) (run_bytes f xs) (run_bytes f ys))

pub run_map : {X Y : Type 0} (f : Y → List ℕ) (v : X → Y) (xs : List X) → run_bytes f (map v xs) ≡ run_bytes (λ x. f (v x)) xs
run_map f v [] = refl
run_map f v (x ∷ xs) = ap (λ l. f (v x) ++ l) (run_map f v xs)

pub run_more : {X : Type 0} (f : X → List ℕ) (xs : List X) (x : X) (i : ℕ) → i < length xs → x ≡ get_or xs i x
    → (old mid new : List ℕ) → mid ≡ old ++ run_bytes f (take i xs) → new ≡ mid ++ f x → new ≡ old ++ run_bytes f (take (i + 1) xs)
run_more f xs x i lt at old mid new before now =
    let all : run_bytes f (take (i + 1) xs) ≡ run_bytes f (take i xs) ++ f x =
    ap (run_bytes f) (take_more xs i x lt ∙ ap (λ y. take i xs ++ y ∷ []) (sym at)) ∙ run_append f (take i xs) (x ∷ []) ∙ ap (λ l. run_bytes f (take i xs) ++ l) (append_nil (f x)) in
    now ∙ ap (λ l. l ++ f x) before ∙ append_assoc old (run_bytes f (take i xs)) (f x) ∙ ap (λ l. old ++ l) (sym all)

instrs_run : (is : List syntax.Instr) → instrs_bytes (syntax.instrs_of is) ≡ run_bytes instr_bytes is
instrs_run [] = refl
instrs_run (i ∷ is) = ap (λ l. instr_bytes i ++ l) (instrs_run is)

pub view_run : {A : Type 0} (is : List (Instr A)) → instrs_bytes (instrs_view is) ≡ run_bytes (λ i. instr_bytes (instr_view i)) is
view_run is = instrs_run (map instr_view is) ∙ run_map instr_bytes instr_view is

-- ---- Runs of locals

same : (t : ValType) → same_type t t ≡ true
same valtype.I32 = refl
same valtype.I64 = refl

pub same_type-true : (t u : ValType) → same_type t u ≡ true → t ≡ u
same_type-true valtype.I32 valtype.I32 e = refl
same_type-true valtype.I32 valtype.I64 e = absurd cc
same_type-true valtype.I64 valtype.I32 e = absurd cc
same_type-true valtype.I64 valtype.I64 e = refl

-- the first run is of the first type
begins : (t : ValType) (rs : List (ℕ × ValType)) → (k : ℕ) × (os : List (ℕ × ValType)) × (before_runs t rs ≡ (k, t) ∷ os)
begins t [] = (1, [], refl)
begins valtype.I32 ((n, valtype.I32) ∷ rs) = (n + 1, rs, refl)
begins valtype.I32 ((n, valtype.I64) ∷ rs) = (1, (n, valtype.I64) ∷ rs, refl)
begins valtype.I64 ((n, valtype.I32) ∷ rs) = (1, (n, valtype.I32) ∷ rs, refl)
begins valtype.I64 ((n, valtype.I64) ∷ rs) = (n + 1, rs, refl)

before_same : (t : ValType) (k : ℕ) (os : List (ℕ × ValType)) → before_runs t ((k, t) ∷ os) ≡ (k + 1, t) ∷ os
before_same t k os = rw (same t) refl

pub same_run : (t u : ValType) (us : List ValType) (n : ℕ) (os : List (ℕ × ValType)) → same_type t u ≡ true → maximal_runs (t ∷ us) ≡ (n, t) ∷ os → maximal_runs (t ∷ u ∷ us) ≡ (n + 1, t) ∷ os
same_run t u us n os e f =
    let same_one : t ≡ u = same_type-true t u e in
    ap (λ v. before_runs t (before_runs v (maximal_runs us))) (sym same_one) ∙ ap (before_runs t) f ∙ before_same t n os

pub no_more : (t : ValType) → maximal_runs (t ∷ []) ≡ (1, t) ∷ maximal_runs []
no_more t = refl

-- ---- A choice with an else part

pub view_If : {A : Type 0} (n : ℕ) (r : Option ValType) (t e : Vec (Instr A) A) → instr_view (If n r t e) ≡ syntax.If r (instrs_view t.items) (instrs_view e.items)
view_If n r t e = search (rules, the_lemmas)

closing_else : {A : Type 0} (a : List ℕ) (es : List (Instr A)) → 0 < length es → closing_bytes a (instrs_view es) ≡ 5 ∷ (a ++ 11 ∷ [])
closing_else a [] some = absurd (omega arith)
closing_else a (e ∷ es) some = refl

pub if_spelled : {A : Type 0} (i : Instr A) (n : ℕ) (r : Option ValType) (t e : Vec (Instr A) A) (code : ℕ) (old m1 m2 m3 m4 m5 new : List ℕ)
    → i ≡ If n r t e → 0 < length e.items → code ≡ result_code r
    → m1 ≡ old ++ 4 ∷ [] → m2 ≡ m1 ++ code ∷ [] → m3 ≡ m2 ++ instrs_bytes (instrs_view t.items)
    → m4 ≡ m3 ++ 5 ∷ [] → m5 ≡ m4 ++ instrs_bytes (instrs_view e.items) → new ≡ m5 ++ 11 ∷ []
    → new ≡ old ++ instr_bytes (instr_view i)
if_spelled i n r t e code old m1 m2 m3 m4 m5 new is some coded e1 e2 e3 e4 e5 e6 =
    let a = instrs_bytes (instrs_view t.items) in
    let b = instrs_bytes (instrs_view e.items) in
    let spelled : instr_bytes (instr_view i) ≡ 4 ∷ code ∷ (a ++ 5 ∷ (b ++ 11 ∷ [])) =
    ap instr_bytes (ap instr_view is ∙ view_If n r t e) ∙ ap₂ (λ c l. 4 ∷ c ∷ (a ++ l)) (sym coded) (closing_else b e.items some) in
    let s1 : m2 ≡ old ++ 4 ∷ code ∷ [] = e2 ∙ ap (λ l. l ++ code ∷ []) e1 ∙ append_assoc old (4 ∷ []) (code ∷ []) in
    let s2 : m3 ≡ old ++ 4 ∷ code ∷ a = e3 ∙ ap (λ l. l ++ a) s1 ∙ append_assoc old (4 ∷ code ∷ []) a in
    let s3 : m4 ≡ old ++ 4 ∷ code ∷ (a ++ 5 ∷ []) = e4 ∙ ap (λ l. l ++ 5 ∷ []) s2 ∙ append_assoc old (4 ∷ code ∷ a) (5 ∷ []) in
    let s4 : m5 ≡ old ++ 4 ∷ code ∷ (a ++ 5 ∷ b) = e5 ∙ ap (λ l. l ++ b) s3 ∙ append_assoc old (4 ∷ code ∷ (a ++ 5 ∷ [])) b ∙ ap (λ l. old ++ 4 ∷ code ∷ l) (append_assoc a (5 ∷ []) b) in
    let s5 : new ≡ old ++ 4 ∷ code ∷ (a ++ 5 ∷ (b ++ 11 ∷ [])) = e6 ∙ ap (λ l. l ++ 11 ∷ []) s4 ∙ append_assoc old (4 ∷ code ∷ (a ++ 5 ∷ b)) (11 ∷ []) ∙ ap (λ l. old ++ 4 ∷ code ∷ l) (append_assoc a (5 ∷ b) (11 ∷ [])) in
    s5 ∙ ap (λ l. old ++ l) (sym spelled)
