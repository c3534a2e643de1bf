-- Ordinals that rise by one.
use Rattle.std.proofs.Common.{true, ◌≡◌, ℕ, zero, suc, ◌+◌, ◌-◌, ◌≤◌, List, [], ◌∷◌, ◌++◌, map, refl, sym, ap, ap₂, ◌∙◌, arith, rules, append_assoc, Option, Vec}
use Rattle.std.specs.List.{range_with_len}
use Rattle.spec_modules.specs.Limits.{counts_from}
use Rattle.std.proofs.lemmas.Bool.{eq-eqb}
use Rattle.std.proofs.lemmas.List.{map-append}
use Rattle.wtypes.specs.declared.ValType.{ValType}
use Rattle.module_tree.specs.declared.instr.Instr.{Instr, Block, Loop, If, the_lemmas}
use Rattle.module_tree.specs.View.{join, instr_ordinals, ordinals}

-- from the first to the one before the second
abbrev pub Numbered : ℕ → ℕ → List ℕ → Type 0
Numbered from to ns = (from ≤ to) × (ns ≡ range_with_len from (to - from))

range_append : (a m n : ℕ) → range_with_len a m ++ range_with_len (a + m) n ≡ range_with_len a (m + n)
range_append a zero n = ap₂ range_with_len (let e : a + 0 ≡ a = omega arith in e) (let f : n ≡ 0 + n = omega arith in f)
range_append a (suc m) n =
    let e : a + suc m ≡ (a + 1) + m = omega arith in
    let f : suc m + n ≡ suc (m + n) = omega arith in
    ap (λ l. a ∷ l) (ap (λ k. range_with_len (a + 1) m ++ range_with_len k n) e ∙ range_append (a + 1) m n) ∙ ap (range_with_len a) (sym f)

pub numbered_none : (n : ℕ) (ns : List ℕ) → ns ≡ [] → Numbered n n ns
numbered_none n ns e = (omega arith, e ∙ ap (range_with_len n) (let z : 0 ≡ n - n = omega arith in z))

pub numbered_join : (a b c : ℕ) (xs ys : List ℕ) → Numbered a b xs → Numbered b c ys → Numbered a c (xs ++ ys)
numbered_join a b c xs ys p q =
    let l : a ≤ b = p.0 in
    let m : b ≤ c = q.0 in
    let e : b ≡ a + (b - a) = omega arith in
    let f : (b - a) + (c - b) ≡ c - a = omega arith in (
      omega arith,
      ap₂ (λ x y. x ++ y) p.1 (q.1 ∙ ap (λ k. range_with_len k (c - b)) e) ∙ range_append a (b - a) (c - b) ∙ ap (range_with_len a) f,
    )

pub numbered_under : (n m : ℕ) (ns : List ℕ) → Numbered (n + 1) m ns → Numbered n m (n ∷ ns)
numbered_under n m ns p =
    let l : n + 1 ≤ m = p.0 in
    let e : suc (m - (n + 1)) ≡ m - n = omega arith in
    (omega arith, ap (λ l. n ∷ l) p.1 ∙ ap (range_with_len n) e)

pub join_append : (xs ys : List (List ℕ)) → join (xs ++ ys) ≡ join xs ++ join ys
join_append [] ys = refl
join_append (x ∷ xs) ys = ap (λ l. x ++ l) (join_append xs ys) ∙ sym (append_assoc x (join xs) (join ys))

pub append_nil : (l : List ℕ) → l ++ [] ≡ l
append_nil [] = refl
append_nil (x ∷ l) = ap (λ k. x ∷ k) (append_nil l)

-- one more instruction at the end
pub numbered_push : {A : Type 0} (a b c : ℕ) (vs ws : List (Instr A)) (v : Instr A) → Numbered a b (ordinals vs) → Numbered b c (instr_ordinals v) → ws ≡ vs ++ v ∷ [] → Numbered a c (ordinals ws)
numbered_push a b c vs ws v p q e =
    let all : ordinals ws ≡ ordinals vs ++ instr_ordinals v =
    ap ordinals e ∙ ap join (map-append instr_ordinals vs (v ∷ [])) ∙ join_append (map instr_ordinals vs) (instr_ordinals v ∷ []) ∙ ap (λ l. ordinals vs ++ l) (append_nil (instr_ordinals v)) in
    let r = numbered_join a b c (ordinals vs) (instr_ordinals v) p q in
    (r.0, all ∙ r.1)

pub ordinals_Block : {A : Type 0} (n : ℕ) (r : Option ValType) (b : Vec (Instr A) A) → instr_ordinals (Block n r b) ≡ n ∷ ordinals b.items
ordinals_Block n r b = search (rules, the_lemmas)

pub ordinals_Loop : {A : Type 0} (n : ℕ) (r : Option ValType) (b : Vec (Instr A) A) → instr_ordinals (Loop n r b) ≡ n ∷ ordinals b.items
ordinals_Loop n r b = search (rules, the_lemmas)

pub ordinals_If : {A : Type 0} (n : ℕ) (r : Option ValType) (t e : Vec (Instr A) A) → instr_ordinals (If n r t e) ≡ n ∷ (ordinals t.items ++ ordinals e.items)
ordinals_If n r t e = search (rules, the_lemmas)

pub numbered_Block : {A : Type 0} (n m : ℕ) (r : Option ValType) (b : Vec (Instr A) A) → Numbered (n + 1) m (ordinals b.items) → Numbered n m (instr_ordinals (Block n r b))
numbered_Block n m r b p = let q = numbered_under n m (ordinals b.items) p in (q.0, ordinals_Block n r b ∙ q.1)

pub numbered_Loop : {A : Type 0} (n m : ℕ) (r : Option ValType) (b : Vec (Instr A) A) → Numbered (n + 1) m (ordinals b.items) → Numbered n m (instr_ordinals (Loop n r b))
numbered_Loop n m r b p = let q = numbered_under n m (ordinals b.items) p in (q.0, ordinals_Loop n r b ∙ q.1)

pub numbered_If : {A : Type 0} (n k m : ℕ) (r : Option ValType) (t e : Vec (Instr A) A) → Numbered (n + 1) k (ordinals t.items) → Numbered k m (ordinals e.items) → Numbered n m (instr_ordinals (If n r t e))
numbered_If n k m r t e p q =
    let j = numbered_join (n + 1) k m (ordinals t.items) (ordinals e.items) p q in
    let u = numbered_under n m (ordinals t.items ++ ordinals e.items) j in
    (u.0, ordinals_If n r t e ∙ u.1)

counts : (n m : ℕ) → counts_from n (range_with_len n m) ≡ true
counts n zero = refl
counts n (suc m) = rw (eq-eqb n n refl) (counts (n + 1) m)

-- so they count from the first
pub numbered_counts : (from to : ℕ) (ns : List ℕ) → Numbered from to ns → counts_from from ns ≡ true
numbered_counts from to ns p = ap (counts_from from) p.1 ∙ counts from (to - from)
