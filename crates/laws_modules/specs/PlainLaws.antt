-- The first byte of an instruction decides it.
use Rattle.std.proofs.Common.{◌≡◌, ℕ, zero, suc, ◌+◌, ◌-◌, ◌<◌, ◌≤◌, true, false, cond, eqb, ltb, List, [], ◌∷◌, ◌++◌, Option, Some, None, refl, sym, ap, subst, ◌∙◌, arith}
use Rattle.std.specs.Prelude.{option_map, ◌==◌, ◌||◌, ⊤, slice_get}
use Rattle.std.proofs.lemmas.Bool.{eqb-true, ltb-true, ltb-false}
use Rattle.std.proofs.lemmas.Option.{some_pair_parts}
use Rattle.wtypes.specs.declared.ValType.TheVariants as valtype
use Rattle.wtypes.specs.declared.Value.TheVariants as value
use Rattle.wtypes.specs.declared.UnOp.TheVariants.{Clz, Ctz, Popcnt}
use Rattle.wtypes.specs.declared.BinOp.TheVariants.{Add, Sub, Mul, DivS, DivU, RemS, RemU, And, Or, Xor, Shl, ShrS, ShrU, Rotl, Rotr}
use Rattle.wtypes.specs.declared.TestOp.TheVariants.{Eqz}
use Rattle.wtypes.specs.declared.RelOp.TheVariants.{Equal, NotEqual, LtS, LtU, GtS, GtU, LeS, LeU, GeS, GeU}
use Rattle.wtypes.specs.declared.CvtOp.TheVariants.{I32WrapI64, I64ExtendI32S, I64ExtendI32U, I32Extend8S, I32Extend16S, I64Extend8S, I64Extend16S, I64Extend32S}
use Rattle.wtypes.specs.declared.LoadOp.{LoadOp}
use Rattle.wtypes.specs.declared.LoadOp.TheVariants.{I32Load, I64Load, I32Load8S, I32Load8U, I32Load16S, I32Load16U, I64Load8S, I64Load8U, I64Load16S, I64Load16U, I64Load32S, I64Load32U}
use Rattle.wtypes.specs.declared.StoreOp.{StoreOp}
use Rattle.wtypes.specs.declared.StoreOp.TheVariants.{I32Store, I64Store, I32Store8, I32Store16, I64Store8, I64Store16, I64Store32}
use Rattle.wtypes.specs.declared.PlainInstr.{PlainInstr}
use Rattle.wtypes.specs.declared.PlainInstr.TheVariants.{Unreachable, Nop, Br, BrIf, Return, Call, CallIndirect, Drop, Select, LocalGet, LocalSet, LocalTee, GlobalGet, GlobalSet, Load, Store, MemorySize, MemoryGrow, Const, Unary, Binary, Test, Compare, Convert}
use Rattle.spec_modules.specs.Language.{Language, ◌⨾◌}
use Rattle.spec_modules.specs.Leb.{unsigned, signed}
use Rattle.spec_modules.specs.Opcodes.{opcode, load_code, store_code}
use Rattle.spec_modules.specs.Grammar.{immediate}
use Rattle.spec_modules.specs.Reading.{Read, ◌>>=◌, unsigned_at, signed_at}
use Rattle.spec_modules.specs.NumberLaws.{Found, unsigned_takes, unsigned_again, signed_takes, signed_again}
use Rattle.laws_modules.specs.Opcodes.{compare_ops, numeric_ops, control_at, convert_at, simple_at, load_ops, load_at, store_ops, store_at}
use Rattle.laws_modules.specs.ReadingExpressions.{byte_at, memarg_at, index_at, other_at, by_simple, by_access, plain_at}
use Rattle.laws_modules.specs.Readers.{bind_then, map_then, same_some, byte_takes, join_found, seam, fst_is, snd_is}

-- which way a test went
pub test_then : {Y R : Type 0} (b k : ℕ) (o p : Option Y) (y : Y) → cond (eqb b k) o p ≡ Some y → (b ≡ k → o ≡ Some y → R) → (p ≡ Some y → R) → R
test_then {Y} {R} b k o p y e hit miss =
    elim (eqb b k) as (λ t. eqb b k ≡ t → cond t o p ≡ Some y → R) [ true ↦ λ q f. hit (eqb-true b k q) f | false ↦ λ q f. miss f ] refl e

pub below_then : {Y R : Type 0} (b k : ℕ) (o p : Option Y) (y : Y) → cond (ltb b k) o p ≡ Some y → (b < k → o ≡ Some y → R) → (k ≤ b → p ≡ Some y → R) → R
below_then {Y} {R} b k o p y e hit miss =
    elim (ltb b k) as (λ t. ltb b k ≡ t → cond t o p ≡ Some y → R) [ true ↦ λ q f. hit (ltb-true b k q) f | false ↦ λ q f. miss (ltb-false b k q) f ] refl e

-- ---- rows of codes

abbrev Row : {X : Type 0} → (ℕ → X → Type 0) → ℕ → List X → Type 0
Row P base [] = ⊤
Row P base (x ∷ xs) = P base x × Row P (base + 1) xs

row_get : {X : Type 0} (P : ℕ → X → Type 0) (xs : List X) (base k : ℕ) (x : X) → Row P base xs → slice_get xs k ≡ Some x → P (base + k) x
row_get P [] base zero x r e = absurd cc
row_get P [] base (suc k) x r e = absurd cc
row_get P (y ∷ ys) base zero x r e = let n : base ≡ base + 0 = omega arith in let q : y ≡ x = cc (e) in subst (P (base + 0)) q (subst (λ m. P m y) n r.0)
row_get P (y ∷ ys) base (suc k) x r e =
    let n : (base + 1) + k ≡ base + suc k = omega arith in
    subst (λ m. P m x) n (row_get P ys (base + 1) k x r.1 e)

-- an instruction that is its first byte
abbrev pub IsSimple : ℕ → PlainInstr → Type 0
IsSimple n op = (n ≡ opcode op) × immediate op []

row_from : {X : Type 0} (P : ℕ → X → Type 0) (xs : List X) (base b : ℕ) (x : X) → Row P base xs → base ≤ b → slice_get xs (b - base) ≡ Some x → P b x
row_from P xs base b x r le e = let n : base + (b - base) ≡ b = omega arith in subst (λ m. P m x) n (row_get P xs base (b - base) x r e)

compare_row_32 : Row IsSimple 0x45 (compare_ops valtype.I32)
compare_row_32 = ((refl, refl), ((refl, refl), ((refl, refl), ((refl, refl), ((refl, refl), ((refl, refl), ((refl, refl), ((refl, refl), ((refl, refl), ((refl, refl), ((refl, refl), tt)))))))))))

compare_row_64 : Row IsSimple 0x50 (compare_ops valtype.I64)
compare_row_64 = ((refl, refl), ((refl, refl), ((refl, refl), ((refl, refl), ((refl, refl), ((refl, refl), ((refl, refl), ((refl, refl), ((refl, refl), ((refl, refl), ((refl, refl), tt)))))))))))

numeric_row_32 : Row IsSimple 0x67 (numeric_ops valtype.I32)
numeric_row_32 = ((refl, refl), ((refl, refl), ((refl, refl), ((refl, refl), ((refl, refl), ((refl, refl), ((refl, refl), ((refl, refl), ((refl, refl), ((refl, refl), ((refl, refl), ((refl, refl), ((refl, refl), ((refl, refl), ((refl, refl), ((refl, refl), ((refl, refl), ((refl, refl), tt))))))))))))))))))

numeric_row_64 : Row IsSimple 0x79 (numeric_ops valtype.I64)
numeric_row_64 = ((refl, refl), ((refl, refl), ((refl, refl), ((refl, refl), ((refl, refl), ((refl, refl), ((refl, refl), ((refl, refl), ((refl, refl), ((refl, refl), ((refl, refl), ((refl, refl), ((refl, refl), ((refl, refl), ((refl, refl), ((refl, refl), ((refl, refl), ((refl, refl), tt))))))))))))))))))

simple_is : (op o : PlainInstr) (b n : ℕ) → b ≡ n → Some op ≡ Some o → IsSimple n op → IsSimple b o
simple_is op o b n e f s = subst (λ m. IsSimple m o) (sym e) (subst (IsSimple n) (same_some op o f) s)

control_takes : (b : ℕ) (op : PlainInstr) → control_at b ≡ Some op → IsSimple b op
control_takes b op e =
    test_then b 0x00 _ _ _ e (λ n f. simple_is Unreachable op b 0x00 n f (refl, refl)) (λ e.
    test_then b 0x01 _ _ _ e (λ n f. simple_is Nop op b 0x01 n f (refl, refl)) (λ e.
    test_then b 0x0F _ _ _ e (λ n f. simple_is Return op b 0x0F n f (refl, refl)) (λ e.
    test_then b 0x1A _ _ _ e (λ n f. simple_is Drop op b 0x1A n f (refl, refl)) (λ e.
    test_then b 0x1B _ _ _ e (λ n f. simple_is Select op b 0x1B n f (refl, refl)) (λ e. absurd cc)))))

convert_takes : (b : ℕ) (op : PlainInstr) → convert_at b ≡ Some op → IsSimple b op
convert_takes b op e =
    test_then b 0xA7 _ _ _ e (λ n f. simple_is (Convert I32WrapI64) op b 0xA7 n f (refl, refl)) (λ e.
    test_then b 0xAC _ _ _ e (λ n f. simple_is (Convert I64ExtendI32S) op b 0xAC n f (refl, refl)) (λ e.
    test_then b 0xAD _ _ _ e (λ n f. simple_is (Convert I64ExtendI32U) op b 0xAD n f (refl, refl)) (λ e.
    test_then b 0xC0 _ _ _ e (λ n f. simple_is (Convert I32Extend8S) op b 0xC0 n f (refl, refl)) (λ e.
    test_then b 0xC1 _ _ _ e (λ n f. simple_is (Convert I32Extend16S) op b 0xC1 n f (refl, refl)) (λ e.
    test_then b 0xC2 _ _ _ e (λ n f. simple_is (Convert I64Extend8S) op b 0xC2 n f (refl, refl)) (λ e.
    test_then b 0xC3 _ _ _ e (λ n f. simple_is (Convert I64Extend16S) op b 0xC3 n f (refl, refl)) (λ e.
    test_then b 0xC4 _ _ _ e (λ n f. simple_is (Convert I64Extend32S) op b 0xC4 n f (refl, refl)) (λ e. absurd cc))))))))

pub simple_takes : (b : ℕ) (op : PlainInstr) → simple_at b ≡ Some op → IsSimple b op
unfolding simple_at
simple_takes b op e =
    below_then b 0x45 _ _ _ e (λ n f. control_takes b op f) (λ l e.
    below_then b 0x50 _ _ _ e (λ n f. row_from IsSimple (compare_ops valtype.I32) 0x45 b op compare_row_32 l f) (λ l e.
    below_then b 0x5B _ _ _ e (λ n f. row_from IsSimple (compare_ops valtype.I64) 0x50 b op compare_row_64 l f) (λ l e.
    below_then b 0x67 _ _ _ e (λ n f. absurd cc) (λ l e.
    below_then b 0x79 _ _ _ e (λ n f. row_from IsSimple (numeric_ops valtype.I32) 0x67 b op numeric_row_32 l f) (λ l e.
    below_then b 0x8B _ _ _ e (λ n f. row_from IsSimple (numeric_ops valtype.I64) 0x79 b op numeric_row_64 l f) (λ l e. convert_takes b op e))))))

abbrev IsLoad : ℕ → LoadOp → Type 0
IsLoad n op = n ≡ load_code op

abbrev IsStore : ℕ → StoreOp → Type 0
IsStore n op = n ≡ store_code op

load_row : Row IsLoad 0x2C load_ops
load_row = (refl, (refl, (refl, (refl, (refl, (refl, (refl, (refl, (refl, (refl, tt))))))))))

store_row : Row IsStore 0x3A store_ops
store_row = (refl, (refl, (refl, (refl, (refl, tt)))))

code_is : {X : Type 0} (f : X → ℕ) (op o : X) (b n : ℕ) → b ≡ n → Some op ≡ Some o → n ≡ f op → b ≡ f o
code_is f op o b n e g s = e ∙ s ∙ ap f (same_some op o g)

pub load_takes : (b : ℕ) (op : LoadOp) → load_at b ≡ Some op → b ≡ load_code op
unfolding load_at
load_takes b op e =
    test_then b 0x28 _ _ _ e (λ n f. code_is load_code I32Load op b 0x28 n f refl) (λ e.
    test_then b 0x29 _ _ _ e (λ n f. code_is load_code I64Load op b 0x29 n f refl) (λ e.
    below_then b 0x2C _ _ _ e (λ n f. absurd cc) (λ l e. row_from IsLoad load_ops 0x2C b op load_row l e)))

pub store_takes : (b : ℕ) (op : StoreOp) → store_at b ≡ Some op → b ≡ store_code op
unfolding store_at
store_takes b op e =
    test_then b 0x36 _ _ _ e (λ n f. code_is store_code I32Store op b 0x36 n f refl) (λ e.
    test_then b 0x37 _ _ _ e (λ n f. code_is store_code I64Store op b 0x37 n f refl) (λ e.
    below_then b 0x3A _ _ _ e (λ n f. absurd cc) (λ l e. row_from IsStore store_ops 0x3A b op store_row l e)))

-- ---- with their immediates

abbrev pub PlainFound : ℕ → List ℕ → PlainInstr → List ℕ → Type 0
PlainFound b bs op rest = (b ≡ opcode op) × Found immediate bs op rest

-- an instruction whose immediate is one value
abbrev made : {X : Type 0} → (X → PlainInstr) → X × List ℕ → PlainInstr × List ℕ
made make r = (make r.0, r.1)

abbrev made_with : PlainInstr → List ℕ → PlainInstr × List ℕ
made_with op s = (op, s)

one_takes : {X : Type 0} (F : X → Language) (make : X → PlainInstr) (b k : ℕ) (o : Read X) (bs : List ℕ) (op : PlainInstr) (rest : List ℕ)
    → ((x : X) → k ≡ opcode (make x)) → ((x : X) (a : List ℕ) → F x a → immediate (make x) a)
    → ((x : X) (r : List ℕ) → o ≡ Some (x, r) → Found F bs x r)
    → b ≡ k → option_map (made make) o ≡ Some (op, rest) → PlainFound b bs op rest
one_takes F make b k o bs op rest coded fits takes is_k e =
    map_then _ _ _ e (λ x h q.
    let f = takes x.0 x.1 h in
    let same = fst_is _ _ q in
    (is_k ∙ coded x.0 ∙ ap opcode same, (f.0, f.1 ∙ ap (λ l. f.0 ++ l) (snd_is _ _ q), subst (λ z. immediate z f.0) same (fits x.0 f.0 f.2))))

pub index_takes : (b : ℕ) (bs : List ℕ) (op : PlainInstr) (rest : List ℕ) → index_at b bs ≡ Some (op, rest) → PlainFound b bs op rest
unfolding index_at
index_takes b bs op rest e =
    test_then b 0x0C _ _ _ e (λ n f. one_takes (unsigned 32) (λ x. Br x) b 0x0C (unsigned_at 32 bs) bs op rest (λ x. refl) (λ x a g. g) (unsigned_takes 32 bs) n f) (λ e.
    test_then b 0x0D _ _ _ e (λ n f. one_takes (unsigned 32) (λ x. BrIf x) b 0x0D (unsigned_at 32 bs) bs op rest (λ x. refl) (λ x a g. g) (unsigned_takes 32 bs) n f) (λ e.
    test_then b 0x10 _ _ _ e (λ n f. one_takes (unsigned 32) (λ x. Call x) b 0x10 (unsigned_at 32 bs) bs op rest (λ x. refl) (λ x a g. g) (unsigned_takes 32 bs) n f) (λ e.
    test_then b 0x20 _ _ _ e (λ n f. one_takes (unsigned 32) (λ x. LocalGet x) b 0x20 (unsigned_at 32 bs) bs op rest (λ x. refl) (λ x a g. g) (unsigned_takes 32 bs) n f) (λ e.
    test_then b 0x21 _ _ _ e (λ n f. one_takes (unsigned 32) (λ x. LocalSet x) b 0x21 (unsigned_at 32 bs) bs op rest (λ x. refl) (λ x a g. g) (unsigned_takes 32 bs) n f) (λ e.
    test_then b 0x22 _ _ _ e (λ n f. one_takes (unsigned 32) (λ x. LocalTee x) b 0x22 (unsigned_at 32 bs) bs op rest (λ x. refl) (λ x a g. g) (unsigned_takes 32 bs) n f) (λ e.
    test_then b 0x23 _ _ _ e (λ n f. one_takes (unsigned 32) (λ x. GlobalGet x) b 0x23 (unsigned_at 32 bs) bs op rest (λ x. refl) (λ x a g. g) (unsigned_takes 32 bs) n f) (λ e.
    test_then b 0x24 _ _ _ e (λ n f. one_takes (unsigned 32) (λ x. GlobalSet x) b 0x24 (unsigned_at 32 bs) bs op rest (λ x. refl) (λ x a g. g) (unsigned_takes 32 bs) n f) (λ e.
    absurd cc))))))))

-- a zero byte
zero_takes : (make : PlainInstr) (b k : ℕ) (bs : List ℕ) (op : PlainInstr) (rest : List ℕ) → k ≡ opcode make → immediate make (0x00 ∷ [])
    → b ≡ k → option_map (made_with make) (byte_at 0x00 bs) ≡ Some (op, rest) → PlainFound b bs op rest
zero_takes make b k bs op rest coded fits is_k e =
    map_then _ _ _ e (λ s h q.
    let same = fst_is _ _ q in
    (is_k ∙ coded ∙ ap opcode same, (0x00 ∷ [], byte_takes 0x00 bs s h ∙ ap (λ l. 0x00 ∷ l) (snd_is _ _ q), subst (λ z. immediate z (0x00 ∷ [])) same fits)))

pub other_takes : (b : ℕ) (bs : List ℕ) (op : PlainInstr) (rest : List ℕ) → other_at b bs ≡ Some (op, rest) → PlainFound b bs op rest
unfolding other_at
other_takes b bs op rest e =
    test_then b 0x11 _ _ _ e
    (λ n f. bind_then _ _ _ f (λ x h g. map_then _ _ _ g (λ s k q.
    let t = unsigned_takes 32 bs x.0 x.1 h in
    let same = fst_is _ _ q in
    let tail : x.1 ≡ (0x00 ∷ []) ++ rest = byte_takes 0x00 x.1 s k ∙ ap (λ l. 0x00 ∷ l) (snd_is _ _ q) in (
      n ∙ ap opcode same,
      (
        t.0 ++ 0x00 ∷ [],
        join_found bs x.1 rest t.0 (0x00 ∷ []) t.1 tail,
        subst (λ z. immediate z (t.0 ++ 0x00 ∷ [])) same (t.0, 0x00 ∷ [], refl, t.2, refl),
      ),
    ))))
    (λ e. test_then b 0x3F _ _ _ e (λ n f. zero_takes MemorySize b 0x3F bs op rest refl refl n f)
    (λ e. test_then b 0x40 _ _ _ e (λ n f. zero_takes MemoryGrow b 0x40 bs op rest refl refl n f)
    (λ e. test_then b 0x41 _ _ _ e (λ n f. one_takes (signed 32) (λ z. Const (value.I32 z)) b 0x41 (signed_at 32 bs) bs op rest (λ x. refl) (λ x a g. g) (signed_takes 32 bs) n f)
    (λ e. test_then b 0x42 _ _ _ e (λ n f. one_takes (signed 64) (λ z. Const (value.I64 z)) b 0x42 (signed_at 64 bs) bs op rest (λ x. refl) (λ x a g. g) (signed_takes 64 bs) n f)
    (λ e. index_takes b bs op rest e)))))

-- an alignment and an offset
abbrev memarg : ℕ × ℕ → Language
memarg p = unsigned 32 p.0 ⨾ unsigned 32 p.1

memarg_takes : (bs : List ℕ) (p : ℕ × ℕ) (rest : List ℕ) → memarg_at bs ≡ Some (p, rest) → Found memarg bs p rest
unfolding memarg_at
memarg_takes bs p rest e =
    bind_then _ _ _ e (λ a h f. map_then _ _ _ f (λ o k q.
    let t = unsigned_takes 32 bs a.0 a.1 h in
    let u = unsigned_takes 32 a.1 o.0 o.1 k in (
      t.0 ++ u.0,
      join_found bs a.1 rest t.0 u.0 t.1 (u.1 ∙ ap (λ l. u.0 ++ l) (snd_is _ _ q)),
      subst (λ z. memarg z (t.0 ++ u.0)) (fst_is _ _ q) (t.0, u.0, refl, t.2, u.2),
    )))

memarg_again : (align offset : ℕ) (a rest : List ℕ) → memarg (align, offset) a → memarg_at (a ++ rest) ≡ Some ((align, offset), rest)
unfolding memarg_at
memarg_again align offset a rest s =
    ap (λ l. unsigned_at 32 l >>= λ a. option_map (λ o. ((a.0, o.0), o.1)) (unsigned_at 32 a.1)) (seam a s.0 s.1 rest s.2)
    ∙ rw (unsigned_again 32 s.0 align (s.1 ++ rest) s.3, unsigned_again 32 s.1 offset rest s.4) refl

by_simple_takes : (b : ℕ) (bs : List ℕ) (op : PlainInstr) (rest : List ℕ) (o : Option PlainInstr) (next : Read PlainInstr) → ((x : PlainInstr) → o ≡ Some x → IsSimple b x)
    → by_simple o bs next ≡ Some (op, rest) → (next ≡ Some (op, rest) → PlainFound b bs op rest) → PlainFound b bs op rest
by_simple_takes b bs op rest None next takes e go = go e
by_simple_takes b bs op rest (Some x) next takes e go =
    let q = some_pair_parts x op bs rest e in
    let s = takes op (ap (λ z. Some z) q.0) in
    (s.0, ([], q.1, s.1))

by_access_takes : {Op : Type 0} (make : Op → ℕ → ℕ → PlainInstr) (code : Op → ℕ) (b : ℕ) (bs : List ℕ) (op : PlainInstr) (rest : List ℕ) (o : Option Op) (next : Read PlainInstr)
    → ((x : Op) → o ≡ Some x → b ≡ code x) → ((x : Op) (a f : ℕ) → code x ≡ opcode (make x a f)) → ((x : Op) (a f : ℕ) (bytes : List ℕ) → memarg (a, f) bytes → immediate (make x a f) bytes)
    → by_access make o bs next ≡ Some (op, rest) → (next ≡ Some (op, rest) → PlainFound b bs op rest) → PlainFound b bs op rest
by_access_takes make code b bs op rest None next takes coded fits e go = go e
by_access_takes make code b bs op rest (Some x) next takes coded fits e go =
    map_then _ _ _ e (λ r h q.
    let f = memarg_takes bs r.0 r.1 h in
    let same = fst_is _ _ q in (
      takes x refl ∙ coded x r.0.0 r.0.1 ∙ ap opcode same,
      (f.0, f.1 ∙ ap (λ l. f.0 ++ l) (snd_is _ _ q), subst (λ z. immediate z f.0) same (fits x r.0.0 r.0.1 f.0 f.2)),
    ))

pub plain_takes : (b : ℕ) (bs : List ℕ) (op : PlainInstr) (rest : List ℕ) → plain_at b bs ≡ Some (op, rest) → PlainFound b bs op rest
unfolding plain_at
plain_takes b bs op rest e =
    by_simple_takes b bs op rest (simple_at b) _ (simple_takes b) e
    (λ e. by_access_takes (λ op a o. Load op a o) load_code b bs op rest (load_at b) _ (load_takes b) (λ x a f. refl) (λ x a f bytes s. s) e
    (λ e. by_access_takes (λ op a o. Store op a o) store_code b bs op rest (store_at b) _ (store_takes b) (λ x a f. refl) (λ x a f bytes s. s) e
    (λ e. other_takes b bs op rest e)))

-- ---- what is spelled so is read

abbrev IsLoadCode : LoadOp → Type 0
IsLoadCode op = (simple_at (load_code op) ≡ None) × (load_at (load_code op) ≡ Some op)

load_again : (op : LoadOp) → IsLoadCode op
unfolding simple_at load_at
load_again I32Load = (refl, refl)
load_again I64Load = (refl, refl)
load_again I32Load8S = (refl, refl)
load_again I32Load8U = (refl, refl)
load_again I32Load16S = (refl, refl)
load_again I32Load16U = (refl, refl)
load_again I64Load8S = (refl, refl)
load_again I64Load8U = (refl, refl)
load_again I64Load16S = (refl, refl)
load_again I64Load16U = (refl, refl)
load_again I64Load32S = (refl, refl)
load_again I64Load32U = (refl, refl)

abbrev IsStoreCode : StoreOp → Type 0
IsStoreCode op = (simple_at (store_code op) ≡ None) × (load_at (store_code op) ≡ None) × (store_at (store_code op) ≡ Some op)

store_again : (op : StoreOp) → IsStoreCode op
unfolding simple_at load_at store_at
store_again I32Store = (refl, refl, refl)
store_again I64Store = (refl, refl, refl)
store_again I32Store8 = (refl, refl, refl)
store_again I32Store16 = (refl, refl, refl)
store_again I64Store8 = (refl, refl, refl)
store_again I64Store16 = (refl, refl, refl)
store_again I64Store32 = (refl, refl, refl)

-- an instruction that is one byte
simple_again : (op : PlainInstr) (a rest : List ℕ) → simple_at (opcode op) ≡ Some op → a ≡ [] → plain_at (opcode op) (a ++ rest) ≡ Some (op, rest)
unfolding plain_at
simple_again op a rest e s = rw e (ap (λ l. Some (op, l ++ rest)) s)

pub plain_again : (op : PlainInstr) (a rest : List ℕ) → immediate op a → plain_at (opcode op) (a ++ rest) ≡ Some (op, rest)
unfolding plain_at simple_at load_at store_at other_at index_at byte_at
plain_again Unreachable a rest s = simple_again Unreachable a rest refl s
plain_again Nop a rest s = simple_again Nop a rest refl s
plain_again Return a rest s = simple_again Return a rest refl s
plain_again Drop a rest s = simple_again Drop a rest refl s
plain_again Select a rest s = simple_again Select a rest refl s
plain_again (Unary (Clz valtype.I32)) a rest s = simple_again (Unary (Clz valtype.I32)) a rest refl s
plain_again (Unary (Clz valtype.I64)) a rest s = simple_again (Unary (Clz valtype.I64)) a rest refl s
plain_again (Unary (Ctz valtype.I32)) a rest s = simple_again (Unary (Ctz valtype.I32)) a rest refl s
plain_again (Unary (Ctz valtype.I64)) a rest s = simple_again (Unary (Ctz valtype.I64)) a rest refl s
plain_again (Unary (Popcnt valtype.I32)) a rest s = simple_again (Unary (Popcnt valtype.I32)) a rest refl s
plain_again (Unary (Popcnt valtype.I64)) a rest s = simple_again (Unary (Popcnt valtype.I64)) a rest refl s
plain_again (Binary (Add valtype.I32)) a rest s = simple_again (Binary (Add valtype.I32)) a rest refl s
plain_again (Binary (Add valtype.I64)) a rest s = simple_again (Binary (Add valtype.I64)) a rest refl s
plain_again (Binary (Sub valtype.I32)) a rest s = simple_again (Binary (Sub valtype.I32)) a rest refl s
plain_again (Binary (Sub valtype.I64)) a rest s = simple_again (Binary (Sub valtype.I64)) a rest refl s
plain_again (Binary (Mul valtype.I32)) a rest s = simple_again (Binary (Mul valtype.I32)) a rest refl s
plain_again (Binary (Mul valtype.I64)) a rest s = simple_again (Binary (Mul valtype.I64)) a rest refl s
plain_again (Binary (DivS valtype.I32)) a rest s = simple_again (Binary (DivS valtype.I32)) a rest refl s
plain_again (Binary (DivS valtype.I64)) a rest s = simple_again (Binary (DivS valtype.I64)) a rest refl s
plain_again (Binary (DivU valtype.I32)) a rest s = simple_again (Binary (DivU valtype.I32)) a rest refl s
plain_again (Binary (DivU valtype.I64)) a rest s = simple_again (Binary (DivU valtype.I64)) a rest refl s
plain_again (Binary (RemS valtype.I32)) a rest s = simple_again (Binary (RemS valtype.I32)) a rest refl s
plain_again (Binary (RemS valtype.I64)) a rest s = simple_again (Binary (RemS valtype.I64)) a rest refl s
plain_again (Binary (RemU valtype.I32)) a rest s = simple_again (Binary (RemU valtype.I32)) a rest refl s
plain_again (Binary (RemU valtype.I64)) a rest s = simple_again (Binary (RemU valtype.I64)) a rest refl s
plain_again (Binary (And valtype.I32)) a rest s = simple_again (Binary (And valtype.I32)) a rest refl s
plain_again (Binary (And valtype.I64)) a rest s = simple_again (Binary (And valtype.I64)) a rest refl s
plain_again (Binary (Or valtype.I32)) a rest s = simple_again (Binary (Or valtype.I32)) a rest refl s
plain_again (Binary (Or valtype.I64)) a rest s = simple_again (Binary (Or valtype.I64)) a rest refl s
plain_again (Binary (Xor valtype.I32)) a rest s = simple_again (Binary (Xor valtype.I32)) a rest refl s
plain_again (Binary (Xor valtype.I64)) a rest s = simple_again (Binary (Xor valtype.I64)) a rest refl s
plain_again (Binary (Shl valtype.I32)) a rest s = simple_again (Binary (Shl valtype.I32)) a rest refl s
plain_again (Binary (Shl valtype.I64)) a rest s = simple_again (Binary (Shl valtype.I64)) a rest refl s
plain_again (Binary (ShrS valtype.I32)) a rest s = simple_again (Binary (ShrS valtype.I32)) a rest refl s
plain_again (Binary (ShrS valtype.I64)) a rest s = simple_again (Binary (ShrS valtype.I64)) a rest refl s
plain_again (Binary (ShrU valtype.I32)) a rest s = simple_again (Binary (ShrU valtype.I32)) a rest refl s
plain_again (Binary (ShrU valtype.I64)) a rest s = simple_again (Binary (ShrU valtype.I64)) a rest refl s
plain_again (Binary (Rotl valtype.I32)) a rest s = simple_again (Binary (Rotl valtype.I32)) a rest refl s
plain_again (Binary (Rotl valtype.I64)) a rest s = simple_again (Binary (Rotl valtype.I64)) a rest refl s
plain_again (Binary (Rotr valtype.I32)) a rest s = simple_again (Binary (Rotr valtype.I32)) a rest refl s
plain_again (Binary (Rotr valtype.I64)) a rest s = simple_again (Binary (Rotr valtype.I64)) a rest refl s
plain_again (Test (Eqz valtype.I32)) a rest s = simple_again (Test (Eqz valtype.I32)) a rest refl s
plain_again (Test (Eqz valtype.I64)) a rest s = simple_again (Test (Eqz valtype.I64)) a rest refl s
plain_again (Compare (Equal valtype.I32)) a rest s = simple_again (Compare (Equal valtype.I32)) a rest refl s
plain_again (Compare (Equal valtype.I64)) a rest s = simple_again (Compare (Equal valtype.I64)) a rest refl s
plain_again (Compare (NotEqual valtype.I32)) a rest s = simple_again (Compare (NotEqual valtype.I32)) a rest refl s
plain_again (Compare (NotEqual valtype.I64)) a rest s = simple_again (Compare (NotEqual valtype.I64)) a rest refl s
plain_again (Compare (LtS valtype.I32)) a rest s = simple_again (Compare (LtS valtype.I32)) a rest refl s
plain_again (Compare (LtS valtype.I64)) a rest s = simple_again (Compare (LtS valtype.I64)) a rest refl s
plain_again (Compare (LtU valtype.I32)) a rest s = simple_again (Compare (LtU valtype.I32)) a rest refl s
plain_again (Compare (LtU valtype.I64)) a rest s = simple_again (Compare (LtU valtype.I64)) a rest refl s
plain_again (Compare (GtS valtype.I32)) a rest s = simple_again (Compare (GtS valtype.I32)) a rest refl s
plain_again (Compare (GtS valtype.I64)) a rest s = simple_again (Compare (GtS valtype.I64)) a rest refl s
plain_again (Compare (GtU valtype.I32)) a rest s = simple_again (Compare (GtU valtype.I32)) a rest refl s
plain_again (Compare (GtU valtype.I64)) a rest s = simple_again (Compare (GtU valtype.I64)) a rest refl s
plain_again (Compare (LeS valtype.I32)) a rest s = simple_again (Compare (LeS valtype.I32)) a rest refl s
plain_again (Compare (LeS valtype.I64)) a rest s = simple_again (Compare (LeS valtype.I64)) a rest refl s
plain_again (Compare (LeU valtype.I32)) a rest s = simple_again (Compare (LeU valtype.I32)) a rest refl s
plain_again (Compare (LeU valtype.I64)) a rest s = simple_again (Compare (LeU valtype.I64)) a rest refl s
plain_again (Compare (GeS valtype.I32)) a rest s = simple_again (Compare (GeS valtype.I32)) a rest refl s
plain_again (Compare (GeS valtype.I64)) a rest s = simple_again (Compare (GeS valtype.I64)) a rest refl s
plain_again (Compare (GeU valtype.I32)) a rest s = simple_again (Compare (GeU valtype.I32)) a rest refl s
plain_again (Compare (GeU valtype.I64)) a rest s = simple_again (Compare (GeU valtype.I64)) a rest refl s
plain_again (Convert I32WrapI64) a rest s = simple_again (Convert I32WrapI64) a rest refl s
plain_again (Convert I64ExtendI32S) a rest s = simple_again (Convert I64ExtendI32S) a rest refl s
plain_again (Convert I64ExtendI32U) a rest s = simple_again (Convert I64ExtendI32U) a rest refl s
plain_again (Convert I32Extend8S) a rest s = simple_again (Convert I32Extend8S) a rest refl s
plain_again (Convert I32Extend16S) a rest s = simple_again (Convert I32Extend16S) a rest refl s
plain_again (Convert I64Extend8S) a rest s = simple_again (Convert I64Extend8S) a rest refl s
plain_again (Convert I64Extend16S) a rest s = simple_again (Convert I64Extend16S) a rest refl s
plain_again (Convert I64Extend32S) a rest s = simple_again (Convert I64Extend32S) a rest refl s
plain_again (Br x) a rest s = rw (unsigned_again 32 a x rest s) refl
plain_again (BrIf x) a rest s = rw (unsigned_again 32 a x rest s) refl
plain_again (Call x) a rest s = rw (unsigned_again 32 a x rest s) refl
plain_again (LocalGet x) a rest s = rw (unsigned_again 32 a x rest s) refl
plain_again (LocalSet x) a rest s = rw (unsigned_again 32 a x rest s) refl
plain_again (LocalTee x) a rest s = rw (unsigned_again 32 a x rest s) refl
plain_again (GlobalGet x) a rest s = rw (unsigned_again 32 a x rest s) refl
plain_again (GlobalSet x) a rest s = rw (unsigned_again 32 a x rest s) refl
plain_again (CallIndirect t) a rest s = ap (plain_at 0x11) (seam a s.0 s.1 rest s.2) ∙ rw (unsigned_again 32 s.0 t (s.1 ++ rest) s.3, s.4) refl
plain_again MemorySize a rest s = ap (λ l. plain_at 0x3F (l ++ rest)) s
plain_again MemoryGrow a rest s = ap (λ l. plain_at 0x40 (l ++ rest)) s
plain_again (Const (value.I32 z)) a rest s = rw (signed_again 32 a z rest s) refl
plain_again (Const (value.I64 z)) a rest s = rw (signed_again 64 a z rest s) refl
plain_again (Load op align offset) a rest s = let c = load_again op in rw (c.0, c.1, memarg_again align offset a rest s) refl
plain_again (Store op align offset) a rest s = let c = store_again op in rw (c.0, c.1, c.2, memarg_again align offset a rest s) refl

-- it is none of the bytes that the structure is made of
abbrev pub IsPlainStart : ℕ → Type 0
IsPlainStart b = (((b == 0x0B) || (b == 0x05)) ≡ false) × (eqb b 0x02 ≡ false) × (eqb b 0x03 ≡ false) × (eqb b 0x04 ≡ false) × (eqb b 0x0E ≡ false)

pub plain_starts : (op : PlainInstr) → IsPlainStart (opcode op)
plain_starts Unreachable = (refl, refl, refl, refl, refl)
plain_starts Nop = (refl, refl, refl, refl, refl)
plain_starts Return = (refl, refl, refl, refl, refl)
plain_starts Drop = (refl, refl, refl, refl, refl)
plain_starts Select = (refl, refl, refl, refl, refl)
plain_starts (Unary (Clz valtype.I32)) = (refl, refl, refl, refl, refl)
plain_starts (Unary (Clz valtype.I64)) = (refl, refl, refl, refl, refl)
plain_starts (Unary (Ctz valtype.I32)) = (refl, refl, refl, refl, refl)
plain_starts (Unary (Ctz valtype.I64)) = (refl, refl, refl, refl, refl)
plain_starts (Unary (Popcnt valtype.I32)) = (refl, refl, refl, refl, refl)
plain_starts (Unary (Popcnt valtype.I64)) = (refl, refl, refl, refl, refl)
plain_starts (Binary (Add valtype.I32)) = (refl, refl, refl, refl, refl)
plain_starts (Binary (Add valtype.I64)) = (refl, refl, refl, refl, refl)
plain_starts (Binary (Sub valtype.I32)) = (refl, refl, refl, refl, refl)
plain_starts (Binary (Sub valtype.I64)) = (refl, refl, refl, refl, refl)
plain_starts (Binary (Mul valtype.I32)) = (refl, refl, refl, refl, refl)
plain_starts (Binary (Mul valtype.I64)) = (refl, refl, refl, refl, refl)
plain_starts (Binary (DivS valtype.I32)) = (refl, refl, refl, refl, refl)
plain_starts (Binary (DivS valtype.I64)) = (refl, refl, refl, refl, refl)
plain_starts (Binary (DivU valtype.I32)) = (refl, refl, refl, refl, refl)
plain_starts (Binary (DivU valtype.I64)) = (refl, refl, refl, refl, refl)
plain_starts (Binary (RemS valtype.I32)) = (refl, refl, refl, refl, refl)
plain_starts (Binary (RemS valtype.I64)) = (refl, refl, refl, refl, refl)
plain_starts (Binary (RemU valtype.I32)) = (refl, refl, refl, refl, refl)
plain_starts (Binary (RemU valtype.I64)) = (refl, refl, refl, refl, refl)
plain_starts (Binary (And valtype.I32)) = (refl, refl, refl, refl, refl)
plain_starts (Binary (And valtype.I64)) = (refl, refl, refl, refl, refl)
plain_starts (Binary (Or valtype.I32)) = (refl, refl, refl, refl, refl)
plain_starts (Binary (Or valtype.I64)) = (refl, refl, refl, refl, refl)
plain_starts (Binary (Xor valtype.I32)) = (refl, refl, refl, refl, refl)
plain_starts (Binary (Xor valtype.I64)) = (refl, refl, refl, refl, refl)
plain_starts (Binary (Shl valtype.I32)) = (refl, refl, refl, refl, refl)
plain_starts (Binary (Shl valtype.I64)) = (refl, refl, refl, refl, refl)
plain_starts (Binary (ShrS valtype.I32)) = (refl, refl, refl, refl, refl)
plain_starts (Binary (ShrS valtype.I64)) = (refl, refl, refl, refl, refl)
plain_starts (Binary (ShrU valtype.I32)) = (refl, refl, refl, refl, refl)
plain_starts (Binary (ShrU valtype.I64)) = (refl, refl, refl, refl, refl)
plain_starts (Binary (Rotl valtype.I32)) = (refl, refl, refl, refl, refl)
plain_starts (Binary (Rotl valtype.I64)) = (refl, refl, refl, refl, refl)
plain_starts (Binary (Rotr valtype.I32)) = (refl, refl, refl, refl, refl)
plain_starts (Binary (Rotr valtype.I64)) = (refl, refl, refl, refl, refl)
plain_starts (Test (Eqz valtype.I32)) = (refl, refl, refl, refl, refl)
plain_starts (Test (Eqz valtype.I64)) = (refl, refl, refl, refl, refl)
plain_starts (Compare (Equal valtype.I32)) = (refl, refl, refl, refl, refl)
plain_starts (Compare (Equal valtype.I64)) = (refl, refl, refl, refl, refl)
plain_starts (Compare (NotEqual valtype.I32)) = (refl, refl, refl, refl, refl)
plain_starts (Compare (NotEqual valtype.I64)) = (refl, refl, refl, refl, refl)
plain_starts (Compare (LtS valtype.I32)) = (refl, refl, refl, refl, refl)
plain_starts (Compare (LtS valtype.I64)) = (refl, refl, refl, refl, refl)
plain_starts (Compare (LtU valtype.I32)) = (refl, refl, refl, refl, refl)
plain_starts (Compare (LtU valtype.I64)) = (refl, refl, refl, refl, refl)
plain_starts (Compare (GtS valtype.I32)) = (refl, refl, refl, refl, refl)
plain_starts (Compare (GtS valtype.I64)) = (refl, refl, refl, refl, refl)
plain_starts (Compare (GtU valtype.I32)) = (refl, refl, refl, refl, refl)
plain_starts (Compare (GtU valtype.I64)) = (refl, refl, refl, refl, refl)
plain_starts (Compare (LeS valtype.I32)) = (refl, refl, refl, refl, refl)
plain_starts (Compare (LeS valtype.I64)) = (refl, refl, refl, refl, refl)
plain_starts (Compare (LeU valtype.I32)) = (refl, refl, refl, refl, refl)
plain_starts (Compare (LeU valtype.I64)) = (refl, refl, refl, refl, refl)
plain_starts (Compare (GeS valtype.I32)) = (refl, refl, refl, refl, refl)
plain_starts (Compare (GeS valtype.I64)) = (refl, refl, refl, refl, refl)
plain_starts (Compare (GeU valtype.I32)) = (refl, refl, refl, refl, refl)
plain_starts (Compare (GeU valtype.I64)) = (refl, refl, refl, refl, refl)
plain_starts (Convert I32WrapI64) = (refl, refl, refl, refl, refl)
plain_starts (Convert I64ExtendI32S) = (refl, refl, refl, refl, refl)
plain_starts (Convert I64ExtendI32U) = (refl, refl, refl, refl, refl)
plain_starts (Convert I32Extend8S) = (refl, refl, refl, refl, refl)
plain_starts (Convert I32Extend16S) = (refl, refl, refl, refl, refl)
plain_starts (Convert I64Extend8S) = (refl, refl, refl, refl, refl)
plain_starts (Convert I64Extend16S) = (refl, refl, refl, refl, refl)
plain_starts (Convert I64Extend32S) = (refl, refl, refl, refl, refl)
plain_starts (Br x) = (refl, refl, refl, refl, refl)
plain_starts (BrIf x) = (refl, refl, refl, refl, refl)
plain_starts (Call x) = (refl, refl, refl, refl, refl)
plain_starts (LocalGet x) = (refl, refl, refl, refl, refl)
plain_starts (LocalSet x) = (refl, refl, refl, refl, refl)
plain_starts (LocalTee x) = (refl, refl, refl, refl, refl)
plain_starts (GlobalGet x) = (refl, refl, refl, refl, refl)
plain_starts (GlobalSet x) = (refl, refl, refl, refl, refl)
plain_starts (CallIndirect t) = (refl, refl, refl, refl, refl)
plain_starts MemorySize = (refl, refl, refl, refl, refl)
plain_starts MemoryGrow = (refl, refl, refl, refl, refl)
plain_starts (Const (value.I32 z)) = (refl, refl, refl, refl, refl)
plain_starts (Const (value.I64 z)) = (refl, refl, refl, refl, refl)
plain_starts (Load I32Load a f) = (refl, refl, refl, refl, refl)
plain_starts (Load I64Load a f) = (refl, refl, refl, refl, refl)
plain_starts (Load I32Load8S a f) = (refl, refl, refl, refl, refl)
plain_starts (Load I32Load8U a f) = (refl, refl, refl, refl, refl)
plain_starts (Load I32Load16S a f) = (refl, refl, refl, refl, refl)
plain_starts (Load I32Load16U a f) = (refl, refl, refl, refl, refl)
plain_starts (Load I64Load8S a f) = (refl, refl, refl, refl, refl)
plain_starts (Load I64Load8U a f) = (refl, refl, refl, refl, refl)
plain_starts (Load I64Load16S a f) = (refl, refl, refl, refl, refl)
plain_starts (Load I64Load16U a f) = (refl, refl, refl, refl, refl)
plain_starts (Load I64Load32S a f) = (refl, refl, refl, refl, refl)
plain_starts (Load I64Load32U a f) = (refl, refl, refl, refl, refl)
plain_starts (Store I32Store a f) = (refl, refl, refl, refl, refl)
plain_starts (Store I64Store a f) = (refl, refl, refl, refl, refl)
plain_starts (Store I32Store8 a f) = (refl, refl, refl, refl, refl)
plain_starts (Store I32Store16 a f) = (refl, refl, refl, refl, refl)
plain_starts (Store I64Store8 a f) = (refl, refl, refl, refl, refl)
plain_starts (Store I64Store16 a f) = (refl, refl, refl, refl, refl)
plain_starts (Store I64Store32 a f) = (refl, refl, refl, refl, refl)
