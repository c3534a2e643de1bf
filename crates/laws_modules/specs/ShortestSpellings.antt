-- The shortest bytes of each part of a tree are a spelling of it, where its numbers are in range and the bytes are fewer
-- than 2^32.
use Rattle.std.proofs.Common.{◌≡◌, ℕ, ◌+◌, ◌<◌, Bool, true, ◌&&◌, List, [], ◌∷◌, ◌++◌, length, ℤ, pos, negsuc, Option, refl, inl, arith, length-append}
use Rattle.std.specs.List.{list_all}
use Rattle.std.proofs.lemmas.Bool.{ltb-true}
use Rattle.wtypes.specs.declared.ValType.{ValType}
use Rattle.wtypes.specs.declared.Value.TheVariants as value
use Rattle.wtypes.specs.declared.PlainInstr.{PlainInstr}
use Rattle.wtypes.specs.declared.PlainInstr.TheVariants.{Unreachable, Nop, Br, BrIf, Return, Call, CallIndirect, Drop, Select, LocalGet, LocalSet, LocalTee, GlobalGet, GlobalSet, Load, Store, MemorySize, MemoryGrow, Const, Unary, Binary, Test, Compare, Convert}
use Rattle.spec_modules.specs.Syntax.{Instr, Plain, BrTable, Block, Loop, If, Instrs, nothing, seq}
use Rattle.spec_modules.specs.Limits.{is_u32, is_signed, plain_in_range, instr_fits, instrs_fit, expression_fits, first, second}
use Rattle.spec_modules.specs.Language.{Language, run}
use Rattle.spec_modules.specs.Leb.{u32, s32, s64}
use Rattle.spec_modules.specs.Opcodes.{opcode, result_code}
use Rattle.spec_modules.specs.Grammar.{immediate, closing, instr, instrs, expression, vector}
use Rattle.spec_modules.specs.Shortest.{u32_bytes, s32_bytes, s64_bytes, immediate_bytes, closing_bytes, instr_bytes, instrs_bytes, expression_bytes, run_bytes, vector_bytes}
use Rattle.spec_modules.specs.ShortestLaws.{shortest_unsigned, shortest_positive, shortest_negative}
use Rattle.laws_modules.specs.ShortestBytes.{u32_some, no_fewer}

abbrev pub IsSmall : List ℕ → Type 0
IsSmall bytes = length bytes < 4294967296

pub small_left : (a b : List ℕ) → IsSmall (a ++ b) → IsSmall a
small_left a b s = omega (arith, length-append a b)

pub small_right : (a b : List ℕ) → IsSmall (a ++ b) → IsSmall b
small_right a b s = omega (arith, length-append a b)

-- ---- Numbers

pub count_spelled : (n : ℕ) → n < 4294967296 → u32 n (u32_bytes n)
unfolding u32_bytes
count_spelled n l = shortest_unsigned 4 32 n (omega arith) (omega arith)

pub u32_spelled : (n : ℕ) → is_u32 n ≡ true → u32 n (u32_bytes n)
u32_spelled n e = count_spelled n (ltb-true n 4294967296 e)

s32_spelled : (z : ℤ) → is_signed 2147483648 z ≡ true → s32 z (s32_bytes z)
unfolding s32_bytes
s32_spelled (pos n) e = let l = ltb-true n 2147483648 e in shortest_positive 4 32 n (omega (arith, l)) (omega arith)
s32_spelled (negsuc n) e = let l = ltb-true n 2147483648 e in shortest_negative 4 32 n (omega (arith, l)) (omega arith)

s64_spelled : (z : ℤ) → is_signed 9223372036854775808 z ≡ true → s64 z (s64_bytes z)
unfolding s64_bytes
s64_spelled (pos n) e = let l = ltb-true n 9223372036854775808 e in shortest_positive 9 64 n (omega (arith, l)) (omega arith)
s64_spelled (negsuc n) e = let l = ltb-true n 9223372036854775808 e in shortest_negative 9 64 n (omega (arith, l)) (omega arith)

-- ---- Vectors

module _ {X : Type 0} (F : X → Language) (f : X → List ℕ) (test : X → Bool) (spelled : (x : X) → test x ≡ true → IsSmall (f x) → F x (f x)) where
  pub run_spelled : (xs : List X) → list_all test xs ≡ true → IsSmall (run_bytes f xs) → run F xs (run_bytes f xs)
  run_spelled [] e s = refl
  run_spelled (x ∷ xs) e s =
      (f x, run_bytes f xs, refl, spelled x (first _ _ e) (small_left (f x) (run_bytes f xs) s), run_spelled xs (second _ _ e) (small_right (f x) (run_bytes f xs) s))

  pub vector_spelled : ((x : X) → 0 < length (f x)) → (xs : List X) → list_all test xs ≡ true → IsSmall (vector_bytes f xs) → vector F xs (vector_bytes f xs)
  vector_spelled some xs e s =
      let r = small_right (u32_bytes (length xs)) (run_bytes f xs) s in
      let c = no_fewer f some xs in
      (u32_bytes (length xs), run_bytes f xs, refl, count_spelled (length xs) (omega (arith, r, c)), run_spelled xs e r)

-- ---- Instructions

pub immediate_spelled : (op : PlainInstr) → plain_in_range op ≡ true → immediate op (immediate_bytes op)
immediate_spelled (Br l) e = u32_spelled l e
immediate_spelled (BrIf l) e = u32_spelled l e
immediate_spelled (Call f) e = u32_spelled f e
immediate_spelled (CallIndirect t) e = (u32_bytes t, 0 ∷ [], refl, u32_spelled t e, refl)
immediate_spelled (LocalGet x) e = u32_spelled x e
immediate_spelled (LocalSet x) e = u32_spelled x e
immediate_spelled (LocalTee x) e = u32_spelled x e
immediate_spelled (GlobalGet x) e = u32_spelled x e
immediate_spelled (GlobalSet x) e = u32_spelled x e
immediate_spelled (Load op align offset) e = (u32_bytes align, u32_bytes offset, refl, u32_spelled align (first _ _ e), u32_spelled offset (second _ _ e))
immediate_spelled (Store op align offset) e = (u32_bytes align, u32_bytes offset, refl, u32_spelled align (first _ _ e), u32_spelled offset (second _ _ e))
immediate_spelled (Const (value.I32 z)) e = s32_spelled z e
immediate_spelled (Const (value.I64 z)) e = s64_spelled z e
immediate_spelled MemorySize e = refl
immediate_spelled MemoryGrow e = refl
immediate_spelled Unreachable e = refl
immediate_spelled Nop e = refl
immediate_spelled Return e = refl
immediate_spelled Drop e = refl
immediate_spelled Select e = refl
immediate_spelled (Unary op) e = refl
immediate_spelled (Binary op) e = refl
immediate_spelled (Test op) e = refl
immediate_spelled (Compare op) e = refl
immediate_spelled (Convert op) e = refl

closing_spelled : (e : Instrs) → instrs e (instrs_bytes e) → closing (instrs e) e (closing_bytes (instrs_bytes e) e)
closing_spelled nothing s = inl refl
closing_spelled (seq i is) s = (0x05 ∷ [], instrs_bytes (seq i is) ++ 0x0B ∷ [], refl, refl, (instrs_bytes (seq i is), 0x0B ∷ [], refl, s, refl))

small_closing : (e : Instrs) → IsSmall (closing_bytes (instrs_bytes e) e) → IsSmall (instrs_bytes e)
small_closing nothing s = omega arith
small_closing (seq i is) s = omega (arith, length-append (instrs_bytes (seq i is)) (0x0B ∷ []))

small_behind : (x y : ℕ) (a b : List ℕ) → IsSmall (x ∷ y ∷ (a ++ b)) → IsSmall (a ++ b)
small_behind x y a b s = omega arith

small_body : (r : Option ValType) (b : Instrs) → IsSmall (0x02 ∷ result_code r ∷ (instrs_bytes b ++ 0x0B ∷ [])) → IsSmall (instrs_bytes b)
small_body r b s = omega (arith, length-append (instrs_bytes b) (0x0B ∷ []))

mutual
  pub instr_spelled : (i : Instr) → instr_fits i ≡ true → IsSmall (instr_bytes i) → instr i (instr_bytes i)
  instr_spelled (Plain op) e s = (opcode op ∷ [], immediate_bytes op, refl, refl, immediate_spelled op e)
  instr_spelled (BrTable ls l) e s =
      let numbers : (list_all is_u32 ls && is_u32 l) ≡ true = second _ _ e in
      let within : IsSmall (vector_bytes u32_bytes ls) = omega (arith, length-append (vector_bytes u32_bytes ls) (u32_bytes l)) in (
        0x0E ∷ [],
        vector_bytes u32_bytes ls ++ u32_bytes l,
        refl,
        refl,
        (vector_bytes u32_bytes ls, u32_bytes l, refl, vector_spelled u32 u32_bytes is_u32 (λ n t _. u32_spelled n t) u32_some ls (first _ _ numbers) within, u32_spelled l (second _ _ numbers)),
      )
  instr_spelled (Block r b) e s = (
    0x02 ∷ [],
    result_code r ∷ (instrs_bytes b ++ 0x0B ∷ []),
    refl,
    refl,
    (result_code r ∷ [], instrs_bytes b ++ 0x0B ∷ [], refl, refl, (instrs_bytes b, 0x0B ∷ [], refl, instrs_spelled b e (small_body r b s), refl)),
  )
  instr_spelled (Loop r b) e s = (
    0x03 ∷ [],
    result_code r ∷ (instrs_bytes b ++ 0x0B ∷ []),
    refl,
    refl,
    (result_code r ∷ [], instrs_bytes b ++ 0x0B ∷ [], refl, refl, (instrs_bytes b, 0x0B ∷ [], refl, instrs_spelled b e (small_body r b s), refl)),
  )
  instr_spelled (If r t d) e s =
      let within = small_behind 0x04 (result_code r) (instrs_bytes t) (closing_bytes (instrs_bytes d) d) s in (
        0x04 ∷ [],
        result_code r ∷ (instrs_bytes t ++ closing_bytes (instrs_bytes d) d),
        refl,
        refl,
        (
          result_code r ∷ [],
          instrs_bytes t ++ closing_bytes (instrs_bytes d) d,
          refl,
          refl,
          (
            instrs_bytes t,
            closing_bytes (instrs_bytes d) d,
            refl,
            instrs_spelled t (first _ _ e) (small_left (instrs_bytes t) (closing_bytes (instrs_bytes d) d) within),
            closing_spelled d (instrs_spelled d (second _ _ e) (small_closing d (small_right (instrs_bytes t) (closing_bytes (instrs_bytes d) d) within))),
          ),
        ),
      )

  pub instrs_spelled : (is : Instrs) → instrs_fit is ≡ true → IsSmall (instrs_bytes is) → instrs is (instrs_bytes is)
  instrs_spelled nothing e s = refl
  instrs_spelled (seq i is) e s =
      (instr_bytes i, instrs_bytes is, refl, instr_spelled i (first _ _ e) (small_left (instr_bytes i) (instrs_bytes is) s), instrs_spelled is (second _ _ e) (small_right (instr_bytes i) (instrs_bytes is) s))

pub expression_spelled : (is : Instrs) → expression_fits is ≡ true → IsSmall (expression_bytes is) → expression is (expression_bytes is)
unfolding expression_fits
expression_spelled is e s = (instrs_bytes is, 0x0B ∷ [], refl, instrs_spelled is (second _ _ e) (small_left (instrs_bytes is) (0x0B ∷ []) s), refl)
