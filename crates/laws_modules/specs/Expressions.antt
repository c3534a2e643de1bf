-- Whatever bytes spell an expression within its limits, its numbers are in range, and its shortest bytes are no more.
use Rattle.std.proofs.Common.{◌≡◌, ℕ, ◌≤◌, Bool, true, ◌&&◌, List, [], ◌∷◌, ◌++◌, length, nat_le, refl, ap, arith, length-append, ⊎_elim, Option}
use Rattle.std.specs.List.{list_all}
use Rattle.std.proofs.lemmas.Bool.{le-leb}
use Rattle.wtypes.specs.declared.ValType.{ValType}
use Rattle.wtypes.specs.declared.Value.TheVariants as value
use Rattle.wtypes.specs.declared.PlainInstr.{PlainInstr}
use Rattle.wtypes.specs.declared.PlainInstr.TheVariants.{Unreachable, Nop, Br, BrIf, Return, Call, CallIndirect, Drop, Select, LocalGet, LocalSet, LocalTee, GlobalGet, GlobalSet, Load, Store, MemorySize, MemoryGrow, Const, Unary, Binary, Test, Compare, Convert}
use Rattle.spec_modules.specs.Syntax.{Instr, Plain, BrTable, Block, Loop, If, Instrs, nothing, seq}
use Rattle.spec_modules.specs.Shape.{instrs_depth}
use Rattle.spec_modules.specs.Profile.{nesting_limit, label_limit}
use Rattle.spec_modules.specs.Limits.{is_u32, plain_in_range, instr_fits, instrs_fit, expression_fits, both}
use Rattle.spec_modules.specs.Language.{byte, empty, ◌⨾◌}
use Rattle.spec_modules.specs.Leb.{u32}
use Rattle.spec_modules.specs.Opcodes.{opcode, result_code}
use Rattle.spec_modules.specs.Grammar.{immediate, closing, instr, instrs, expression}
use Rattle.spec_modules.specs.Shortest.{u32_bytes, immediate_bytes, closing_bytes, instr_bytes, instrs_bytes, expression_bytes}
use Rattle.spec_modules.specs.Spells.{InstrLabelsFit, LabelsFit}
use Rattle.laws_modules.specs.ExpressionLaws.{FitsIn}
use Rattle.laws_modules.specs.Parts.{Good, good_means, good_byte, good_then, good_front, good_end, good_u32, good_s32, good_s64, good_vector, all_of_each}

good_empty : Good empty (◌≡◌ {A = Bool} true true) []
good_empty = record { keeps = λ bs w s. (refl, omega arith) }

good_zero : Good (byte 0x00) (◌≡◌ {A = Bool} true true) (0 ∷ [])
good_zero = good_means (λ _. refl) (good_byte 0x00)

good_two : (m n : ℕ) → Good (u32 m ⨾ u32 n) ((is_u32 m && is_u32 n) ≡ true) (u32_bytes m ++ u32_bytes n)
good_two m n = good_means (λ p. both (is_u32 m) (is_u32 n) p.0 p.1) (good_then (good_u32 m) (good_u32 n))

-- the bytes behind the opcode
good_immediate : (op : PlainInstr) → Good (immediate op) (plain_in_range op ≡ true) (immediate_bytes op)
good_immediate (Br l) = good_u32 l
good_immediate (BrIf l) = good_u32 l
good_immediate (Call f) = good_u32 f
good_immediate (CallIndirect t) = good_end 0x00 (good_u32 t)
good_immediate (LocalGet x) = good_u32 x
good_immediate (LocalSet x) = good_u32 x
good_immediate (LocalTee x) = good_u32 x
good_immediate (GlobalGet x) = good_u32 x
good_immediate (GlobalSet x) = good_u32 x
good_immediate (Load op align offset) = good_two align offset
good_immediate (Store op align offset) = good_two align offset
good_immediate (Const (value.I32 z)) = good_s32 z
good_immediate (Const (value.I64 z)) = good_s64 z
good_immediate MemorySize = good_zero
good_immediate MemoryGrow = good_zero
good_immediate Unreachable = good_empty
good_immediate Nop = good_empty
good_immediate Return = good_empty
good_immediate Drop = good_empty
good_immediate Select = good_empty
good_immediate (Unary op) = good_empty
good_immediate (Binary op) = good_empty
good_immediate (Test op) = good_empty
good_immediate (Compare op) = good_empty
good_immediate (Convert op) = good_empty

-- an else part may be left out where it is empty
good_closing : (e : Instrs) → Good (instrs e) (LabelsFit e → instrs_fit e ≡ true) (instrs_bytes e) → Good (closing (instrs e) e) (LabelsFit e → instrs_fit e ≡ true) (closing_bytes (instrs_bytes e) e)
good_closing nothing g = record {
  keeps = λ bs w s. (
    λ _. refl,
    ⊎_elim
        (λ left_out. omega (arith, ap length left_out))
        (λ there. omega (arith, ap length there.2, length-append there.0 there.1, ap length there.3))
        s,
  );
}
good_closing (seq i is) g = good_front 0x05 (good_end 0x0B g)

-- from an opcode and a block type to an end
good_block : (k : ℕ) (r : Option ValType) (b : Instrs) → Good (instrs b) (LabelsFit b → instrs_fit b ≡ true) (instrs_bytes b)
    → Good (byte k ⨾ byte (result_code r) ⨾ instrs b ⨾ byte 0x0B) (LabelsFit b → instrs_fit b ≡ true) (k ∷ result_code r ∷ (instrs_bytes b ++ 0x0B ∷ []))
good_block k r b g = good_front k (good_front (result_code r) (good_end 0x0B g))

labels_fit : (ls : List ℕ) (l : ℕ) → list_all is_u32 ls ≡ true → is_u32 l ≡ true → length ls ≤ label_limit → instr_fits (BrTable ls l) ≡ true
labels_fit ls l all one few =
    both (nat_le (length ls) label_limit) (list_all is_u32 ls && is_u32 l) (le-leb (length ls) label_limit few) (both (list_all is_u32 ls) (is_u32 l) all one)

mutual
  pub good_instr : (i : Instr) → Good (instr i) (InstrLabelsFit i → instr_fits i ≡ true) (instr_bytes i)
  good_instr (Plain op) = good_front (opcode op) (good_means (λ p _. p) (good_immediate op))
  good_instr (BrTable ls l) = good_front 0x0E (good_means (λ p few. labels_fit ls l (all_of_each is_u32 ls p.0) p.1 few) (good_then (good_vector good_u32 ls) (good_u32 l)))
  good_instr (Block r b) = good_block 0x02 r b (good_instrs b)
  good_instr (Loop r b) = good_block 0x03 r b (good_instrs b)
  good_instr (If r t e) =
      good_front 0x04 (good_front (result_code r) (good_means (λ p few. both (instrs_fit t) (instrs_fit e) (p.0 few.0) (p.1 few.1)) (good_then (good_instrs t) (good_closing e (good_instrs e)))))

  pub good_instrs : (is : Instrs) → Good (instrs is) (LabelsFit is → instrs_fit is ≡ true) (instrs_bytes is)
  good_instrs nothing = good_means (λ _ _. refl) good_empty
  good_instrs (seq i is) = good_means (λ p few. both (instr_fits i) (instrs_fit is) (p.0 few.0) (p.1 few.1)) (good_then (good_instr i) (good_instrs is))

pub good_expression : (is : Instrs) → Good (expression is) (FitsIn 129 is → expression_fits is ≡ true) (expression_bytes is)
unfolding expression_fits
good_expression is =
    good_means (λ p fits. both (nat_le (instrs_depth is) nesting_limit) (instrs_fit is) (le-leb (instrs_depth is) nesting_limit (omega (arith, fits.depth))) (p fits.labels))
    (good_end 0x0B (good_instrs is))
