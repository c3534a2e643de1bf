-- The instructions that flat ones stand for, as they are resolved.
use Rattle.std.specs.Prelude.{ℕ, zero, suc, ◌+◌, ◌^◌, ◌==◌, nat_le, List, length, Option, Some, None, option_map, option_and_then, cond}
use mir.Val.{bits}
use Rattle.wtypes.specs.declared.ValType.{ValType}
use Rattle.wtypes.specs.declared.Value.{Value}
use Rattle.wtypes.specs.declared.PlainInstr.{PlainInstr}
use Rattle.wtypes.specs.declared.PlainInstr.TheVariants as P
use Rattle.spec_modules.specs.Syntax as S
use Rattle.spec_modules.specs.Profile.{label_limit}
use Rattle.spec_modules.specs.Operators.{word, value_of}
use Rattle.spec_modules.specs.Storage.{load_width, store_width}
use Rattle.spec_text.specs.declared.Operator.{Operator}
use Rattle.spec_text.specs.FieldsOfBytes as N
use Rattle.spec_text.specs.Spaces.{Names, Spaces}
use Rattle.spec_text.specs.Instructions.{simple, indexed, names_in}
use Rattle.lexer.specs.Values.{bits_at}
use Rattle.text_resolve.specs.Lookup.{u32_at, stands_at, all_stand_at}
use Rattle.text_resolve.specs.Types.{use_at}

-- the first exponent, of so many from e on, whose power is n
abbrev pub exponent_from : ℕ → ℕ → ℕ → Option ℕ
exponent_from zero e n = None
exponent_from (suc more) e n = cond (2 ^ e == n) (Some e) (exponent_from more (e + 1) n)

-- the exponent of a power of two
unfoldable pub exponent_at : ℕ → Option ℕ
exponent_at n = exponent_from 32 0 n

abbrev pub offset_at : Option (List ℕ) → Option ℕ
offset_at None = Some 0
offset_at (Some text) = u32_at text

abbrev pub align_at : ℕ → Option (List ℕ) → Option ℕ
align_at width None = exponent_at width
align_at width (Some text) = option_and_then exponent_at (u32_at text)

abbrev pub constant_at : ValType → List ℕ → Option Value
constant_at t text = option_map (value_of t) (bits_at (bits (word t)) text)

abbrev pub table_at : Names → List N.Index → N.Index → Option S.Instr
table_at labels is last = option_and_then (λ ns. cond (nat_le (length ns) label_limit) (option_map (λ n. S.BrTable ns n) (stands_at labels last)) None) (all_stand_at (stands_at labels) is)

abbrev pub indexed_at : Spaces → (locals labels : Names) → Operator → N.Index → Option PlainInstr
indexed_at s locals labels op i = option_and_then (λ p. option_map p.1 (stands_at (names_in s locals labels p.0) i)) (indexed op)

abbrev pub access_at : (ℕ → ℕ → PlainInstr) → ℕ → (offset align : Option (List ℕ)) → Option PlainInstr
access_at make width offset align = option_and_then (λ o. option_map (λ a. make a o) (align_at width align)) (offset_at offset)

-- an operator with what is behind its name
abbrev pub operator_at : Spaces → (locals labels : Names) → N.Flat → Option PlainInstr
operator_at s locals labels (N.Simple op) = simple op
operator_at s locals labels (N.Indexed op i) = indexed_at s locals labels op i
operator_at s locals labels (N.CallIndirect w) = option_map (λ i. P.CallIndirect i) (use_at s.type_names s.types w)
operator_at s locals labels (N.Load op offset align) = access_at (λ a o. P.Load op a o) (load_width op) offset align
operator_at s locals labels (N.Store op offset align) = access_at (λ a o. P.Store op a o) (store_width op) offset align
operator_at s locals labels (N.Const t text) = option_map (λ c. P.Const c) (constant_at t text)
operator_at s locals labels (N.BrTable is last) = None
operator_at s locals labels (N.Opens o label result) = None
operator_at s locals labels (N.Else label) = None
operator_at s locals labels (N.End label) = None

-- a flat instruction that holds no other
abbrev pub plain_at : Spaces → (locals labels : Names) → N.Flat → Option S.Instr
plain_at s locals labels (N.BrTable is last) = table_at labels is last
plain_at s locals labels flat = option_map (λ i. S.Plain i) (operator_at s locals labels flat)
