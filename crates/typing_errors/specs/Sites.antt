-- Where an instruction stands in a body.
use Rattle.std.specs.Prelude.{◌≡◌, ◌⊎◌, ℕ, List, [], ◌∷◌, ◌++◌, codes, Option, Some, None, option_and_then, slice_get}
use Rattle.wtypes.specs.declared.ValType.{ValType}
use Rattle.spec_modules.specs.Syntax.{Instr, Plain, BrTable, Block, Loop, If, Instrs, nothing, seq, Module}
use Rattle.spec_modules.specs.Shape.{instr_at}
use Rattle.module_tree.specs.Readers.{defined_func}
use Rattle.module_tree.specs.declared.instr.Instr as tree
use Rattle.module_tree.specs.View.{ordinal_of, instrs_view}
use Rattle.typing_errors.specs.Names.{IsNameOf}
use Rattle.typing_errors.specs.declared.locate.Spot.{Spot}

abbrev IsSame : List (Option ValType) → Instrs → List (Option ValType) → Instrs → Type 0
IsSame labels body labels' is = (labels' ≡ labels) × (is ≡ body)

-- the sequence `is`, in blocks with the labels labels', stands in a block of this one, which stands in blocks with these labels; the innermost first
abbrev mutual
  pub IsInside : List (Option ValType) → Instr → List (Option ValType) → Instrs → Type 0
  IsInside labels (Plain op) labels' is = ⊥
  IsInside labels (BrTable targets fallback) labels' is = ⊥
  IsInside labels (Block result body) labels' is = IsSame (result ∷ labels) body labels' is ⊎ IsDeeper (result ∷ labels) body labels' is
  IsInside labels (Loop result body) labels' is = IsSame (None ∷ labels) body labels' is ⊎ IsDeeper (None ∷ labels) body labels' is
  IsInside labels (If result on_true on_false) labels' is =
      (IsSame (result ∷ labels) on_true labels' is ⊎ IsDeeper (result ∷ labels) on_true labels' is) ⊎ (IsSame (result ∷ labels) on_false labels' is ⊎ IsDeeper (result ∷ labels) on_false labels' is)

  pub IsDeeper : List (Option ValType) → Instrs → List (Option ValType) → Instrs → Type 0
  IsDeeper labels nothing labels' is = ⊥
  IsDeeper labels (seq first rest) labels' is = IsInside labels first labels' is ⊎ IsDeeper labels rest labels' is

-- the sequence is this one, or stands in a block of it
abbrev pub IsWithin : List (Option ValType) → Instrs → List (Option ValType) → Instrs → Type 0
IsWithin labels body labels' is = IsSame labels body labels' is ⊎ IsDeeper labels body labels' is

-- the instruction there has this ordinal
abbrev pub HasOrdinal : {A : Type 0} → Spot A → ℕ → Type 0
HasOrdinal {A} spot ordinal = (i : tree.Instr A) × (slice_get spot.sequence.now.items spot.place ≡ Some i) × (ordinal_of i ≡ ordinal)

-- the instruction of this ordinal in this function of the module, if there is one
abbrev pub instruction : Module → ℕ → ℕ → Option Instr
instruction m func ordinal = option_and_then (λ f. instr_at f.body ordinal) (defined_func m func)

-- the name of the instruction of this ordinal in this function of the module
abbrev pub IsNameAt : List ℕ → Module → ℕ → ℕ → Type 0
IsNameAt name m func ordinal = (i : Instr) × (instruction m func ordinal ≡ Some i) × IsNameOf name i

-- the sentence begins by naming the instruction there
pub record NamesSite (sentence : List ℕ) (m : Module) (func ordinal : ℕ) : Type 0 where
  pub name : List ℕ
  pub rest : List ℕ
  pub is_name : IsNameAt name m func ordinal
  pub is : sentence ≡ codes "; this instruction is `" ++ (name ++ (codes "`" ++ rest))

-- the sentence begins by saying that a body ends there
pub record NamesEnd (sentence : List ℕ) (m : Module) (func ordinal : ℕ) : Type 0 where
  pub rest : List ℕ
  pub is_end : instruction m func ordinal ≡ None
  pub is : sentence ≡ codes "; this is the end of the body" ++ rest

-- what a sentence may say of the instruction there
abbrev pub TellsSite : List ℕ → Module → ℕ → ℕ → Type 0
TellsSite sentence m func ordinal = (sentence ≡ []) ⊎ (NamesSite sentence m func ordinal ⊎ NamesEnd sentence m func ordinal)
