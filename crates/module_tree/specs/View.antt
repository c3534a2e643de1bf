-- The abstract syntax that a tree in memory stands for, and the ordinals that its nodes carry.
use Rattle.std.specs.Prelude.{ℕ, List, [], ◌∷◌, ◌++◌, map}
use Rattle.spec_modules.specs.Syntax as syntax
use Rattle.module_tree.specs.declared.instr.Instr.{Instr, fold-Instr}
use Rattle.module_tree.specs.declared.instr.Instr.TheOpen.{Instr-F}

-- one level, with each instruction inside already seen
abbrev pub view_step : {A : Type 0} → Instr-F A syntax.Instr → syntax.Instr
view_step (Instr-F.Plain n op) = syntax.Plain op
view_step (Instr-F.BrTable n ls l) = syntax.BrTable ls.items l
view_step (Instr-F.Block n r b) = syntax.Block r (syntax.instrs_of b.items)
view_step (Instr-F.Loop n r b) = syntax.Loop r (syntax.instrs_of b.items)
view_step (Instr-F.If n r t e) = syntax.If r (syntax.instrs_of t.items) (syntax.instrs_of e.items)

abbrev pub instr_view : {A : Type 0} → Instr A → syntax.Instr
instr_view {A} = fold-Instr A syntax.Instr view_step

abbrev pub instrs_view : {A : Type 0} → List (Instr A) → syntax.Instrs
instrs_view is = syntax.instrs_of (map instr_view is)

abbrev pub join : List (List ℕ) → List ℕ
join [] = []
join (ns ∷ nss) = ns ++ join nss

abbrev pub ordinals_step : {A : Type 0} → Instr-F A (List ℕ) → List ℕ
ordinals_step (Instr-F.Plain n op) = n ∷ []
ordinals_step (Instr-F.BrTable n ls l) = n ∷ []
ordinals_step (Instr-F.Block n r b) = n ∷ join b.items
ordinals_step (Instr-F.Loop n r b) = n ∷ join b.items
ordinals_step (Instr-F.If n r t e) = n ∷ (join t.items ++ join e.items)

-- the ordinals in preorder
abbrev pub instr_ordinals : {A : Type 0} → Instr A → List ℕ
instr_ordinals {A} = fold-Instr A (List ℕ) ordinals_step

abbrev pub ordinals : {A : Type 0} → List (Instr A) → List ℕ
ordinals is = join (map instr_ordinals is)

abbrev pub ordinal_step : {A : Type 0} → Instr-F A ℕ → ℕ
ordinal_step (Instr-F.Plain n op) = n
ordinal_step (Instr-F.BrTable n ls l) = n
ordinal_step (Instr-F.Block n r b) = n
ordinal_step (Instr-F.Loop n r b) = n
ordinal_step (Instr-F.If n r t e) = n

-- the ordinal that an instruction itself carries
abbrev pub ordinal_of : {A : Type 0} → Instr A → ℕ
ordinal_of {A} = fold-Instr A ℕ ordinal_step
