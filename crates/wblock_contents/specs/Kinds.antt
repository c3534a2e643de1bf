-- Files by their first bytes.
use Rattle.std.specs.Prelude.{ℕ, List, [], ◌∷◌}
use Rattle.wblock_contents.specs.declared.kind.Kind.{Kind}
use Rattle.wblock_contents.specs.declared.kind.Kind.TheVariants.{Module, World, Block}

-- what a file of a kind begins with
abbrev pub magic : Kind → List ℕ
magic Module = 0x00 ∷ 0x61 ∷ 0x73 ∷ 0x6D ∷ []
magic World = 0x57 ∷ 0x42 ∷ 0x57 ∷ 0x44 ∷ []
magic Block = 0x57 ∷ 0x42 ∷ 0x4C ∷ 0x4B ∷ []
