-- Words and numbers of what is told of a block.
use Rattle.std.specs.Prelude.{ℕ, ◌/◌, ◌%◌, List, ◌++◌, codes, decimal}
use Rattle.spec_ledger.specs.declared.Kind.{Kind}
use Rattle.spec_ledger.specs.declared.Kind.TheVariants.{Map, Counter}
use Rattle.spec_ledger.specs.declared.Lock.{Lock}
use Rattle.spec_ledger.specs.declared.Mode.{Mode}
use Rattle.spec_ledger.specs.declared.Mode.TheVariants.{Read, Add, Excl}

abbrev pub kind_word : Kind → List ℕ
kind_word Map = codes "map"
kind_word Counter = codes "counter"

-- `map C:K` or `counter C:K`
abbrev pub lock_text : Lock → List ℕ
lock_text l = kind_word l.kind ++ codes " " ++ decimal l.contract ++ codes ":" ++ decimal l.key

abbrev pub mode_word : Mode → List ℕ
mode_word Read = codes "read"
mode_word Add = codes "add"
mode_word Excl = codes "excl"

-- a hundredth of a number, with two decimals
abbrev pub hundredth : ℕ → List ℕ
hundredth n = decimal (n / 100) ++ codes "." ++ decimal (n / 10 % 10) ++ decimal (n % 10)
