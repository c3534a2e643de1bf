-- Texts that were judged.
use Rattle.std.specs.Prelude.{string_bytes}
use Rattle.spec_modules.specs.Syntax.{Module}
use Rattle.spec_text.specs.Names.{Names}
use Rattle.module_text.specs.declared.judge.Judged.{Judged}
use Rattle.module_text.specs.declared.judge.Judged.TheVariants.{Named, Unnamed}

-- a text that passed names the module
abbrev pub IsJudged : Module → Judged → Type 0
IsJudged m (Named text) = Names (string_bytes text) m
IsJudged m Unnamed = Unit {0}
