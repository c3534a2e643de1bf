-- How options ask that it be told what a call comes to.
use Rattle.std.specs.Prelude.{List, ℕ, Bool, not, ◌&&◌, codes, filter}
use Rattle.std.specs.Str.{bytes_eq}
use Rattle.wblock_line.specs.Words.{AsksAlone, Choice}
use Rattle.wblock_call.specs.declared.style.Style.{Style}

abbrev pub is_named : (name : List ℕ) → Choice → Bool
is_named name option = bytes_eq option.0 name

-- the switch of this name stands among options once and without a value, or not at all
abbrev pub AsksSwitch : (name : List ℕ) → List Choice → Bool → Type 0
AsksSwitch name options given = AsksAlone name (filter (is_named name) options) given

-- `--json` and `--signed`, each or not, whatever stands among them
pub record AsksStyle (options : List Choice) (style : Style) : Type 0 where
  pub json : AsksSwitch (codes "--json") options style.json
  pub signed : AsksSwitch (codes "--signed") options style.signed

-- the option is neither
abbrev pub is_other : Choice → Bool
is_other option = not (is_named (codes "--json") option) && not (is_named (codes "--signed") option)
