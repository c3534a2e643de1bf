use Rattle.std.proofs.Common.{List, length, string_bytes, subst}
use Rattle.module_tree.specs.Modules.{module_view}
use Rattle.wblock_words.specs.declared.function_names.FunctionName.{FunctionName}
use Rattle.wblock_words.specs.Names.{names_in}
use Rattle.wblock_json.specs.Json.{IsJson}
use Rattle.wblock_json.specs.Modules.{module_data}
use Rattle.wblock_json.proofs.modules.module_json.Goals as goal

pub returns : goal.returns
returns c =
    record {
      names = names_in c.in_ok-names.names.items;
      carried = c.in_ok-names.ensures.carried;
      text_is =
          subst
          (λ (names : List FunctionName). IsJson (module_data (length c.args.bytes.now) (names_in names) (module_view c.args.tree.now)) (string_bytes c.in_ok-text.text))
          c.deref.ensures.value
          c.in_ok-text.ensures;
    }
