use Rattle.std.proofs.Common.{◌≡◌, ◌++◌, drop, map}
use Rattle.serde_json.specs.View.{view}
use Rattle.wblock_calls.specs.Words.{texts}
use Rattle.wblock_json.specs.Refusals.{number_data}
use Rattle.wblock_json.proofs.refusals.numbers_of.Given as goal

abbrev pub invariant-loop-word : goal.invariant-loop-word
invariant-loop-word l = map view l.values.items ++ map number_data (texts (drop l.word-index l.words)) ≡ map number_data (texts l.words)
