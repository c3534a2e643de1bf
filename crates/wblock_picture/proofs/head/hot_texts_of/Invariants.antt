use Rattle.std.proofs.Common.{◌≡◌, ◌++◌, drop, string_bytes}
use Rattle.wblock_picture.specs.Heads.{hot_texts}
use Rattle.wblock_picture.proofs.head.hot_texts_of.Given as goal

abbrev pub invariant-loop-hot : goal.invariant-loop-hot
invariant-loop-hot l = (l.number ≡ l.hot-index) × (string_bytes l.text ++ hot_texts l.number (drop l.hot-index l.hottest) ≡ hot_texts 0 l.hottest)
