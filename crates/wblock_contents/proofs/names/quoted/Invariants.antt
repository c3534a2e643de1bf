use Rattle.std.proofs.Common.{◌≡◌, ◌∷◌, ◌++◌, drop, string_bytes}
use Rattle.std.specs.List.{flat_map}
use Rattle.wblock_contents.specs.Names.{byte_text}
use Rattle.wblock_contents.proofs.names.quoted.Given as goal

abbrev pub invariant-loop-byte : goal.invariant-loop-byte
invariant-loop-byte l = string_bytes l.text ++ flat_map byte_text (drop l.byte-index l.bytes) ≡ 34 ∷ flat_map byte_text l.bytes
