-- Bytes that spell no module that could be written.
use Rattle.std.proofs.Common.{◌≡◌, ℕ, List, [], ◌∷◌, ◌++◌, Bool, true}
use Rattle.loader.specs.Refusals.{NoModule}
use Rattle.wblock_line.specs.declared.refusals.ModuleRefusal.{ModuleRefusal}
use Rattle.wblock_line.specs.Modules.{IsWhy}
use Rattle.wblock_line.specs.Refusals.{refusal_text}
use Rattle.wblock_modules.specs.Texts.{TellsUnread}

pub tells_unread : (unchecked : Bool) (bytes line : List ℕ) (refusal : ModuleRefusal) → IsWhy bytes refusal → (unchecked ≡ true → NoModule bytes) → line ≡ refusal_text refusal ++ 10 ∷ [] → TellsUnread unchecked bytes line
tells_unread unchecked bytes line refusal why none is = record { tells = record { refusal = refusal; why = why; line_is = is }; none = none }
