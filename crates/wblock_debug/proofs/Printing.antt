-- Commands that are given one after another.
use Rattle.std.proofs.Common.{◌≡◌, ℕ, Bool, true, List, [], ◌∷◌, ◌++◌, sym, subst, string_bytes}
use Rattle.debugger.specs.SessionView.{SessionView, IsSessionView}
use Rattle.debugger.specs.declared.session.Refusal.{Refusal}
use Rattle.wblock_usage.specs.declared.debugging.Command.{Command}
use Rattle.wblock_call.specs.declared.style.Style.{Style}
use Rattle.wblock_debug.specs.declared.printed.Printed.{Printed}
use Rattle.wblock_debug.specs.Tells.{TellsRefusal}
use Rattle.wblock_debug.specs.Prints.{Does, Refuses, IsPrinted, done, refused, AddsCommand}

pub adds_line : {A : Type 0} (style : Style) (c : Command) (s t : SessionView) (old new : Printed A) (line : List ℕ) → Does style c s t line → IsSessionView t → new.refused ≡ old.refused → string_bytes new.text ≡ string_bytes old.text ++ line → AddsCommand style c s t old new
adds_line style c s t old new line does sight same pushed = λ first given h.
    subst (λ (text : List ℕ). IsPrinted style first (given ++ c ∷ []) t new.refused text) (sym pushed)
    (subst (λ (b : Bool). IsPrinted style first (given ++ c ∷ []) t b (string_bytes old.text ++ line)) (sym same)
    (done given s old.refused (string_bytes old.text) c t line h does sight))

pub adds_refusal : {A : Type 0} (style : Style) (c : Command) (s t : SessionView) (old new : Printed A) (r : Refusal) (line : List ℕ) → Refuses c s r → t ≡ s → TellsRefusal style.json r line → new.refused ≡ true → string_bytes new.text ≡ string_bytes old.text ++ line → AddsCommand style c s t old new
adds_refusal style c s t old new r line why stays is told pushed = λ first given h.
    subst (λ (u : SessionView). IsPrinted style first (given ++ c ∷ []) u new.refused (string_bytes new.text)) (sym stays)
    (subst (λ (text : List ℕ). IsPrinted style first (given ++ c ∷ []) s new.refused text) (sym pushed)
    (subst (λ (b : Bool). IsPrinted style first (given ++ c ∷ []) s b (string_bytes old.text ++ line)) (sym told)
    (refused given s old.refused (string_bytes old.text) c r line h why is)))
