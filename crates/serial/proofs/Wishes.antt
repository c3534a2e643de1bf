-- What a run asked for is done beside the cells.
use Rattle.std.proofs.Common.{◌≡◌, ℕ, List, [], sym, subst}
use Rattle.spec_ledger.specs.declared.Inverse.{Inverse}
use Rattle.spec_ledger.specs.declared.Lock.{Lock}
use Rattle.spec_ledger.specs.declared.TraceStep.{TraceStep}
use Rattle.serial.specs.declared.touches.Touch.{Touch}
use Rattle.serial.specs.Touches.{AreTouches, AreTouchesOf, WereTouchedBy}
use Rattle.serial.proofs.Stepping.{none_touched}

pub of_some : (t : List TraceStep) (es : List (Lock × Touch)) (is : List Inverse) (ms : List ℕ) → AreTouchesOf t es is ms → AreTouches es is ms
of_some t es is ms d = record { trace = t; are = d }

pub by_it : (t : List TraceStep) (es : List (Lock × Touch)) (is : List Inverse) (ms : List ℕ) → AreTouchesOf t es is ms → WereTouchedBy t es
by_it t es is ms d = record { inverses = is; marks = ms; are = d }

-- nothing is done
pub started : (t : List TraceStep) (es : List (Lock × Touch)) (is : List Inverse) (ms : List ℕ) → t ≡ [] → es ≡ [] → is ≡ [] → ms ≡ [] → AreTouchesOf t es is ms
started t es is ms t_is es_are is_are ms_are =
    subst (λ x. AreTouchesOf x es is ms) (sym t_is) (subst (λ x. AreTouchesOf [] es x ms) (sym is_are) (subst (λ x. AreTouchesOf [] es [] x) (sym ms_are) (none_touched es es_are)))
