-- What is printed of a call, whether it starts or not.
use Rattle.std.proofs.Common.{Result, Ok, Err, IfOk, List, string_bytes, inl, inr}
use Rattle.spec_ledger.specs.Cells.{Cells}
use Rattle.spec_execution.specs.Configuration.{Setting}
use Rattle.spec_execution.specs.Run.{ContractCall}
use Rattle.debugger.specs.SessionView.{SessionView, IsSessionView}
use Rattle.debugger.specs.Commands.{IsOpened}
use Rattle.wblock_usage.specs.declared.debugging.Command.{Command}
use Rattle.wblock_call.specs.declared.style.Style.{Style}
use Rattle.wblock_debug.specs.declared.printed.Printed.{Printed}
use Rattle.wblock_debug.specs.Prints.{IsPrinted, IsNotStarted, IsDebugged}

pub shown : {A E : Type 0} (style : Style) (setting : Setting) (cells : Cells) (call : ContractCall) (commands : List Command) (first last : SessionView) (r : Result (Printed A) E) → IsOpened setting call cells first → IsSessionView first → IfOk r (λ p. IsPrinted style first commands last p.refused (string_bytes p.text)) → IfOk r (λ p. IsDebugged style setting cells call commands p.refused (string_bytes p.text))
shown style setting cells call commands first last (Ok p) opened is h = inr (record { first = first; opened = opened; is_first = is; last = last; printed = h })
shown style setting cells call commands first last (Err e) opened is h = h

pub not_started : {A E : Type 0} (style : Style) (setting : Setting) (cells : Cells) (call : ContractCall) (commands : List Command) (r : Result (Printed A) E) → IfOk r (λ p. IsNotStarted style.json setting call p.refused (string_bytes p.text)) → IfOk r (λ p. IsDebugged style setting cells call commands p.refused (string_bytes p.text))
not_started style setting cells call commands (Ok p) h = inl h
not_started style setting cells call commands (Err e) h = h
