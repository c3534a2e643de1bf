use Rattle.std.proofs.Common.{take, string_bytes}
use Rattle.wblock_debug.specs.Prints.{IsPrinted}
use Rattle.wblock_debug.proofs.run.perform_all.Given as goal

abbrev pub invariant-loop-command : goal.invariant-loop-command
invariant-loop-command l = IsPrinted l.style l.fn.session (take l.command-index l.commands) l.session l.printed.refused (string_bytes l.printed.text)
