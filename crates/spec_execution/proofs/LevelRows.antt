-- Worked examples of calls between contracts, which compute.
use Rattle.std.proofs.Common.{◌≡◌, ℕ, ◌+◌, List, [], ◌∷◌, Some, refl, sym, ap, ◌∙◌, arith, pos, true}
use Rattle.wtypes.specs.declared.ValType.TheVariants as valtype
use Rattle.wtypes.specs.declared.Value.{Value}
use Rattle.wtypes.specs.declared.Value.TheVariants.{I32, I64}
use Rattle.wtypes.specs.declared.CvtOp.TheVariants.{I64ExtendI32U}
use Rattle.wtypes.specs.declared.PlainInstr.TheVariants.{Unreachable, LocalGet, Const, Call, Drop, Convert}
use Rattle.wtypes.specs.declared.HostCall.TheVariants as host
use Rattle.spec_modules.specs.Syntax.{Instr, Plain, instrs_of, Func, ExportFunc}
use Rattle.spec_ledger.specs.declared.Op.TheVariants as op
use Rattle.spec_ledger.specs.declared.Reply.TheVariants as reply
use Rattle.spec_ledger.specs.declared.TraceStep.{TraceStep}
use Rattle.spec_ledger.specs.declared.TraceStep.TheVariants.{Did, Opened, Kept, Dropped}
use Rattle.spec_ledger.specs.declared.Outcome.{Outcome}
use Rattle.spec_ledger.specs.declared.Outcome.TheVariants.{Returned, OutOfFuel}
use Rattle.spec_execution.specs.Configuration.{Deployed}
use Rattle.spec_execution.specs.Reduction.{reduce, execute, execute_plain}
use Rattle.spec_execution.specs.Walk.{Report, report, walk}
use Rattle.spec_execution.proofs.Rows.{over_these, no_module, five}

abbrev body : List Instr → ℕ → Func
body is t = record { type_index = t; locals = []; body = instrs_of is }

-- adds 1 and returns; adds 1 and traps; adds 10 and asks one of these; asks itself
abbrev asking : Deployed
asking = record {
  tree = record no_module {
    types = record { params = valtype.I64 ∷ valtype.I64 ∷ []; results = [] } ∷ record { params = valtype.I32 ∷ valtype.I32 ∷ valtype.I64 ∷ []; results = valtype.I32 ∷ [] }
        ∷ record { params = []; results = valtype.I64 ∷ [] } ∷ record { params = valtype.I64 ∷ []; results = valtype.I64 ∷ [] } ∷ record { params = valtype.I32 ∷ valtype.I64 ∷ []; results = valtype.I64 ∷ [] } ∷ [];
    funcs = body (Plain (LocalGet 0) ∷ Plain (Const (I64 (pos 1))) ∷ Plain (Call 0) ∷ Plain (LocalGet 0) ∷ []) 3
        ∷ body (Plain (LocalGet 0) ∷ Plain (Const (I64 (pos 1))) ∷ Plain (Call 0) ∷ Plain Unreachable ∷ []) 3
        ∷ body (Plain (LocalGet 1) ∷ Plain (Const (I64 (pos 10))) ∷ Plain (Call 0) ∷ Plain (Const (I32 (pos 0))) ∷ Plain (LocalGet 0) ∷ Plain (LocalGet 1) ∷ Plain (Call 1) ∷ Plain Drop ∷ Plain (Call 2) ∷ []) 4
        ∷ body (Plain (Const (I32 (pos 0))) ∷ Plain (Const (I32 (pos 3))) ∷ Plain (LocalGet 0) ∷ Plain (Call 1) ∷ Plain (Convert I64ExtendI32U) ∷ []) 3 ∷ [];
    exports = record { name = 1 ∷ []; desc = ExportFunc 3 } ∷ record { name = 2 ∷ []; desc = ExportFunc 4 } ∷ record { name = 3 ∷ []; desc = ExportFunc 5 } ∷ record { name = 4 ∷ []; desc = ExportFunc 6 } ∷ [];
  };
  hosts = host.Add ∷ host.Ask ∷ host.Answer ∷ [];
}

abbrev adding : ℕ → TraceStep
adding n = Did (op.Add (record { contract = 0; key = 7 }) n) reply.Nothing

abbrev gives : List ℕ → ℕ → List Value → Outcome → ℕ → List TraceStep → Type 0
gives entry limit args outcome fuel trace = report 300 (over_these (asking ∷ [])) five (record { contract = 0; entry = entry; args = args; fuel = limit }) ≡ record { at_end = true; outcome = outcome; fuel = fuel; trace = trace }

asks_one : gives (3 ∷ []) 100 (I32 (pos 0) ∷ I64 (pos 7) ∷ []) (Returned (Some (I64 (pos 7)))) 13 (adding 10 ∷ Opened ∷ adding 1 ∷ Kept ∷ [])
unfolding walk reduce execute execute_plain
asks_one = refl

asks_bad : gives (3 ∷ []) 100 (I32 (pos 1) ∷ I64 (pos 7) ∷ []) (Returned (Some (I64 (pos 0)))) 13 (adding 10 ∷ Opened ∷ adding 1 ∷ Dropped ∷ [])
unfolding walk reduce execute execute_plain
asks_bad = refl

-- what the level that trapped did is not kept
abbrev kept_in : List TraceStep → ℕ
kept_in [] = 0
kept_in (Kept ∷ t) = 1 + kept_in t
kept_in (_ ∷ t) = kept_in t

not_kept : gives (3 ∷ []) 100 (I32 (pos 1) ∷ I64 (pos 7) ∷ []) (Returned (Some (I64 (pos 0)))) 13 (adding 10 ∷ Opened ∷ adding 1 ∷ Kept ∷ []) → ⊥
not_kept h = let kept : 0 ≡ 1 = ap (λ (r : Report). kept_in r.trace) (sym asks_bad ∙ h) in omega (arith, kept)

asks_other_type : gives (3 ∷ []) 100 (I32 (pos 2) ∷ I64 (pos 7) ∷ []) (Returned (Some (I64 (pos 0)))) 9 (adding 10 ∷ [])
unfolding walk reduce execute execute_plain
asks_other_type = refl

asks_nothing : gives (3 ∷ []) 100 (I32 (pos 9) ∷ I64 (pos 7) ∷ []) (Returned (Some (I64 (pos 0)))) 9 (adding 10 ∷ [])
unfolding walk reduce execute execute_plain
asks_nothing = refl

deep : gives (4 ∷ []) 100 (I64 (pos 7) ∷ []) (Returned (Some (I64 (pos 0)))) 25 (Opened ∷ Opened ∷ Opened ∷ Opened ∷ Kept ∷ Kept ∷ Kept ∷ Kept ∷ [])
unfolding walk reduce execute execute_plain
deep = refl

deep_with_24 : gives (4 ∷ []) 24 (I64 (pos 7) ∷ []) OutOfFuel 24 (Opened ∷ Opened ∷ Opened ∷ Opened ∷ Kept ∷ Kept ∷ Kept ∷ Kept ∷ [])
unfolding walk reduce execute execute_plain
deep_with_24 = refl

deep_with_10 : gives (4 ∷ []) 10 (I64 (pos 7) ∷ []) OutOfFuel 10 (Opened ∷ Opened ∷ Dropped ∷ Dropped ∷ [])
unfolding walk reduce execute execute_plain
deep_with_10 = refl
