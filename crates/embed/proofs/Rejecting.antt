-- The place of a reason, and what an accepting verdict leaves.
use Rattle.std.proofs.Common.{ℕ, ◌<◌, List, arith}
use Rattle.spec_block.specs.Worlds.{Call, World}
use Rattle.spec_block.specs.Verdicts as verdicts
use Rattle.spec_block.specs.Verdicts.{IsVerdictOf, Verdict, place}
use Rattle.block_judge.specs.declared.reason.Reason.{Reason}
use Rattle.block_judge.specs.declared.reason.Reason.TheVariants.{Malformed, WrongWorld, WrongCalls, BadOrder, OverBudget, RoomLeft, BadTurns, Deviates, WrongEnd}
use Rattle.block_judge.specs.Judging.{told}
use Rattle.embed.specs.Given.{IsAccepted, Leaves}

-- a reason rejects
pub reason_rejects : (r : Reason) → place (told r) < 10
reason_rejects Malformed = omega arith
reason_rejects WrongWorld = omega arith
reason_rejects WrongCalls = omega arith
reason_rejects (BadOrder position) = omega arith
reason_rejects OverBudget = omega arith
reason_rejects (RoomLeft call) = omega arith
reason_rejects (BadTurns position) = omega arith
reason_rejects (Deviates position) = omega arith
reason_rejects WrongEnd = omega arith

-- a verdict that leaves a world accepts
pub accepts : (v : Verdict) (w : World) (cs : List Call) (fuel : ℕ) (block next : List ℕ) → IsVerdictOf w cs fuel block v → Leaves v next → IsAccepted w cs fuel block next
accepts (verdicts.Accept after) w cs fuel block next is leaves = record { after = after; verdict = is; next_is = leaves }
accepts verdicts.Malformed w cs fuel block next is leaves = absurd leaves
accepts verdicts.WrongWorld w cs fuel block next is leaves = absurd leaves
accepts verdicts.WrongCalls w cs fuel block next is leaves = absurd leaves
accepts (verdicts.BadOrder position) w cs fuel block next is leaves = absurd leaves
accepts verdicts.OverBudget w cs fuel block next is leaves = absurd leaves
accepts (verdicts.RoomLeft call) w cs fuel block next is leaves = absurd leaves
accepts (verdicts.BadTurns position) w cs fuel block next is leaves = absurd leaves
accepts (verdicts.Deviates position) w cs fuel block next is leaves = absurd leaves
accepts verdicts.WrongEnd w cs fuel block next is leaves = absurd leaves
