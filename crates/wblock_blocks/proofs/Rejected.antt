-- What is told of a reason is told of its verdict.
use Rattle.std.proofs.Common.{Bool, List, ℕ, Option, Bor}
use Rattle.block_judge.specs.Judging.{told}
use Rattle.block_judge.specs.declared.reason.Reason.{Reason}
use Rattle.block_judge.specs.declared.reason.Reason.TheVariants as reason
use Rattle.wblock_line.specs.Answers.{Upshot}
use Rattle.wblock_line.specs.Rejections.{IsRejection}
use Rattle.wblock_blocks.specs.Validates.{TellsVerdict}

pub tells : (json : Bool) (name : Option (Bor (List ℕ))) (r : Reason) (u : Upshot) → IsRejection json (told r) u → TellsVerdict json name (told r) u
tells json name reason.Malformed u h = h
tells json name reason.WrongWorld u h = h
tells json name reason.WrongCalls u h = h
tells json name (reason.BadOrder position) u h = h
tells json name reason.OverBudget u h = h
tells json name (reason.RoomLeft call) u h = h
tells json name (reason.BadTurns position) u h = h
tells json name (reason.Deviates position) u h = h
tells json name reason.WrongEnd u h = h
