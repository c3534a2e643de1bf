use Rattle.std.proofs.Common.{◌≡◌, ◌≤◌, ◌-◌, IsTrue, length, vec_len, map, take}
use Rattle.world.specs.Views.{contract_view}
use Rattle.wblock_modules.specs.Deploys.{AreHeld}
use Rattle.wblock_modules.proofs.deploy.read_modules.Given as goal

abbrev pub invariant-loop-number : goal.invariant-loop-number
invariant-loop-number g l =
    (l.number ≤ length l.names) ×
    (vec_len l.contracts ≡ l.number) ×
    (g.F.Files.failures l.files ≡ g.F.Files.failures l.fn.files) ×
    (IsTrue g.F.Files.tells → g.F.Files.holds l.files ≡ g.F.Files.holds l.fn.files) ×
    (IsTrue g.F.Files.tells → AreHeld (g.F.Files.holds l.fn.files) (take l.number (map (λ w. w.now) l.names)) (map contract_view l.contracts.items))

abbrev pub decreases-loop-number : goal.decreases-loop-number
decreases-loop-number g l = length l.names - l.number
