use Rattle.std.proofs.Common.{◌≡◌, ◌≤◌, ◌-◌, [], ◌∷◌, ◌++◌, length, take, IsTrue}
use Rattle.wblock_io.proofs.files.write_draft.Given as goal

abbrev pub invariant-loop-at : goal.invariant-loop-at
invariant-loop-at g l = record {
  within : l.at ≤ length l.bytes;
  drafted : IsTrue g.F.Files.tells → g.F.Files.drafts l.files ≡ g.F.Files.drafts l.fn.files ++ (l.name, take l.at l.bytes) ∷ [];
  same : IsTrue g.F.Files.tells → g.F.Files.holds l.files ≡ g.F.Files.holds l.fn.files;
  calm : g.F.Files.failures l.files ≡ g.F.Files.failures l.fn.files;
}

abbrev pub decreases-loop-at : goal.decreases-loop-at
decreases-loop-at g l = length l.bytes - l.at
