use Rattle.std.proofs.Common.{◌≡◌, IsTrue}
use Rattle.world.specs.Views.{world_view}
use Rattle.wblock_chain.proofs.Running.{SoFar}
use Rattle.wblock_chain.proofs.session.run_over.Given as goal

abbrev pub invariant-loop : goal.invariant-loop
invariant-loop g l = record {
  far : IsTrue g.F.Files.tells → IsTrue g.L.Lines.tells → IsTrue g.O.Sink.tells → SoFar l.name (world_view l.fn.world) (g.L.Lines.coming l.fn.lines) (g.L.Lines.coming l.lines) (g.F.Files.holds l.fn.files) (g.F.Files.holds l.files) (world_view l.world) (g.O.Sink.told l.fn.out) (g.O.Sink.told l.out);
  quiet : l.err ≡ l.fn.err;
}
