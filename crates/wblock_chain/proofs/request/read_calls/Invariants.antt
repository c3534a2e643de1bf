use Rattle.std.proofs.Common.{◌≡◌, IsTrue}
use Rattle.wblock_chain.proofs.Reading.{AreRead}
use Rattle.wblock_chain.proofs.request.read_calls.Given as goal

abbrev pub invariant-loop : goal.invariant-loop
invariant-loop g l = record {
  read : IsTrue g.L.Lines.tells → AreRead l.fits l.text.items (g.L.Lines.coming l.fn.lines) (g.L.Lines.coming l.lines);
  calm : g.L.Lines.failures l.lines ≡ g.L.Lines.failures l.fn.lines;
}
