use Rattle.std.proofs.Common.{◌≡◌, List, sym, subst, ◌∙◌, length}
use Rattle.std.proofs.lemmas.List.{length-map}
use Rattle.spec_ledger.specs.Modes.{Modes}
use Rattle.spec_block.specs.Worlds.{Position}
use Rattle.lock_profile.specs.Turns.{AreTurns}
use Rattle.wblock_picture.proofs.turns.turns_taken.Goals as goal

pub returns : goal.returns
returns c =
    let touched = c.in_ok-touched.touched.items in
    let profiles = c.in_ok-profiles.profiles.items in
    let are : AreTurns touched profiles = subst (λ (t : List Modes). AreTurns t profiles) c.deref.ensures.value c.in_ok-profiles.ensures in
    record {
      touched = touched;
      modes = c.in_ok-touched.ensures.taken;
      turns = are;
      each = are.0 ∙ (c.in_ok-touched.ensures.each ∙ sym (length-map c.args.positions.now (λ (p : Position). p.profile)));
      consistent = c.turns_agree.ensures touched profiles are;
    }
