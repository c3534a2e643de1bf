-- What a scene shows of a block.
use Rattle.std.proofs.Common.{◌≡◌, ℕ, ◌<◌, Bool, true, false, not, List, length, slice_index, refl, sym, ap, subst, ◌∙◌, arith}
use Rattle.std.proofs.lemmas.List.{length-map}
use Rattle.spec_ledger.specs.declared.Entry.{Entry}
use Rattle.spec_block.specs.Worlds.{Block, Position, profiles_of, profiles_in}
use Rattle.spec_block.specs.Schedule.{IsWave}
use Rattle.figures.specs.Hottest.{AreHottest}
use Rattle.wblock_picture.specs.declared.edge.Edge.{Edge}
use Rattle.wblock_picture.specs.declared.scene.Scene.{Scene}
use Rattle.wblock_picture.specs.declared.scene.TheConstants.{MOST_BOXES}
use Rattle.wblock_picture.specs.Edges.{AreEdges}
use Rattle.wblock_picture.specs.Drawings.{AreTakenTurns, IsSceneOf}

not-not : (b : Bool) → not (not b) ≡ b
not-not true = refl
not-not false = refl

-- the waves and the edges of the graph of the turns that were taken, and the hottest locks
pub is_scene : (b : Block) (s : Scene) (positions : List Position) (profiles lent held : List (List Entry)) (waves : List ℕ) (all : Bool) (edges : List Edge)
    → positions ≡ b.positions → AreTakenTurns (profiles_in positions) profiles → lent ≡ profiles → held ≡ lent
    → length waves ≡ length lent → ((i : ℕ) → i < length lent → IsWave lent i (slice_index waves i)) → AreEdges held MOST_BOXES all edges
    → s.positions.now ≡ b.positions → s.waves.now ≡ waves → s.edges.now ≡ edges → s.more_edges ≡ not all → AreHottest (profiles_of b) s.hottest.now
    → IsSceneOf b s
is_scene b s positions profiles lent held waves all edges is turns same kept each wave are p w e m hot =
    let taken : AreTakenTurns (profiles_of b) profiles = subst (λ (ps : List Position). AreTakenTurns (profiles_in ps) profiles) is turns in
    let many : length lent ≡ length b.positions = ap length same ∙ (taken.each ∙ length-map b.positions (λ (q : Position). q.profile)) in
    let edged : AreEdges profiles MOST_BOXES all edges = subst (λ (ps : List (List Entry)). AreEdges ps MOST_BOXES all edges) (kept ∙ same) are in
    let told : AreEdges profiles MOST_BOXES (not s.more_edges) edges = subst (λ (x : Bool). AreEdges profiles MOST_BOXES x edges) (sym (ap not m ∙ not-not all)) edged in
    record {
      positions = p;
      profiles = profiles;
      turns = taken;
      each = ap length w ∙ (each ∙ many);
      waves = λ i below. subst (λ (ws : List ℕ). IsWave profiles i (slice_index ws i)) (sym w) (subst (λ (ps : List (List Entry)). IsWave ps i (slice_index waves i)) same (wave i (omega (arith, below, many))));
      edges = subst (λ (es : List Edge). AreEdges profiles MOST_BOXES (not s.more_edges) es) (sym e) told;
      hottest = hot;
    }
