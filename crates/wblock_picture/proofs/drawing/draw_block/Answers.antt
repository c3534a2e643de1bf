use Rattle.std.proofs.Common.{List, sym, subst, ◌∙◌}
use Rattle.std.proofs.lemmas.Result.{IfOk-weaker}
use Rattle.spec_block.specs.Worlds.{profiles_of}
use Rattle.figures.specs.Hottest.{AreHottest}
use Rattle.figures.specs.declared.hottest.SharedLock.{SharedLock}
use Rattle.wblock_picture.specs.Drawings.{IsSceneOf}
use Rattle.wblock_picture.proofs.Scenes.{is_scene}
use Rattle.wblock_picture.proofs.drawing.draw_block.Goals as goal

pub returns : goal.returns
returns c =
    let b = c.args.block.now in
    let s = c.scene_of-scene.result in
    let shows = c.scene_of-scene.ensures in
    let graph = c.in_ok-graph.graph in
    let edges = c.in_ok-edges.edges in
    let hot : AreHottest (profiles_of b) s.hottest.now = subst (λ (hs : List SharedLock). AreHottest (profiles_of b) hs) (sym (shows.hottest ∙ c.deref-2.ensures.value)) c.in_ok-figures.ensures.figures.hottest in
    let scene : IsSceneOf b s = is_scene b s c.positions.result.now c.in_ok-profiles.profiles.items c.deref.result.now graph.profiles graph.waves edges.all edges.list.items
    c.positions.ensures c.in_ok-profiles.ensures c.deref.ensures.value c.in_ok-graph.ensures.profiles c.in_ok-graph.ensures.each_wave c.in_ok-graph.ensures.waves c.in_ok-edges.ensures
    (shows.positions ∙ c.positions-2.ensures) (shows.waves ∙ c.waves.ensures) shows.edges shows.more hot in
    IfOk-weaker c.picture_of.result _ _ (λ text is. record { scene = s; of_block = scene; text_is = is }) c.picture_of.ensures
