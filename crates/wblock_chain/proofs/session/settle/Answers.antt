use Rattle.std.proofs.Common.{List, ℕ, ◌++◌, map, option_map, refl, ap₂, subst, inl, inr, ◌∙◌}
use Rattle.std.proofs.lemmas.Result.{IfOk-weaker}
use Rattle.world.specs.Views.{world_view}
use Rattle.wblock_line.specs.Answers.{Wrote, WroteSome, write_of}
use Rattle.wblock_line.specs.declared.answer.Write.{Write}
use Rattle.wblock_line.specs.declared.perform.Status.TheVariants as status
use Rattle.wblock_chain.specs.Replies.{block_line, reply}
use Rattle.wblock_chain.proofs.Answering.{nothing_written, on_err, undone}
use Rattle.wblock_chain.proofs.session.settle.Goals as goal

pub returns-in-Ok-clause-settles : goal.returns-in-Ok-clause-settles
returns-in-Ok-clause-settles g c = λ t.
    let block = option_map (λ b. b.items) c.told_apart-block.result.0 in
    let old = g.F.Files.holds c.args.files.now in
    let new = g.F.Files.holds c.write_files.new.files in
    inl (record {
      block = block;
      files = map write_of c.told_apart-block.result.1.items;
      apart = c.told_apart-block.ensures;
      wrote = subst (λ (ws : List Write). Wrote (map write_of ws) old new) c.as_slice.ensures.value (c.in-Ok.ensures.wrote t);
      moves = record {
        world_is = c.world_after.ensures;
        reply_is = c.in_ok-reply.ensures ∙ ap₂ (λ (text note : List ℕ). reply (text ++ block_line block) note status.Done) c.as_str.ensures.value c.as_str-2.ensures.value;
        goes_on = refl;
      };
    })

pub returns-in-Err-File-clause-settles : goal.returns-in-Err-File-clause-settles
returns-in-Err-File-clause-settles g c =
    let block = option_map (λ b. b.items) c.told_apart-block.result.0 in
    let files = map write_of c.told_apart-block.result.1.items in
    let old = g.F.Files.holds c.args.files.now in
    let new = g.F.Files.holds c.write_files.new.files in
    let name = c.in-Err-File.file.now in
    IfOk-weaker c.failed.result _ _ (λ a reply t.
    inr (undone c.args.change block files name old new (world_view c.args.world) a c.requires c.told_apart-block.ensures (subst (λ (ws : List Write). WroteSome name (map write_of ws) old new) c.as_slice.ensures.value ((rw c.in-Err-File.field-0-is at c.in-Err-File.ensures.left) t)) reply)) c.failed.ensures

pub returns-in-Err-File-clause-kept : goal.returns-in-Err-File-clause-kept
returns-in-Err-File-clause-kept g c =
    let block = option_map (λ b. b.items) c.told_apart-block.result.0 in
    let files = map write_of c.told_apart-block.result.1.items in
    let old = g.F.Files.holds c.args.files.now in
    let new = g.F.Files.holds c.write_files.new.files in
    let name = c.in-Err-File.file.now in
    on_err c.failed.result _ (λ t.
    nothing_written c.args.change block files name old new c.requires c.told_apart-block.ensures (subst (λ (ws : List Write). WroteSome name (map write_of ws) old new) c.as_slice.ensures.value ((rw c.in-Err-File.field-0-is at c.in-Err-File.ensures.left) t)))

pub returns-in-Err-NoMemory-clause-kept : goal.returns-in-Err-NoMemory-clause-kept
returns-in-Err-NoMemory-clause-kept g c = rw c.in-Err-NoMemory.field-0-is at c.in-Err-NoMemory.ensures.left
