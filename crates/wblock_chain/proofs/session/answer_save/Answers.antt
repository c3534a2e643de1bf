use Rattle.std.proofs.Common.{List, ℕ, [], ◌∷◌, length, map, refl, ap, subst, inl, inr, ◌∙◌}
use Rattle.std.proofs.lemmas.Result.{IfOk-weaker}
use Rattle.wblock_io.specs.Holding.{Changes}
use Rattle.wblock_line.specs.Answers.{Written, Wrote, WroteSome, write_of}
use Rattle.wblock_line.specs.declared.answer.Write.{Write}
use Rattle.wblock_line.specs.declared.perform.Status.TheVariants as status
use Rattle.wblock_chain.specs.Replies.{reply, saved_line}
use Rattle.wblock_chain.proofs.Answering.{on_err, one_written, wrote_none}
use Rattle.wblock_chain.proofs.session.answer_save.Goals as goal

pub returns-in-Ok-clause-saved : goal.returns-in-Ok-clause-saved
returns-in-Ok-clause-saved g c = λ t.
    let old = g.F.Files.holds c.args.files.now in
    let new = g.F.Files.holds c.write_files.new.files in
    let file = c.args.file.now in
    let wrote = subst (λ (ws : List Written). Wrote ws old new) c.in_ok-writes.ensures (subst (λ (ws : List Write). Wrote (map write_of ws) old new) c.as_slice-2.ensures.value (c.in-Ok.ensures.wrote t)) in
    inl (record {
      changes = subst (λ (b : List ℕ). Changes old new file b) c.in_ok-bytes.ensures (one_written old new file c.in_ok-bytes.bytes.items wrote);
      moves = record { world_is = refl; reply_is = c.in_ok-reply.ensures ∙ ap (λ (b : List ℕ). reply (saved_line (length b)) [] status.Done) (c.as_slice.ensures.value ∙ c.in_ok-bytes.ensures); goes_on = refl };
    })

pub returns-in-Err-File-clause-saved : goal.returns-in-Err-File-clause-saved
returns-in-Err-File-clause-saved g c =
    let old = g.F.Files.holds c.args.files.now in
    let new = g.F.Files.holds c.write_files.new.files in
    let name = c.in-Err-File._file.now in
    IfOk-weaker c.failed.result _ _ (λ a reply t.
    inr (record {
      same = wrote_none c.args.file.now c.in_ok-bytes.bytes.items name old new (subst (λ (ws : List Written). WroteSome name ws old new) c.in_ok-writes.ensures (subst (λ (ws : List Write). WroteSome name (map write_of ws) old new) c.as_slice-2.ensures.value ((rw c.in-Err-File.field-0-is at c.in-Err-File.ensures.left) t)));
      reply = reply;
    })) c.failed.ensures

pub returns-in-Err-File-clause-kept : goal.returns-in-Err-File-clause-kept
returns-in-Err-File-clause-kept g c =
    let old = g.F.Files.holds c.args.files.now in
    let new = g.F.Files.holds c.write_files.new.files in
    let name = c.in-Err-File._file.now in
    on_err c.failed.result _ (λ t.
    wrote_none c.args.file.now c.in_ok-bytes.bytes.items name old new (subst (λ (ws : List Written). WroteSome name ws old new) c.in_ok-writes.ensures (subst (λ (ws : List Write). WroteSome name (map write_of ws) old new) c.as_slice-2.ensures.value ((rw c.in-Err-File.field-0-is at c.in-Err-File.ensures.left) t))))

pub returns-in-Err-NoMemory-clause-kept : goal.returns-in-Err-NoMemory-clause-kept
returns-in-Err-NoMemory-clause-kept g c = rw c.in-Err-NoMemory.field-0-is at c.in-Err-NoMemory.ensures.left
