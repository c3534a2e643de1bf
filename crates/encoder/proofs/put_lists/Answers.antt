use Rattle.std.proofs.lemmas.Result.{on_ok_weaker}
use Rattle.encoder.proofs.Grouped.{spelled_groups}
use Rattle.encoder.proofs.put_lists.Goals as goal

pub returns-clause-bytes : goal.returns-clause-bytes
returns-clause-bytes g c =
    let m = c.args.lists.now in
    on_ok_weaker c.put_tail.result
    (spelled_groups m.types.now.items m.imports.now.items m.funcs.now.items m.tables.now.items m.memories.now.items m.globals.now.items m.exports.now.items m.start m.elements.now.items m.datas.now.items
    c.args.out.now.items c.put_head.new.out.items c.put_middle.new.out.items c.put_tail.new.out.items c.in_ok-put_head.ensures.bytes c.in_ok-put_middle.ensures.bytes)
    c.put_tail.ensures.bytes
