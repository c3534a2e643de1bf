use Rattle.assembler.proofs.Turned.{view_turned, numbered_turned}
use Rattle.assembler.proofs.lists.lists_of.Goals as goal

pub returns-clause-same : goal.returns-clause-same
returns-clause-same g c =
    let p = c.args.parts in
    rw (c.turned.ensures, c.turned-2.ensures, c.turned-3.ensures, c.turned-4.ensures, c.turned-5.ensures, c.turned-6.ensures, c.turned-7.ensures, c.turned-8.ensures)
    (view_turned c.args.types.items p.imports.items p.funcs.items p.tables.items p.memories.items p.globals.items p.exports.items p.start p.elements.items p.datas.items)

pub returns-clause-numbered : goal.returns-clause-numbered
returns-clause-numbered g c =
    let p = c.args.parts in
    rw (c.turned-2.ensures, c.turned-5.ensures, c.turned-7.ensures, c.turned-8.ensures)
    (numbered_turned p.funcs.items p.globals.items p.elements.items p.datas.items c.requires.numbered)
