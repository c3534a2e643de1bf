use Rattle.std.proofs.Common.{◌<◌, length, map, arith, refl}
use Rattle.text_body.specs.Views.{text_of}
use Rattle.text_fields.proofs.Parting.{unnamed_more}
use Rattle.text_fields.proofs.locals.add_unnamed.Goals as goal

pub loop-param-preserved : goal.loop-param-preserved
loop-param-preserved g c =
    let xs = c.args.params.now.items in
    let l = c.loop-param in
    let lt : l._param-index < length xs = grind arith in
    unnamed_more text_of l.names.items c.push.new.self.items (map text_of c.args.names.now.items) xs l._param-index refl lt l.invariant c.in_ok-push.ensures.items
