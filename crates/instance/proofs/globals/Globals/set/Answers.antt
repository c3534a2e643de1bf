use Rattle.std.proofs.Common.{◌≡◌, slice_set, ap, ◌∙◌}
use Rattle.instance.specs.Globals.{Values, standing}
use Rattle.instance.proofs.Standing.{stands_set, room_set}
use Rattle.instance.proofs.globals.Globals.set.Goals as goal

pub own_all-requires : goal.own_all-requires
own_all-requires g c = c.self.invariant

pub invariant_of-self : goal.invariant_of-self
invariant_of-self g c =
    let s = c.self.inside in
    let new : c.put_value.new.values.items ≡ slice_set (standing s.own.items s.lent.now) c.args.x c.args.value = c.put_value.ensures ∙ ap (λ (vs : Values). slice_set vs c.args.x c.args.value) c.own_all.ensures in
    room_set s.own.items c.put_value.new.values s.lent.now c.args.x c.args.value new

pub returns : goal.returns
returns g c =
    let s = c.self.inside in
    let new : c.put_value.new.values.items ≡ slice_set (standing s.own.items s.lent.now) c.args.x c.args.value = c.put_value.ensures ∙ ap (λ (vs : Values). slice_set vs c.args.x c.args.value) c.own_all.ensures in
    stands_set s.own.items c.put_value.new.values.items s.lent.now c.args.x c.args.value new ∙ ap (λ (vs : Values). slice_set vs c.args.x c.args.value) c.self.view_is
