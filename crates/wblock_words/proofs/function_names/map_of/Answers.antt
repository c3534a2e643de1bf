use Rattle.std.proofs.Common.{◌≡◌, ◌-◌, ◌<◌, true, false, length, sym, ap, ◌∙◌, arith, rules}
use Rattle.wblock_words.specs.declared.function_names.FunctionName.{FunctionName}
use Rattle.wblock_words.specs.Names.{names_in}
use Rattle.wblock_words.specs.Parts.{is_above}
use Rattle.wblock_words.proofs.Maps.{Reads, all_read, counted, names_more, no_name, no_number, none_counted, not_above, one_more, same_so_far}
use Rattle.wblock_words.proofs.function_names.map_of.Goals as goal

pub returns-in_default : goal.returns-in_default
returns-in_default g c = none_counted c.args.bytes.now c.in_default.ensures

pub loop-init : goal.loop-init
loop-init g c =
    same_so_far c.args.bytes.now _ c.in-Some.count c.in-Some.rest.now _ _ (counted c.args.bytes.now c.in-Some.count c.in-Some.rest.now c.in-Some.ensures) (ap names_in c.new-names.ensures.items) (omega arith)

pub returns-in_default-number_and_rest : goal.returns-in_default-number_and_rest
returns-in_default-number_and_rest g c =
    let left = c.in-Some.count - c.loop.counter in
    let more : 0 < left = omega (arith, c.loop-test.true) in
    no_number c.args.bytes.now (names_in c.loop.names.items) left c.loop.rest.now c.loop.invariant more c.in_default-number_and_rest.ensures

pub returns-in_default-name_and_rest : goal.returns-in_default-name_and_rest
returns-in_default-name_and_rest g c =
    let left = c.in-Some.count - c.loop.counter in
    let more : 0 < left = omega (arith, c.loop-test.true) in
    let first = c.in-Some-number_and_rest in
    no_name c.args.bytes.now (names_in c.loop.names.items) left c.loop.rest.now c.loop.invariant more first.number first.after.now first.ensures c.in_default-name_and_rest.ensures

pub returns-then-not-is_above : goal.returns-then-not-is_above
returns-then-not-is_above g c =
    let left = c.in-Some.count - c.loop.counter in
    let more : 0 < left = omega (arith, c.loop-test.true) in
    let first = c.in-Some-number_and_rest in
    let second = c.in-Some-name_and_rest in
    let reads : Reads c.loop.rest.now (first.number, second.name.now) second.behind.now = record { after = first.after.now; number = first.ensures; name = second.ensures } in
    let told : is_above (names_in c.deref.result.now) first.number ≡ false = search rules in
    let below = ap (λ fs. is_above (names_in fs) first.number) (sym c.deref.ensures.value) ∙ told in
    not_above c.args.bytes.now (names_in c.loop.names.items) left c.loop.rest.now c.loop.invariant more first.number second.name.now second.behind.now reads below

pub loop-preserved : goal.loop-preserved
loop-preserved g c =
    let left = c.in-Some.count - c.loop.counter in
    let more : 0 < left = omega (arith, c.loop-test.true) in
    let first = c.in-Some-number_and_rest in
    let second = c.in-Some-name_and_rest in
    let reads : Reads c.loop.rest.now (first.number, second.name.now) second.behind.now = record { after = first.after.now; number = first.ensures; name = second.ensures } in
    let told : is_above (names_in c.deref.result.now) first.number ≡ true = search rules in
    let above = ap (λ fs. is_above (names_in fs) first.number) (sym c.deref.ensures.value) ∙ told in
    let named : FunctionName = record { number = first.number; name = second.name } in
    same_so_far c.args.bytes.now _ (left - 1) second.behind.now _ _
    (one_more c.args.bytes.now (names_in c.loop.names.items) left c.loop.rest.now c.loop.invariant more first.number second.name.now second.behind.now reads above)
    (names_more c.loop.names.items c.push.new.self.items named c.in_ok-push.ensures.items) (omega arith)

pub returns-then-is_empty : goal.returns-then-is_empty
returns-then-is_empty g c =
    let empty : length c.loop.rest.now ≡ 0 = search rules in
    all_read c.args.bytes.now (names_in c.loop.names.items) (c.in-Some.count - c.loop.counter) c.loop.rest.now c.loop.invariant (omega (arith, c.loop-test.false)) empty
