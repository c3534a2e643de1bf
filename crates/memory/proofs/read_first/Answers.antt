use Rattle.std.proofs.Common.{◌≡◌, ◌++◌, sym, subst, refl, map}
use Rattle.std.specs.Prelude.{IfOk, option_copied}
use Rattle.std.specs.List.{range_with_len}
use Rattle.memory.specs.Start.{begins}
use Rattle.memory.proofs.Lists.{constant}
use Rattle.memory.proofs.read_first.Goals as goal

pub returns-in-Some : goal.returns-in-Some
returns-in-Some g c =
    subst (λ o. IfOk c.append.result (λ _. c.append.new.bytes.items ≡ c.args.bytes.now.items ++ map (begins (option_copied o)) (range_with_len c.args.at c.args.count))) (sym c.in-Some.is) c.append.ensures

pub returns-in-None : goal.returns-in-None
returns-in-None g c =
    subst (λ o. IfOk c.append_zeros.result (λ _. c.append_zeros.new.bytes.items ≡ c.args.bytes.now.items ++ map (begins (option_copied o)) (range_with_len c.args.at c.args.count))) (sym c.in-None.is)
    (subst (λ l. IfOk c.append_zeros.result (λ _. c.append_zeros.new.bytes.items ≡ c.args.bytes.now.items ++ l)) (sym (constant (λ at. 0) c.args.at c.args.count (λ k. refl))) c.append_zeros.ensures)
