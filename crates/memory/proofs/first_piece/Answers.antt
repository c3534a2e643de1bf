use Rattle.std.proofs.Common.{◌≡◌, ◌<◌, ◌+◌, ◌++◌, ◌∙◌, ℕ, ap, sym, subst, map, arith}
use Rattle.std.specs.Prelude.{slice_index, option_copied}
use Rattle.std.specs.List.{range_with_len}
use Rattle.memory.specs.Runs.{begun}
use Rattle.memory.specs.Start.{stands, begins}
use Rattle.memory.proofs.Lists.{mapped_at, mapped_length}
use Rattle.memory.proofs.first_piece.Goals as goal

pub returns-in_ok-append-in-Some-clause-len : goal.returns-in_ok-append-in-Some-clause-len
returns-in_ok-append-in-Some-clause-len g c =
    let f = begun (stands c.in-Some.start.now) in
    let e = mapped_length c.append.new.bytes.items f c.args.at c.args.count (c.in_ok-append-in-Some.ensures ∙ ap (λ l. l ++ map f (range_with_len c.args.at c.args.count)) c.in_ok-piece-in-Some.ensures.items) in
    omega (arith, e, c.append.new.bytes.ok.0)

pub returns-in_ok-append-in-Some-clause-bytes : goal.returns-in_ok-append-in-Some-clause-bytes
returns-in_ok-append-in-Some-clause-bytes g c =
    let f = begun (stands c.in-Some.start.now) in
    subst (λ o. (j : ℕ) → j < c.args.count → slice_index c.append.new.bytes.items j ≡ begins (option_copied o) (c.args.at + j)) (sym c.in-Some.is)
    (mapped_at c.append.new.bytes.items f c.args.at c.args.count (c.in_ok-append-in-Some.ensures ∙ ap (λ l. l ++ map f (range_with_len c.args.at c.args.count)) c.in_ok-piece-in-Some.ensures.items))
