use Rattle.std.proofs.Common.{◌≡◌, length, arith, sym, ◌∙◌}
use Rattle.std.proofs.lemmas.List.{length-map}
use Rattle.spec_block.specs.Worlds.{Position, profiles_in}
use Rattle.figures.specs.Chains.{fuels_of}
use Rattle.figures.proofs.Numbers.{chain_of_greatest, count_of_greatest, count_within, greatest_small, wave_of_count}
use Rattle.figures.proofs.Tops.{lists_long}
use Rattle.figures.proofs.figures.chains_from.Goals as goal

pub waves_of-requires : goal.waves_of-requires
waves_of-requires c = λ i lt.
    let size = lists_long c.args.positions.now in
    let each = c.requires.each_count in
    count_within (profiles_in c.args.positions.now) (length c.args.positions.now) i _ size c.requires.few c.requires.forward (omega (arith, lt, each)) (c.requires.counts i (omega (arith, lt, each, size)))

pub overflow_cast-result : goal.overflow_cast-result
overflow_cast-result c =
    let size = lists_long c.args.positions.now in
    let each = c.requires.each_count in
    let small = greatest_small c.args.counts.now c.greatest_of.result
    (λ i lt. (count_within (profiles_in c.args.positions.now) (length c.args.positions.now) i _ size c.requires.few c.requires.forward (omega (arith, lt, each)) (c.requires.counts i (omega (arith, lt, each, size)))).1)
    c.greatest_of.ensures in
    omega (arith, small)

pub returns : goal.returns
returns c =
    let profiles = profiles_in c.args.positions.now in
    let size = lists_long c.args.positions.now in
    let waves = c.in_ok-waves.ensures in
    let fuels : length (fuels_of c.args.positions.now) ≡ length c.args.positions.now = length-map c.args.positions.now (λ (p : Position). p.receipt.used) in
    record {
      each = waves.each ∙ (c.requires.each_count ∙ sym size);
      waves = λ i lt.
          let each = c.requires.each_count in
          wave_of_count profiles (length c.args.positions.now) i _ _ size (omega (arith, lt, size)) (waves.less i (omega (arith, lt, size, each))) (c.requires.counts i lt);
      count = count_of_greatest c.in_ok-waves.waves.items c.args.counts.now c.greatest_of.result waves.each waves.less c.greatest_of.ensures;
      fuel = chain_of_greatest profiles (fuels_of c.args.positions.now) c.args.sums.now c.greatest_of-2.result (fuels ∙ sym size) (c.requires.each_sum ∙ sym size) c.requires.sums c.greatest_of-2.ensures;
    }
