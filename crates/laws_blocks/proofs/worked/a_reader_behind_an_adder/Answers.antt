use Rattle.laws_blocks.proofs.Waves.{edge, forward, first_wave, second_wave, waves, chain, chains, no_other_wave, no_fewer_waves, no_more_waves, no_lighter_chain, no_heavier_chain, no_single_wave, no_way_back}
use Rattle.laws_blocks.proofs.worked.a_reader_behind_an_adder.Goals as goal

pub returns : goal.returns
returns c = record {
  edge = edge;
  forward = forward;
  first_wave = first_wave;
  second_wave = second_wave;
  waves = waves;
  chain = chain;
  chains = chains;
  no_other_wave = no_other_wave;
  no_fewer_waves = no_fewer_waves;
  no_more_waves = no_more_waves;
  no_lighter_chain = no_lighter_chain;
  no_heavier_chain = no_heavier_chain;
  no_single_wave = no_single_wave;
  no_way_back = no_way_back;
}
