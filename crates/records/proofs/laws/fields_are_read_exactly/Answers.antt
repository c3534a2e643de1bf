use Rattle.records.proofs.Numbers.{u32_exact, u64_exact, front_exact, tag_takes, tag_again}
use Rattle.records.proofs.laws.fields_are_read_exactly.Goals as goal

pub returns : goal.returns
returns c = record { u32 = u32_exact; u64 = u64_exact; front = front_exact; tag_read = tag_takes; tag_again = tag_again }
