use Rattle.wblock_commands.proofs.Lines.{if_none, if_some}
use Rattle.wblock_commands.proofs.command.spelled_validation.Goals as goal

pub returns-in_default : goal.returns-in_default
returns-in_default c = λ v a. if_none c.in_ok-counted.field-0 _ _ c.in_default.is c.in_ok-counted.ensures v.world.now v.calls.now v.block.now v.fuel v.workers a.counts

pub returns-in_default-2 : goal.returns-in_default-2
returns-in_default-2 c = λ v a. if_none c.in_ok-boosted.field-0 _ _ c.in_default-2.is c.in_ok-boosted.ensures v.boosted a.boosted

pub returns-in_default-3 : goal.returns-in_default-3
returns-in_default-3 c = λ v a. if_none c.in_ok-next.field-0 _ _ c.in_default-3.is c.in_ok-next.ensures v.next a.next

pub returns-in_default-4 : goal.returns-in_default-4
returns-in_default-4 c = λ v a. if_none c.in_ok-json.field-0 _ _ c.in_default-4.is c.in_ok-json.ensures v.json a.json

pub returns : goal.returns
returns c = record {
  counts = if_some c.in_ok-counted.field-0 _ _ c.in-Some.counted c.in-Some.is c.in_ok-counted.ensures;
  boosted = if_some c.in_ok-boosted.field-0 _ _ c.in-Some-2.boosted c.in-Some-2.is c.in_ok-boosted.ensures;
  next = if_some c.in_ok-next.field-0 _ _ c.in-Some-3.next c.in-Some-3.is c.in_ok-next.ensures;
  json = if_some c.in_ok-json.field-0 _ _ c.in-Some-4.json c.in-Some-4.is c.in_ok-json.ensures;
}
