use Rattle.std.proofs.Common.{◌≡◌, ◌<◌, length, slice_index_or}
use Rattle.interp.specs.Callee.{contract_view}
use Rattle.wblock_commands.specs.Runs.{numbers_from, told_of}
use Rattle.wblock_commands.proofs.runs.run_calls.Goals as goal
use Rattle.std.proofs.Common.{subst, sym, ap, arith, ◌∙◌}
use Rattle.spec_ledger.specs.declared.Version.TheVariants.{Two}
use Rattle.interp.specs.Callee.{setting_view}
use Rattle.wblock_commands.proofs.Numbers.{numbers_below, numbers_count, shown}

-- src/runs.rt:61:22
pub serial_core-requires : goal.serial_core-requires
serial_core-requires c = let o : c.as_slice-2.result.now ≡ numbers_from 0 c.args.calls.now = c.as_slice-2.ensures.value ∙ c.in_ok-order.ensures in λ k d b. subst (λ order. slice_index_or order k d < length c.args.calls.now) (sym o) (let h = numbers_below 0 c.args.calls.now k d (subst (λ order. k < length order) o b) in omega (arith, h))

-- src/runs.rt:65:16
pub lines_of-requires : goal.lines_of-requires
lines_of-requires c = let o : c.as_slice-2.result.now ≡ numbers_from 0 c.args.calls.now = c.as_slice-2.ensures.value ∙ c.in_ok-order.ensures in omega (arith, c.requires, ap length c.as_slice-3.ensures.value, c.in-Ok.ensures.receipts, ap length o, numbers_count 0 c.args.calls.now)

-- src/runs.rt:55:1
pub returns : goal.returns
returns c = let o : c.as_slice-2.result.now ≡ numbers_from 0 c.args.calls.now = c.as_slice-2.ensures.value ∙ c.in_ok-order.ensures in shown (contract_view c.args.contract) c.args.calls.now _ _ _ _ _ _ _ (ap (setting_view Two) c.as_slice.ensures) o c.new.ensures.cells c.in-Ok.ensures.serial c.in-Ok.ensures.receipts c.in-Ok.ensures.touched (c.in_ok-text.ensures ∙ ap told_of c.as_slice-3.ensures.value)
