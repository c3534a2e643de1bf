use Rattle.std.proofs.Common.{refl}
use Rattle.spec_ledger.specs.declared.Version.TheVariants.{Two}
use Rattle.interp.specs.Callee.{setting_view}
use Rattle.publish.specs.declared.adopting.CallRun.{CallRun}
use Rattle.miner.proofs.Ties.{places_left, run_at, made_more, committed_made}
use Rattle.miner.proofs.outcome.apart.Goals as goal

pub loop-place-preserved-in_default-place : goal.loop-place-preserved-in_default-place
loop-place-preserved-in_default-place g c =
    record {
      left = places_left (setting_view Two c.args.contracts.now) c.args.calls.now c.loop-place.places.items c.pop.new.self.items c.in-Some.place c.in-Some.ensures.items c.loop-place.invariant.left;
      made = c.loop-place.invariant.made;
    }

pub loop-place-preserved : goal.loop-place-preserved
loop-place-preserved g c =
    let setting = setting_view Two c.args.contracts.now in
    let calls = c.args.calls.now in
    let run = c.in-Some-place.field-0 in
    let is = run_at setting calls c.loop-place.places.items c.pop.new.self.items c.in-Some.place run c.in-Some.ensures.items c.in-Some-place.is c.loop-place.invariant.left in
    let made : CallRun g.row.A.Denot = record { call = run.call; finished = run.finished } in
    record {
      left = places_left setting calls c.loop-place.places.items c.pop.new.self.items c.in-Some.place c.in-Some.ensures.items c.loop-place.invariant.left;
      made = made_more setting calls c.loop-place.runs.items c.push.new.self.items c.loop-place.touched.items c.push-in-Some.new.self.items made run.touched c.in_ok-push.ensures.items c.in_ok-push-2.ensures.items c.loop-place.invariant.made
          (committed_made setting calls run made run.touched is refl refl refl);
    }
