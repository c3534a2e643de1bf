use Rattle.std.proofs.Common.{length, refl}
use Rattle.std.proofs.lemmas.Option.{slice_get_read}
use Rattle.embed.proofs.calling.run_listed.Goals as goal

pub lack_call-requires : goal.lack_call-requires
lack_call-requires c = c.in_default.ensures.lookup.3

pub returns-clause-ran : goal.returns-clause-ran
returns-clause-ran c =
    let list = c.args.calls.now in
    let call = c.in-Some.call.now in
    let item = c.in-Some.ensures.lookup in
    record {
      call = call;
      there = slice_get_read list (length list) c.args.number call refl item.3.0 item.1;
      effect = c.in_ok-effects.ensures;
    }
