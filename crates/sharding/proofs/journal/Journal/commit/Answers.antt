use Rattle.std.proofs.Common.{◌≡◌, ◌∙◌, ◌<◌, ◌^◌, [], ◌∷◌, ◌++◌, sym, subst, arith, Some, length, refl, slice_get}
use Rattle.std.specs.Prelude.{slice_set}
use Rattle.std.proofs.lemmas.Option.{slice_get_within}
use Rattle.sharding.specs.declared.journal.CallState.TheVariants.{Live, Committed}
use Rattle.sharding.specs.Journals.{IsJournal, Journal, entry_with}
use Rattle.sharding.proofs.Events.{entry_is, few_entries, keeps_commit}
use Rattle.sharding.proofs.journal.Journal.commit.Goals as goal

pub overflow_cast-position : goal.overflow_cast-position
overflow_cast-position g c =
    let j : Journal = record { entries = c.self.inside.entries.items; standings = c.self.inside.standings.items; begun = c.self.inside.begun.items } in
    let few : length c.self.inside.entries.items < 2 ^ 32 = few_entries j c.self.invariant in
    omega (arith, few, c.len-position.ensures, c.self.inside.entries.ok.0)

pub index_mut-requires : goal.index_mut-requires
index_mut-requires g c =
    let live : slice_get c.self.inside.standings.items c.args.call ≡ Some (Live c.args.number) = subst (λ s. slice_get s c.args.call ≡ Some (Live c.args.number)) c.deref.ensures.value (c.if-not-lives.ensures.0 refl) in
    let within = slice_get_within c.self.inside.standings.items c.args.call (Live c.args.number) live in
    omega (arith, within, c.self.inside.standings.ok.0)

pub invariant_of-self-2 : goal.invariant_of-self-2
invariant_of-self-2 g c =
    let j : Journal = record { entries = c.self.inside.entries.items; standings = c.self.inside.standings.items; begun = c.self.inside.begun.items } in
    let live : slice_get c.self.inside.standings.items c.args.call ≡ Some (Live c.args.number) = subst (λ s. slice_get s c.args.call ≡ Some (Live c.args.number)) c.deref.ensures.value (c.if-not-lives.ensures.0 refl) in
    let kept = keeps_commit j c.self.invariant c.args.call (Live c.args.number) live (λ e. let no : Live c.args.number ≡ Committed = e in cc) c.args.trace.items c.args.outcome in
    let entry = entry_is c.of.result c.args.call c.args.trace.items c.args.outcome c.of.ensures.call c.of.ensures.trace c.of.ensures.outcome c.of.ensures.modes in
    let entries : c.push.new.self.items ≡ c.self.inside.entries.items ++ entry_with c.args.call c.args.trace.items c.args.outcome ∷ [] = c.in-Ok.ensures.items ∙ (λ k. c.reserve.ensures.items k ++ entry k ∷ []) in
    subst (λ es. IsJournal (record { entries = es; standings = slice_set c.self.inside.standings.items c.args.call Committed; begun = c.self.inside.begun.items })) (sym entries) kept
