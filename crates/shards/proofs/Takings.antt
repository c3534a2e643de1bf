-- What holds of the journal or the shard at hand holds of the one that was found under the lock.
use Rattle.std.proofs.Common.{◌≡◌, IfOk, sym, subst}
use Rattle.std.specs.declared.result.Result.{Result}
use Rattle.std.specs.declared.result.Result.TheVariants.{Ok, Err}
use Rattle.sharding.specs.Journals.{IsJournal, Journal}
use Rattle.sharding.specs.Shard.{Shard}
use Rattle.shards.specs.Taking.{HoldsOfAShard, HoldsOfTheJournal, IsLawful}

-- `seen` is what was looked at, `old` the same as the event found it
pub of_journal : (fact : Journal → Type 0) (seen old : Journal) → old ≡ seen → IsJournal seen → fact old → HoldsOfTheJournal fact
of_journal fact seen old same lawful holds = record { journal = old; lawful = subst IsJournal (sym same) lawful; holds = holds }

pub of_shard : (fact : Shard → Type 0) (seen old : Shard) → old ≡ seen → IsLawful seen → fact old → HoldsOfAShard fact
of_shard fact seen old same lawful holds = record { shard = old; lawful = subst IsLawful (sym same) lawful; holds = holds }

-- three facts of a result give a fourth
pub together : {T E : Type 0} (P Q R S : T → Type 0) → ((x : T) → P x → Q x → R x → S x) → (r : Result T E) → IfOk r P → IfOk r Q → IfOk r R → IfOk r S
together P Q R S f (Ok x) p q h = f x p q h
together P Q R S f (Err e) p q h = tt
