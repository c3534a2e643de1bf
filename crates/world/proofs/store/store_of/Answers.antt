use Rattle.std.proofs.Common.{None}
use Rattle.spec_ledger.specs.declared.Kind.TheVariants.{Map, Counter}
use Rattle.world.proofs.Storing.{rising_is_sorted, are_held, is_store}
use Rattle.world.proofs.store.store_of.Goals as goal

pub from_sorted-requires-clause-over : goal.from_sorted-requires-clause-over
from_sorted-requires-clause-over g c = rising_is_sorted Map None c.args.lists.maps.items c.requires.0.each

pub from_sorted-requires-clause-base : goal.from_sorted-requires-clause-base
from_sorted-requires-clause-base g c = rising_is_sorted Counter None c.args.lists.counters.items c.requires.1.each

pub from_sorted-requires-clause-held : goal.from_sorted-requires-clause-held
from_sorted-requires-clause-held g c = (are_held Map None c.args.lists.maps.items c.requires.0.each, are_held Counter None c.args.lists.counters.items c.requires.1.each)

pub returns-clause-store : goal.returns-clause-store
returns-clause-store g c = is_store c.args.lists.maps.items c.args.lists.counters.items c.in_ok-store.store.cells c.requires c.in_ok-store.ensures.cells
