-- What a deployed module holds.
use Rattle.std.specs.Prelude.{List}
use Rattle.wtypes.specs.declared.HostCall.{HostCall}
use Rattle.module_tree.specs.declared.module.Module.{Module}
use Rattle.memory.specs.declared.start.Start.{Start}
use Rattle.link.specs.declared.deployed.Deployed.{Deployed}

-- the module in memory
abbrev pub tree_of : {A : Type 0} → Deployed A → Module A
tree_of d = d.tree

-- the host calls that the imports are
abbrev pub hosts_of : {A : Type 0} → Deployed A → List HostCall
hosts_of d = d.hosts.items

-- what its memory begins with
abbrev pub start_of : {A : Type 0} → Deployed A → Start A
start_of d = d.start
