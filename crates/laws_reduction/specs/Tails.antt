-- A sequence with another one behind it: while the start function runs, the entry of the call waits behind it.
use Rattle.std.specs.Prelude.{List}
use Rattle.wtypes.specs.declared.Value.{Value}
use Rattle.spec_execution.specs.Configuration.{Seq, End, Val, Code, Free, Label, Frame, Invoke, Config, Running, Trap}
use Rattle.spec_execution.specs.Reduction.{Next, Goes, Traps, Asks, Branches, Returns, Ended, Stuck}

-- a sequence, and then the other one
abbrev pub joined : Seq → Seq → Seq
joined End tail = tail
joined (Val v rest) tail = Val v (joined rest tail)
joined (Code n i rest) tail = Code n i (joined rest tail)
joined (Free i rest) tail = Free i (joined rest tail)
joined (Label n at k inside rest) tail = Label n at k inside (joined rest tail)
joined (Frame f n locals inside rest) tail = Frame f n locals inside (joined rest tail)
joined (Invoke f rest) tail = Invoke f (joined rest tail)

abbrev pub with_tail : Seq → Config → Config
with_tail tail (Running s seq) = Running s (joined seq tail)
with_tail tail (Trap s t) = Trap s t

-- what the whole does next, by what the sequence does; where that is values, the other one comes behind them
abbrev pub joined_next : Seq → (List Value → Next) → Next → Next
joined_next tail go (Goes charge s seq) = Goes charge s (joined seq tail)
joined_next tail go (Traps charge t) = Traps charge t
joined_next tail go (Asks op then_on) = Asks op (λ r. joined (then_on r) tail)
joined_next tail go (Branches charge l vs) = Branches charge l vs
joined_next tail go (Returns charge vs) = Returns charge vs
joined_next tail go (Ended vs) = go vs
joined_next tail go Stuck = Stuck
