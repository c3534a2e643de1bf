-- What is shown of a block has no float, and few arrays and objects within one another.
use Rattle.std.proofs.Common.{ℕ, ◌≤◌, ◌==◌, Option, Some, None, List, [], ◌∷◌, Bool, true, false, if◌then◌else◌, codes, map, slice_get, arith}
use Rattle.std.specs.List.{AllByRecursion}
use Rattle.spec_block.specs.Bytes.{version_code}
use Rattle.wtypes.specs.declared.Value.{Value}
use Rattle.wtypes.specs.declared.Value.TheVariants.{I32, I64}
use Rattle.spec_ledger.specs.declared.Entry.{Entry}
use Rattle.spec_ledger.specs.declared.Outcome.{Outcome}
use Rattle.spec_ledger.specs.declared.Outcome.TheVariants as outcome
use Rattle.spec_ledger.specs.declared.Receipt.{Receipt}
use Rattle.spec_block.specs.Worlds.{Block, Call, Position}
use Rattle.figures.specs.Words.{kind_word, mode_word}
use Rattle.figures.specs.declared.figures.Chains.{Chains}
use Rattle.figures.specs.declared.figures.Figures.{Figures}
use Rattle.figures.specs.declared.hottest.SharedLock.{SharedLock}
use Rattle.figures.specs.declared.outcomes.OutcomeCount.{OutcomeCount}
use Rattle.figures.specs.declared.outcomes.OutcomeKind.{OutcomeKind}
use Rattle.figures.specs.declared.outcomes.OutcomeKind.TheVariants.{Returned, Trapped, OutOfFuel, Rejected}
use Rattle.serde_json.specs.Data.{Data, null, string}
use Rattle.wblock_json.specs.Json.{IsFlat, array_of, hex_data, large, numbered, object_of, small}
use Rattle.wblock_json.specs.Blocks.{block_data, call_data, called_data, chain_data, code_data, count_data, entry_data, figures_data, kind_of, longest_data, outcome_word, position_data, receipt_members, returned_data, shared_data, speed_up_data, typed_data, value_data, wave_data, waves_data}
use Rattle.wblock_json.proofs.Flat.{array_flat, deeper, map_flat, maybe_flat, null_flat, numbered_flat, object_flat, small_flat, string_flat}

typed_flat : (type digits : List ℕ) → IsFlat 1 (typed_data type digits)
unfolding typed_data
typed_flat type digits =
    let members : List (List ℕ × Data) = (codes "type", string type) ∷ (codes "value", string digits) ∷ [] in
    object_flat 0 1 members (omega arith) (string_flat 0 _, (string_flat 0 _, tt))

pub value_flat : (v : Value) → IsFlat 1 (value_data v)
value_flat (I32 n) = typed_flat _ _
value_flat (I64 n) = typed_flat _ _

args_flat : (vs : List Value) → IsFlat 2 (array_of (map value_data vs))
args_flat vs = array_flat 1 2 _ (omega arith) (map_flat 1 value_data vs value_flat)

call_flat : (c : Call) → IsFlat 3 (call_data c)
unfolding call_data
call_flat c =
    let members : List (List ℕ × Data) = (codes "contract", small c.contract) ∷ (codes "entry", string c.entry) ∷ (codes "args", array_of (map value_data c.args)) ∷ [] in
    object_flat 2 3 members (omega arith) (small_flat 2 _, (string_flat 2 _, (args_flat c.args, tt)))

called_flat : (calls : Option (List Call)) (n : ℕ) → IsFlat 3 (called_data calls n)
called_flat None n = null_flat 3
called_flat (Some calls) n = maybe_flat 3 call_data (slice_get calls n) call_flat

code_flat : (n : ℕ) (kind : OutcomeKind) → IsFlat n (code_data kind)
code_flat n Returned = null_flat n
code_flat n (Trapped t) = small_flat n _
code_flat n OutOfFuel = null_flat n
code_flat n (Rejected code) = small_flat n _

returned_flat : (o : Outcome) → IsFlat 1 (returned_data o)
returned_flat (outcome.Returned None) = null_flat 1
returned_flat (outcome.Returned (Some v)) = value_flat v
returned_flat (outcome.Trapped t) = null_flat 1
returned_flat outcome.OutOfFuel = null_flat 1
returned_flat (outcome.Rejected code) = null_flat 1

pub receipt_flat : (n : ℕ) → 1 ≤ n → (r : Receipt) → AllByRecursion (λ f. IsFlat n f.1) (receipt_members r)
receipt_flat n le r = (string_flat n _, (code_flat n _, (deeper 1 n _ le (returned_flat r.outcome), (string_flat n _, (small_flat n _, tt)))))

entry_flat : (e : Entry) → IsFlat 1 (entry_data e)
unfolding entry_data
entry_flat e =
    let members : List (List ℕ × Data) = (codes "kind", string (kind_word e.lock.kind)) ∷ (codes "contract", small e.lock.contract) ∷ (codes "key", large e.lock.key) ∷ (codes "mode", string (mode_word e.mode)) ∷ (codes "turn", small e.turn) ∷ [] in
    object_flat 0 1 members (omega arith) (string_flat 0 _, (small_flat 0 _, (string_flat 0 _, (string_flat 0 _, (small_flat 0 _, tt)))))

locks_flat : (es : List Entry) → IsFlat 2 (array_of (map entry_data es))
locks_flat es = array_flat 1 2 _ (omega arith) (map_flat 1 entry_data es entry_flat)

wave_flat : (n : ℕ) (chains : Option Chains) (position : ℕ) → IsFlat n (wave_data chains position)
wave_flat n None position = null_flat n
wave_flat n (Some c) position = small_flat n _

position_flat : (calls : Option (List Call)) (chains : Option Chains) (n : ℕ) (p : Position) → IsFlat 4 (position_data calls chains n p)
unfolding position_data
position_flat calls chains n p =
    let members : List (List ℕ × Data) = (codes "position", small n) ∷ (codes "call", small p.call) ∷ (codes "called", called_data calls p.call) ∷ (codes "wave", wave_data chains n) ∷ (codes "locks", array_of (map entry_data p.profile)) ∷ receipt_members p.receipt in
    object_flat 3 4 members (omega arith) (small_flat 3 _, (small_flat 3 _, (called_flat calls p.call, (wave_flat 3 chains n, (deeper 2 3 _ (omega arith) (locks_flat p.profile), receipt_flat 3 (omega arith) p.receipt)))))

positions_flat : (calls : Option (List Call)) (chains : Option Chains) (ps : List Position) → IsFlat 5 (array_of (numbered (position_data calls chains) 0 ps))
positions_flat calls chains ps = array_flat 4 5 _ (omega arith) (numbered_flat 4 (position_data calls chains) 0 ps (position_flat calls chains))

waves_flat : (n : ℕ) (chains : Option Chains) → IsFlat n (waves_data chains)
waves_flat n None = null_flat n
waves_flat n (Some c) = small_flat n _

longest_flat : (c : Chains) → IsFlat 1 (longest_data c)
unfolding longest_data
longest_flat c =
    let members : List (List ℕ × Data) = (codes "positions", small c.wave_count) ∷ (codes "fuel", large c.chain_fuel) ∷ [] in
    object_flat 0 1 members (omega arith) (small_flat 0 _, (string_flat 0 _, tt))

chain_flat : (chains : Option Chains) → IsFlat 1 (chain_data chains)
chain_flat None = null_flat 1
chain_flat (Some c) = longest_flat c

either_flat : (n : ℕ) (b : Bool) (s : List ℕ) → IsFlat n (if b then null else string s)
either_flat n true s = null_flat n
either_flat n false s = string_flat n s

speed_up_flat : (n : ℕ) (chains : Option Chains) (total : ℕ) → IsFlat n (speed_up_data chains total)
speed_up_flat n None total = null_flat n
speed_up_flat n (Some c) total = either_flat n (c.chain_fuel == 0) _

shared_flat : (s : SharedLock) → IsFlat 1 (shared_data s)
unfolding shared_data
shared_flat s =
    let members : List (List ℕ × Data) = (codes "kind", string (kind_word s.lock.kind)) ∷ (codes "contract", small s.lock.contract) ∷ (codes "key", large s.lock.key) ∷ (codes "positions", small s.positions) ∷ [] in
    object_flat 0 1 members (omega arith) (string_flat 0 _, (small_flat 0 _, (string_flat 0 _, (small_flat 0 _, tt))))

hottest_flat : (ss : List SharedLock) → IsFlat 2 (array_of (map shared_data ss))
hottest_flat ss = array_flat 1 2 _ (omega arith) (map_flat 1 shared_data ss shared_flat)

count_flat : (o : OutcomeCount) → IsFlat 1 (count_data o)
unfolding count_data
count_flat o =
    let members : List (List ℕ × Data) = (codes "outcome", string (outcome_word o.kind)) ∷ (codes "code", code_data o.kind) ∷ (codes "positions", small o.positions) ∷ [] in
    object_flat 0 1 members (omega arith) (string_flat 0 _, (code_flat 0 o.kind, (small_flat 0 _, tt)))

outcomes_flat : (os : List OutcomeCount) → IsFlat 2 (array_of (map count_data os))
outcomes_flat os = array_flat 1 2 _ (omega arith) (map_flat 1 count_data os count_flat)

figures_flat : (f : Figures) → IsFlat 3 (figures_data f)
unfolding figures_data
figures_flat f =
    let members : List (List ℕ × Data) = (codes "total_fuel", large f.total_fuel) ∷ (codes "waves", waves_data f.chains) ∷ (codes "chain", chain_data f.chains) ∷ (codes "speed_up", speed_up_data f.chains f.total_fuel) ∷ (codes "shared", array_of (map shared_data f.hottest.items)) ∷ (codes "outcomes", array_of (map count_data f.outcomes.items)) ∷ [] in
    object_flat 2 3 members (omega arith) (string_flat 2 _, (waves_flat 2 f.chains, (deeper 1 2 _ (omega arith) (chain_flat f.chains), (speed_up_flat 2 f.chains f.total_fuel, (hottest_flat f.hottest.items, (outcomes_flat f.outcomes.items, tt))))))

pub block_flat : (b : Block) (calls : Option (List Call)) (f : Figures) → IsFlat 6 (block_data b calls f)
unfolding block_data
block_flat b calls f =
    let members : List (List ℕ × Data) = (codes "kind", string (codes "block")) ∷ (codes "version", small (version_code b.version)) ∷ (codes "before", hex_data b.before) ∷ (codes "calls", hex_data b.calls) ∷ (codes "after", hex_data b.after) ∷ (codes "fuel", large b.fuel) ∷ (codes "positions", array_of (numbered (position_data calls f.chains) 0 b.positions)) ∷ (codes "figures", figures_data f) ∷ [] in
    object_flat 5 6 members (omega arith) (string_flat 5 _, (small_flat 5 _, (string_flat 5 _, (string_flat 5 _, (string_flat 5 _, (string_flat 5 _, (positions_flat calls f.chains b.positions, (deeper 3 5 _ (omega arith) (figures_flat f), tt))))))))
