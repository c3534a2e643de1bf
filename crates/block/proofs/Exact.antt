-- A block is read exactly.
use Rattle.std.proofs.Common.{◌≡◌, ℕ, zero, suc, ◌<◌, ◌≤◌, ◌^◌, false, ltb, List, [], ◌∷◌, ◌++◌, length, Option, Some, None, Result, Ok, Err, refl, sym, ap, subst, ◌∙◌, append_assoc, arith}
use Rattle.std.specs.Int.{w32, w64, to_le_bytes}
use Rattle.std.specs.List.{flat_map, AllByRecursion}
use Rattle.std.specs.Prelude.{IfOk}
use Rattle.std.proofs.lemmas.Bool.{ltb-false, le-ltb}
use Rattle.std.proofs.lemmas.List.{length-append}
use Rattle.spec_ledger.specs.declared.Version.{Version}
use Rattle.spec_ledger.specs.declared.Version.TheVariants.{One, Two}
use Rattle.spec_ledger.specs.declared.Outcome.{Outcome}
use Rattle.spec_ledger.specs.declared.Outcome.TheVariants.{Returned, Trapped, OutOfFuel, Rejected}
use Rattle.spec_block.specs.Worlds.{Position, Block}
use Rattle.spec_block.specs.Bytes.{counted, outcome_bytes, entry_bytes, position_bytes, block_bytes, version_code, ForVersion, IsPosition, IsBlock, SpellsBlock}
use Rattle.records.specs.declared.fault.Fault.{Fault}
use Rattle.records.specs.declared.fault.Fault.TheVariants.{TooLarge}
use Rattle.records.specs.Reading.{number_at, front_at, tag_at, after_count, Gives, whole}
use Rattle.records.specs.Exact.{AreBytes, Takes, ReadsExactly, Follow}
use Rattle.records.proofs.Steps.{bind_ok, guard_ok, ok_is, some_is, found_is, Takes-then, whole_takes, whole_again}
use Rattle.records.proofs.Numbers.{u32_exact, u64_exact, front_exact, tag_takes, tag_again}
use Rattle.records.proofs.Items.{counted_take, counted_again}
use Rattle.records.specs.Positions.{position_at, IsPositionIn}
use Rattle.block.specs.Reading.{version_named, version_at, smallest_position, next_position_at, positions_at, block_at}
use Rattle.block.proofs.Digests.{is_digest, has_size}

-- ---- positions

abbrev pub PositionsExact : Type 0
PositionsExact = (v : Version) → ReadsExactly (position_at v) (position_bytes v) (IsPositionIn v)

abbrev IsNext : Version → Option Position → Position → Type 0
IsNext v before p = IsPositionIn v p

next_exact : PositionsExact → (v : Version) (before : Option Position) → ReadsExactly (next_position_at v before) (position_bytes v) (IsNext v before)
next_exact exact v before = exact v

abbrev AreTold : Version → List Position → Type 0
AreTold v ps = AllByRecursion (λ p. ForVersion v p.receipt) ps

pub record ArePositions (v : Version) (ps : List Position) : Type 0 where
  pub few : length ps ≤ 65535
  pub each : AllByRecursion IsPosition ps
  pub told : AreTold v ps

all_positions : (v : Version) (before : Option Position) (ps : List Position) → Follow (IsNext v) before ps → AllByRecursion IsPosition ps
all_positions v before [] h = tt
all_positions v before (p ∷ ps) h = (h.0.0, all_positions v (Some p) ps h.1)

all_told : (v : Version) (before : Option Position) (ps : List Position) → Follow (IsNext v) before ps → AreTold v ps
all_told v before [] h = tt
all_told v before (p ∷ ps) h = (h.0.1, all_told v (Some p) ps h.1)

follow : (v : Version) (before : Option Position) (ps : List Position) → AllByRecursion IsPosition ps → AreTold v ps → Follow (IsNext v) before ps
follow v before [] h t = tt
follow v before (p ∷ ps) h t = ((h.0, t.0), follow v (Some p) ps h.1 t.1)

some_bytes : (o : Outcome) → 1 ≤ length (outcome_bytes o)
some_bytes (Returned None) = omega arith
some_bytes (Returned (Some v)) = omega arith
some_bytes (Trapped t) = omega arith
some_bytes OutOfFuel = omega arith
some_bytes (Rejected code) = omega arith

smallest : (v : Version) (p : Position) → smallest_position v ≤ length (position_bytes v p)
smallest One p =
    let one = some_bytes p.receipt.outcome in
    let last = length-append (outcome_bytes p.receipt.outcome) (counted entry_bytes p.profile) in
    omega (arith, one, last)
smallest Two p =
    let one = some_bytes p.receipt.outcome in
    let last = length-append (outcome_bytes p.receipt.outcome) (counted entry_bytes p.profile) in
    omega (arith, one, last)

positions_take : PositionsExact → (v : Version) (bytes : List ℕ) (x : List Position × List ℕ) → AreBytes bytes → positions_at v bytes ≡ Ok x → Takes bytes (counted (position_bytes v) x.0) x.1 × ArePositions v x.0
unfolding positions_at
positions_take exact v bytes x bounded e =
    let a = bind_ok (number_at w32 bytes) _ x e in
    let g = guard_ok (ltb 65535 a.0.0) TooLarge (after_count (next_position_at v) (smallest_position v) (length bytes) a.0) x a.2 in
    let few : a.0.0 ≤ 65535 = ltb-false _ _ g.0 in
    let first = u32_exact.takes bytes a.0 bounded a.1 in
    let second = counted_take (next_position_at v) (position_bytes v) (IsNext v) (next_exact exact v) (smallest_position v) (length bytes) a.0 x first.rest_fits g.1 in
    let both = Takes-then bytes (to_le_bytes w32 a.0.0) a.0.1 (flat_map (position_bytes v) x.0) x.1 first second.0 in (
      subst (λ (n : ℕ). Takes bytes (to_le_bytes w32 n ++ flat_map (position_bytes v) x.0) x.1) (sym second.1.0) both,
      record { few = subst (λ (n : ℕ). n ≤ 65535) (sym second.1.0) few; each = all_positions v None x.0 second.1.1; told = all_told v None x.0 second.1.1 },
    )

positions_again : PositionsExact → (v : Version) (ps : List Position) (rest : List ℕ) → ArePositions v ps → positions_at v (counted (position_bytes v) ps ++ rest) ≡ Ok (ps, rest)
unfolding positions_at
positions_again exact v ps rest are =
    let regrouped : counted (position_bytes v) ps ++ rest ≡ to_le_bytes w32 (length ps) ++ (flat_map (position_bytes v) ps ++ rest) = append_assoc (to_le_bytes w32 (length ps)) (flat_map (position_bytes v) ps) rest in
    let few = are.few in
    let fits : length ps < 2 ^ 32 = omega (arith, few) in
    let below : ltb 65535 (length ps) ≡ false = le-ltb _ _ few in
    ap (positions_at v) regrouped
    ∙ rw (u32_exact.again (length ps) (flat_map (position_bytes v) ps ++ rest) fits, below) (counted_again (next_position_at v) (position_bytes v) (IsNext v) (next_exact exact v) (smallest_position v) _ (smallest v) ps rest (follow v None ps are.each are.told))

pub positions_exact : PositionsExact → (v : Version) → ReadsExactly (positions_at v) (counted (position_bytes v)) (ArePositions v)
positions_exact exact v = record {
  takes = λ bytes x bounded e. (positions_take exact v bytes x bounded e).0;
  fits = λ bytes x bounded e. (positions_take exact v bytes x bounded e).1;
  again = positions_again exact v;
}

-- ---- blocks

abbrev magic : List ℕ
magic = 0x57 ∷ 0x42 ∷ 0x4C ∷ 0x4B ∷ []

abbrev number : Version → List ℕ
number v = to_le_bytes w32 (version_code v)

version_is : (n : ℕ) (v : Version) → version_named n ≡ Some v → n ≡ version_code v
version_is zero v e = absurd cc
version_is (suc zero) v e = ap version_code (some_is One v e)
version_is (suc (suc zero)) v e = ap version_code (some_is Two v e)
version_is (suc (suc (suc n))) v e = absurd cc

named_again : (v : Version) → version_named (version_code v) ≡ Some v
named_again One = refl
named_again Two = refl

code_fits : (v : Version) → version_code v < 2 ^ 32
code_fits One = omega arith
code_fits Two = omega arith

version_takes : (bytes : List ℕ) (x : Version × List ℕ) → AreBytes bytes → version_at bytes ≡ Ok x → Takes bytes (number x.0) x.1
unfolding version_at
version_takes bytes x bounded e =
    let n = bind_ok (number_at w32 bytes) _ x e in
    let f = found_is (version_named n.0.0) (length bytes) n.0.1 x n.2 in
    let t = u32_exact.takes bytes n.0 bounded n.1 in
    subst (λ (rest : List ℕ). Takes bytes (number x.0) rest) f.1 (subst (λ (k : ℕ). Takes bytes (to_le_bytes w32 k) n.0.1) (version_is n.0.0 x.0 f.0) t)

version_again : (v : Version) (rest : List ℕ) → version_at (number v ++ rest) ≡ Ok (v, rest)
unfolding version_at
version_again v rest = rw (u32_exact.again (version_code v) rest (code_fits v), named_again v) refl

-- a block, and that its version can tell its receipts
abbrev pub IsToldBlock : Block → Type 0
IsToldBlock b = IsBlock b × AreTold b.version b.positions

block_takes : PositionsExact → (bytes : List ℕ) (x : Block × List ℕ) → AreBytes bytes → block_at bytes ≡ Ok x → Takes bytes (block_bytes x.0) x.1 × IsToldBlock x.0
unfolding block_at
block_takes exact bytes x bounded e =
    let m = bind_ok (tag_at 0x4B4C4257 bytes) _ x e in
    let v = bind_ok (version_at m.0) _ x m.2 in
    let b = bind_ok (front_at 32 v.0.1) _ x v.2 in
    let c = bind_ok (front_at 32 b.0.1) _ x b.2 in
    let p = bind_ok (positions_at v.0.0 c.0.1) _ x c.2 in
    let f = bind_ok (number_at w64 p.0.1) _ x p.2 in
    let a = bind_ok (front_at 32 f.0.1) _ x f.2 in
    let tm = tag_takes 0x4B4C4257 bytes m.0 bounded m.1 in
    let tv = version_takes m.0 v.0 tm.rest_fits v.1 in
    let tb = (front_exact 32).takes v.0.1 b.0 tv.rest_fits b.1 in
    let tc = (front_exact 32).takes b.0.1 c.0 tb.rest_fits c.1 in
    let tp = (positions_exact exact v.0.0).takes c.0.1 p.0 tc.rest_fits p.1 in
    let tf = u64_exact.takes p.0.1 f.0 tp.rest_fits f.1 in
    let ta = (front_exact 32).takes f.0.1 a.0 tf.rest_fits a.1 in
    let text = counted (position_bytes v.0.0) p.0.0 in
    let mv = Takes-then bytes magic m.0 (number v.0.0) v.0.1 tm tv in
    let mvb = Takes-then bytes (magic ++ number v.0.0) v.0.1 b.0.0 b.0.1 mv tb in
    let mvbc = Takes-then bytes (magic ++ number v.0.0 ++ b.0.0) b.0.1 c.0.0 c.0.1 mvb tc in
    let to_p = Takes-then bytes (magic ++ number v.0.0 ++ b.0.0 ++ c.0.0) c.0.1 text p.0.1 mvbc tp in
    let to_f = Takes-then bytes (magic ++ number v.0.0 ++ b.0.0 ++ c.0.0 ++ text) p.0.1 (to_le_bytes w64 f.0.0) f.0.1 to_p tf in
    let to_a = Takes-then bytes (magic ++ number v.0.0 ++ b.0.0 ++ c.0.0 ++ text ++ to_le_bytes w64 f.0.0) f.0.1 a.0.0 a.0.1 to_f ta in
    let are = (positions_exact exact v.0.0).fits c.0.1 p.0 tc.rest_fits p.1 in
    let block : Block = record { version = v.0.0; before = b.0.0; calls = c.0.0; positions = p.0.0; fuel = f.0.0; after = a.0.0 } in
    let is : IsBlock block = record {
      before = is_digest b.0.0 ((front_exact 32).fits v.0.1 b.0 tv.rest_fits b.1);
      calls = is_digest c.0.0 ((front_exact 32).fits b.0.1 c.0 tb.rest_fits c.1);
      count = are.few;
      positions = are.each;
      fuel = u64_exact.fits p.0.1 f.0 tp.rest_fits f.1;
      after = is_digest a.0.0 ((front_exact 32).fits f.0.1 a.0 tf.rest_fits a.1);
    } in
    subst (λ (y : Block × List ℕ). Takes bytes (block_bytes y.0) y.1 × IsToldBlock y.0) (ok_is (block, a.0.1) x a.2) (to_a, (is, are.told))

block_again : PositionsExact → (b : Block) (rest : List ℕ) → IsToldBlock b → block_at (block_bytes b ++ rest) ≡ Ok (b, rest)
unfolding block_at
block_again exact b rest is =
    let version = number b.version in
    let text = counted (position_bytes b.version) b.positions in
    let fuel = to_le_bytes w64 b.fuel in
    let regrouped : block_bytes b ++ rest ≡ magic ++ (version ++ (b.before ++ (b.calls ++ (text ++ (fuel ++ (b.after ++ rest)))))) =
    append_assoc (magic ++ version ++ b.before ++ b.calls ++ text ++ fuel) b.after rest
    ∙ append_assoc (magic ++ version ++ b.before ++ b.calls ++ text) fuel (b.after ++ rest)
    ∙ append_assoc (magic ++ version ++ b.before ++ b.calls) text (fuel ++ (b.after ++ rest))
    ∙ append_assoc (magic ++ version ++ b.before) b.calls (text ++ (fuel ++ (b.after ++ rest)))
    ∙ append_assoc (magic ++ version) b.before (b.calls ++ (text ++ (fuel ++ (b.after ++ rest)))) in
    let are : ArePositions b.version b.positions = record { few = is.0.count; each = is.0.positions; told = is.1 } in
    ap block_at regrouped
    ∙ rw (
      tag_again 0x4B4C4257 (version ++ (b.before ++ (b.calls ++ (text ++ (fuel ++ (b.after ++ rest)))))) (omega arith),
      version_again b.version (b.before ++ (b.calls ++ (text ++ (fuel ++ (b.after ++ rest))))),
      (front_exact 32).again b.before (b.calls ++ (text ++ (fuel ++ (b.after ++ rest)))) (has_size b.before is.0.before),
      (front_exact 32).again b.calls (text ++ (fuel ++ (b.after ++ rest))) (has_size b.calls is.0.calls),
      (positions_exact exact b.version).again b.positions (fuel ++ (b.after ++ rest)) are,
      u64_exact.again b.fuel (b.after ++ rest) is.0.fuel,
      (front_exact 32).again b.after rest (has_size b.after is.0.after),
    ) refl

pub block_exact : PositionsExact → ReadsExactly block_at block_bytes IsToldBlock
block_exact exact = record {
  takes = λ bytes x bounded e. (block_takes exact bytes x bounded e).0;
  fits = λ bytes x bounded e. (block_takes exact bytes x bounded e).1;
  again = block_again exact;
}

-- ---- what a function returned

pub is_block : PositionsExact → (bytes : List ℕ) (r : Result Block Fault) → AreBytes bytes → Gives (λ b. b) r (whole (block_at bytes)) → IfOk r (SpellsBlock bytes)
is_block exact bytes (Ok b) bounded given = let t = whole_takes block_at block_bytes IsToldBlock (block_exact exact) bytes b bounded given in record { is = t.0; fits = t.1.0; versions = t.1.1 }
is_block exact bytes (Err e) bounded given = tt

abbrev answer : Block → Result Block Fault
answer b = Ok b

pub is_answered : PositionsExact → (bytes : List ℕ) (r : Result Block Fault) → Gives (λ b. b) r (whole (block_at bytes)) → (b : Block) → SpellsBlock bytes b → Gives (λ b. b) r (answer b)
is_answered exact bytes r given b spelled =
    subst (λ read. Gives (λ b. b) r read) (ap (λ (w : List ℕ). whole (block_at w)) spelled.is ∙ whole_again block_at block_bytes IsToldBlock (block_exact exact) b (spelled.fits, spelled.versions)) given
