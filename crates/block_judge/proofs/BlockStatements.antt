-- What an accepted block says of a call is what the call comes to over the cells that it meets.
use Rattle.std.proofs.Common.{◌≡◌, ℕ, zero, suc, ◌+◌, List, [], ◌∷◌, Some, map, take, slice_get, refl, sym, ap, subst, ◌∙◌}
use Rattle.std.specs.FinMap.{entries}
use Rattle.spec_ledger.specs.declared.Version.{Version}
use Rattle.spec_ledger.specs.declared.Lock.{Lock}
use Rattle.spec_ledger.specs.declared.Mode.{Mode}
use Rattle.spec_ledger.specs.declared.Entry.{Entry}
use Rattle.spec_ledger.specs.declared.Receipt.{Receipt}
use Rattle.spec_ledger.specs.Cells.{Cells}
use Rattle.spec_ledger.specs.Modes.{Modes}
use Rattle.spec_ledger.specs.Order.{turn_at}
use Rattle.spec_execution.specs.Exec.{Executes}
use Rattle.spec_execution.specs.Serial.{CallResult}
use Rattle.spec_block.specs.Worlds.{Call, World, Position, Block, order_of, held_in}
use Rattle.spec_block.specs.Serial.{Serial, setting_of}
use Rattle.spec_block.specs.Bytes.{SpellsBlock}
use Rattle.spec_block.specs.Blocks.{all_touched, positions_from, profile_at}
use Rattle.spec_block.specs.Headline.{AcceptsExactly}
use Rattle.block_judge.specs.Meeting.{TellsOfTheRun}

-- ---- a serial run is cut at a position

record IsCut (version : Version) (world : World) (calls : List Call) (order : List ℕ) (cells : Cells) (rs : List CallResult) (p n : ℕ) : Type 0 where
  before : List CallResult
  mid : Cells
  front : Serial version world calls (take p order) cells before mid
  ran : CallResult
  at : slice_get rs p ≡ Some ran
  call : Call
  listed : slice_get calls n ≡ Some call
  later : Cells
  executes : Executes (setting_of version world) call mid later ran.receipt ran.touched

some_is : {A : Type 0} (x y : A) → Some x ≡ Some y → x ≡ y
some_is x y e = cc e

cut : (version : Version) (world : World) (calls : List Call) (order : List ℕ) (cells : Cells) (rs : List CallResult) (last : Cells) (p n : ℕ)
    → Serial version world calls order cells rs last → slice_get order p ≡ Some n → IsCut version world calls order cells rs p n
cut version world calls [] cells rs last p n s e = absurd cc
cut version world calls (m ∷ order) cells [] last p n s e = absurd s
cut version world calls (m ∷ order) cells (r ∷ rs) last zero n s e =
    record {
      before = [];
      mid = cells;
      front = refl;
      ran = r;
      at = refl;
      call = s.0;
      listed = subst (λ k. slice_get calls k ≡ Some s.0) (some_is m n e) s.2;
      later = s.1;
      executes = s.3;
    }
cut version world calls (m ∷ order) cells (r ∷ rs) last (suc p) n s e =
    let rest : IsCut version world calls order s.1 rs p n = cut version world calls order s.1 rs last p n s.4 e in
    record {
      before = r ∷ rest.before;
      mid = rest.mid;
      front = (s.0, s.1, s.2, s.3, rest.front);
      ran = rest.ran;
      at = rest.at;
      call = rest.call;
      listed = rest.listed;
      later = rest.later;
      executes = rest.executes;
    }

-- ---- what a block says at a position

held_again : (all : List Modes) (k : ℕ) (es : List (Lock × Mode)) → map (λ (e : Entry). (e.lock, e.mode)) (map (λ (held : Lock × Mode). record { lock = held.0; mode = held.1; turn = turn_at all k held.0 }) es) ≡ es
held_again all k [] = refl
held_again all k (e ∷ es) = ap (λ (xs : List (Lock × Mode)). e ∷ xs) (held_again all k es)

-- the position of a call that came to this
record IsSaid (ps : List Position) (p n : ℕ) (r : CallResult) : Type 0 where
  position : Position
  at : slice_get ps p ≡ Some position
  number_is : position.call ≡ n
  receipt_is : position.receipt ≡ r.receipt
  held : held_in position.profile ≡ entries r.touched

said : (all : List Modes) (k : ℕ) (order : List ℕ) (rs : List CallResult) (p n : ℕ) (r : CallResult) → slice_get order p ≡ Some n → slice_get rs p ≡ Some r → IsSaid (positions_from all k order rs) p n r
said all k [] rs p n r e f = absurd cc
said all k (m ∷ order) [] p n r e f = absurd cc
said all k (m ∷ order) (s ∷ rs) zero n r e f =
    record {
      position = record { call = m; receipt = s.receipt; profile = profile_at all k s.touched };
      at = refl;
      number_is = some_is m n e;
      receipt_is = ap (λ (x : CallResult). x.receipt) (some_is s r f);
      held = held_again all k (entries s.touched) ∙ ap (λ (x : CallResult). entries x.touched) (some_is s r f);
    }
said all k (m ∷ order) (s ∷ rs) (suc p) n r e f =
    let rest : IsSaid (positions_from all (k + 1) order rs) p n r = said all (k + 1) order rs p n r e f in
    record { position = rest.position; at = rest.at; number_is = rest.number_is; receipt_is = rest.receipt_is; held = rest.held }

order_again : (version : Version) (world : World) (calls : List Call) (all : List Modes) (k : ℕ) (order : List ℕ) (cells : Cells) (rs : List CallResult) (last : Cells)
    → Serial version world calls order cells rs last → map (λ (p : Position). p.call) (positions_from all k order rs) ≡ order
order_again version world calls all k [] cells rs last s = refl
order_again version world calls all k (m ∷ order) cells [] last s = absurd s
order_again version world calls all k (m ∷ order) cells (r ∷ rs) last s =
    ap (λ (ns : List ℕ). m ∷ ns) (order_again version world calls all (k + 1) order s.1 rs last s.4)

-- ---- both together

abbrev pub OneBlock : Type 0
OneBlock = (bytes : List ℕ) (b c : Block) → SpellsBlock bytes b → SpellsBlock bytes c → b ≡ c

abbrev pub OneRun : Type 0
OneRun = (version : Version) (world : World) (calls : List Call) (order : List ℕ) (cells : Cells) (rs ss : List CallResult) (l m : Cells) →
    Serial version world calls order cells rs l → Serial version world calls order cells ss m → (rs ≡ ss) × (l ≡ m)

abbrev pub Exactly : Type 0
Exactly = (world : World) (calls : List Call) (fuel : ℕ) (bytes : List ℕ) → AcceptsExactly world calls fuel bytes

pub told : OneBlock → OneRun → Exactly → TellsOfTheRun
told one once exactly world calls fuel given bytes next number version cells accepted meets =
    let found = (exactly world calls fuel bytes next).0 accepted in
    let block : Block = found.0 in
    let head = found.2 in
    let of = head.of_order in
    let same : meets.block ≡ block = one bytes meets.block block meets.judged.spelled found.1 in
    let order_is : order_of block ≡ head.order =
    ap order_of of.is ∙ order_again block.version world calls (all_touched of.ran) 0 head.order world.cells of.ran of.last of.serial in
    let stands : slice_get head.order meets.position ≡ Some number =
    subst (λ (o : List ℕ). slice_get o meets.position ≡ Some number) (ap order_of same ∙ order_is) meets.stands in
    let at : IsCut block.version world calls head.order world.cells of.ran meets.position number =
    cut block.version world calls head.order world.cells of.ran of.last meets.position number of.serial stands in
    let front : Serial block.version world calls (take meets.position head.order) world.cells meets.ran cells =
    subst (λ (o : List ℕ). Serial block.version world calls (take meets.position o) world.cells meets.ran cells) order_is
    (subst (λ (b : Block). Serial b.version world calls (take meets.position (order_of b)) world.cells meets.ran cells) same meets.serial) in
    let met : cells ≡ at.mid = (once block.version world calls (take meets.position head.order) world.cells meets.ran at.before cells at.mid front at.front).1 in
    let of_version : version ≡ block.version = meets.version_is ∙ ap (λ (b : Block). b.version) same in
    let says : IsSaid (positions_from (all_touched of.ran) 0 head.order of.ran) meets.position number at.ran =
    said (all_touched of.ran) 0 head.order of.ran meets.position number at.ran stands at.at in
    record {
      block = block;
      spelled = found.1;
      place = meets.position;
      position = says.position;
      at = ap (λ (b : Block). slice_get b.positions meets.position) of.is ∙ says.at;
      number_is = says.number_is;
      call = at.call;
      listed = at.listed;
      later = at.later;
      locks = at.ran.touched;
      executes =
          subst (λ (v : Version). Executes (setting_of v world) at.call cells at.later says.position.receipt at.ran.touched) (sym of_version)
          (subst (λ (c : Cells). Executes (setting_of block.version world) at.call c at.later says.position.receipt at.ran.touched) (sym met)
          (subst (λ (r : Receipt). Executes (setting_of block.version world) at.call at.mid at.later r at.ran.touched) (sym says.receipt_is) at.executes));
      held = says.held;
    }
