-- An order has one serial run, given that a call has one.
use Rattle.std.proofs.Common.{◌≡◌, ℕ, suc, List, [], ◌∷◌, Some, length, refl, sym, ap, subst, ◌∙◌, if◌then◌else◌}
use Rattle.spec_ledger.specs.Cells.{Cells}
use Rattle.spec_ledger.specs.Modes.{touched}
use Rattle.spec_ledger.specs.Book.{after, has_returned}
use Rattle.spec_block.specs.Worlds.{Call, World}
use Rattle.spec_block.proofs.Given.{RunsAreUnique}
use Rattle.spec_execution.specs.Serial.{CallResult}
use Rattle.spec_ledger.specs.declared.Version.{Version}
use Rattle.spec_execution.specs.Levels.{asks_in}
use Rattle.spec_block.specs.Serial.{Executed, Serial, setting_of}

pub executed_once : RunsAreUnique → (version : Version) (world : World) (call : Call) (cells : Cells) (r s : CallResult) (l m : Cells) → Executed version world call cells r l → Executed version world call cells s m → (r ≡ s) × (l ≡ m)
executed_once unique version world call cells r s l m a b =
    let u = unique (setting_of version world) call cells a.trace b.trace r.receipt.outcome s.receipt.outcome r.receipt.used s.receipt.used a.replies b.replies a.run b.run in
    let asks : r.receipt.asks ≡ s.receipt.asks = a.asks ∙ ap asks_in u.0 ∙ sym b.asks in
    let locks : r.touched ≡ s.touched = a.locks_are ∙ (ap touched u.0 ∙ sym b.locks_are) in (
      (λ i. record { receipt = record { outcome = u.1 i; used = u.2 i; asks = asks i }; touched = locks i }),
      a.later_is ∙ ((λ i. if has_returned (u.1 i) then after (u.0 i) cells else cells) ∙ sym b.later_is),
    )

some_is : {A : Type 0} (x y : A) → Some x ≡ Some y → x ≡ y
some_is x y e = cc e

pub serial_once : RunsAreUnique → (version : Version) (world : World) (calls : List Call) (order : List ℕ) (cells : Cells) (rs ss : List CallResult) (l m : Cells) → Serial version world calls order cells rs l → Serial version world calls order cells ss m → (rs ≡ ss) × (l ≡ m)
serial_once unique version world calls [] cells [] [] l m a b = (refl, a ∙ sym b)
serial_once unique version world calls [] cells [] (s ∷ ss) l m a b = absurd b
serial_once unique version world calls [] cells (r ∷ rs) ss l m a b = absurd a
serial_once unique version world calls (n ∷ order) cells [] ss l m a b = absurd a
serial_once unique version world calls (n ∷ order) cells (r ∷ rs) [] l m a b = absurd b
serial_once unique version world calls (n ∷ order) cells (r ∷ rs) (s ∷ ss) l m a b =
    let call : a.0 ≡ b.0 = some_is a.0 b.0 (sym a.2 ∙ b.2) in
    let P : Call → Type 0 = λ c. Executed version world c cells s b.1 in
    let one = executed_once unique version world a.0 cells r s a.1 b.1 a.3 (subst P (sym call) b.3) in
    let Q : Cells → Type 0 = λ c. Serial version world calls order c ss m in
    let rest = serial_once unique version world calls order a.1 rs ss l m a.4 (subst Q (sym one.1) b.4) in
    ((λ i. one.0 i ∷ rest.0 i), rest.1)

pub as_many : (version : Version) (world : World) (calls : List Call) (order : List ℕ) (cells : Cells) (rs : List CallResult) (l : Cells) → Serial version world calls order cells rs l → length rs ≡ length order
as_many version world calls [] cells [] l s = refl
as_many version world calls [] cells (r ∷ rs) l s = absurd s
as_many version world calls (n ∷ order) cells [] l s = absurd s
as_many version world calls (n ∷ order) cells (r ∷ rs) l s = ap suc (as_many version world calls order s.1 rs l s.4)
