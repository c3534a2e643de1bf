-- Rows of texts, computed.
use Rattle.std.specs.Prelude.{◌≡◌, [], ◌∷◌, ◌++◌, pos, negsuc, codes, refl, None, Some, true, false}
use Rattle.std.specs.Fmt.{digits}
use Rattle.wtypes.specs.declared.Value.TheVariants.{I32, I64}
use Rattle.wtypes.specs.declared.TrapCode.TheVariants.{CallDepth}
use Rattle.spec_ledger.specs.declared.Outcome.TheVariants.{Returned, Trapped}
use Rattle.wblock_calls.specs.Numbers.{number_text}
use Rattle.wblock_calls.specs.Texts.{value_text}
use Rattle.wblock_calls.specs.Receipts.{receipt_text, position_text}
use Rattle.wblock_calls.specs.Refusals.{IsCallsLine}
use Rattle.wblock_calls.specs.declared.reader.CallsRefusal.TheVariants.{Line, TooMany}

pub row_i64 : value_text (I64 (pos 7)) ≡ codes "i64:7"
unfolding digits
row_i64 = refl

pub row_i32 : value_text (I32 (negsuc 4)) ≡ codes "i32:-5"
unfolding digits
row_i32 = refl

pub row_unsigned : number_text false 12 ≡ codes "12"
unfolding digits
row_unsigned = refl

pub row_signed : number_text true 12 ≡ codes "12"
unfolding digits
row_signed = refl

pub row_returned : position_text 0 1 (record { outcome = Returned (Some (I64 (pos 10))); used = 7; asks = 0 }) ≡ codes "0 call 1 returned i64:10 fuel 7"
unfolding digits
row_returned = refl

pub row_trapped : receipt_text (record { outcome = Trapped CallDepth; used = 256; asks = 0 }) ≡ codes "trapped 8 fuel 256"
unfolding digits
row_trapped = refl

pub row_asks : receipt_text (record { outcome = Returned None; used = 13; asks = 21 }) ≡ codes "returned fuel 13 asks 21"
unfolding digits
row_asks = refl

pub row_line : IsCallsLine (Line 3) (codes "refused calls 1 3" ++ 10 ∷ [])
unfolding digits
row_line = refl

pub row_many : IsCallsLine TooMany (codes "refused calls 2" ++ 10 ∷ [])
row_many = refl
