-- Bytes that are no UTF-8 name no module, and are told as a bad token.
use Rattle.std.proofs.Common.{ℕ, Bool, List, Result, Ok, Err, IfOk}
use Rattle.std.specs.Str.{IsUtf8}
use Rattle.lexer.specs.declared.LexRefusal.TheVariants as lexical
use Rattle.text_resolve.specs.declared.refusal.AsmRefusal.TheVariants.{Lex}
use Rattle.wblock_line.specs.declared.answer.Answer.{Answer}
use Rattle.wblock_line.specs.declared.answer.Answer.TheVariants.{Done, Refused}
use Rattle.wblock_modules.specs.Assembles.{IsRefusalOf, IsAnswer}

pub bad_token : {E : Type 0} (json : Bool) (text target : List ℕ) (at : ℕ) (answer : Result Answer E) → ¬ IsUtf8 text → IfOk answer (IsRefusalOf (Lex (lexical.BadToken at))) → IfOk answer (IsAnswer json text target)
bad_token json text target at (Ok (Done writes line)) bad is = absurd is
bad_token json text target at (Ok (Refused line why)) bad is = record { names_nothing = λ m n. bad n.spelled.lexes.utf8; refusal = Lex (lexical.BadToken at); why = λ ts l. bad l.utf8; is_line = is }
bad_token json text target at (Err fault) bad is = tt
