-- What each instruction that holds no other one does.
use Rattle.std.proofs.Common.{◌≡◌, ℕ, List, [], ◌∷◌, ◌++◌, refl, sym, ap, ◌∙◌, subst, Some, Result, Ok, Err, slice_get}
use Rattle.std.specs.Prelude.{if◌then◌else◌, ◌==◌, slice_set}
use Rattle.wtypes.specs.declared.ValType.{ValType}
use Rattle.wtypes.specs.declared.ValType.TheVariants.{I32}
use Rattle.wtypes.specs.declared.Value.{Value}
use Rattle.wtypes.specs.declared.TrapCode.{TrapCode}
use Rattle.wtypes.specs.declared.UnOp.{UnOp}
use Rattle.wtypes.specs.declared.BinOp.{BinOp}
use Rattle.wtypes.specs.declared.TestOp.{TestOp}
use Rattle.wtypes.specs.declared.RelOp.{RelOp}
use Rattle.wtypes.specs.declared.CvtOp.{CvtOp}
use Rattle.wtypes.specs.declared.PlainInstr.{PlainInstr}
use Rattle.wtypes.specs.declared.TrapCode.TheVariants as trap
use Rattle.wtypes.specs.declared.PlainInstr.TheVariants.{Unreachable, Nop, Drop, Select, LocalGet, LocalSet, Const, Unary, Binary, Test, Compare, Convert}
use Rattle.spec_modules.specs.Operators.{type_of, bits_of, value_of, word, truth, unary, unary_type, unary_of, binary, binary_type, binary_of, answer_of, test, test_type, test_of, compare, compare_type, compare_of, convert, convert_from, convert_to, convert_of}
use Rattle.spec_execution.specs.Configuration.{Contract, Seq, Val, State, values}
use Rattle.spec_execution.specs.Reduction.{Next, Goes, Traps, with_number, with_value, found, answered, execute_plain}
use Rattle.laws_reduction.specs.Meaning.{at}
use Rattle.laws_reduction.specs.Plain.{Ran, Fell}
use Rattle.laws_reduction.specs.Finding.{append-nil}
use Rattle.laws_reduction.specs.Topmost.{number_is}

pub did_const : (op : PlainInstr) (v : Value) (stack stack' locals : List Value) → op ≡ Const v → stack' ≡ stack ++ v ∷ [] → Ran op stack locals stack' locals
unfolding execute_plain
did_const op v stack stack' locals e after = subst (λ (o : PlainInstr). Ran o stack locals stack' locals) (sym e)
    (record { kept = stack; taken = []; given = v ∷ []; before = sym (append-nil stack); count = refl; after = after; step = λ c b vs rest. refl })

pub did_local_get : (op : PlainInstr) (x : ℕ) (v : Value) (stack stack' locals : List Value) → op ≡ LocalGet x → slice_get locals x ≡ Some v → stack' ≡ stack ++ v ∷ [] → Ran op stack locals stack' locals
unfolding execute_plain
did_local_get op x v stack stack' locals e there after = subst (λ (o : PlainInstr). Ran o stack locals stack' locals) (sym e)
    (record { kept = stack; taken = []; given = v ∷ []; before = sym (append-nil stack); count = refl; after = after; step = λ c b vs rest. ap (λ o. found o (λ v. Goes 1 (at b locals) (values vs (Val v rest)))) there })

pub did_drop : (op : PlainInstr) (v : Value) (stack stack' locals : List Value) → op ≡ Drop → stack ≡ stack' ++ v ∷ [] → Ran op stack locals stack' locals
unfolding execute_plain
did_drop op v stack stack' locals e before = subst (λ (o : PlainInstr). Ran o stack locals stack' locals) (sym e)
    (record { kept = stack'; taken = v ∷ []; given = []; before = before; count = refl; after = sym (append-nil stack'); step = λ c b vs rest. refl })

pub did_nop : (op : PlainInstr) (stack locals : List Value) → op ≡ Nop → Ran op stack locals stack locals
unfolding execute_plain
did_nop op stack locals e = subst (λ (o : PlainInstr). Ran o stack locals stack locals) (sym e)
    (record { kept = stack; taken = []; given = []; before = sym (append-nil stack); count = refl; after = sym (append-nil stack); step = λ c b vs rest. refl })

pub fell_unreachable : (op : PlainInstr) (stack locals : List Value) → op ≡ Unreachable → Fell op stack locals trap.Unreachable locals
unfolding execute_plain
fell_unreachable op stack locals e = subst (λ (o : PlainInstr). Fell o stack locals trap.Unreachable locals) (sym e)
    (record { kept = stack; taken = []; before = sym (append-nil stack); count = refl; same = refl; step = λ c b vs rest. refl })

pub did_local_set : (op : PlainInstr) (x : ℕ) (v old : Value) (stack stack' locals locals' : List Value) → op ≡ LocalSet x → stack ≡ stack' ++ v ∷ [] → slice_get locals x ≡ Some old → locals' ≡ slice_set locals x v → Ran op stack locals stack' locals'
unfolding execute_plain
did_local_set op x v old stack stack' locals locals' e before there set = subst (λ (o : PlainInstr). Ran o stack locals stack' locals') (sym e)
    (record {
      kept = stack';
      taken = v ∷ [];
      given = [];
      before = before;
      count = refl;
      after = sym (append-nil stack');
      step = λ c b vs rest. ap (λ o. found o (λ old. Goes 1 (at b (slice_set locals x v)) (values vs rest))) there ∙ ap (λ ls. Goes 1 (at b ls) (values vs rest)) (sym set);
    })

pub did_select : (kept : List Value) (a b k v : Value) (number : type_of k ≡ I32) (stack stack' locals : List Value) → stack ≡ kept ++ a ∷ b ∷ k ∷ [] → v ≡ (if bits_of k == 0 then b else a) → stack' ≡ kept ++ v ∷ [] → Ran Select stack locals stack' locals
unfolding execute_plain
did_select kept a b k v number stack stack' locals before is after =
    record {
      kept = kept;
      taken = a ∷ b ∷ k ∷ [];
      given = v ∷ [];
      before = before;
      count = refl;
      after = after;
      step = λ c s vs rest.
          number_is I32 k (b ∷ a ∷ vs) (λ k vs. with_value vs (λ b vs. with_value vs (λ a vs. Goes 1 (at s locals) (values vs (Val (if k == 0 then b else a) rest))))) number
          ∙ ap (λ v. Goes 1 (at s locals) (values vs (Val v rest))) (sym is);
    }

pub did_unary : (o : UnOp) (kept : List Value) (a : Value) (first : type_of a ≡ unary_type o) (stack stack' locals : List Value) → stack ≡ kept ++ a ∷ [] → stack' ≡ kept ++ unary_of o a ∷ [] → Ran (Unary o) stack locals stack' locals
unfolding execute_plain
did_unary o kept a first stack stack' locals before after =
    record {
      kept = kept;
      taken = a ∷ [];
      given = unary_of o a ∷ [];
      before = before;
      count = refl;
      after = after;
      step = λ c s vs rest. number_is (unary_type o) a vs (λ x ws. Goes 1 (at s locals) (values ws (Val (value_of (unary_type o) (unary (word (unary_type o)) o x)) rest))) first;
    }

pub did_test : (o : TestOp) (kept : List Value) (a : Value) (first : type_of a ≡ test_type o) (stack stack' locals : List Value) → stack ≡ kept ++ a ∷ [] → stack' ≡ kept ++ test_of o a ∷ [] → Ran (Test o) stack locals stack' locals
unfolding execute_plain
did_test o kept a first stack stack' locals before after =
    record {
      kept = kept;
      taken = a ∷ [];
      given = test_of o a ∷ [];
      before = before;
      count = refl;
      after = after;
      step = λ c s vs rest. number_is (test_type o) a vs (λ x ws. Goes 1 (at s locals) (values ws (Val (truth (test o x)) rest))) first;
    }

pub did_convert : (o : CvtOp) (kept : List Value) (a : Value) (first : type_of a ≡ convert_from o) (stack stack' locals : List Value) → stack ≡ kept ++ a ∷ [] → stack' ≡ kept ++ convert_of o a ∷ [] → Ran (Convert o) stack locals stack' locals
unfolding execute_plain
did_convert o kept a first stack stack' locals before after =
    record {
      kept = kept;
      taken = a ∷ [];
      given = convert_of o a ∷ [];
      before = before;
      count = refl;
      after = after;
      step = λ c s vs rest. number_is (convert_from o) a vs (λ x ws. Goes 1 (at s locals) (values ws (Val (value_of (convert_to o) (convert o x)) rest))) first;
    }

pub did_compare : (o : RelOp) (kept : List Value) (a b : Value) (first : type_of a ≡ compare_type o) (second : type_of b ≡ compare_type o) (stack stack' locals : List Value) → stack ≡ kept ++ a ∷ b ∷ [] → stack' ≡ kept ++ compare_of o a b ∷ [] → Ran (Compare o) stack locals stack' locals
unfolding execute_plain
did_compare o kept a b first second stack stack' locals before after =
    record {
      kept = kept;
      taken = a ∷ b ∷ [];
      given = compare_of o a b ∷ [];
      before = before;
      count = refl;
      after = after;
      step = λ c s vs rest.
          number_is t b (a ∷ vs) (λ y ws. with_number t ws (λ x us. Goes 1 (at s locals) (values us (Val (truth (compare (word t) o x y)) rest)))) second
          ∙ number_is t a vs (λ x us. Goes 1 (at s locals) (values us (Val (truth (compare (word t) o x (bits_of b))) rest))) first;
    }
  where
    t : ValType
    t = compare_type o

module _ (o : BinOp) (kept : List Value) (a b : Value) (first : type_of a ≡ binary_type o) (second : type_of b ≡ binary_type o) where
  abbrev t : ValType
  t = binary_type o

  step_is : (c : Contract) (s : State) (vs : List Value) (rest : Seq) → execute_plain c s 1 (Binary o) (b ∷ a ∷ vs) rest ≡ answered 1 (binary (word (binary_type o)) o (bits_of a) (bits_of b)) (λ x. Goes 1 s (values vs (Val (value_of (binary_type o) x) rest)))
  unfolding execute_plain
  step_is c s vs rest =
      number_is t b (a ∷ vs) (λ y ws. with_number t ws (λ x us. answered 1 (binary (word t) o x y) (λ z. Goes 1 s (values us (Val (value_of t z) rest))))) second
      ∙ number_is t a vs (λ x us. answered 1 (binary (word t) o x (bits_of b)) (λ z. Goes 1 s (values us (Val (value_of t z) rest)))) first

  answer_ok : (r : Result ℕ TrapCode) (v : Value) (s : State) (vs : List Value) (rest : Seq) → answer_of (binary_type o) r ≡ Ok v → answered 1 r (λ x. Goes 1 s (values vs (Val (value_of (binary_type o) x) rest))) ≡ Goes 1 s (values vs (Val v rest))
  answer_ok (Ok x) v s vs rest e = ap (λ v. Goes 1 s (values vs (Val v rest))) (let same : value_of (binary_type o) x ≡ v = cc in same)
  answer_ok (Err t) v s vs rest e = absurd (let no : Err t ≡ Ok v = e in cc)

  answer_err : (r : Result ℕ TrapCode) (t : TrapCode) (go : ℕ → Next) → answer_of (binary_type o) r ≡ Err t → answered 1 r go ≡ Traps 1 t
  answer_err (Ok x) t go e = absurd (let no : Ok (value_of (binary_type o) x) ≡ Err t = e in cc)
  answer_err (Err u) t go e = ap (Traps 1) (let same : u ≡ t = cc in same)

  pub did_binary : (stack stack' locals : List Value) (v : Value) → stack ≡ kept ++ a ∷ b ∷ [] → binary_of o a b ≡ Ok v → stack' ≡ kept ++ v ∷ [] → Ran (Binary o) stack locals stack' locals
  did_binary stack stack' locals v before e after =
      record { kept = kept; taken = a ∷ b ∷ []; given = v ∷ []; before = before; count = refl; after = after; step = λ c s vs rest. step_is c (at s locals) vs rest ∙ answer_ok (binary (word (binary_type o)) o (bits_of a) (bits_of b)) v (at s locals) vs rest e }

  pub fell_binary : (stack locals : List Value) (t : TrapCode) → stack ≡ kept ++ a ∷ b ∷ [] → binary_of o a b ≡ Err t → Fell (Binary o) stack locals t locals
  fell_binary stack locals t before e =
      record { kept = kept; taken = a ∷ b ∷ []; before = before; count = refl; same = refl; step = λ c s vs rest. step_is c (at s locals) vs rest ∙ answer_err (binary (word (binary_type o)) o (bits_of a) (bits_of b)) t _ e }
