-- The limits on a module, by its definition and as they are judged.
use Rattle.std.proofs.Common.{◌≡◌, zero, suc, ◌≤◌, true, List, [], ◌∷◌, length, arith}
use Rattle.std.specs.Prelude.{nat_le, ◌&&◌}
use Rattle.std.specs.List.{All, list_all}
use Rattle.std.proofs.lemmas.Bool.{leb-true, le-leb}
use Rattle.std.proofs.lemmas.List.Elements.{All-head, All-tail}
use Rattle.spec_modules.specs.Syntax as S
use Rattle.spec_modules.specs.Profile.{function_limit, local_limit, byte_limit}
use Rattle.spec_modules.specs.Limits.{both, first, second, is_u32, expression_fits, func_fits, module_fits, module_fits-from, module_fits-means}
use Rattle.spec_modules.specs.Shortest.{shortest}
use Rattle.spec_modules.specs.Spells.{FuncFits, ModuleFits}
use Rattle.text_fields.specs.Parts.{body_fits}
use Rattle.assembler.specs.ModuleParts.{ExpressionsFit}
use Rattle.assembler.specs.PartsView.{AreInRange}

-- ---- what is judged is within the limits

few_locals : (f : S.Func) → func_fits f ≡ true → length f.locals ≤ local_limit
few_locals f e = leb-true (length f.locals) local_limit (first (nat_le (length f.locals) local_limit) (expression_fits f.body) (second (is_u32 f.type_index) (nat_le (length f.locals) local_limit && expression_fits f.body) e))

all_few_locals : (fs : List S.Func) → list_all func_fits fs ≡ true → All (λ (f : S.Func). length f.locals ≤ local_limit) fs
all_few_locals [] e k d l = absurd (omega (arith, l))
all_few_locals (f ∷ fs) e zero d l = few_locals f (first (func_fits f) (list_all func_fits fs) e)
all_few_locals (f ∷ fs) e (suc k) d l = all_few_locals fs (second (func_fits f) (list_all func_fits fs) e) k d (omega (arith, l))

pub is_within : (m : S.Module) → ExpressionsFit m → module_fits m ≡ true → nat_le (length (shortest m)) byte_limit ≡ true → ModuleFits m
is_within m fit judged short =
    let p = module_fits-means m judged in
    let bodies = second (nat_le (length m.funcs) function_limit) (list_all func_fits m.funcs) p.funcs in
    record {
      funcs = leb-true (length m.funcs) function_limit (first (nat_le (length m.funcs) function_limit) (list_all func_fits m.funcs) p.funcs);
      bodies = λ k d l. record { locals = all_few_locals m.funcs bodies k d l; body = fit.bodies k d l };
      globals = fit.globals;
      elements = fit.elements;
      datas = fit.datas;
      bytes = leb-true (length (shortest m)) byte_limit short;
    }

-- ---- what is within the limits is judged so

func_is_judged : (f : S.Func) → body_fits f ≡ true → FuncFits f → func_fits f ≡ true
func_is_judged f e fit =
    both (is_u32 f.type_index) (nat_le (length f.locals) local_limit && expression_fits f.body) (first (is_u32 f.type_index) (expression_fits f.body) e)
    (both (nat_le (length f.locals) local_limit) (expression_fits f.body) (le-leb (length f.locals) local_limit fit.locals) (second (is_u32 f.type_index) (expression_fits f.body) e))

funcs_are_judged : (fs : List S.Func) → list_all body_fits fs ≡ true → All FuncFits fs → list_all func_fits fs ≡ true
funcs_are_judged [] e fit = e
funcs_are_judged (f ∷ fs) e fit =
    both (func_fits f) (list_all func_fits fs) (func_is_judged f (first (body_fits f) (list_all body_fits fs) e) (All-head FuncFits f fs fit))
    (funcs_are_judged fs (second (body_fits f) (list_all body_fits fs) e) (All-tail FuncFits f fs fit))

pub is_judged : (m : S.Module) → AreInRange m → ModuleFits m → module_fits m ≡ true
is_judged m r fit = module_fits-from m (record {
  imports = r.imports;
  funcs = both (nat_le (length m.funcs) function_limit) (list_all func_fits m.funcs) (le-leb (length m.funcs) function_limit fit.funcs) (funcs_are_judged m.funcs r.bodies fit.bodies);
  tables = r.tables;
  memories = r.memories;
  globals = r.globals;
  exports = r.exports;
  start = r.start;
  elements = r.elements;
  datas = r.datas;
})

pub is_short : (m : S.Module) → ModuleFits m → nat_le (length (shortest m)) byte_limit ≡ true
is_short m fit = le-leb (length (shortest m)) byte_limit fit.bytes
