-- What reading a module says of its spelling.
use Rattle.std.proofs.Common.{◌≡◌, ℕ, ◌≤◌, true, List, length, Some, None, sym, ◌∙◌, arith}
use Rattle.std.specs.Prelude.{nat_le}
use Rattle.std.specs.List.{list_all}
use Rattle.std.proofs.lemmas.Bool.{leb-true, le-leb}
use Rattle.std.proofs.lemmas.Option.{none-some}
use Rattle.spec_modules.specs.Syntax.{Module}
use Rattle.spec_modules.specs.Profile.{byte_limit}
use Rattle.spec_modules.specs.Limits.{is_byte, module_fits}
use Rattle.spec_modules.specs.Shortest.{shortest}
use Rattle.spec_modules.specs.Spells.{Spells}
use Rattle.laws_modules.specs.ShortestBytes.{all_below}
use Rattle.laws_modules.specs.ReadingModules.{module_at}
use Rattle.laws_modules.specs.OneTree.{module_in, bodies_fit, globals_fit, elements_fit, datas_fit, module_takes, module_again}
use Rattle.laws_modules.specs.Spellings.{spelled_fits, shortest_no_longer}
use Rattle.expr_reader.specs.declared.unread.DecodeFault.{DecodeFault}
use Rattle.expr_reader.specs.declared.unread.DecodeFault.TheVariants as unread
use Rattle.expr_reader.specs.Outcome.{Unless, Fails, refusal_before}
use Rattle.loader.specs.Refusals.{NoModule, IsWithin}

pub spelled_is : (bytes : List ℕ) (m : Module) → list_all is_byte bytes ≡ true → length bytes ≤ byte_limit → module_at bytes ≡ Some m → nat_le (length (shortest m)) byte_limit ≡ true → Spells bytes m
spelled_is bytes m w fits e short =
    let t = module_takes bytes m e in
    let i = t.1 in
    record {
      bytes_fit = fits;
      are_bytes = all_below bytes w;
      grammar = t.0;
      tree_fits = record {
        funcs = i.funcs;
        bodies = bodies_fit m i;
        globals = globals_fit m i;
        elements = elements_fit m i;
        datas = datas_fit m i;
        bytes = leb-true (length (shortest m)) byte_limit short;
      };
    }

-- the numbers of a module that is read are in range
pub numbers_fit : (bytes : List ℕ) (m : Module) → list_all is_byte bytes ≡ true → module_at bytes ≡ Some m → module_fits m ≡ true
numbers_fit bytes m w e = let t = module_takes bytes m e in spelled_fits bytes m w t.0 t.1

-- and its shortest spelling keeps the limit
pub shortest_fits : (bytes : List ℕ) (m : Module) → list_all is_byte bytes ≡ true → length bytes ≤ byte_limit → module_at bytes ≡ Some m → nat_le (length (shortest m)) byte_limit ≡ true
shortest_fits bytes m w fits e =
    let t = module_takes bytes m e in
    let less : length (shortest m) ≤ length bytes = shortest_no_longer bytes m w t.0 in
    le-leb (length (shortest m)) byte_limit (omega (arith, less, fits))

pub no_module : (bytes : List ℕ) → module_at bytes ≡ None → NoModule bytes
no_module bytes e m s = none-some m (sym e ∙ module_again m bytes s.grammar (module_in m s.tree_fits))

-- and what a refusal says
pub told_before : (bytes : List ℕ) (end : ℕ) (e : DecodeFault) → Fails e (module_at bytes) → Unless (NoModule bytes) (refusal_before end e)
told_before bytes end unread.NoMemory fails = tt
told_before bytes end (unread.Malformed left) fails = no_module bytes fails
told_before bytes end (unread.Unsupported left) fails = no_module bytes fails
told_before bytes end (unread.TooLarge limit) fails = no_module bytes fails

pub told_within : (len end : ℕ) (e : DecodeFault) → end ≤ len → IsWithin len (refusal_before end e)
told_within len end unread.NoMemory le = tt
told_within len end (unread.Malformed left) le = omega arith
told_within len end (unread.Unsupported left) le = omega arith
told_within len end (unread.TooLarge limit) le = tt
