-- The numbers of functions have 32 bits, since a module's shortest spelling has a byte for each import.
use Rattle.std.proofs.Common.{◌≡◌, ◌+◌, ◌<◌, ◌≤◌, ◌^◌, true, List, [], ◌∷◌, ◌++◌, length, arith, length-append, nat_le}
use Rattle.std.proofs.lemmas.Bool.{leb-true}
use Rattle.spec_modules.specs.Syntax.{ImportDesc, ImportFunc, ImportTable, ImportMemory, ImportGlobal, Import, Module}
use Rattle.spec_modules.specs.Limits.{module_fits, module_fits-means, first}
use Rattle.spec_modules.specs.Profile.{byte_limit, function_limit}
use Rattle.spec_modules.specs.Shortest.{shortest, import_desc_bytes, import_bytes, name_bytes, run_bytes, vector_bytes, u32_bytes, list_section_bytes}
use Rattle.module_tree.specs.Readers.{func_count, imported_funcs}

desc_size : (d : ImportDesc) → func_count d ≤ length (import_desc_bytes d)
desc_size (ImportFunc t) = omega arith
desc_size (ImportTable l) = omega arith
desc_size (ImportMemory l) = omega arith
desc_size (ImportGlobal g) = omega arith

import_size : (i : Import) → func_count i.desc ≤ length (import_bytes i)
import_size i =
    let parts : length (import_bytes i) ≡ length (name_bytes i.from_module ++ name_bytes i.name) + length (import_desc_bytes i.desc) = length-append (name_bytes i.from_module ++ name_bytes i.name) (import_desc_bytes i.desc) in
    omega (arith, desc_size i.desc, parts)

run_size : (is : List Import) → imported_funcs is ≤ length (run_bytes import_bytes is)
run_size [] = omega arith
run_size (i ∷ is) = omega (arith, import_size i, run_size is, length-append (import_bytes i) (run_bytes import_bytes is))

section_size : (is : List Import) → imported_funcs is ≤ length (list_section_bytes 2 import_bytes is)
section_size [] = omega arith
section_size (i ∷ is) =
    let r = run_size (i ∷ is) in
    let v = length-append (u32_bytes (length (i ∷ is))) (run_bytes import_bytes (i ∷ is)) in
    let s = length-append (u32_bytes (length (vector_bytes import_bytes (i ∷ is)))) (vector_bytes import_bytes (i ∷ is)) in
    omega (arith, r, v, s)

imported_size : (m : Module) → imported_funcs m.imports ≤ length (shortest m)
imported_size m = let s = section_size m.imports in simp length-append (omega (arith, s))

pub few_funcs : (m : Module) → module_fits m ≡ true → nat_le (length (shortest m)) byte_limit ≡ true → imported_funcs m.imports + length m.funcs < 2 ^ 32
few_funcs m fits short =
    let imports = leb-true (length (shortest m)) byte_limit short in
    let funcs = leb-true (length m.funcs) function_limit (first _ _ (module_fits-means m fits).funcs) in
    omega (arith, imported_size m, imports, funcs)
