use Rattle.std.proofs.Common.{◌≡◌, ◌*◌, ◌∙◌, arith, ap, refl, sym, subst, length}
use Rattle.std.proofs.lemmas.Bool.{eqb-true}
use Rattle.spec_modules.specs.Profile.{page_size}
use Rattle.memory.proofs.Lists.{length_bytes, all_same, stored, shown}
use Rattle.std.specs.Prelude.{option_copied}
use Rattle.memory.specs.Start.{begins}
use Rattle.memory.proofs.Linear.write.Goals as goal

pub returns-then-end-self-clause-stored : goal.returns-then-end-self-clause-stored
returns-then-end-self-clause-stored g c =
    let l : length c.args.self.now.bytes ≡ page_size * c.self.inside.size = subst (λ m. length m.bytes ≡ page_size * c.self.inside.size) c.self.view_is (length_bytes c.self.inside.pieces.items (begins (option_copied c.self.inside.start)) (page_size * c.self.inside.size)) in
    (refl, omega (arith, l), refl)

pub returns-then-is_err-clause-stored : goal.returns-then-is_err-clause-stored
returns-then-is_err-clause-stored g c =
    let l : length c.args.self.now.bytes ≡ page_size * c.self.inside.size = subst (λ m. length m.bytes ≡ page_size * c.self.inside.size) c.self.view_is (length_bytes c.self.inside.pieces.items (begins (option_copied c.self.inside.start)) (page_size * c.self.inside.size)) in (
      omega (arith, l),
      ap (λ b. record { bytes = b; max = c.self.inside.max }) (all_same c.self.inside.pieces.items c.make_all.new.pieces.items (begins (option_copied c.self.inside.start)) (page_size * c.self.inside.size) c.make_all.ensures.same) ∙ c.self.view_is,
    )

pub returns-then-is_empty-clause-stored : goal.returns-then-is_empty-clause-stored
returns-then-is_empty-clause-stored g c =
    let none : length c.args.bytes.now ≡ 0 = eqb-true _ _ (sym c.is_empty.ensures ∙ c.if-is_empty.true) in
    let l : length c.args.self.now.bytes ≡ page_size * c.self.inside.size = subst (λ m. length m.bytes ≡ page_size * c.self.inside.size) c.self.view_is (length_bytes c.self.inside.pieces.items (begins (option_copied c.self.inside.start)) (page_size * c.self.inside.size)) in (
      omega (arith, l),
      rw (← c.self.view_is)
          (ap (λ b. record { bytes = b; max = c.self.inside.max })
          (stored c.self.inside.pieces.items c.self.inside.pieces.items (begins (option_copied c.self.inside.start)) (page_size * c.self.inside.size) c.args.start c.args.bytes.now (omega arith) ((λ k s. absurd (omega (arith, s, none))), (λ k s. refl)))),
    )

pub returns-clause-stored : goal.returns-clause-stored
returns-clause-stored g c =
    let put = shown c.make_all.new.pieces.items c.put_all.new.pieces.items (begins (option_copied c.self.inside.start)) c.args.start c.args.bytes.now c.put_all.ensures.put in
    let l : length c.args.self.now.bytes ≡ page_size * c.self.inside.size = subst (λ m. length m.bytes ≡ page_size * c.self.inside.size) c.self.view_is (length_bytes c.self.inside.pieces.items (begins (option_copied c.self.inside.start)) (page_size * c.self.inside.size)) in (
      omega (arith, l),
      rw (← c.self.view_is)
          (ap (λ b. record { bytes = b; max = c.self.inside.max })
          (stored c.self.inside.pieces.items c.put_all.new.pieces.items (begins (option_copied c.self.inside.start)) (page_size * c.self.inside.size) c.args.start c.args.bytes.now (omega arith)
          (put.0, (λ k s. put.1 k s ∙ c.make_all.ensures.same k)))),
    )
