use Rattle.std.proofs.Common.{◌<◌, ◌∙◌, sym, ap, subst, length, ℕ}
use Rattle.std.specs.List.{All}
use Rattle.columns.proofs.Facts.{written_whole}
use Rattle.key_dealing.proofs.dealing.owners_of.Goals as goal

pub returns-clause-owners : goal.returns-clause-owners
returns-clause-owners c =
    written_whole c.owners_of_keys.new.out c.in_ok-owners.owners.items c.in_ok-owners.owners.len c.in_ok-owners.owners.ok.0 (c.owners_of_keys.auto.out ∙ ap (length {A = ℕ}) c.deref_mut.ensures.value)
    ∙ c.owners_of_keys.ensures.owners

pub returns-clause-below : goal.returns-clause-below
returns-clause-below c = subst (All (λ o. o < c.args.par)) (sym (written_whole c.owners_of_keys.new.out c.in_ok-owners.owners.items c.in_ok-owners.owners.len c.in_ok-owners.owners.ok.0 (c.owners_of_keys.auto.out ∙ ap (length {A = ℕ}) c.deref_mut.ensures.value))) c.owners_of_keys.ensures.below
